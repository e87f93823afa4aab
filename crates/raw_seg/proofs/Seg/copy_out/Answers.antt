use Rattle.std.proofs.Common.{length, arith}
use Rattle.raw_seg.proofs.Numbers.{copied}
use Rattle.raw_seg.proofs.Seg.copy_out.Goals as goal

pub returns : goal.returns
returns c = copied c.args.self.now c.loop-i.into c.args.from (length c.args.into.now) c.loop-i.auto.into c.requires (λ k lt. c.loop-i.invariant k (omega arith))
