use Rattle.std.proofs.Common.{◌-◌, arith}
use Rattle.shadow_segments.proofs.WordBits.{one_below, shifted_ones}
use Rattle.shadow_segments.proofs.bits.ones.Goals as goal

pub overflow_sub-result : goal.overflow_sub-result
overflow_sub-result c = one_below (c.args.to - c.args.from) (omega (arith, c.requires.small))

pub returns : goal.returns
returns c = shifted_ones c.args.from c.args.to c.requires.order c.requires.small
