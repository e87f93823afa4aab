use Rattle.std.proofs.Common.{◌-◌, arith}
use Rattle.shadow_segments.proofs.Tests.{numbers_test}
use Rattle.shadow_segments.proofs.bits.are_numbers.Goals as goal

pub returns : goal.returns
returns c = numbers_test c.args.state c.ones-low.result c.args.from (c.args.to - c.args.from) c.ones-low.ensures (omega (arith, c.requires.small))
