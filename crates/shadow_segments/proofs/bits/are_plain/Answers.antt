use Rattle.std.proofs.Common.{◌-◌}
use Rattle.shadow_segments.proofs.Tests.{plain_test}
use Rattle.shadow_segments.proofs.bits.are_plain.Goals as goal

pub returns : goal.returns
returns c = plain_test c.args.state c.ones-low.result c.args.from (c.args.to - c.args.from) c.ones-low.ensures
