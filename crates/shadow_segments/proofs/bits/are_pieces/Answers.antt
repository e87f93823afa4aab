use Rattle.std.proofs.Common.{◌-◌}
use Rattle.shadow_segments.proofs.Tests.{pieces_test}
use Rattle.shadow_segments.proofs.bits.are_pieces.Goals as goal

pub returns : goal.returns
returns c = pieces_test c.args.state c.ones-low.result c.args.from (c.args.to - c.args.from) c.ones-low.ensures
