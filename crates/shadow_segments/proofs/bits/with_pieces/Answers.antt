use Rattle.shadow_segments.proofs.Changes.{pieces_marks}
use Rattle.shadow_segments.proofs.bits.with_pieces.Goals as goal

pub returns : goal.returns
returns c = pieces_marks c.args.state c.ones-low.result c.args.from c.args.to c.ones-low.ensures c.requires.order c.requires.small c.ranges.state.fits
