use Rattle.shadow_segments.proofs.Changes.{numbers_marks}
use Rattle.shadow_segments.proofs.bits.with_numbers.Goals as goal

pub returns : goal.returns
returns c = numbers_marks c.args.state c.ones-low.result c.args.from c.args.to c.ones-low.ensures c.requires.order c.requires.small c.ranges.state.fits
