use Rattle.std.proofs.Common.{◌+◌}
use Rattle.shadow_segments.proofs.Moved.{kept_taken, loose_taken, field_small, loose_small}
use Rattle.shadow_segments.proofs.bits.taken_marks.Goals as goal

pub returns-then-n-lt8-clause-marks : goal.returns-then-n-lt8-clause-marks
returns-then-n-lt8-clause-marks c = loose_taken c.args.source c.ones-low.result c.args.from c.args.n c.args.count c.ones-low.ensures c.requires.inside c.if-n-lt8.true

pub returns-then-n-lt8-clause-small : goal.returns-then-n-lt8-clause-small
returns-then-n-lt8-clause-small c = (
  loose_small c.args.source c.ones-low.result c.args.from c.args.n c.args.count c.ones-low.ensures c.requires.inside,
  field_small c.args.source c.ones-low.result c.args.from c.args.n c.args.count c.ones-low.ensures c.requires.inside (16 + c.args.from),
)

pub returns-else-n-lt8-clause-marks : goal.returns-else-n-lt8-clause-marks
returns-else-n-lt8-clause-marks c = kept_taken c.args.source c.ones-low.result c.args.from c.args.n c.args.count c.ones-low.ensures c.requires.inside c.if-n-lt8.false

pub returns-else-n-lt8-clause-small : goal.returns-else-n-lt8-clause-small
returns-else-n-lt8-clause-small c = (
  field_small c.args.source c.ones-low.result c.args.from c.args.n c.args.count c.ones-low.ensures c.requires.inside c.args.from,
  field_small c.args.source c.ones-low.result c.args.from c.args.n c.args.count c.ones-low.ensures c.requires.inside (16 + c.args.from),
)
