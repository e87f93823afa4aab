use Rattle.shadow_segments.proofs.Moved.{put_marks, put_others, put_number}
use Rattle.shadow_segments.proofs.bits.put_marks.Goals as goal

pub returns-clause-number : goal.returns-clause-number
returns-clause-number c = put_number c.args.target c.ones-low.result c.args.to c.args.count c.args.written c.args.pointers c.ones-low.ensures c.requires.inside c.ranges.target.fits c.requires.small.0 c.requires.small.1 c.requires.none

pub returns-clause-here : goal.returns-clause-here
returns-clause-here c i lt = put_marks c.args.target c.ones-low.result c.args.to c.args.count c.args.written c.args.pointers c.ones-low.ensures c.requires.inside c.ranges.target.fits c.requires.small.0 c.requires.small.1 c.requires.none i lt

pub returns-clause-others : goal.returns-clause-others
returns-clause-others c i lt out =
    put_others c.args.target c.ones-low.result c.args.to c.args.count c.args.written c.args.pointers c.ones-low.ensures c.requires.inside c.ranges.target.fits c.requires.small.0 c.requires.small.1 c.requires.none i lt out
