use Rattle.shadow_segments.proofs.Marks.{unit_within, change_whole}
use Rattle.shadow_segments.proofs.CopiedMarks.{take_view}
use Rattle.shadow_segments.proofs.Shadow.copy_in.Goals as goal

pub set_state-requires : goal.set_state-requires
set_state-requires c = unit_within _ _ c.args.unit c.self.view_is c.requires.inside.1

pub returns : goal.returns
returns c =
    take_view _ _ _ _ _ c.args.unit c.copied.result c.peek-source.result c.peek-target.result c.args.from c.args.to c.args.n c.args.count c.args.unit_from c.self.view_is c.self.view_is
    c.requires.inside.1 c.requires.inside.0 c.peek-source.ensures c.peek-target.ensures c.requires.small.1 c.requires.small.0 c.copied.ensures c.set_state.ensures

pub invariant_of-self : goal.invariant_of-self
invariant_of-self c = change_whole c.self.inside.words c.set_state.new.self _ _ c.self.view_is c.self.invariant (returns c)
