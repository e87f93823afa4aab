use Rattle.shadow_segments.specs.Shadow.{NumberByte}
use Rattle.shadow_segments.proofs.Marks.{unit_within, change_view, change_whole}
use Rattle.shadow_segments.proofs.Shadow.set_number_in.Goals as goal

pub set_state-requires : goal.set_state-requires
set_state-requires c = unit_within _ _ c.args.unit c.self.view_is c.requires.inside

pub returns : goal.returns
returns c =
    change_view _ _ _ c.args.unit c.with_numbers.result c.args.from c.args.to c.peek-state.result NumberByte c.self.view_is c.requires.inside c.requires.order c.requires.small c.peek-state.ensures c.with_numbers.ensures c.set_state.ensures

pub invariant_of-self : goal.invariant_of-self
invariant_of-self c = change_whole c.self.inside.words c.set_state.new.self _ _ c.self.view_is c.self.invariant (returns c)
