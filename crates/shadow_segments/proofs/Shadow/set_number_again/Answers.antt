use Rattle.shadow_segments.proofs.Marks.{unit_inside}
use Rattle.shadow_segments.proofs.Shadow.set_number_again.Goals as goal

pub set_number_in-requires-clause-inside : goal.set_number_in-requires-clause-inside
set_number_in-requires-clause-inside c = unit_inside _ _ c.args.unit c.self.view_is c.if-has.ensures

pub returns-then-has-clause-inside : goal.returns-then-has-clause-inside
returns-then-has-clause-inside c = unit_inside _ _ c.args.unit c.self.view_is c.if-has.ensures
