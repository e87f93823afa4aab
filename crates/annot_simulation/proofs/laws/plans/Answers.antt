use Rattle.annot_simulation.proofs.Plans.{entries_are_found, plans_ascend}
use Rattle.annot_simulation.proofs.laws.plans.Goals as goal

pub returns : goal.returns
returns c = record { ascend = plans_ascend; found = entries_are_found }
