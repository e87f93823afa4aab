use Rattle.c_model.proofs.AssumedBehaviors.{behaviors_hold_by_assumptions}
use Rattle.c_model.proofs.StepsLeft.{answers_need_no_steps}
use Rattle.c_model.proofs.laws.contracts.Goals as goal

pub returns : goal.returns
returns c = record { assumed = behaviors_hold_by_assumptions; one = answers_need_no_steps }
