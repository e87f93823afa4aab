use Rattle.annot_simulation.proofs.Outcomes.{code_judges, code_values}
use Rattle.annot_simulation.proofs.Quiet.{takes_no_step}
use Rattle.annot_simulation.proofs.laws.code.Goals as goal

pub returns : goal.returns
returns c = record { judges = code_judges; values = code_values; still = takes_no_step }
