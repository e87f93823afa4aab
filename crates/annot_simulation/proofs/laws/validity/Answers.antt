use Rattle.annot_simulation.proofs.ContractValid.{checks_are_valid, snapshots_are_valid}
use Rattle.annot_simulation.proofs.ValidCode.{code_is_valid, values_are_valid}
use Rattle.annot_simulation.proofs.laws.validity.Goals as goal

pub returns : goal.returns
returns c = record { valid = code_is_valid; snapshots = snapshots_are_valid; checks = checks_are_valid; values = values_are_valid }
