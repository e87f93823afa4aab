use Rattle.annot_simulation.proofs.ContractChecked.{checks_follow_all}
use Rattle.annot_simulation.proofs.Snapshots.{snapshots_keep}
use Rattle.annot_simulation.proofs.laws.contracts.Goals as goal

pub returns : goal.returns
returns c = record { keeps = snapshots_keep; follows = checks_follow_all }
