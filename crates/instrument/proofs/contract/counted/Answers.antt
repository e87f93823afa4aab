use Rattle.instrument.proofs.ContractBodies.{none_named}
use Rattle.instrument.proofs.contract.counted.Goals as goal

pub returns-in-empty : goal.returns-in-empty
returns-in-empty c = λ h. none_named c.args.listed.now h c.args.behaviors.now c.in-empty.len_below
