use Rattle.c_model.proofs.Agreement.{AgreesToFault-same, AgreesToFault-trans, Agrees-trans}
use Rattle.c_model.proofs.laws.agreement.Goals as goal

pub returns-clause-reflexive : goal.returns-clause-reflexive
returns-clause-reflexive c = AgreesToFault-same

pub returns-clause-transitive : goal.returns-clause-transitive
returns-clause-transitive c = AgreesToFault-trans

pub returns-clause-from_source : goal.returns-clause-from_source
returns-clause-from_source c = Agrees-trans
