use Rattle.c_model.proofs.PredicateTrees.{typed_annotations_are_known}
use Rattle.c_model.proofs.TypedContracts.{typed_contracts_are_known}
use Rattle.c_model.proofs.laws.annotations.Goals as goal

pub returns : goal.returns
returns c = record { typed = typed_annotations_are_known; contracts = typed_contracts_are_known }
