use Rattle.quantifier_loops.proofs.Trying.{upward_tries}
use Rattle.quantifier_loops.proofs.Valid.{upward_is_valid}
use Rattle.quantifier_loops.proofs.laws.upward.Goals as goal

pub returns : goal.returns
returns c = record { tries = upward_tries; valid = upward_is_valid }
