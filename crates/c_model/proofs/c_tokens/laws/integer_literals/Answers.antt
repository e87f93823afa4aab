use Rattle.c_model.proofs.CIntegers.{literal_is}
use Rattle.c_model.proofs.c_tokens.laws.integer_literals.Goals as goal

pub returns : goal.returns
returns c = literal_is
