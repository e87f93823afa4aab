use Rattle.c_model.proofs.WordFiles.{numbers_are_read}
use Rattle.c_model.proofs.words.laws.numbers_are_read.Goals as goal

pub returns-clause-printed : goal.returns-clause-printed
returns-clause-printed c = numbers_are_read
