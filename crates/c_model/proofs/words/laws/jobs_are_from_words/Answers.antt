use Rattle.c_model.proofs.WordFiles.{jobs_are_from_words}
use Rattle.c_model.proofs.words.laws.jobs_are_from_words.Goals as goal

pub returns : goal.returns
returns c = jobs_are_from_words
