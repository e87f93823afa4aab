use Rattle.c_model.proofs.WordFiles.{exec_takes_words_of_run}
use Rattle.c_model.proofs.words.laws.exec_takes_words_of_run.Goals as goal

pub returns : goal.returns
returns c = exec_takes_words_of_run
