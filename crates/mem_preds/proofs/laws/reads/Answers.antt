use Rattle.mem_preds.proofs.Questions.{reads_are_typed}
use Rattle.mem_preds.proofs.ReadPlaces.{numbers_are_read, pointers_are_read}
use Rattle.mem_preds.proofs.laws.reads.Goals as goal

pub returns-clause-numbers : goal.returns-clause-numbers
returns-clause-numbers c = numbers_are_read

pub returns-clause-pointers : goal.returns-clause-pointers
returns-clause-pointers c = pointers_are_read

pub returns-clause-typed : goal.returns-clause-typed
returns-clause-typed c = reads_are_typed
