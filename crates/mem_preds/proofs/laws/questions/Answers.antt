use Rattle.mem_preds.proofs.Questions.{questions_are_answered, questions_are_typed, sizes_are_alignments}
use Rattle.mem_preds.proofs.laws.questions.Goals as goal

pub returns-clause-answered : goal.returns-clause-answered
returns-clause-answered c = questions_are_answered

pub returns-clause-typed : goal.returns-clause-typed
returns-clause-typed c = questions_are_typed

pub returns-clause-sizes : goal.returns-clause-sizes
returns-clause-sizes c = sizes_are_alignments
