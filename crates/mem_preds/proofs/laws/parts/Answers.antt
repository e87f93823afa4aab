use Rattle.mem_preds.proofs.Questions.{parts_are_answered, parts_are_typed}
use Rattle.mem_preds.proofs.laws.parts.Goals as goal

pub returns-clause-answered : goal.returns-clause-answered
returns-clause-answered c = parts_are_answered

pub returns-clause-typed : goal.returns-clause-typed
returns-clause-typed c = parts_are_typed
