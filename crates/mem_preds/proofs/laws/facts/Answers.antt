use Rattle.mem_preds.proofs.Questions.{facts_are_told, facts_are_typed}
use Rattle.mem_preds.proofs.laws.facts.Goals as goal

pub returns-clause-told : goal.returns-clause-told
returns-clause-told c = facts_are_told

pub returns-clause-typed : goal.returns-clause-typed
returns-clause-typed c = facts_are_typed
