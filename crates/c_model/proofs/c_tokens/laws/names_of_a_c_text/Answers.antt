use Rattle.c_model.proofs.CNameLaws.{names_in_order, names_distinct}
use Rattle.c_model.proofs.c_tokens.laws.names_of_a_c_text.Goals as goal

pub returns-clause-order : goal.returns-clause-order
returns-clause-order c = names_in_order

pub returns-clause-distinct : goal.returns-clause-distinct
returns-clause-distinct c = names_distinct
