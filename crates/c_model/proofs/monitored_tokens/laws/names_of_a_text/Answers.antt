use Rattle.c_model.proofs.NameLaws.{names_in_order, names_distinct, number_points}
use Rattle.c_model.proofs.monitored_tokens.laws.names_of_a_text.Goals as goal

pub returns-clause-order : goal.returns-clause-order
returns-clause-order c = names_in_order

pub returns-clause-distinct : goal.returns-clause-distinct
returns-clause-distinct c = names_distinct

pub returns-clause-numbers : goal.returns-clause-numbers
returns-clause-numbers c = number_points
