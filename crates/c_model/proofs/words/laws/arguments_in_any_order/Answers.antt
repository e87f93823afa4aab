use Rattle.c_model.proofs.WordOrder.{forms_agree, option_once, order_is_free}
use Rattle.c_model.proofs.words.laws.arguments_in_any_order.Goals as goal

pub returns-clause-order : goal.returns-clause-order
returns-clause-order c = order_is_free

pub returns-clause-forms : goal.returns-clause-forms
returns-clause-forms c = forms_agree

pub returns-clause-once : goal.returns-clause-once
returns-clause-once c = option_once
