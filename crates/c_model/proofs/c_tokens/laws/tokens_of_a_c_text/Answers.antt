use Rattle.c_model.proofs.CListLaws.{tokens_ascend, strings_joined, tokens_few, end_behind}
use Rattle.c_model.proofs.c_tokens.laws.tokens_of_a_c_text.Goals as goal

pub returns-clause-ascend : goal.returns-clause-ascend
returns-clause-ascend c = tokens_ascend

pub returns-clause-joined : goal.returns-clause-joined
returns-clause-joined c = strings_joined

pub returns-clause-few : goal.returns-clause-few
returns-clause-few c = tokens_few

pub returns-clause-end : goal.returns-clause-end
returns-clause-end c = end_behind
