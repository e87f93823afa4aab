use Rattle.c_expr_parser.proofs.ExactExpressions.{level_form}
use Rattle.c_expr_parser.proofs.Answers.{one, begun, fronts}
use Rattle.c_expr_parser.proofs.read.one_expression.Goals as goal

pub returns-clause-one : goal.returns-clause-one
returns-clause-one c = one

pub returns-clause-begun : goal.returns-clause-begun
returns-clause-begun c = begun

pub returns-clause-fronts : goal.returns-clause-fronts
returns-clause-fronts c = fronts

pub returns-clause-form : goal.returns-clause-form
returns-clause-form c = level_form
