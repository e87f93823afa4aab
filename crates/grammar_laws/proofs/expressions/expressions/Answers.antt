use Rattle.grammar_laws.proofs.ExpressionProductions.{conditional_line, level_line, least_level_line, cast_line, unary_line}
use Rattle.grammar_laws.proofs.AssignmentProductions.{assign_line, commas_line}
use Rattle.grammar_laws.proofs.expressions.expressions.Goals as goal

pub returns-clause-comma : goal.returns-clause-comma
returns-clause-comma c = commas_line

pub returns-clause-assign : goal.returns-clause-assign
returns-clause-assign c = assign_line

pub returns-clause-cond : goal.returns-clause-cond
returns-clause-cond c = conditional_line

pub returns-clause-level : goal.returns-clause-level
returns-clause-level c = level_line

pub returns-clause-least : goal.returns-clause-least
returns-clause-least c = least_level_line

pub returns-clause-cast : goal.returns-clause-cast
returns-clause-cast c = cast_line

pub returns-clause-unary : goal.returns-clause-unary
returns-clause-unary c = unary_line
