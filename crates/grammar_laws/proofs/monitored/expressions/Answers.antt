use Rattle.grammar_laws.proofs.MonitoredProductions.{expression_line, least_expression_line, argument_line, call_line}
use Rattle.grammar_laws.proofs.monitored.expressions.Goals as goal

pub returns-clause-expr : goal.returns-clause-expr
returns-clause-expr c = expression_line

pub returns-clause-deepest : goal.returns-clause-deepest
returns-clause-deepest c = least_expression_line

pub returns-clause-argument : goal.returns-clause-argument
returns-clause-argument c = argument_line

pub returns-clause-call : goal.returns-clause-call
returns-clause-call c = call_line
