use Rattle.grammar_laws.proofs.MonitoredProductions.{statement_line, deepest_line, mark_line}
use Rattle.grammar_laws.proofs.monitored.statements.Goals as goal

pub returns-clause-statement : goal.returns-clause-statement
returns-clause-statement c = statement_line

pub returns-clause-deepest : goal.returns-clause-deepest
returns-clause-deepest c = deepest_line

pub returns-clause-mark : goal.returns-clause-mark
returns-clause-mark c = mark_line
