use Rattle.grammar_laws.proofs.MonitoredProductions.{text_line, global_line, function_line}
use Rattle.grammar_laws.proofs.monitored.texts.Goals as goal

pub returns-clause-text : goal.returns-clause-text
returns-clause-text c = text_line

pub returns-clause-global : goal.returns-clause-global
returns-clause-global c = global_line

pub returns-clause-function : goal.returns-clause-function
returns-clause-function c = function_line
