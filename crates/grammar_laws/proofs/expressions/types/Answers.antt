use Rattle.grammar_laws.proofs.TypeProductions.{base_line, words_line, type_line}
use Rattle.grammar_laws.proofs.expressions.types.Goals as goal

pub returns-clause-base : goal.returns-clause-base
returns-clause-base c = base_line

pub returns-clause-words : goal.returns-clause-words
returns-clause-words c = words_line

pub returns-clause-name : goal.returns-clause-name
returns-clause-name c = type_line
