use Rattle.c_model.specs.ProgramGrammar.{statement_in, inside_in}
use Rattle.grammar_laws.proofs.StatementProductions.{statement_line, item_line, branch_line, inside_line, behind_line, inside_empty, deepest_line}
use Rattle.grammar_laws.proofs.statements.statements.Goals as goal

pub returns-clause-statement : goal.returns-clause-statement
returns-clause-statement c = statement_line

pub returns-clause-branch : goal.returns-clause-branch
returns-clause-branch c = branch_line

pub returns-clause-inside : goal.returns-clause-inside
returns-clause-inside c = inside_line

pub returns-clause-behind : goal.returns-clause-behind
returns-clause-behind c = behind_line

pub returns-clause-deepest : goal.returns-clause-deepest
returns-clause-deepest c = deepest_line

pub returns-clause-item : goal.returns-clause-item
returns-clause-item c = λ ws n s. item_line ws (statement_in ws n) (inside_in ws n) s (inside_empty ws n)
