use Rattle.c_model.specs.DeclarationGrammar.{braces_in}
use Rattle.grammar_laws.proofs.DeclarationProductions.{braced_line, braces_line, deepest_braces_line, member_line, one_line}
use Rattle.grammar_laws.proofs.declarations.braces.Goals as goal

pub returns-clause-braced : goal.returns-clause-braced
returns-clause-braced c = braced_line

pub returns-clause-braces : goal.returns-clause-braces
returns-clause-braces c = braces_line

pub returns-clause-deepest : goal.returns-clause-deepest
returns-clause-deepest c = deepest_braces_line

pub returns-clause-member : goal.returns-clause-member
returns-clause-member c = λ ws n x. member_line ws (braces_in ws n) x

pub returns-clause-one : goal.returns-clause-one
returns-clause-one c = one_line
