use Rattle.grammar_laws.proofs.DeclarationProductions.{initialiser_line, list_line, deepest_list_line}
use Rattle.grammar_laws.proofs.declarations.lists.Goals as goal

pub returns-clause-init : goal.returns-clause-init
returns-clause-init c = initialiser_line

pub returns-clause-list : goal.returns-clause-list
returns-clause-list c = list_line

pub returns-clause-deepest : goal.returns-clause-deepest
returns-clause-deepest c = deepest_list_line
