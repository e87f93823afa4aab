use Rattle.grammar_laws.proofs.ClauseProductions.{annotation_line, clause_line, loop_line, assigns_line, contract_line, behavior_line, cover_line}
use Rattle.grammar_laws.proofs.annotations.annotations.Goals as goal

pub returns-clause-annotation : goal.returns-clause-annotation
returns-clause-annotation c = annotation_line

pub returns-clause-clause : goal.returns-clause-clause
returns-clause-clause c = clause_line

pub returns-clause-loops : goal.returns-clause-loops
returns-clause-loops c = loop_line

pub returns-clause-assigns : goal.returns-clause-assigns
returns-clause-assigns c = assigns_line

pub returns-clause-contract : goal.returns-clause-contract
returns-clause-contract c = contract_line

pub returns-clause-behavior : goal.returns-clause-behavior
returns-clause-behavior c = behavior_line

pub returns-clause-cover : goal.returns-clause-cover
returns-clause-cover c = cover_line
