use Rattle.grammar_laws.proofs.AssignmentProductions.{placed_line}
use Rattle.grammar_laws.proofs.expressions.placed.Goals as goal

pub returns : goal.returns
returns c = placed_line
