use Rattle.std.proofs.Common.{◌≡◌, length}
use Rattle.grammar.specs.Syntax.{among}
use Rattle.c_model.specs.ExpressionGrammar.{kinds_of}
use Rattle.c_expr_parser.proofs.terminals.is_in_table.Given as goal

abbrev pub invariant-turn : goal.invariant-turn
invariant-turn g l = among l.kind (kinds_of l.rest) ≡ among l.kind (kinds_of l.table)

abbrev pub decreases-turn : goal.decreases-turn
decreases-turn g l = length l.rest
