use Rattle.std.proofs.Common.{◌≡◌, length}
use Rattle.c_expr_parser.specs.Levels.{with_types}
use Rattle.c_expr_parser.proofs.vocabulary.with_types.Given as goal

abbrev pub invariant-turn : goal.invariant-turn
invariant-turn l = with_types l.words.items l.rest ≡ with_types l.fn.words.items l.fn.types

abbrev pub decreases-turn : goal.decreases-turn
decreases-turn l = length l.rest
