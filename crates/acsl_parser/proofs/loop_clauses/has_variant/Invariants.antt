use Rattle.std.proofs.Common.{◌≡◌, length, map}
use Rattle.c_syntax.specs.Logic.{plain_annot}
use Rattle.c_model.specs.ClauseGrammar.{has_variant}
use Rattle.acsl_parser.proofs.loop_clauses.has_variant.Given as goal

abbrev pub invariant-turn : goal.invariant-turn
invariant-turn l = has_variant (map plain_annot l.rest) ≡ has_variant (map plain_annot l.fn.clauses)

abbrev pub decreases-turn : goal.decreases-turn
decreases-turn l = length l.rest
