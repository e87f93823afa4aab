use Rattle.std.proofs.Common.{◌≡◌, length}
use Rattle.c_expr_parser.specs.Reading.{plain_base}
use Rattle.token_reader.specs.Reading.{plain_list}
use Rattle.c_parser.specs.Reading.{plain_parts, other_typedefs}
use Rattle.c_parser.proofs.program.other_typedefs.Given as goal

abbrev pub invariant-turn : goal.invariant-turn
invariant-turn l = (other_typedefs (plain_base l.base) (plain_parts l.parts)).parse (plain_list l.rest) ≡ (other_typedefs (plain_base l.base) (plain_parts l.fn.parts)).parse (plain_list l.fn.tokens)

abbrev pub decreases-turn : goal.decreases-turn
decreases-turn l = length l.rest
