use Rattle.std.proofs.Common.{◌≡◌, length, map}
use Rattle.c_syntax.specs.Programs.{plain_member}
use Rattle.c_expr_parser.specs.Reading.{plain_base}
use Rattle.token_reader.specs.Reading.{plain_list}
use Rattle.c_declaration_parser.specs.Reading.{other_members}
use Rattle.c_declaration_parser.proofs.tagged.other_members.Given as goal

abbrev pub invariant-turn : goal.invariant-turn
invariant-turn l = (other_members l.words (plain_base l.base) (map plain_member l.all.items)).parse (plain_list l.rest) ≡ (other_members l.words (plain_base l.base) (map plain_member l.fn.all.items)).parse (plain_list l.fn.tokens)

abbrev pub decreases-turn : goal.decreases-turn
decreases-turn l = length l.rest
