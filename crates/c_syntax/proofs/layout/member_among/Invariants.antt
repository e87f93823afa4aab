use Rattle.std.proofs.Common.{◌≡◌, length, map}
use Rattle.c_syntax.specs.Programs.{plain_member}
use Rattle.c_syntax.specs.Layouts.{member_among}
use Rattle.c_syntax.proofs.layout.member_among.Given as goal

abbrev pub invariant-turn : goal.invariant-turn
invariant-turn l = member_among l.name (map plain_member l.rest) ≡ member_among l.name (map plain_member l.members)

abbrev pub decreases-turn : goal.decreases-turn
decreases-turn l = length l.rest
