use Rattle.std.proofs.Common.{◌≡◌, ℕ, ◌||◌, length, map, nat_eq}
use Rattle.indexmap.specs.IndexSet.{contains}
use Rattle.c_syntax.specs.Programs.{plain_member}
use Rattle.c_syntax.specs.Layouts.{member_among}
use Rattle.c_model.specs.Library.{is_there}
use Rattle.c_declaration_rules.proofs.open_struct.names_of.Given as goal

abbrev pub invariant-turn : goal.invariant-turn
invariant-turn l = (x : ℕ) → (contains nat_eq l.names x || is_there (member_among x (map plain_member l.rest))) ≡ is_there (member_among x (map plain_member l.members))

abbrev pub decreases-turn : goal.decreases-turn
decreases-turn l = length l.rest
