-- Ours: binders that are left, as the code has them.
use Rattle.std.specs.Prelude.{ℕ, List, Option, option_map}
use Rattle.std.specs.Borrow.{Bor}
use Rattle.c_syntax.specs.declared.place.Place.{Place}

abbrev pub left_of : Option (Bor (List (Place × ℕ))) → Option (List (Place × ℕ))
left_of o = option_map (λ (x : Bor (List (Place × ℕ))). x.now) o
