-- Ours: what a name is C99 6.4.2.1 says, and its number is ours.
-- The names of a text, each at its number, in order of first use.
use Rattle.std.specs.Prelude.{ℕ, List, [], ◌∷◌, ◌++◌, if◌then◌else◌, bytes_eq}
use Rattle.std.specs.List.{list_any, position_or_len}

-- a new name is the next one
abbrev pub with_name : List (List ℕ) → List ℕ → List (List ℕ)
with_name names w = if list_any (bytes_eq w) names then names else names ++ w ∷ []

abbrev pub name_number : List (List ℕ) → List ℕ → ℕ
name_number names w = position_or_len (bytes_eq w) names
