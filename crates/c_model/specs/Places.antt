-- Ours: a line ends at byte 10, and a column is a byte.
-- Places in a text: lines and columns from 1, offsets from 0.
use Rattle.std.specs.Prelude.{ℕ, ◌+◌, List, [], ◌∷◌, nat_eq, if◌then◌else◌}
use Rattle.c_syntax.specs.declared.place.Place.{Place}

abbrev pub first_place : Place
first_place = record { line = 1; column = 1; offset = 0 }

-- the place after a byte
abbrev pub next : Place → ℕ → Place
next at b =
    if nat_eq b 10
    then record { line = at.line + 1; column = 1; offset = at.offset + 1 }
    else record { line = at.line; column = at.column + 1; offset = at.offset + 1 }

abbrev pub walk : Place → List ℕ → Place
walk at [] = at
walk at (b ∷ bs) = walk (next at b) bs
