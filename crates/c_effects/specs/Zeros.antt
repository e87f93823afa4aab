-- Zero bytes in a row that aren't stored yet, when more of them follow.
use Rattle.std.specs.Prelude.{ℕ, ◌+◌, Bool, nat_eq, if◌then◌else◌}
use Rattle.mon_syntax.specs.Trees.{MonStatements, NoStatement}
use Rattle.c_effects.specs.declared.slot.Slot.{Slot}
use Rattle.c_effects.specs.declared.zeros.Row.{Row}
use Rattle.c_effects.specs.Effects.{zeros_from}

-- whether the byte at an offset is the next one
abbrev pub goes_on : Row → ℕ → Bool
goes_on row d = nat_eq d (row.start + row.count)

-- the row with so many bytes from an offset on, which begin another where they aren't its next ones
abbrev pub row_with : Row → ℕ → ℕ → Row
row_with row d n = if goes_on row d then record { start = row.start; count = row.count + n } else record { start = d; count = n }

-- what is stored before them: the row, where it doesn't go on
abbrev pub row_stored : Slot → Row → ℕ → MonStatements
row_stored s row d = if goes_on row d then NoStatement else zeros_from s.object s.pointer row.start 0 row.count
