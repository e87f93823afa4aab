-- Ours: a view of the entries of Code.
-- Entries by what comes after them, as they are known while the code is written from its end.
use Rattle.std.specs.Prelude.{ℕ, ◌-◌, List, [], ◌∷◌, length}
use Rattle.mon_syntax.specs.Trees.{MonFunction}
use Rattle.c_lower.specs.declared.code.Entry.{Entry}
use Rattle.c_lower.specs.Code.{entry_at, functions_code}

-- each function begins where so many instructions are left
abbrev pub entries_left : List MonFunction → List Entry
entries_left [] = []
entries_left (f ∷ fs) = entry_at (length (functions_code (f ∷ fs))) f ∷ entries_left fs

-- in code of so many instructions
abbrev pub from_start : ℕ → Entry → Entry
from_start total e = record { start = total - e.start; registers = e.registers }
