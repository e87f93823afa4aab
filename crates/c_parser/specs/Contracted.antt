-- Ours: a flag for each number of a name, which says whether a function of this name has a contract.
use Rattle.std.specs.Prelude.{◌≡◌, ℕ, Bool, false, List, None, Some, slice_get}
use Rattle.c_syntax.specs.Programs.{Function}
use Rattle.c_model.specs.ProgramGrammar.{has_contract}

-- the flag of a number; one behind the last has none
abbrev pub flag_of : List Bool → ℕ → Bool
flag_of flags x = elim (slice_get flags x) [ None ↦ false | Some b ↦ b ]

-- the flags say which names have a contract among these functions
abbrev pub MarksContracts : List Bool → List Function → Type 0
MarksContracts flags fs = (x : ℕ) → flag_of flags x ≡ has_contract x fs
