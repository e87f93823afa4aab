-- Ours: the room of this profile.
-- The sizes of flat memory.
use Rattle.std.specs.Prelude.{◌≡◌, ℕ, ◌%◌, ◌≤◌}
use Rattle.flat_mem.specs.declared.Sizes.{Sizes}

-- segments of whole units of 16 bytes, 256 MiB at most
abbrev pub IsSize : ℕ → Type 0
IsSize n = (n % 16 ≡ 0) × (n ≤ 268435456)

abbrev pub IsSizes : Sizes → Type 0
IsSizes s = IsSize s.globals × IsSize s.stack × IsSize s.heap
