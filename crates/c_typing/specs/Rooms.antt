-- Ours: the room of globals and literals as the code sums it up (C99 5.2.4.1).
-- What is taken, object by object.
use Rattle.std.specs.Prelude.{ℕ, ◌+◌, Option, Some, None, nat_lt, if◌then◌else◌}
use Rattle.c_model.specs.Limits.{globals_bytes}
use Rattle.c_model.specs.Memory.{rounded}

-- what is taken with one more block of a size, where there is the room
abbrev pub room_with : ℕ → ℕ → Option ℕ
room_with taken size = if nat_lt globals_bytes (taken + rounded size) then None else Some (taken + rounded size)
