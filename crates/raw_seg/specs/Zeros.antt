-- Ours: how a region keeps its bytes.
-- Bytes of which only the first were ever written.
use Rattle.std.specs.Prelude.{◌≡◌, ℕ, ◌-◌, ◌%◌, ◌⊎◌, List, ◌++◌, length, replicate}

-- These bytes first, and then zeros, up to so many in all.
abbrev pub zeros_to : ℕ → List ℕ → List ℕ
zeros_to len bytes = bytes ++ replicate (len - length bytes) 0

-- So many of `len` bytes are there: whole units of 16 bytes, or all.
abbrev pub IsReach : ℕ → ℕ → Type 0
IsReach len n = (n % 16 ≡ 0) ⊎ (n ≡ len)
