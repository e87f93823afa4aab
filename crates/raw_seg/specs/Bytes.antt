-- Ours: the order of bytes is that of the profile, little-endian.
-- Numbers and their bytes, the lowest first.
use Rattle.std.specs.Prelude.{ℕ, zero, suc, ◌+◌, ◌*◌, ◌/◌, ◌%◌, List, [], ◌∷◌, ◌++◌, length, take, drop, ◌==◌, ◌||◌, IsTrue}

-- The number that these bytes make, the lowest first.
abbrev pub number_of : List ℕ → ℕ
number_of [] = 0
number_of (byte ∷ bytes) = byte + 256 * number_of bytes

-- The lowest `width` bytes of a number, the lowest first.
abbrev pub bytes_of : ℕ → ℕ → List ℕ
bytes_of zero n = []
bytes_of (suc width) n = (n % 256) ∷ bytes_of width (n / 256)

-- The `width` bytes from a place on.
abbrev pub bytes_at : List ℕ → ℕ → ℕ → List ℕ
bytes_at bytes at width = take width (drop at bytes)

-- The list with other bytes from a place on: those before and after stay.
abbrev pub with_bytes : List ℕ → ℕ → List ℕ → List ℕ
with_bytes bytes at new = take at bytes ++ (new ++ drop (at + length new) bytes)

-- A width that is read and written at once.
abbrev pub IsWidth : ℕ → Type 0
IsWidth width = IsTrue (width == 1 || width == 2 || width == 4 || width == 8 || width == 16)
