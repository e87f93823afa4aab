-- Strings (C99 7.1.1 p1): the bytes from a place on, up to the first 0.
use Rattle.std.specs.Prelude.{ℕ, zero, suc, ◌+◌, Bool, true, false, List, [], ◌∷◌, Option, Some, None}
use Rattle.c_model.specs.Memory.{Pointer, Null, Into, Block, Store, block_at, shifted, load_bytes, number_of, ◌>>=◌}

-- a byte before what follows it: a 0 ends the string, and it breaks off where there is no byte
abbrev pub byte_before : Option ℕ → List ℕ × Bool → List ℕ × Bool
byte_before None rest = ([], false)
byte_before (Some zero) rest = ([], true)
byte_before (Some (suc b)) rest = (suc b ∷ rest.0, rest.1)

-- the bytes from here up to the first 0, at most so many, and whether it is there
abbrev pub string_from : (ℕ → Option ℕ) → ℕ → ℕ → List ℕ × Bool
string_from byte zero at = ([], false)
string_from byte (suc n) at = byte_before (byte at) (string_from byte n (at + 1))

-- the byte so far after a pointer, where it holds a number
abbrev pub byte_after : Store → Pointer → ℕ → Option ℕ
byte_after store p i = load_bytes store (shifted p i) 1 >>= number_of

abbrev pub size_in : Option Block → ℕ
size_in None = 0
size_in (Some b) = b.size

-- how many bytes the block of a pointer has
abbrev pub size_around : Store → Pointer → ℕ
size_around store Null = 0
size_around store (Into n i) = size_in (block_at store n)

-- the string at a pointer, which ends inside its block, or breaks off there
abbrev pub string_at : Store → Pointer → List ℕ × Bool
string_at store p = string_from (byte_after store p) (size_around store p) 0
