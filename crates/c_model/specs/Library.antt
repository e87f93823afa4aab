-- The names of the library (C99 7.17, 5.2.4.2.1, 7.19, 7.20), which no declaration may have.
use Rattle.std.specs.Prelude.{ℕ, ◌-◌, ◌^◌, ℤ, pos, negsuc, Bool, true, false, ◌||◌, List, [], ◌∷◌, Option, Some, None, if◌then◌else◌, codes, bytes_eq}
use Rattle.c_syntax.specs.declared.types.CInt.{CInt}
use Rattle.c_syntax.specs.declared.types.CInt.TheVariants.{I8, U8, I16, U16, I32, U32, I64, U64}
use Rattle.c_model.specs.Integers.{value_bits, is_signed}
use Rattle.c_model.specs.Conversions.{promoted}

-- the least and the greatest value of a type
abbrev pub greatest : CInt → ℤ
greatest k = pos (2 ^ value_bits k - 1)

abbrev pub least : CInt → ℤ
least k = if is_signed k then negsuc (2 ^ value_bits k - 1) else pos 0

-- a constant: its type and its value
abbrev pub Constants : Type 0
Constants = List (List ℕ × (CInt × ℤ))

-- the bounds of a type, in its promoted type (C99 5.2.4.2.1)
abbrev pub bound_of : CInt → ℤ → CInt × ℤ
bound_of k z = (promoted k, z)

abbrev pub constants : Constants
constants =
    (codes "EOF", (I32, negsuc 0)) ∷ (codes "EXIT_SUCCESS", (I32, pos 0)) ∷ (codes "EXIT_FAILURE", (I32, pos 1)) ∷ (codes "CHAR_BIT", (I32, pos 8))
    ∷ (codes "CHAR_MIN", bound_of I8 (least I8)) ∷ (codes "CHAR_MAX", bound_of I8 (greatest I8))
    ∷ (codes "SCHAR_MIN", bound_of I8 (least I8)) ∷ (codes "SCHAR_MAX", bound_of I8 (greatest I8)) ∷ (codes "UCHAR_MAX", bound_of U8 (greatest U8))
    ∷ (codes "SHRT_MIN", bound_of I16 (least I16)) ∷ (codes "SHRT_MAX", bound_of I16 (greatest I16)) ∷ (codes "USHRT_MAX", bound_of U16 (greatest U16))
    ∷ (codes "INT_MIN", bound_of I32 (least I32)) ∷ (codes "INT_MAX", bound_of I32 (greatest I32)) ∷ (codes "UINT_MAX", bound_of U32 (greatest U32))
    ∷ (codes "LONG_MIN", bound_of I64 (least I64)) ∷ (codes "LONG_MAX", bound_of I64 (greatest I64)) ∷ (codes "ULONG_MAX", bound_of U64 (greatest U64))
    ∷ (codes "LLONG_MIN", bound_of I64 (least I64)) ∷ (codes "LLONG_MAX", bound_of I64 (greatest I64)) ∷ (codes "ULLONG_MAX", bound_of U64 (greatest U64))
    ∷ []

abbrev pub constant_in : Constants → List ℕ → Option (CInt × ℤ)
constant_in [] w = None
constant_in (x ∷ xs) w = if bytes_eq x.0 w then Some x.1 else constant_in xs w

-- the type and the value of a constant of the library
unfoldable pub library_constant : List ℕ → Option (CInt × ℤ)
library_constant w = constant_in constants w

-- the other names of the library
abbrev pub other_names : List (List ℕ)
other_names =
    codes "NULL" ∷ codes "size_t" ∷ codes "ptrdiff_t" ∷ codes "putchar" ∷ codes "getchar" ∷ codes "printf" ∷ codes "malloc" ∷ codes "calloc" ∷ codes "free"
    ∷ codes "exit" ∷ []

abbrev pub is_one_of : List (List ℕ) → List ℕ → Bool
is_one_of [] w = false
is_one_of (x ∷ xs) w = bytes_eq x w || is_one_of xs w

abbrev pub is_there : {A : Type 0} → Option A → Bool
is_there None = false
is_there (Some a) = true

-- a name of the library
unfoldable pub is_library_name : List ℕ → Bool
is_library_name w = is_there (library_constant w) || is_one_of other_names w
