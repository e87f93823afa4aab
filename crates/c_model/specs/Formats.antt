-- The format of printf (C99 7.19.6.1): text and directives. This profile has seven of these, without flags, widths and precisions.
use Rattle.std.specs.Prelude.{ℕ, nat_eq, if◌then◌else◌, List, [], ◌∷◌, Option, Some, None, option_map}
use Rattle.c_syntax.specs.declared.types.CInt.{CInt}
use Rattle.c_syntax.specs.declared.types.CInt.TheVariants.{I8, I32, U32, I64, U64}
use Rattle.c_syntax.specs.Ctypes.{PlainType, Int, Ptr, int_type}

-- bytes as they stand, a number of a type in decimal, a character, or the bytes of a string
pub data Piece : Type 0 where
  Bytes : List ℕ → Piece
  Number : CInt → Piece
  Character : Piece
  String : Piece

-- one byte more before the pieces
abbrev pub with_byte : ℕ → List Piece → List Piece
with_byte b (Bytes bs ∷ pieces) = Bytes (b ∷ bs) ∷ pieces
with_byte b pieces = Bytes (b ∷ []) ∷ pieces

-- The pieces of a format, which is a string and ends at its first 0 (p2, p3, p8), and none where a directive is wrong (p9). In ASCII 37 is `%`, 99 `c`,
-- 100 `d`, 108 `l`, 115 `s`, and 117 `u`.
abbrev mutual
  pub pieces_of : List ℕ → Option (List Piece)
  pieces_of [] = Some []
  pieces_of (b ∷ rest) = if nat_eq b 0 then Some [] else (if nat_eq b 37 then directive rest else option_map (with_byte b) (pieces_of rest))

  -- behind `%`
  pub directive : List ℕ → Option (List Piece)
  directive [] = None
  directive (b ∷ rest) =
      if nat_eq b 37 then option_map (with_byte 37) (pieces_of rest)
      else (if nat_eq b 100 then option_map (λ ps. Number I32 ∷ ps) (pieces_of rest)
      else (if nat_eq b 117 then option_map (λ ps. Number U32 ∷ ps) (pieces_of rest)
      else (if nat_eq b 99 then option_map (λ ps. Character ∷ ps) (pieces_of rest)
      else (if nat_eq b 115 then option_map (λ ps. String ∷ ps) (pieces_of rest)
      else (if nat_eq b 108 then long_directive rest else None)))))

  -- behind `%l`
  pub long_directive : List ℕ → Option (List Piece)
  long_directive [] = None
  long_directive (b ∷ rest) =
      if nat_eq b 100 then option_map (λ ps. Number I64 ∷ ps) (pieces_of rest)
      else (if nat_eq b 117 then option_map (λ ps. Number U64 ∷ ps) (pieces_of rest) else None)

-- the types of the arguments that they ask for, in order
abbrev pub types_of : List Piece → List PlainType
types_of [] = []
types_of (Bytes bs ∷ pieces) = types_of pieces
types_of (Number k ∷ pieces) = Int k ∷ types_of pieces
types_of (Character ∷ pieces) = int_type ∷ types_of pieces
types_of (String ∷ pieces) = Ptr (Int I8) ∷ types_of pieces
