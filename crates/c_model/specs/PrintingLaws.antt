-- Laws of what printf prints (C99 7.19.6.1): bytes come one after another, a format is found by its pointer, and its pieces say all of it.
use Rattle.std.specs.Prelude.{◌≡◌, ℕ, nat_eq, if◌then◌else◌, List, [], ◌∷◌, ◌++◌, Some, slice_get, codes}
use Rattle.c_syntax.specs.declared.types.CInt.{CInt}
use Rattle.c_syntax.specs.declared.types.CInt.TheVariants.{I32, U32, I64, U64}
use Rattle.c_syntax.specs.Programs.{StringLiteral, TranslationUnit}
use Rattle.c_model.specs.State.{State, Normal, print_all}
use Rattle.c_model.specs.Formats.{Piece, Bytes, Number, Character, String, pieces_of}
use Rattle.c_model.specs.Meaning.{tables_of, literal, text_at_pointer}

-- bytes one after another stand behind what was printed before (C99 7.19.3 p11)
abbrev pub BytesArePrinted : Type 0
BytesArePrinted = (bytes : List ℕ) (s : State) → print_all bytes s ≡ Normal tt (record s { output = s.output ++ bytes })

-- a string literal is found by the pointer to its first byte (C99 6.4.5 p5)
abbrev pub LiteralsAreFound : Type 0
LiteralsAreFound = (p : TranslationUnit) (n : ℕ) (l : StringLiteral) → slice_get p.texts n ≡ Some l
    → text_at_pointer (tables_of p) (literal (tables_of p) n) ≡ Some l.bytes

-- a string without its 0 and what follows that (C99 7.1.1 p1)
abbrev pub up_to_zero : List ℕ → List ℕ
up_to_zero [] = []
up_to_zero (b ∷ bs) = if nat_eq b 0 then [] else b ∷ up_to_zero bs

-- text as a format has it, with each `%` twice
abbrev pub doubled : List ℕ → List ℕ
doubled [] = []
doubled (b ∷ bs) = if nat_eq b 37 then 37 ∷ 37 ∷ doubled bs else b ∷ doubled bs

-- the directive that prints a number of a type
abbrev pub number_directive : CInt → List ℕ
number_directive I32 = codes "%d"
number_directive U32 = codes "%u"
number_directive I64 = codes "%ld"
number_directive U64 = codes "%lu"
number_directive _ = []

-- the format of these pieces
abbrev pub spelling : List Piece → List ℕ
spelling [] = []
spelling (Bytes bs ∷ pieces) = doubled bs ++ spelling pieces
spelling (Number k ∷ pieces) = number_directive k ++ spelling pieces
spelling (Character ∷ pieces) = codes "%c" ++ spelling pieces
spelling (String ∷ pieces) = codes "%s" ++ spelling pieces

-- the pieces of a format say all of it, up to its first 0
abbrev pub FormatsAreSpelled : Type 0
FormatsAreSpelled = (format : List ℕ) (pieces : List Piece) → pieces_of format ≡ Some pieces → spelling pieces ≡ up_to_zero format
