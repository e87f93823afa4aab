-- Ours: a choice of code; what it has to do is C99 7.19.6.1.
-- printf as statements: one for each piece of its format, over the values of the other arguments. None of them changes memory or a register.
use Rattle.std.specs.Prelude.{◌≡◌, pos, List, [], ◌∷◌, Option, Some, None, if◌then◌else◌, slice_get}
use Rattle.c_syntax.specs.declared.types.CInt.{CInt}
use Rattle.c_syntax.specs.Expressions.{Expressions}
use Rattle.c_syntax.specs.Programs.{StringLiteral, TranslationUnit}
use Rattle.c_model.specs.Integers.{is_signed}
use Rattle.c_model.specs.Formats.{Piece, Bytes, Number, Character, String, pieces_of}
use Rattle.c_model.specs.TypedTrees.{literal_in}
use Rattle.mon_syntax.specs.declared.tree.MonType.TheVariants.{I32, I64, U64}
use Rattle.mon_syntax.specs.Trees.{MonExpression, Constant, MonStatement, PutChar, PrintText, PrintSigned, PrintUnsigned, PrintString, MonStatements}
use Rattle.mon_syntax.specs.Trees.{NoStatement, Then}
use Rattle.c_effects.specs.Expressions.{in_type, register_type}

-- the first of the values, 0 where there is none, and those behind it
abbrev pub first_of : List MonExpression → MonExpression
first_of [] = Constant I32 (pos 0)
first_of (e ∷ es) = e

abbrev pub behind_first : List MonExpression → List MonExpression
behind_first [] = []
behind_first (e ∷ es) = es

-- a number, in the widest type of its sign
abbrev pub print_number : CInt → MonExpression → MonStatement
print_number k e = if is_signed k then PrintSigned (in_type (register_type k) I64 e) else PrintUnsigned (in_type (register_type k) U64 e)

-- the pieces, of which each but text takes the next value
abbrev pub prints : List Piece → List MonExpression → MonStatements
prints [] args = NoStatement
prints (Bytes bs ∷ pieces) args = Then (PrintText bs) (prints pieces args)
prints (Number k ∷ pieces) args = Then (print_number k (first_of args)) (prints pieces (behind_first args))
prints (Character ∷ pieces) args = Then (PutChar None (first_of args)) (prints pieces (behind_first args))
prints (String ∷ pieces) args = Then (PrintString (first_of args)) (prints pieces (behind_first args))

-- the statement of one piece, and the values that are left
abbrev pub PrintsPiece : Piece → List MonExpression → MonStatement → List MonExpression → Type 0
PrintsPiece piece args a left = (pieces : List Piece) → prints (piece ∷ pieces) args ≡ Then a (prints pieces left)

-- the pieces of the format of a typed call
abbrev pub pieces_or_none : Option (List Piece) → List Piece
pieces_or_none None = []
pieces_or_none (Some pieces) = pieces

abbrev pub literal_pieces : Option StringLiteral → List Piece
literal_pieces None = []
literal_pieces (Some l) = pieces_or_none (pieces_of l.bytes)

abbrev pub format_pieces : TranslationUnit → Expressions → List Piece
format_pieces p es = elim (literal_in es) [ None ↦ [] | Some n ↦ literal_pieces (slice_get p.texts n) ]

-- a call of printf, of whose values the first is the format's address
abbrev pub print_call : TranslationUnit → Expressions → List MonExpression → MonStatements
print_call p es args = prints (format_pieces p es) (behind_first args)
