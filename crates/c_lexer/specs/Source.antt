-- The bases are those of C99 6.4.4.1; the bounds of a piece are ours.
-- What the functions over C texts say of bases and pieces.
use Rattle.std.specs.Prelude.{◌≤◌, ℕ}
use Rattle.c_model.specs.declared.c_tokens.Piece.{Piece}
use Rattle.c_model.specs.declared.c_tokens.Piece.TheVariants as piece
use Rattle.c_model.specs.MonitoredTokens.{greatest_literal}
use Rattle.c_lexer.specs.declared.source.digits.Base.{Base}
use Rattle.c_lexer.specs.declared.source.digits.Base.TheVariants.{Octal, Decimal, Hexadecimal}

abbrev pub base_of : Base → ℕ
base_of Octal = 8
base_of Decimal = 10
base_of Hexadecimal = 16

-- a number of a piece is small enough for a token
abbrev pub FitsPiece : Piece → Type 0
FitsPiece piece.Blank = Unit {0}
FitsPiece (piece.Open m) = Unit {0}
FitsPiece piece.Close = Unit {0}
FitsPiece piece.Word = Unit {0}
FitsPiece (piece.Number v t) = v ≤ greatest_literal
FitsPiece (piece.Letter b) = Unit {0}
FitsPiece piece.Chars = Unit {0}
FitsPiece (piece.Mark m) = Unit {0}
