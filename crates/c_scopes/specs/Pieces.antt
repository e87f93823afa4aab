-- Ours: the pieces of a format (C99 7.19.6.1) as the code has them, and as it finds them, from left to right.
use Rattle.std.specs.Prelude.{◌≡◌, ℕ, List, [], ◌∷◌, ◌++◌, Option, Some, None, option_map}
use Rattle.std.specs.Borrow.{Bor}
use Rattle.c_model.specs.Formats as plain
use Rattle.c_model.specs.Formats.{with_byte, pieces_of}
use Rattle.c_scopes.specs.declared.format.Piece.{Piece}
use Rattle.c_scopes.specs.declared.format.Piece.TheVariants as code
use Rattle.c_scopes.specs.declared.format.Specifier.{Specifier}
use Rattle.c_scopes.specs.declared.format.Specifier.TheVariants as specifier

abbrev pub plain_piece : Piece → plain.Piece
plain_piece (code.Bytes text) = plain.Bytes text.items
plain_piece (code.Number k) = plain.Number k
plain_piece code.Character = plain.Character
plain_piece code.String = plain.String

-- a specifier before the pieces of what follows it
abbrev pub with_directive : Specifier → Option (List plain.Piece) → Option (List plain.Piece)
with_directive specifier.Percent o = option_map (with_byte 37) o
with_directive (specifier.Number k) o = option_map (λ ps. plain.Number k ∷ ps) o
with_directive specifier.Character o = option_map (λ ps. plain.Character ∷ ps) o
with_directive specifier.String o = option_map (λ ps. plain.String ∷ ps) o

abbrev pub directed : Option (Specifier × Bor (List ℕ)) → Option (List plain.Piece)
directed None = None
directed (Some d) = with_directive d.0 (pieces_of d.1.now)

-- text before pieces
abbrev pub with_text : List ℕ → List plain.Piece → List plain.Piece
with_text [] ps = ps
with_text (b ∷ bs) ps = with_byte b (with_text bs ps)

-- text as pieces
abbrev pub text_pieces : List ℕ → List plain.Piece
text_pieces [] = []
text_pieces (b ∷ bs) = plain.Bytes (b ∷ bs) ∷ []

-- pieces and the text behind them, before the pieces of what follows
abbrev pub with_front : List plain.Piece → List ℕ → List plain.Piece → List plain.Piece
with_front front text ps = front ++ with_text text ps

-- a specifier is put behind pieces and text
abbrev pub Puts : Specifier → List plain.Piece → List ℕ → List plain.Piece → List ℕ → Type 0
Puts d front text more rest = (o : Option (List plain.Piece)) → option_map (with_front front text) (with_directive d o) ≡ option_map (with_front more rest) o

-- the first part of a format is put behind them, whose pieces these are; it is wrong, or this follows it
abbrev pub PutsPart : Option (List plain.Piece) → List plain.Piece → List ℕ → List plain.Piece → List ℕ → Option (Bor (List ℕ)) → Type 0
PutsPart whole front text more rest None = whole ≡ None
PutsPart whole front text more rest (Some behind) = option_map (with_front front text) whole ≡ option_map (with_front more rest) (pieces_of behind.now)
