-- Ours: a part of the text that mon_syntax/specs/Text defines.
-- The head of a function in the text of a program.
use Rattle.std.specs.Prelude.{List, ◌∷◌, ◌++◌, codes}
use Rattle.mon_syntax.specs.Trees.{MonFunction}
use Rattle.mon_syntax.specs.Text.{Piece, Word, Mark, blank, in_parens, parameters_pieces, registers_pieces, result_word}

-- up to the registers, of which each is declared on a line of its own
abbrev pub head_pieces : MonFunction → List Piece
head_pieces f =
    Word (result_word f.result) ∷ blank ∷ Word f.name ∷ (in_parens (parameters_pieces f.parameters) ++
    (blank ∷ Mark (codes "{") ∷ registers_pieces f.registers))
