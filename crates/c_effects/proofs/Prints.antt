-- The statements of printf, one piece after another.
use Rattle.std.proofs.Common.{◌≡◌, List, ◌∷◌, ap, sym, ◌∙◌}
use Rattle.c_model.specs.Formats.{Piece}
use Rattle.mon_syntax.specs.Trees.{MonExpression, MonStatement, MonStatements}
use Rattle.c_effects.specs.Expressions.{before, one}
use Rattle.c_effects.specs.Printing.{PrintsPiece, prints}
use Rattle.c_effects.proofs.Sequences.{before_assoc}

pub print_turn : (to more : MonStatements) (a : MonStatement) (piece : Piece) (pieces : List Piece) (args left : List MonExpression) (whole : MonStatements) → more ≡ before to (one a) → PrintsPiece piece args a left
    → before to (prints (piece ∷ pieces) args) ≡ whole → before more (prints pieces left) ≡ whole
print_turn to more a piece pieces args left whole e h w =
    ap (λ x. before x (prints pieces left)) e ∙ before_assoc to (one a) (prints pieces left) ∙ ap (before to) (sym (h pieces)) ∙ w
