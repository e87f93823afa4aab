-- The innermost array first.
use Rattle.std.proofs.Common.{◌≡◌, List, [], ◌∷◌, ◌++◌, refl, ap}
use Rattle.c_syntax.specs.Ctypes.{PlainType, Array, plain_length}
use Rattle.c_model.specs.ExpressionGrammar.{arrays_of}
use Rattle.c_expr_parser.specs.declared.declarator.Bracket.{Bracket}
use Rattle.c_expr_parser.specs.Reading.{plain_brackets}

pub arrays_behind : (t : PlainType) (bs : List Bracket) (b : Bracket) → arrays_of t (plain_brackets (bs ++ b ∷ [])) ≡ arrays_of (Array t (plain_length b.length)) (plain_brackets bs)
arrays_behind t [] b = refl
arrays_behind t (c ∷ bs) b = ap (λ u. Array u (plain_length c.length)) (arrays_behind t bs b)
