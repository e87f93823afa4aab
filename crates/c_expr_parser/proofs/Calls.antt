-- The plain form of a call.
use Rattle.std.proofs.Common.{◌≡◌, List, [], ◌∷◌, map, refl, ap, ◌∙◌}
use Rattle.std.specs.Prelude.{Vec}
use Rattle.std.specs.declared.alloc.Global.{Global}
use Rattle.c_syntax.specs.declared.place.Place.{Place}
use Rattle.c_syntax.specs.declared.expression.Use.{Use}
use Rattle.c_syntax.specs.declared.expression.Expr.{Expr}
use Rattle.c_syntax.specs.declared.expression.ExprKind as code
use Rattle.c_syntax.specs.Ctypes.{int_type}
use Rattle.c_syntax.specs.Expressions.{Call, Following, plain_expr, plain_exprs, plain_kind}
use Rattle.c_syntax.proofs.Rows.{call_is}
use Rattle.c_model.specs.ExpressionGrammar.{read_as, expressions}

expressions_are : (all : List Expr) → plain_exprs all ≡ expressions (map plain_expr all)
expressions_are [] = refl
expressions_are (e ∷ rest) = ap (Following (plain_expr e)) (expressions_are rest)

pub call_is_read : (at : Place) (f : Use) (v : Vec Expr Global) → read_as at (plain_kind (code.Call f v)) ≡ read_as at (Call f (expressions (map plain_expr v.items)))
call_is_read at f v = call_is at int_type f v ∙ ap (λ es. read_as at (Call f es)) (expressions_are v.items)
