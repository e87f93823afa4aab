-- Ours: a choice of code. What it has to tell is where an operator of annotations has a value (ACSL 2.2; C99 6.5.5 p5, 6.5.7 p3).
use Rattle.std.specs.Prelude.{pos}
use Rattle.c_syntax.specs.declared.expression.BinOp.{BinOp}
use Rattle.c_syntax.specs.declared.expression.BinOp.TheVariants as operator
use Rattle.mon_syntax.specs.declared.tree.MonOp.TheVariants.{Ne, Le}
use Rattle.mon_syntax.specs.declared.tree.MonType.{MonType}
use Rattle.mon_syntax.specs.declared.tree.MonType.TheVariants.{I32}
use Rattle.mon_syntax.specs.Trees.{MonExpression, Binary, Constant}

abbrev pub is_nonzero : MonType → MonExpression → MonExpression
is_nonzero t e = Binary Ne t e (Constant t (pos 0))

abbrev pub is_nonnegative : MonType → MonExpression → MonExpression
is_nonnegative t e = Binary Le t (Constant t (pos 0)) e

-- 1 where an operator is defined for the second operand, which is of the type, and 0 elsewhere
abbrev pub guard : MonType → BinOp → MonExpression → MonExpression
guard t operator.Add e = Constant I32 (pos 1)
guard t operator.Sub e = Constant I32 (pos 1)
guard t operator.Mul e = Constant I32 (pos 1)
guard t operator.Div e = is_nonzero t e
guard t operator.Rem e = is_nonzero t e
guard t operator.Shl e = is_nonnegative t e
guard t operator.Shr e = is_nonnegative t e
guard t operator.BitAnd e = Constant I32 (pos 1)
guard t operator.BitOr e = Constant I32 (pos 1)
guard t operator.BitXor e = Constant I32 (pos 1)
-- relations are no operators of terms
guard t operator.Eq e = Constant I32 (pos 0)
guard t operator.Ne e = Constant I32 (pos 0)
guard t operator.Lt e = Constant I32 (pos 0)
guard t operator.Le e = Constant I32 (pos 0)
guard t operator.Gt e = Constant I32 (pos 0)
guard t operator.Ge e = Constant I32 (pos 0)
