use Rattle.c_syntax.specs.declared.expression.Expr.{size-Expr}
use Rattle.c_effects.proofs.inner.+is_inner.Given as goal

abbrev pub decreases-is_inner : goal.decreases-is_inner
decreases-is_inner l = size-Expr l.e.now
