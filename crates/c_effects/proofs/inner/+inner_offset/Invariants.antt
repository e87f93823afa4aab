use Rattle.c_syntax.specs.declared.expression.Expr.{size-Expr}
use Rattle.c_effects.proofs.inner.+inner_offset.Given as goal

abbrev pub decreases-inner_offset : goal.decreases-inner_offset
decreases-inner_offset l = size-Expr l.e.now
