use Rattle.c_syntax.specs.declared.expression.Expr.{size-Expr}
use Rattle.c_effects.proofs.settled.+is_pure.Given as goal

abbrev pub decreases-is_pure : goal.decreases-is_pure
decreases-is_pure l = size-Expr l.e.now
