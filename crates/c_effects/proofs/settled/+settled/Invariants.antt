use Rattle.std.proofs.Common.{◌+◌, ◌*◌}
use Rattle.c_syntax.specs.declared.expression.Expr.{size-Expr}
use Rattle.c_effects.proofs.settled.+settled.Given as goal

abbrev pub decreases-is_settled : goal.decreases-is_settled
decreases-is_settled l = 2 * size-Expr l.e.now

abbrev pub decreases-is_settled_in : goal.decreases-is_settled_in
decreases-is_settled_in l = 2 * size-Expr l.a.now + 1
