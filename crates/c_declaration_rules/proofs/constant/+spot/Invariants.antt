use Rattle.std.proofs.Common.{◌+◌, ◌*◌}
use Rattle.std.specs.Prelude.{max}
use Rattle.c_syntax.specs.declared.expression.Expr.{size-Expr}
use Rattle.c_declaration_rules.proofs.constant.+spot.Given as goal

abbrev pub decreases-address : goal.decreases-address
decreases-address l = 4 * size-Expr l.e.now

abbrev pub decreases-place : goal.decreases-place
decreases-place l = 4 * size-Expr l.e.now

abbrev pub decreases-element : goal.decreases-element
decreases-element l = 4 * max (size-Expr l.a.now) (size-Expr l.b.now) + 1

abbrev pub decreases-difference : goal.decreases-difference
decreases-difference l = 4 * max (size-Expr l.a.now) (size-Expr l.b.now) + 1

abbrev pub decreases-pointer : goal.decreases-pointer
decreases-pointer l = 4 * size-Expr l.a.now + 1
