use Rattle.std.proofs.Common.{◌≡◌, ◌≤◌, length, drop, ◌++◌}
use Rattle.std.specs.Prelude.{map}
use Rattle.mon_syntax.specs.Trees.{plain_expr}
use Rattle.c_lower.specs.Code.{arguments_code}
use Rattle.c_lower.proofs.expressions.emit_arguments.Given as goal

-- the code of the arguments from here on is written
abbrev pub invariant-loop-left : goal.invariant-loop-left
invariant-loop-left l = (l.left ≤ length l.args) × (l.code ≡ arguments_code (map plain_expr (drop l.left l.args)) ++ l.fn.code)

abbrev pub decreases-loop-left : goal.decreases-loop-left
decreases-loop-left l = l.left
