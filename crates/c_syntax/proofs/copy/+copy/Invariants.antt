use Rattle.std.proofs.Common.{◌≡◌, ◌++◌, drop, map}
use Rattle.c_syntax.specs.Expressions.{plain_expr}
use Rattle.c_syntax.proofs.copy.+copy.Given as goal

abbrev pub invariant-copy_all-list : goal.invariant-copy_all-list
invariant-copy_all-list l = map plain_expr l.copies.items ++ map plain_expr (drop l.e-index l.list) ≡ map plain_expr l.list
