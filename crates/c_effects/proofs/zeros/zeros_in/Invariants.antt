use Rattle.std.proofs.Common.{◌≡◌}
use Rattle.mon_syntax.specs.Trees.{plain_stmts}
use Rattle.c_effects.specs.Expressions.{before}
use Rattle.c_effects.specs.Effects.{zeros_from}
use Rattle.c_effects.proofs.zeros.zeros_in.Given as goal

abbrev pub invariant-stores : goal.invariant-stores
invariant-stores l =
    before (plain_stmts l.to.items) (zeros_from l.object l.pointer l.offset 0 l.left) ≡ before (plain_stmts l.initial.to.items) (zeros_from l.object l.pointer l.initial.offset 0 l.initial.left)

abbrev pub decreases-stores : goal.decreases-stores
decreases-stores l = l.left
