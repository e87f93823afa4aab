use Rattle.std.proofs.Common.{◌≡◌}
use Rattle.mon_syntax.specs.Trees.{plain_stmts}
use Rattle.c_effects.specs.Expressions.{before}
use Rattle.c_initialisers.specs.Translation.{bytes_at}
use Rattle.c_initialisers.proofs.text.bytes_in.Given as goal

abbrev pub invariant-bytes : goal.invariant-bytes
invariant-bytes l = before (plain_stmts l.to.items) (bytes_at l.object l.pointer l.offset l.left l.rest) ≡ before (plain_stmts l.initial.to.items) (bytes_at l.object l.pointer l.initial.offset l.initial.left l.initial.rest)

abbrev pub decreases-bytes : goal.decreases-bytes
decreases-bytes l = l.left
