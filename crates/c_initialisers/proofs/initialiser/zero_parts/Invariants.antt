use Rattle.std.proofs.Common.{◌≡◌, length, map}
use Rattle.c_syntax.specs.Programs.{plain_layout}
use Rattle.mon_syntax.specs.Trees.{plain_stmts}
use Rattle.c_effects.specs.Expressions.{before}
use Rattle.c_effects.specs.Effects.{scalars_in, zero_parts, zeros_at}
use Rattle.c_initialisers.specs.Initialisers.{plain_parts}
use Rattle.c_initialisers.proofs.initialiser.zero_parts.Given as goal

abbrev pub invariant-parts : goal.invariant-parts
invariant-parts l =
    before (plain_stmts l.to.items) (zeros_at l.slot.object l.slot.pointer l.row.start l.row.count (scalars_in (map plain_layout l.layouts) l.slot.offset (plain_parts l.left))) ≡
    before (plain_stmts l.initial.to.items) (zero_parts (map plain_layout l.layouts) l.slot.object l.slot.pointer l.slot.offset (plain_parts l.parts))

abbrev pub decreases-parts : goal.decreases-parts
decreases-parts l = length (plain_parts l.left)
