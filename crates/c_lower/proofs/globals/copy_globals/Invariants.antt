use Rattle.std.proofs.Common.{◌≡◌, map, take}
use Rattle.mon_syntax.specs.Trees.{plain_global}
use Rattle.c_lower.proofs.globals.copy_globals.Given as goal

abbrev pub invariant-loop-global : goal.invariant-loop-global
invariant-loop-global l = map plain_global l.copies.items ≡ map plain_global (take l.global-index l.globals)
