use Rattle.std.proofs.Common.{map, take}
use Rattle.mon_syntax.specs.Trees.{plain_global}
use Rattle.c_machine.proofs.Beginnings.{HasBegun}
use Rattle.c_machine.proofs.memory.begin_globals.Given as goal

abbrev pub invariant-loop-global : goal.invariant-loop-global
invariant-loop-global l = HasBegun (map plain_global (take l.global-index l.globals)) l.memory l.starts.items
