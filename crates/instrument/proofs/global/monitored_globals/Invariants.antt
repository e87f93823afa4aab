use Rattle.std.proofs.Common.{◌≡◌, ◌++◌, length, map}
use Rattle.c_syntax.specs.Programs.{plain_program}
use Rattle.c_model.specs.ObjectsLeft.{objects_left}
use Rattle.mon_syntax.specs.Trees.{plain_global}
use Rattle.instrument.specs.Translation.{monitored_from, monitored_globals}
use Rattle.instrument.proofs.global.monitored_globals.Given as goal

abbrev pub invariant-turn : goal.invariant-turn
invariant-turn l =
    map plain_global l.all.items ++ monitored_from (plain_program l.p) l.globals l.literals (objects_left l.left) ≡ monitored_globals (plain_program l.p)

abbrev pub decreases-turn : goal.decreases-turn
decreases-turn l = length (objects_left l.left)
