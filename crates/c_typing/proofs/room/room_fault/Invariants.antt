use Rattle.std.proofs.Common.{◌≡◌, ◌≤◌, length}
use Rattle.c_syntax.specs.Programs.{plain_program}
use Rattle.c_model.specs.Limits.{globals_bytes}
use Rattle.c_model.specs.ObjectsLeft.{objects_left}
use Rattle.c_model.specs.UnitTyping.{room_fault, room_fault_from}
use Rattle.c_typing.proofs.room.room_fault.Given as goal

abbrev pub invariant-turn : goal.invariant-turn
invariant-turn l =
    (room_fault_from (plain_program l.program).structs l.taken (objects_left l.left) ≡ room_fault (plain_program l.program))
    × (l.taken ≤ globals_bytes)

abbrev pub decreases-turn : goal.decreases-turn
decreases-turn l = length (objects_left l.left)
