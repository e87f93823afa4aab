use Rattle.std.proofs.Common.{◌≡◌, [], length, map}
use Rattle.c_syntax.specs.Programs.{plain_layout}
use Rattle.c_model.specs.UnitTyping.{levels_from}
use Rattle.c_typing.proofs.file.struct_levels.Given as goal

abbrev pub invariant-turn : goal.invariant-turn
invariant-turn l = levels_from l.levels.items (map plain_layout l.rest) ≡ levels_from [] (map plain_layout l.structs)

abbrev pub decreases-turn : goal.decreases-turn
decreases-turn l = length l.rest
