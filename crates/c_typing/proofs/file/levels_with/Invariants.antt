use Rattle.std.proofs.Common.{◌≡◌, length, map}
use Rattle.c_syntax.specs.Programs.{plain_member}
use Rattle.c_model.specs.UnitTyping.{levels_with}
use Rattle.c_typing.proofs.file.levels_with.Given as goal

abbrev pub invariant-turn : goal.invariant-turn
invariant-turn l = levels_with l.levels l.most (map plain_member l.rest) ≡ levels_with l.levels 0 (map plain_member l.members)

abbrev pub decreases-turn : goal.decreases-turn
decreases-turn l = length l.rest
