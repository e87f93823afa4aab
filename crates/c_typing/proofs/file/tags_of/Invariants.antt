use Rattle.std.proofs.Common.{◌≡◌, ◌++◌, length, map}
use Rattle.c_syntax.specs.Programs.{plain_enum}
use Rattle.c_model.specs.UnitTyping.{tags_of}
use Rattle.c_typing.proofs.file.tags_of.Given as goal

abbrev pub invariant-turn : goal.invariant-turn
invariant-turn l = l.tags.list.items ++ tags_of (map plain_enum l.rest) ≡ tags_of (map plain_enum l.enums)

abbrev pub decreases-turn : goal.decreases-turn
decreases-turn l = length l.rest
