use Rattle.std.proofs.Common.{◌≡◌, length, map, pos}
use Rattle.c_syntax.specs.Programs.{plain_enumerator}
use Rattle.c_model.specs.UnitTyping.{with_enumerators}
use Rattle.c_scopes.specs.Sights.{plain_sight}
use Rattle.c_typing.specs.NotedFiles.{ValuesKnown}
use Rattle.c_typing.proofs.noted_file.see_enumerators.Given as goal

abbrev pub invariant-turn : goal.invariant-turn
invariant-turn l =
    ValuesKnown (plain_sight l.sight) l.next (map plain_enumerator l.rest)
    × (with_enumerators (plain_sight l.sight) l.next (map plain_enumerator l.rest) ≡ with_enumerators (plain_sight l.initial.sight) (pos 0) (map plain_enumerator l.items))

abbrev pub decreases-turn : goal.decreases-turn
decreases-turn l = length l.rest
