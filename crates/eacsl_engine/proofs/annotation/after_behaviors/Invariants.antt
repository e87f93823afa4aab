use Rattle.std.proofs.Common.{◌≡◌, ◌+◌, length, map}
use Rattle.std.specs.List.{sum_by}
use Rattle.c_syntax.specs.Programs.{plain_behavior}
use Rattle.eacsl_engine.specs.Annotations.{in_behavior}
use Rattle.eacsl_engine.proofs.annotation.after_behaviors.Given as goal

abbrev pub invariant-turn : goal.invariant-turn
invariant-turn l = l.found + sum_by in_behavior (map plain_behavior l.rest) ≡ l.count + sum_by in_behavior (map plain_behavior l.behaviors)

abbrev pub decreases-turn : goal.decreases-turn
decreases-turn l = length l.rest
