use Rattle.std.proofs.Common.{◌≡◌, ◌≤◌, drop, length, map, take}
use Rattle.c_syntax.specs.Ctypes.{plain_type}
use Rattle.c_syntax.specs.Programs.{plain_behavior}
use Rattle.c_model.specs.AnnotationRanges.{ranged_behaviors, seen_result}
use Rattle.c_scopes.proofs.InPlace.{Unvisited}
use Rattle.c_scopes.proofs.Lists.{behind_parts}
use Rattle.interval_infer.proofs.contract.range_behaviors.Given as goal

abbrev pub invariant-loop-i : goal.invariant-loop-i
invariant-loop-i l = record {
  unvisited : Unvisited l.behaviors.items l.initial.behaviors.items l.i;
  within : l.i ≤ length l.behaviors.items;
  ranged : ranged_behaviors (seen_result (plain_type l.ctype)) (map plain_behavior l.initial.behaviors.items)
      ≡ behind_parts (map plain_behavior (take l.i l.behaviors.items)) (ranged_behaviors (seen_result (plain_type l.ctype)) (map plain_behavior (drop l.i l.initial.behaviors.items)));
}
