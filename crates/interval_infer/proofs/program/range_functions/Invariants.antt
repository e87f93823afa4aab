use Rattle.std.proofs.Common.{◌≤◌, IfErr, length, map, take}
use Rattle.c_syntax.specs.Programs.{plain_func}
use Rattle.c_model.specs.AnnotationRanges.{ranged_functions}
use Rattle.c_scopes.specs.Answers.{Answers, IsRefusal}
use Rattle.c_scopes.proofs.InPlace.{Unvisited}
use Rattle.interval_infer.proofs.program.range_functions.Given as goal

abbrev pub invariant-loop-i : goal.invariant-loop-i
invariant-loop-i l = record {
  unvisited : Unvisited l.funcs.items l.initial.funcs.items l.i;
  within : l.i ≤ length l.funcs.items;
  done : Answers (λ u. map plain_func (take l.i l.funcs.items)) (ranged_functions (map plain_func (take l.i l.initial.funcs.items))) l.done;
  sure : IfErr l.done IsRefusal;
}
