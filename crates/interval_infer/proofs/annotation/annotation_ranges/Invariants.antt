use Rattle.std.proofs.Common.{◌≤◌, IfErr, length, map, take}
use Rattle.c_syntax.specs.Logic.{plain_annot}
use Rattle.c_model.specs.TermRanges.{ranged_annotations}
use Rattle.c_scopes.specs.Answers.{Answers, IsRefusal}
use Rattle.c_scopes.proofs.InPlace.{Unvisited}
use Rattle.interval_infer.specs.Seen.{plain_result}
use Rattle.interval_infer.proofs.annotation.annotation_ranges.Given as goal

abbrev pub invariant-loop-i : goal.invariant-loop-i
invariant-loop-i l = record {
  unvisited : Unvisited l.annots.items l.initial.annots.items l.i;
  within : l.i ≤ length l.annots.items;
  done : Answers (λ u. map plain_annot (take l.i l.annots.items)) (ranged_annotations (plain_result l.returns) (map plain_annot (take l.i l.initial.annots.items))) l.done;
  sure : IfErr l.done IsRefusal;
}
