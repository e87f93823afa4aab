use Rattle.std.proofs.Common.{◌≡◌, ◌≤◌, drop, length, map, take}
use Rattle.c_syntax.specs.Logic.{plain_annot}
use Rattle.c_model.specs.PredicateTyping.{typed_annotations}
use Rattle.c_scopes.specs.Sights.{plain_sight}
use Rattle.c_scopes.proofs.InPlace.{Unvisited}
use Rattle.c_scopes.proofs.Lists.{behind_parts}
use Rattle.annot_typing.specs.Sights.{annotation_sight}
use Rattle.annot_typing.proofs.clause.type_clauses.Given as goal

abbrev pub invariant-loop-i : goal.invariant-loop-i
invariant-loop-i l = record {
  unvisited : Unvisited l.annots.items l.initial.annots.items l.i;
  within : l.i ≤ length l.annots.items;
  typed : typed_annotations (annotation_sight (plain_sight l.initial.sight) l.clause) (map plain_annot l.initial.annots.items)
      ≡ behind_parts (map plain_annot (take l.i l.annots.items)) (typed_annotations (annotation_sight (plain_sight l.initial.sight) l.clause) (map plain_annot (drop l.i l.initial.annots.items)));
  same : l.sight ≡ l.initial.sight;
}
