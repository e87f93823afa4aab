use Rattle.std.proofs.Common.{◌≡◌, ◌++◌, drop, map}
use Rattle.c_syntax.specs.Logic.{plain_annot}
use Rattle.annot_simulation.specs.Plan.{in_annotations}
use Rattle.label_snapshots.specs.Plain.{plain_entries}
use Rattle.label_snapshots.proofs.term.add_annotations.Given as goal

-- with those that are left it comes to all
abbrev pub invariant-loop-annot : goal.invariant-loop-annot
invariant-loop-annot l =
    plain_entries l.to.items ++ in_annotations (map plain_annot (drop l.annot-index l.annots)) ≡ plain_entries l.initial.to.items ++ in_annotations (map plain_annot l.annots)
