use Rattle.std.proofs.Common.{◌≡◌, drop, map}
use Rattle.c_syntax.specs.Logic.{plain_annot}
use Rattle.c_model.specs.QuantifierGuards.{first_place}
use Rattle.c_model.specs.UnguardedPrograms.{unguarded_in_annotations}
use Rattle.quantifier_guards.proofs.program.unguarded_in_annotations.Given as goal

abbrev pub invariant-annots : goal.invariant-annots
invariant-annots l = first_place l.found (unguarded_in_annotations (map plain_annot (drop l.annot-index l.annots))) ≡ unguarded_in_annotations (map plain_annot l.annots)
