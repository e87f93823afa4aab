use Rattle.std.proofs.Common.{◌≡◌, drop, map}
use Rattle.c_syntax.specs.Logic.{plain_annot}
use Rattle.c_model.specs.Predicates.{variant}
use Rattle.instrument.proofs.clause.variant_of.Given as goal

-- there is none among those that were seen
abbrev pub invariant-annots : goal.invariant-annots
invariant-annots l = variant (map plain_annot (drop l.annot-index l.annots)) ≡ variant (map plain_annot l.annots)
