use Rattle.std.proofs.Common.{◌≡◌, drop, map}
use Rattle.c_syntax.specs.Logic.{plain_annot}
use Rattle.mon_syntax.specs.Trees.{plain_stmts}
use Rattle.annot_simulation.specs.Numbered.{AreNumbered}
use Rattle.annot_pieces.specs.Plain.{assertions_by, names_behind_assertions, plain_stored}
use Rattle.c_effects.specs.Expressions.{before}
use Rattle.annot_code.proofs.assertion.assertions.Given as goal

abbrev pub invariant-annots : goal.invariant-annots
invariant-annots l = record {
  code : before (plain_stmts l.to.items) (assertions_by l.names (plain_stored l.stored) (map plain_annot (drop l.annot-index l.annots)))
      ≡ before (plain_stmts l.initial.to.items) (assertions_by l.initial.names (plain_stored l.stored) (map plain_annot l.annots));
  names : names_behind_assertions (map plain_annot (drop l.annot-index l.annots)) (plain_stored l.stored) l.names ≡ names_behind_assertions (map plain_annot l.annots) (plain_stored l.stored) l.initial.names;
  numbered : AreNumbered (map plain_annot (drop l.annot-index l.annots)) → AreNumbered (map plain_annot l.annots);
}
