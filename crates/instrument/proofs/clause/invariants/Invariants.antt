use Rattle.std.proofs.Common.{◌≡◌, drop, map}
use Rattle.c_syntax.specs.Logic.{plain_annot}
use Rattle.mon_syntax.specs.Trees.{plain_stmts}
use Rattle.c_effects.specs.Expressions.{before}
use Rattle.annot_simulation.specs.Numbered.{AreNumbered}
use Rattle.annot_pieces.specs.Tables.{plain_plan}
use Rattle.instrument.specs.LoopForms.{behind_invariants_by, invariants_by}
use Rattle.instrument.proofs.clause.invariants.Given as goal

abbrev pub invariant-annots : goal.invariant-annots
invariant-annots l = record {
  code : before (plain_stmts l.to.items) (invariants_by (plain_plan l.plan.kept.now) l.names (map plain_annot (drop l.annot-index l.annots)))
      ≡ before (plain_stmts l.initial.to.items) (invariants_by (plain_plan l.plan.kept.now) l.initial.names (map plain_annot l.annots));
  names : behind_invariants_by (plain_plan l.plan.kept.now) (map plain_annot (drop l.annot-index l.annots)) l.names ≡ behind_invariants_by (plain_plan l.plan.kept.now) (map plain_annot l.annots) l.initial.names;
  numbered : AreNumbered (map plain_annot (drop l.annot-index l.annots)) → AreNumbered (map plain_annot l.annots);
}
