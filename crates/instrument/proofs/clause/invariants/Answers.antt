use Rattle.std.proofs.Common.{◌+◌, drop, subst, sym, refl, ap, ◌∙◌, map}
use Rattle.c_syntax.specs.Logic.{plain_annot}
use Rattle.mon_syntax.specs.Trees.{plain_stmts}
use Rattle.annot_simulation.specs.Numbered.{AreNumbered}
use Rattle.annot_pieces.specs.Tables.{plain_plan}
use Rattle.c_effects.proofs.Sequences.{left_at, none_left, all_there, more_behind}
use Rattle.instrument.specs.LoopForms.{behind_invariant_by, behind_invariants_by, invariant_by, invariants_by}
use Rattle.instrument.proofs.clause.invariants.Goals as goal

pub returns-clause-code : goal.returns-clause-code
returns-clause-code c =
    all_there (none_left (λ l. invariants_by (plain_plan c.args.plan.now.kept.now) c.annots.names (map plain_annot l)) c.args.annots.now c.annots.annot-index c.annots-test.false) c.annots.invariant.code

pub returns-clause-names : goal.returns-clause-names
returns-clause-names c =
    sym (none_left (λ l. behind_invariants_by (plain_plan c.args.plan.now.kept.now) (map plain_annot l) c.annots.names) c.args.annots.now c.annots.annot-index c.annots-test.false) ∙ c.annots.invariant.names

pub returns-clause-numbered : goal.returns-clause-numbered
returns-clause-numbered c =
    c.annots.invariant.numbered (subst AreNumbered (sym (none_left (map plain_annot) c.args.annots.now c.annots.annot-index c.annots-test.false)) tt)

pub annots-preserved : goal.annots-preserved
annots-preserved c =
    let n = c.annots.names in
    let ks = plain_plan c.args.plan.now.kept.now in
    let a = plain_annot c.annot-item.result in
    let rest = map plain_annot (drop (c.annots.annot-index + 1) c.args.annots.now) in
    let left = left_at (map plain_annot) c.args.annots.now c.annots.annot-index _ _ c.annots-test.true c.annot-item.is refl in
    record {
      code = more_behind (plain_stmts c.annots.to.items) (invariant_by ks n a) (behind_invariant_by ks a n) (λ m. invariants_by ks m rest) (ap (invariants_by ks n) left) c.in_ok-invariant.ensures.code
          c.in_ok-invariant.ensures.names c.annots.invariant.code;
      names = ap (behind_invariants_by ks rest) c.in_ok-invariant.ensures.names ∙ ap (λ l. behind_invariants_by ks l n) (sym left) ∙ c.annots.invariant.names;
      numbered = λ rest. c.annots.invariant.numbered (subst AreNumbered (sym left) (c.in_ok-invariant.ensures.numbered, rest));
    }
