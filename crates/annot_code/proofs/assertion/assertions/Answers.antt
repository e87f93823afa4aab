use Rattle.std.proofs.Common.{◌+◌, drop, subst, sym, refl, ap, ◌∙◌, map}
use Rattle.c_syntax.specs.Logic.{plain_annot}
use Rattle.mon_syntax.specs.Trees.{plain_stmts}
use Rattle.annot_simulation.specs.Numbered.{AreNumbered}
use Rattle.annot_pieces.specs.Plain.{assertion_by, assertions_by, names_behind_assertion, names_behind_assertions, plain_stored}
use Rattle.c_effects.proofs.Sequences.{left_at, none_left, all_there, more_behind}
use Rattle.annot_code.proofs.assertion.assertions.Goals as goal

pub returns-clause-code : goal.returns-clause-code
returns-clause-code c =
    all_there (none_left (λ l. assertions_by c.annots.names (plain_stored c.args.stored.now) (map plain_annot l)) c.args.annots.now c.annots.annot-index c.annots-test.false) c.annots.invariant.code

pub returns-clause-names : goal.returns-clause-names
returns-clause-names c =
    sym (none_left (λ l. names_behind_assertions (map plain_annot l) (plain_stored c.args.stored.now) c.annots.names) c.args.annots.now c.annots.annot-index c.annots-test.false) ∙ c.annots.invariant.names

pub returns-clause-numbered : goal.returns-clause-numbered
returns-clause-numbered c =
    c.annots.invariant.numbered (subst AreNumbered (sym (none_left (map plain_annot) c.args.annots.now c.annots.annot-index c.annots-test.false)) tt)

pub annots-preserved : goal.annots-preserved
annots-preserved c =
    let n = c.annots.names in
    let k = plain_stored c.args.stored.now in
    let a = plain_annot c.annot-item.result in
    let rest = map plain_annot (drop (c.annots.annot-index + 1) c.args.annots.now) in
    let left = left_at (map plain_annot) c.args.annots.now c.annots.annot-index _ _ c.annots-test.true c.annot-item.is refl in
    record {
      code = more_behind (plain_stmts c.annots.to.items) (assertion_by n k a) (names_behind_assertion a k n) (λ m. assertions_by m k rest) (ap (assertions_by n k) left) c.in_ok-assertion.ensures.code
          c.in_ok-assertion.ensures.names c.annots.invariant.code;
      names = ap (names_behind_assertions rest k) c.in_ok-assertion.ensures.names ∙ ap (λ l. names_behind_assertions l k n) (sym left) ∙ c.annots.invariant.names;
      numbered = λ rest. c.annots.invariant.numbered (subst AreNumbered (sym left) (c.in_ok-assertion.ensures.numbered, rest));
    }
