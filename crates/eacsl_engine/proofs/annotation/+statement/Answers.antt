use Rattle.std.proofs.Common.{◌+◌, ◌∙◌, ap, refl}
use Rattle.c_syntax.specs.Statements.{plain_cases, plain_items}
use Rattle.mon_syntax.proofs.Indices.{left_at, none_left}
use Rattle.eacsl_engine.specs.Annotations.{in_cases, in_items}
use Rattle.eacsl_engine.proofs.Counts.{all_counted, block_counted, one_counted, switch_counted}
use Rattle.eacsl_engine.proofs.annotation.+statement.Goals as goal

pub after_items-turn-preserved : goal.after_items-turn-preserved
after_items-turn-preserved t c =
    one_counted _ _ _ _ _ _ (left_at (λ l. in_items (plain_items l)) c.args.items.now c.turn.item-index _ _ c.turn-test.true c.item-item.is refl) c.in_ok-found.ensures
    c.turn.invariant

pub after_items-returns : goal.after_items-returns
after_items-returns t c = all_counted _ _ _ (none_left (λ l. in_items (plain_items l)) c.args.items.now c.turn.item-index c.turn-test.false) c.turn.invariant

pub after_kind-returns-in-Block : goal.after_kind-returns-in-Block
after_kind-returns-in-Block t c = λ at. block_counted at c.args.kind.now c.in-Block.items c.deref.result.now c.args.count c.after_items.result c.in-Block.is c.deref.ensures.value c.after_items.ensures

pub after_cases-turn-preserved : goal.after_cases-turn-preserved
after_cases-turn-preserved t c =
    one_counted _ _ _ _ _ _ (left_at (λ l. in_cases (plain_cases l)) c.args.cases.now c.turn.case-index _ _ c.turn-test.true c.case-item.is refl)
    (c.in_ok-found.ensures ∙ ap (λ l. c.turn.found + in_items (plain_items l)) c.deref.ensures.value) c.turn.invariant

pub after_cases-returns : goal.after_cases-returns
after_cases-returns t c = all_counted _ _ _ (none_left (λ l. in_cases (plain_cases l)) c.args.cases.now c.turn.case-index c.turn-test.false) c.turn.invariant

pub after_kind-returns-in-Switch : goal.after_kind-returns-in-Switch
after_kind-returns-in-Switch t c = λ at. switch_counted at c.args.kind.now c.in-Switch.field-0 c.in-Switch.cases c.deref-in-Switch.result.now c.args.count c.after_cases.result c.in-Switch.is c.deref-in-Switch.ensures.value c.after_cases.ensures
