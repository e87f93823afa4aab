use Rattle.std.proofs.Common.{◌++◌, ◌∙◌, ap, refl}
use Rattle.c_syntax.specs.Statements.{plain_cases, plain_items}
use Rattle.mon_syntax.proofs.Indices.{left_at, none_left}
use Rattle.annot_simulation.specs.Plan.{in_cases, in_items}
use Rattle.label_snapshots.specs.Plain.{plain_entries}
use Rattle.label_snapshots.proofs.Entries.{all_added, block_added, one_added, switch_added}
use Rattle.label_snapshots.proofs.statement.+entries.Goals as goal

pub add_items-turn-preserved : goal.add_items-turn-preserved
add_items-turn-preserved t c =
    one_added _ _ _ _ _ _ (left_at (λ l. in_items (plain_items l)) c.args.items.now c.turn.item-index _ _ c.turn-test.true c.item-item.is refl) c.in_ok-add_item.ensures
    c.turn.invariant

pub add_items-returns : goal.add_items-returns
add_items-returns t c = all_added _ _ _ (none_left (λ l. in_items (plain_items l)) c.args.items.now c.turn.item-index c.turn-test.false) c.turn.invariant

pub add_kind-returns-in-Block : goal.add_kind-returns-in-Block
add_kind-returns-in-Block t c = λ at.
    block_added at c.args.kind.now c.in-Block.items c.deref.result.now _ _ c.add_items.result c.in-Block.is c.deref.ensures.value c.add_items.ensures

pub add_cases-turn-preserved : goal.add_cases-turn-preserved
add_cases-turn-preserved t c =
    one_added _ _ _ _ _ _ (left_at (λ l. in_cases (plain_cases l)) c.args.cases.now c.turn.case-index _ _ c.turn-test.true c.case-item.is refl)
    (c.in_ok-add_items.ensures ∙ ap (λ l. plain_entries c.turn.to.items ++ in_items (plain_items l)) c.deref.ensures.value) c.turn.invariant

pub add_cases-returns : goal.add_cases-returns
add_cases-returns t c = all_added _ _ _ (none_left (λ l. in_cases (plain_cases l)) c.args.cases.now c.turn.case-index c.turn-test.false) c.turn.invariant

pub add_kind-returns-in-Switch : goal.add_kind-returns-in-Switch
add_kind-returns-in-Switch t c = λ at.
    switch_added at c.args.kind.now c.in-Switch.field-0 c.in-Switch.cases c.deref-in-Switch.result.now _ _ c.add_cases.result c.in-Switch.is c.deref-in-Switch.ensures.value c.add_cases.ensures
