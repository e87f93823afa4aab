use Rattle.std.proofs.Common.{◌≡◌, ◌+◌, ◌<◌, ◌≤◌, rules, ap, ◌∙◌, arith, drop, length, slice_set, take, option_map}
use Rattle.c_syntax.specs.Statements.{plain_items, plain_cases}
use Rattle.c_model.specs.Checked.{Good}
use Rattle.c_model.specs.AnnotationRanges.{ranged_items, ranged_cases}
use Rattle.c_scopes.specs.Answers.{Answers}
use Rattle.c_scopes.proofs.InPlace.{all_done, done, left, none_left, unvisited_step, within_step}
use Rattle.interval_infer.proofs.Blocks.{block_done, block_in_place, block_more, switch_in_place}
use Rattle.c_syntax.specs.Expressions.{plain_expr}
use Rattle.c_scopes.proofs.CaseLists.{cases_done, cases_more}
use Rattle.interval_infer.proofs.statement.+statements.Goals as goal

pub range_items-loop-i-preserved : goal.range_items-loop-i-preserved
range_items-loop-i-preserved t c =
    let old = c.args.items.now.items in
    let cur = c.loop-i.items.items in
    let i = c.loop-i.i in
    let x = c.index_mut.result.now in
    let y = c.range_item.new.item in
    let lt : i < length cur = search (rules, arith) in
    let rest = left old cur i x lt c.loop-i.invariant.unvisited c.index_mut.ensures.value in
    record {
      unvisited = unvisited_step old cur i y c.loop-i.invariant.unvisited;
      within = within_step cur i y lt;
      ranged = block_more (take i cur) (take (i + 1) (slice_set cur i y)) y (done cur i y lt) (ranged_items (plain_items old)) (drop i old) x (drop (i + 1) old) c.loop-i.invariant.ranged rest c.in_ok-range_item.ensures.ranged;
    }

pub range_items-returns-clause-ranged : goal.range_items-returns-clause-ranged
range_items-returns-clause-ranged t c =
    let old = c.args.items.now.items in
    let cur = c.loop-i.items.items in
    let i = c.loop-i.i in
    let long : length cur ≡ length old = c.loop-i.invariant.unvisited.0 in
    let past : length old ≤ i = search (rules, arith) in
    block_done (ranged_items (plain_items old)) (take i cur) (drop i old) c.loop-i.invariant.ranged (none_left old i past) ∙ ap (λ zs. Good (plain_items zs)) (all_done cur i (omega (arith, past, long)))

pub range_kind-returns-in-Block-clause-ranged : goal.range_kind-returns-in-Block-clause-ranged
range_kind-returns-in-Block-clause-ranged t c = λ at.
    let h : Answers (λ (u : Unit {0}). plain_items c.range_items.new.items.items) (ranged_items (plain_items c.in-Block.items.items)) c.range_items.result = search rules in
    let whole = block_in_place at c.args.kind.now c.in-Block.items c.range_items.new.items c.range_items.result c.in-Block.is h in
    search (rules, whole)

pub range_statement-returns-clause-ranged : goal.range_statement-returns-clause-ranged
range_statement-returns-clause-ranged t c =
    let h = c.range_kind.ensures.ranged c.args.s.now.place in
    search (rules, h)

pub range_cases-loop-i-preserved : goal.range_cases-loop-i-preserved
range_cases-loop-i-preserved t c =
    let old = c.args.cases.now.items in
    let cur = c.loop-i.cases.items in
    let i = c.loop-i.i in
    let x = c.index_mut.result.now in
    let y = c.range_case.new.case in
    let lt : i < length cur = search (rules, arith) in
    let rest = left old cur i x lt c.loop-i.invariant.unvisited c.index_mut.ensures.value in
    record {
      unvisited = unvisited_step old cur i y c.loop-i.invariant.unvisited;
      within = within_step cur i y lt;
      ranged = cases_more (ranged_cases (plain_cases old)) (ranged_cases (plain_cases (drop i old))) (take i cur) (take (i + 1) (slice_set cur i y)) y x.place (option_map plain_expr x.value) (ranged_items (plain_items x.items.items))
          (ranged_cases (plain_cases (drop (i + 1) old))) c.loop-i.invariant.ranged (ap (λ l. ranged_cases (plain_cases l)) rest) c.in_ok-range_case.ensures.ranged c.range_case.ensures.place c.range_case.ensures.value (done cur i y lt);
    }

pub range_cases-returns-clause-ranged : goal.range_cases-returns-clause-ranged
range_cases-returns-clause-ranged t c =
    let old = c.args.cases.now.items in
    let cur = c.loop-i.cases.items in
    let i = c.loop-i.i in
    let long : length cur ≡ length old = c.loop-i.invariant.unvisited.0 in
    let past : length old ≤ i = search (rules, arith) in
    cases_done (ranged_cases (plain_cases old)) (plain_cases (take i cur)) (ranged_cases (plain_cases (drop i old))) c.loop-i.invariant.ranged (ap (λ l. ranged_cases (plain_cases l)) (none_left old i past))
    ∙ ap (λ zs. Good (plain_cases zs)) (all_done cur i (omega (arith, past, long)))

-- what is shown once and read by `search`
then : {A B : Type 0} → A → (A → B) → B
then x f = f x

pub range_kind-returns-in-Switch-clause-ranged : goal.range_kind-returns-in-Switch-clause-ranged
range_kind-returns-in-Switch-clause-ranged t c = λ at.
    let h : Answers (λ (u : Unit {0}). plain_cases c.range_cases.new.cases.items) (ranged_cases (plain_cases c.in-Switch.cases.items)) c.range_cases.result = search rules in
    then h (λ h. let whole = switch_in_place at c.args.kind.now c.in-Switch._controlling c.in-Switch.cases c.range_cases.new.cases c.range_cases.result c.in-Switch.is h in search (rules, whole))
