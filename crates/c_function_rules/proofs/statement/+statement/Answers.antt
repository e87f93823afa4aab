use Rattle.std.proofs.Common.{◌≡◌, ◌+◌, ◌<◌, ◌≤◌, rules, ap, ◌∙◌, arith, drop, length, slice_set, take, false, [], subst, option_map, Err}
use Rattle.c_syntax.specs.Expressions.{plain_expr}
use Rattle.c_syntax.specs.Statements.{plain_items, plain_stmt, plain_cases}
use Rattle.c_model.specs.Checked.{Good, one_part}
use Rattle.c_model.specs.ExpressionTyping.{inner, decayed_of, typed}
use Rattle.c_model.specs.StatementTyping.{typed_items, behind_first, typed_condition, typed_statement, controlling, typed_cases}
use Rattle.c_scopes.specs.Answers.{Answers}
use Rattle.c_scopes.specs.Sights.{plain_sight}
use Rattle.c_function_rules.specs.Trees.{plain_around, plain_for_first}
use Rattle.c_function_rules.proofs.Blocks.{sight_more}
use Rattle.c_scopes.proofs.InPlace.{all_done, done, left, none_left, unvisited_step, within_step}
use Rattle.c_function_rules.proofs.Statements.{block_done, block_in_place, block_left, block_more, do_in_place, for_left, switch_in_place}
use Rattle.c_function_rules.specs.Cases.{typed_case, typed_cases_by}
use Rattle.c_function_rules.specs.PassedCases.{holds}
use Rattle.c_scopes.proofs.CaseLists.{cases_done}
use Rattle.c_function_rules.proofs.Cases.{case_more, case_refused, cases_start}
use Rattle.c_function_rules.proofs.Bodies.{body_left}
use Rattle.c_function_rules.proofs.statement.+statement.Goals as goal

pub type_block-returns-clause-same : goal.type_block-returns-clause-same
type_block-returns-clause-same t c =
    block_left (plain_sight c.args.sight.now) (plain_sight c.enter-mark.new.sight) (plain_sight c.type_items.new.sight) (plain_sight c.leave.new.sight) c.enter-mark.result.count
    c.enter-mark.result.innermost c.enter-mark.ensures.inner (ap (λ m. m.count) c.enter-mark.ensures.mark) (ap (λ m. m.innermost) c.enter-mark.ensures.mark) c.leave.ensures
    (plain_items c.type_items.new.items.items) c.in_ok-type_items.ensures.behind

pub type_items-loop-i-preserved : goal.type_items-loop-i-preserved
type_items-loop-i-preserved t c =
    let s = plain_sight c.args.sight.now in
    let u = plain_sight c.loop-i.sight in
    let u' = plain_sight c.type_item.new.sight in
    let old = c.args.items.now.items in
    let cur = c.loop-i.items.items in
    let i = c.loop-i.i in
    let x = c.index_mut.result.now in
    let y = c.type_item.new.item in
    let lt : i < length cur = search (rules, arith) in
    let next = done cur i y lt in
    let rest = left old cur i x lt c.loop-i.invariant.unvisited c.index_mut.ensures.value in
    record {
      unvisited = unvisited_step old cur i y c.loop-i.invariant.unvisited;
      within = within_step cur i y lt;
      typed = block_more s u u' (plain_around c.args.around.now) (take i cur) (take (i + 1) (slice_set cur i y)) y c.in_ok-type_item.ensures.behind next (plain_items old) (drop i old) x
          (drop (i + 1) old) c.loop-i.invariant.typed rest c.in_ok-type_item.ensures.typed;
      sight = sight_more s u u' (take i cur) (take (i + 1) (slice_set cur i y)) y c.loop-i.invariant.sight c.in_ok-type_item.ensures.behind next;
    }

pub type_items-returns-clause-typed : goal.type_items-returns-clause-typed
type_items-returns-clause-typed t c =
    let old = c.args.items.now.items in
    let cur = c.loop-i.items.items in
    let i = c.loop-i.i in
    let long : length cur ≡ length old = c.loop-i.invariant.unvisited.0 in
    let past : length old ≤ i = search (rules, arith) in
    block_done (typed_items (plain_sight c.args.sight.now) (plain_around c.args.around.now) (plain_items old)) (plain_sight c.loop-i.sight) (plain_around c.args.around.now) (take i cur) (drop i old) c.loop-i.invariant.typed (none_left old i past)
    ∙ ap (λ zs. Good (plain_items zs)) (all_done cur i (omega (arith, past, long)))

pub type_kind-returns-in-Block-clause-typed : goal.type_kind-returns-in-Block-clause-typed
type_kind-returns-in-Block-clause-typed t c =
    let s = plain_sight c.args.sight.now in
    let r = plain_around c.args.around.now in
    let h : Answers (λ (u : Unit {0}). plain_items c.type_block.new.items.items) (typed_items (inner s) r (plain_items c.in-Block.items.items)) c.type_block.result = search rules in
    let whole = block_in_place s r c.args.place c.args.kind.now c.in-Block.items c.type_block.new.items c.type_block.result c.in-Block.is h in
    search (rules, whole)

pub type_kind-returns-in_ok-type_statement-in-Do-clause-typed : goal.type_kind-returns-in_ok-type_statement-in-Do-clause-typed
type_kind-returns-in_ok-type_statement-in-Do-clause-typed t c =
    let s = plain_sight c.args.sight.now in
    let r = plain_around c.args.around.now in
    let good : typed_statement s (plain_around c.in_loop-inside-in-Do.result) (plain_stmt c.in-Do.a) ≡ Good (plain_stmt c.type_statement-in-Do.new.s) = search rules in
    let h : Answers (λ (u : Unit {0}). plain_expr c.type_condition-in-Do.new.e) (typed_condition (plain_sight c.type_statement-in-Do.new.sight) (plain_expr c.in-Do.e)) c.type_condition-in-Do.result = search rules in
    let whole = do_in_place s r c.args.place c.args.kind.now c.in-Do.a c.type_statement-in-Do.new.s c.in-Do.e c.type_condition-in-Do.new.e (plain_around c.in_loop-inside-in-Do.result)
    (plain_sight c.type_statement-in-Do.new.sight) c.type_condition-in-Do.result
    c.in-Do.is c.in_loop-inside-in-Do.ensures good c.in_ok-type_statement-in-Do.ensures.same h in
    search (rules, whole)

pub type_kind-returns-in_ok-type_statement-in-For-clause-same : goal.type_kind-returns-in_ok-type_statement-in-For-clause-same
type_kind-returns-in_ok-type_statement-in-For-clause-same t c =
    let sight : plain_sight c.type_first.new.sight ≡ behind_first (plain_sight c.enter-mark.new.sight) (plain_for_first c.type_first.new.first) = search rules in
    for_left (plain_sight c.args.sight.now) (plain_sight c.enter-mark.new.sight) (plain_sight c.type_statement-in-For.new.sight) (plain_sight c.leave.new.sight) c.enter-mark.result.count
    c.enter-mark.result.innermost c.enter-mark.ensures.inner (ap (λ m. m.count) c.enter-mark.ensures.mark) (ap (λ m. m.innermost) c.enter-mark.ensures.mark) c.leave.ensures
    c.type_first.new.first (plain_sight c.type_first.new.sight) c.in_ok-type_statement-in-For.ensures.same sight

pub type_cases-loop-i-init : goal.type_cases-loop-i-init
type_cases-loop-i-init t c =
    let start = cases_start (plain_sight c.args.sight.now) (plain_around c.args.around.now) c.args.k (holds c.new-passed.result) c.new-passed.result.has_default (plain_cases c.args.cases.now.items)
    c.new-passed.ensures.values c.new-passed.ensures.default in
    record {
      unvisited = search (rules, arith);
      within = search (rules, arith);
      typed = start;
      same = search rules;
    }

pub type_cases-loop-i-preserved : goal.type_cases-loop-i-preserved
type_cases-loop-i-preserved t c =
    let s = plain_sight c.args.sight.now in
    let r = plain_around c.args.around.now in
    let k = c.args.k in
    let old = c.args.cases.now.items in
    let cur = c.loop-i.cases.items in
    let i = c.loop-i.i in
    let x = c.index_mut.result.now in
    let y = c.type_case.new.case in
    let lt : i < length cur = search (rules, arith) in
    let next = done cur i y lt in
    let rest = left old cur i x lt c.loop-i.invariant.unvisited c.index_mut.ensures.value in
    let good = subst (λ u. typed_case u r k (holds c.loop-i.passed) c.loop-i.passed.has_default x.place (option_map plain_expr x.value) (plain_items x.items.items)
    ≡ Good (option_map plain_expr y.value, plain_items y.items.items)) c.loop-i.invariant.same c.in_ok-type_case.ensures.typed in
    record {
      unvisited = unvisited_step old cur i y c.loop-i.invariant.unvisited;
      within = within_step cur i y lt;
      typed = case_more s r k (typed_cases s r k [] false (plain_cases old)) (holds c.loop-i.passed) (holds c.type_case.new.passed) c.loop-i.passed.has_default c.type_case.new.passed.has_default (take i cur) (take (i + 1) (slice_set cur i y))
          (drop i old) (drop (i + 1) old) x y c.loop-i.invariant.typed rest c.type_case.ensures.place good c.in_ok-type_case.ensures.values c.in_ok-type_case.ensures.default next;
      same = c.in_ok-type_case.ensures.same ∙ c.loop-i.invariant.same;
    }

pub type_cases-returns-clause-typed : goal.type_cases-returns-clause-typed
type_cases-returns-clause-typed t c =
    let s = plain_sight c.args.sight.now in
    let r = plain_around c.args.around.now in
    let old = c.args.cases.now.items in
    let cur = c.loop-i.cases.items in
    let i = c.loop-i.i in
    let long : length cur ≡ length old = c.loop-i.invariant.unvisited.0 in
    let past : length old ≤ i = search (rules, arith) in
    cases_done (typed_cases s r c.args.k [] false (plain_cases old)) (plain_cases (take i cur)) (typed_cases_by s r c.args.k (holds c.loop-i.passed) c.loop-i.passed.has_default (plain_cases (drop i old))) c.loop-i.invariant.typed
    (ap (λ l. typed_cases_by s r c.args.k (holds c.loop-i.passed) c.loop-i.passed.has_default (plain_cases l)) (none_left old i past)) ∙ ap (λ zs. Good (plain_cases zs)) (all_done cur i (omega (arith, past, long)))

pub type_cases-returns-in_err-type_case-clause-typed : goal.type_cases-returns-in_err-type_case-clause-typed
type_cases-returns-in_err-type_case-clause-typed t c =
    let s = plain_sight c.args.sight.now in
    let r = plain_around c.args.around.now in
    let k = c.args.k in
    let old = c.args.cases.now.items in
    let cur = c.loop-i.cases.items in
    let i = c.loop-i.i in
    let x = c.index_mut.result.now in
    let y = c.type_case.new.case in
    let h = c.in_err-type_case.field-0.0 in
    let lt : i < length cur = search (rules, arith) in
    let e : c.from_residual.result ≡ Err h = search rules in
    let rest = left old cur i x lt c.loop-i.invariant.unvisited c.index_mut.ensures.value in
    let bad = subst (λ u. Answers (λ (v : Unit {0}). (option_map plain_expr y.value, plain_items y.items.items))
    (typed_case u r k (holds c.loop-i.passed) c.loop-i.passed.has_default x.place (option_map plain_expr x.value) (plain_items x.items.items)) (Err h))
    c.loop-i.invariant.same c.in_err-type_case.ensures.typed in
    rw e (case_refused s r k (typed_cases s r k [] false (plain_cases old)) (holds c.loop-i.passed) (holds c.loop-i.passed) c.loop-i.passed.has_default c.loop-i.passed.has_default (take i cur) (take i cur) (drop i old) (drop (i + 1) old) x x
    (λ (v : Unit {0}). (option_map plain_expr y.value, plain_items y.items.items)) (λ (v : Unit {0}). plain_cases old) h c.loop-i.invariant.typed rest bad)

pub type_kind-returns-in_ok-k-in-Switch-clause-typed : goal.type_kind-returns-in_ok-k-in-Switch-clause-typed
type_kind-returns-in_ok-k-in-Switch-clause-typed t c =
    let s = plain_sight c.args.sight.now in
    let r = plain_around c.args.around.now in
    let good : one_part (decayed_of (typed s (plain_expr c.in-Switch.e))) controlling ≡ Good (c.in_ok-k-in-Switch.k, plain_expr c.type_controlling.new.e) = search rules in
    let h : Answers (λ (u : Unit {0}). plain_cases c.type_cases.new.cases.items) (typed_cases s (plain_around c.in_switch-inside.result) c.in_ok-k-in-Switch.k [] false (plain_cases c.in-Switch.cases.items)) c.type_cases.result = search rules in
    let whole = switch_in_place s r c.args.place c.args.kind.now c.in-Switch.e c.type_controlling.new.e c.in-Switch.cases c.type_cases.new.cases c.in_ok-k-in-Switch.k (plain_around c.in_switch-inside.result) c.type_cases.result
    c.in-Switch.is good c.in_switch-inside.ensures h in
    search (rules, whole)

pub type_case_items-returns-clause-same : goal.type_case_items-returns-clause-same
type_case_items-returns-clause-same t c =
    body_left (plain_sight c.args.sight.now) (plain_sight c.type_items.new.sight) (plain_sight c.leave.new.sight) c.mark_here-mark.result.count c.mark_here-mark.result.innermost
    (plain_items c.type_items.new.items.items) (ap (λ m. m.count) c.mark_here-mark.ensures) (ap (λ m. m.innermost) c.mark_here-mark.ensures) c.in_ok-type_items.ensures.behind c.leave.ensures
