use Rattle.std.proofs.Common.{◌≡◌, ◌+◌, ◌<◌, ◌≤◌, [], ◌∷◌, ◌++◌, Err, rules, sym, ap, ◌∙◌, arith, drop, length, map, slice_set, take, subst, option_map}
use Rattle.c_syntax.specs.Expressions.{plain_expr}
use Rattle.c_syntax.specs.Logic.{plain_annot}
use Rattle.c_syntax.specs.Statements.{plain_items, plain_cases, plain_else_part, plain_stmt}
use Rattle.c_model.specs.Checked.{Good}
use Rattle.c_model.specs.StatementTyping.{behind_first}
use Rattle.c_model.specs.AnnotationTyping.{noted_items, noted_cases}
use Rattle.c_scopes.specs.KnownLabels.{marks_of}
use Rattle.c_scopes.specs.Sights.{plain_sight}
use Rattle.c_scopes.proofs.CaseLists.{cases_done}
use Rattle.c_scopes.proofs.InPlace.{all_done, done, left, none_left, unvisited_step, within_step}
use Rattle.c_function_rules.specs.Trees.{plain_for_first}
use Rattle.c_function_rules.proofs.Blocks.{sight_more}
use Rattle.c_function_rules.proofs.Bodies.{body_left}
use Rattle.c_function_rules.proofs.Statements.{block_left, for_left}
use Rattle.c_typing.specs.NotedLabels.{IsInBody, marks_in_case, marks_in_items, here, seen_in_body}
use Rattle.c_typing.proofs.KnownLabels.{begins_more, in_body_after, in_body_case, in_body_for, in_body_inside, in_body_label, labels_left, labels_more, longer_more, seen_after, seen_behind_case}
use Rattle.c_typing.proofs.NotedStatements.{block_done, block_in_body, block_more, case_more, case_refused, for_in_place, for_noted, for_refused, if_in_place, if_noted, label_noted, switch_noted, while_in_place}
use Rattle.c_typing.proofs.noted.+noted.Goals as goal

pub note_block-note_items-requires : goal.note_block-note_items-requires
note_block-note_items-requires t c =
    let body = in_body_inside (plain_sight c.args.sight.now) (plain_sight c.enter-mark.new.sight) c.args.begin (marks_of c.args.labels.now) c.enter-mark.ensures.inner c.requires in
    search (rules, body)

pub note_block-returns-clause-same : goal.note_block-returns-clause-same
note_block-returns-clause-same t c =
    block_left (plain_sight c.args.sight.now) (plain_sight c.enter-mark.new.sight) (plain_sight c.note_items.new.sight) (plain_sight c.leave.new.sight) c.enter-mark.result.count
    c.enter-mark.result.innermost c.enter-mark.ensures.inner (ap (λ m. m.count) c.enter-mark.ensures.mark) (ap (λ m. m.innermost) c.enter-mark.ensures.mark) c.leave.ensures
    (plain_items c.note_items.new.items.items) c.in_ok-note_items.ensures.behind

pub note_block-returns-clause-labels : goal.note_block-returns-clause-labels
note_block-returns-clause-labels t c =
    labels_left (marks_of c.args.labels.now) (marks_of c.note_items.new.labels) (marks_of c.truncate.new.self) c.len-count.result
    (marks_in_items (plain_sight c.enter-mark.new.sight) (plain_items c.note_items.new.items.items)) c.len-count.ensures c.in_ok-note_items.ensures.labels c.truncate.ensures

pub note_items-loop-i-preserved : goal.note_items-loop-i-preserved
note_items-loop-i-preserved t c =
    let s = plain_sight c.args.sight.now in
    let u = plain_sight c.loop-i.sight in
    let u' = plain_sight c.note_item.new.sight in
    let begin = c.args.begin in
    let ls = marks_of c.loop-i.labels in
    let ls' = marks_of c.note_item.new.labels in
    let old = c.args.items.now.items in
    let cur = c.loop-i.items.items in
    let i = c.loop-i.i in
    let x = c.index_mut.result.now in
    let y = c.note_item.new.item in
    let lt : i < length cur = search (rules, arith) in
    let next = done cur i y lt in
    let rest = left old cur i x lt c.loop-i.invariant.unvisited c.index_mut.ensures.value in
    let body = c.loop-i.invariant.body in
    record {
      unvisited = unvisited_step old cur i y c.loop-i.invariant.unvisited;
      within = within_step cur i y lt;
      noted = block_more (seen_in_body s begin (marks_of c.args.labels.now)) (seen_in_body u begin ls) (seen_in_body u' begin ls') (take i cur) (take (i + 1) (slice_set cur i y)) y
          (seen_after u u' begin ls ls' y body c.in_ok-note_item.ensures.behind c.in_ok-note_item.ensures.labels) next (plain_items old) (drop i old) x (drop (i + 1) old) c.loop-i.invariant.noted rest c.in_ok-note_item.ensures.noted;
      sight = sight_more s u u' (take i cur) (take (i + 1) (slice_set cur i y)) y c.loop-i.invariant.sight c.in_ok-note_item.ensures.behind next;
      labels = labels_more s u (marks_of c.args.labels.now) ls ls' (take i cur) (take (i + 1) (slice_set cur i y)) y c.loop-i.invariant.sight c.loop-i.invariant.labels c.in_ok-note_item.ensures.labels next;
      body = in_body_after u u' begin ls ls' y body c.in_ok-note_item.ensures.behind c.in_ok-note_item.ensures.labels;
    }

pub note_items-returns-clause-noted : goal.note_items-returns-clause-noted
note_items-returns-clause-noted t c =
    let old = c.args.items.now.items in
    let cur = c.loop-i.items.items in
    let i = c.loop-i.i in
    let long : length cur ≡ length old = c.loop-i.invariant.unvisited.0 in
    let past : length old ≤ i = search (rules, arith) in
    block_done (noted_items (seen_in_body (plain_sight c.args.sight.now) c.args.begin (marks_of c.args.labels.now)) (plain_items old)) (seen_in_body (plain_sight c.loop-i.sight) c.args.begin (marks_of c.loop-i.labels)) (take i cur) (drop i old)
    c.loop-i.invariant.noted (none_left old i past)
    ∙ ap (λ zs. Good (plain_items zs)) (all_done cur i (omega (arith, past, long)))

pub note_kind-returns-in-Block-clause-noted : goal.note_kind-returns-in-Block-clause-noted
note_kind-returns-in-Block-clause-noted t c = λ at.
    let whole = block_in_body (plain_sight c.args.sight.now) c.args.begin (marks_of c.args.labels.now) at c.args.kind.now c.in-Block.items c.note_block.new.items c.note_block.result c.requires c.in-Block.is (search rules) in
    search (rules, whole)

pub note_for-note_statement-requires : goal.note_for-note_statement-requires
note_for-note_statement-requires t c =
    let body = in_body_for (plain_sight c.args.sight.now) (plain_sight c.enter-mark.new.sight) (plain_sight c.see_first.new.sight) c.args.begin (marks_of c.args.labels.now)
    (plain_for_first c.args.first.now) c.enter-mark.ensures.inner (search rules) c.requires in
    (search rules, subst (λ u. IsInBody u c.args.begin (marks_of c.args.labels.now)) (sym c.note_clauses.ensures.same) body)

pub note_for-returns-clause-noted : goal.note_for-returns-clause-noted
note_for-returns-clause-noted t c = λ at e step.
    let whole = for_noted (plain_sight c.args.sight.now) (plain_sight c.enter-mark.new.sight) (plain_sight c.see_first.new.sight) (plain_sight c.note_clauses.new.sight) c.args.begin (marks_of c.args.labels.now)
    (plain_for_first c.args.first.now) c.enter-mark.ensures.inner (search rules) c.note_clauses.ensures.same c.requires at (map plain_annot c.args.annots.now.items) (map plain_annot c.note_clauses.new.annots.items)
    e step (plain_stmt c.args.a.now) (plain_stmt c.note_statement.new.s) c.note_statement.result (search rules) (search rules) in
    search (rules, whole)

pub note_for-returns-in_err-note_statement-clause-noted : goal.note_for-returns-in_err-note_statement-clause-noted
note_for-returns-in_err-note_statement-clause-noted t c = λ at e step.
    let whole = for_noted (plain_sight c.args.sight.now) (plain_sight c.enter-mark.new.sight) (plain_sight c.see_first.new.sight) (plain_sight c.note_clauses.new.sight) c.args.begin (marks_of c.args.labels.now)
    (plain_for_first c.args.first.now) c.enter-mark.ensures.inner (search rules) c.note_clauses.ensures.same c.requires at (map plain_annot c.args.annots.now.items) (map plain_annot c.note_clauses.new.annots.items)
    e step (plain_stmt c.args.a.now) (plain_stmt c.note_statement.new.s) c.note_statement.result (search rules) (search rules) in
    search (rules, whole)

pub note_for-returns-in_err-note_clauses-clause-noted : goal.note_for-returns-in_err-note_clauses-clause-noted
note_for-returns-in_err-note_clauses-clause-noted t c = λ at e step.
    let f = c.in_err-note_clauses.field-0.0 in
    let same : c.from_residual-in_err-note_clauses.result ≡ Err f = search rules in
    rw same (for_refused (plain_sight c.args.sight.now) (plain_sight c.enter-mark.new.sight) (plain_sight c.see_first.new.sight) c.args.begin (marks_of c.args.labels.now)
    (plain_for_first c.args.first.now) c.enter-mark.ensures.inner (search rules) c.requires at (map plain_annot c.args.annots.now.items) (map plain_annot c.note_clauses.new.annots.items)
    e step (plain_stmt c.args.a.now) (plain_stmt c.args.a.now) f (search rules))

pub note_for-returns-clause-same : goal.note_for-returns-clause-same
note_for-returns-clause-same t c =
    let sight : plain_sight c.see_first.new.sight ≡ behind_first (plain_sight c.enter-mark.new.sight) (plain_for_first c.args.first.now) = search rules in
    for_left (plain_sight c.args.sight.now) (plain_sight c.enter-mark.new.sight) (plain_sight c.note_statement.new.sight) (plain_sight c.leave.new.sight) c.enter-mark.result.count
    c.enter-mark.result.innermost c.enter-mark.ensures.inner (ap (λ m. m.count) c.enter-mark.ensures.mark) (ap (λ m. m.innermost) c.enter-mark.ensures.mark) c.leave.ensures
    c.args.first.now (plain_sight c.see_first.new.sight) (c.in_ok-note_statement.ensures.same ∙ c.note_clauses.ensures.same) sight

pub note_kind-returns-in_ok-note_statement-in-If-clause-noted : goal.note_kind-returns-in_ok-note_statement-in-If-clause-noted
note_kind-returns-in_ok-note_statement-in-If-clause-noted t c = λ at.
    let inside = if_noted (plain_sight c.args.sight.now) (plain_sight c.note_statement.new.sight) c.args.begin (marks_of c.args.labels.now) (marks_of c.note_statement.new.labels) at (plain_expr c.in-If._condition)
    (plain_stmt c.in-If.a) (plain_stmt c.note_statement.new.s) (plain_else_part c.in-If.b) (plain_else_part c.note_else.new.b) c.note_else.result
    c.in_ok-note_statement-in-If.ensures.same c.in_ok-note_statement-in-If.ensures.labels (search rules) (search rules) in
    let whole = if_in_place (seen_in_body (plain_sight c.args.sight.now) c.args.begin (marks_of c.args.labels.now)) at c.args.kind.now c.in-If._condition c.in-If.a c.note_statement.new.s c.in-If.b c.note_else.new.b
    c.note_else.result c.in-If.is inside in
    search (rules, whole)

pub note_kind-returns-in-While-clause-noted : goal.note_kind-returns-in-While-clause-noted
note_kind-returns-in-While-clause-noted t c = λ at.
    let h = c.note_while.ensures.noted at (plain_expr c.in-While._condition) in
    let whole = while_in_place (seen_in_body (plain_sight c.args.sight.now) c.args.begin (marks_of c.args.labels.now)) at c.args.kind.now c.in-While.annots c.note_while.new.annots
    c.in-While._condition c.in-While.a c.note_while.new.a c.note_while.result c.in-While.is (search (rules, h)) in
    search (rules, whole)

pub note_kind-returns-in-For-clause-noted : goal.note_kind-returns-in-For-clause-noted
note_kind-returns-in-For-clause-noted t c = λ at.
    let h = c.note_for.ensures.noted at (option_map plain_expr c.in-For._condition) (option_map plain_expr c.in-For._step) in
    let whole = for_in_place (seen_in_body (plain_sight c.args.sight.now) c.args.begin (marks_of c.args.labels.now)) at c.args.kind.now c.in-For.annots c.note_for.new.annots c.in-For.first
    c.in-For._condition c.in-For._step c.in-For.a c.note_for.new.a c.note_for.result c.in-For.is (search (rules, h)) in
    search (rules, whole)

pub note_labelled-note_statement-requires : goal.note_labelled-note_statement-requires
note_labelled-note_statement-requires t c =
    let body = in_body_label (plain_sight c.args.sight.now) c.args.begin (marks_of c.args.labels.now) (marks_of c.push.new.self) c.args.name c.mark_here.result c.mark_here.ensures c.in_ok-push.ensures c.requires in
    search (rules, body)

pub note_labelled-returns-clause-noted : goal.note_labelled-returns-clause-noted
note_labelled-returns-clause-noted t c =
    let whole = label_noted (plain_sight c.args.sight.now) c.args.begin (marks_of c.args.labels.now) (marks_of c.push.new.self) c.args.name c.mark_here.result (plain_stmt c.args.a.now)
    (plain_stmt c.note_statement.new.s) c.note_statement.result c.mark_here.ensures c.in_ok-push.ensures (search rules) in
    search (rules, whole)

pub note_labelled-returns-in_err-note_statement-clause-noted : goal.note_labelled-returns-in_err-note_statement-clause-noted
note_labelled-returns-in_err-note_statement-clause-noted t c =
    let whole = label_noted (plain_sight c.args.sight.now) c.args.begin (marks_of c.args.labels.now) (marks_of c.push.new.self) c.args.name c.mark_here.result (plain_stmt c.args.a.now)
    (plain_stmt c.note_statement.new.s) c.note_statement.result c.mark_here.ensures c.in_ok-push.ensures (search rules) in
    search (rules, whole)

pub note_labelled-returns-clause-labels : goal.note_labelled-returns-clause-labels
note_labelled-returns-clause-labels t c =
    labels_left (marks_of c.args.labels.now) (marks_of c.note_statement.new.labels) (marks_of c.truncate.new.self) c.len-count.result ((c.args.name, c.mark_here.result) ∷ []) c.len-count.ensures
    (c.in_ok-note_statement.ensures.labels ∙ c.in_ok-push.ensures) c.truncate.ensures

pub note_statement-returns-clause-noted : goal.note_statement-returns-clause-noted
note_statement-returns-clause-noted t c =
    let h = c.note_kind.ensures.noted c.args.s.now.place in
    search (rules, h)

pub note_cases-loop-i-preserved : goal.note_cases-loop-i-preserved
note_cases-loop-i-preserved t c =
    let s = plain_sight c.args.sight.now in
    let u = plain_sight c.loop-i.sight in
    let begin = c.args.begin in
    let ls = marks_of c.loop-i.labels in
    let ls' = marks_of c.note_case.new.labels in
    let old = c.args.cases.now.items in
    let cur = c.loop-i.cases.items in
    let i = c.loop-i.i in
    let x = c.index_mut.result.now in
    let y = c.note_case.new.case in
    let lt : i < length cur = search (rules, arith) in
    let rest = left old cur i x lt c.loop-i.invariant.unvisited c.index_mut.ensures.value in
    let now : seen_in_body (plain_sight c.note_case.new.sight) begin ls' ≡ seen_in_body u begin (marks_of c.note_case.new.labels) = ap (λ v. seen_in_body v begin ls') c.in_ok-note_case.ensures.same in
    let behind = now ∙ ap (seen_in_body u begin) c.in_ok-note_case.ensures.labels ∙ sym (seen_behind_case u begin ls (plain_items y.items.items)) in
    record {
      unvisited = unvisited_step old cur i y c.loop-i.invariant.unvisited;
      within = within_step cur i y lt;
      noted = case_more (noted_cases (seen_in_body s begin (marks_of c.args.labels.now)) (plain_cases old)) (seen_in_body u begin ls) (seen_in_body (plain_sight c.note_case.new.sight) begin ls') (take i cur) (take (i + 1) (slice_set cur i y))
          (drop i old) x y (drop (i + 1) old) c.loop-i.invariant.noted rest c.in_ok-note_case.ensures.noted c.note_case.ensures.place c.note_case.ensures.value behind (done cur i y lt);
      same = c.in_ok-note_case.ensures.same ∙ c.loop-i.invariant.same;
      long = longer_more (marks_of c.args.labels.now) ls ls' (marks_in_case (here u) (plain_items y.items.items)) c.in_ok-note_case.ensures.labels c.loop-i.invariant.long;
      labels = begins_more (length (marks_of c.args.labels.now)) (marks_of c.args.labels.now) ls ls' (marks_in_case (here u) (plain_items y.items.items)) c.loop-i.invariant.labels c.in_ok-note_case.ensures.labels c.loop-i.invariant.long;
      body = subst (λ v. IsInBody v begin ls') (sym c.in_ok-note_case.ensures.same)
          (subst (IsInBody u begin) (sym c.in_ok-note_case.ensures.labels) (in_body_case u begin ls (plain_items y.items.items) c.loop-i.invariant.body));
    }

pub note_cases-returns-clause-noted : goal.note_cases-returns-clause-noted
note_cases-returns-clause-noted t c =
    let v = seen_in_body (plain_sight c.args.sight.now) c.args.begin (marks_of c.args.labels.now) in
    let w = seen_in_body (plain_sight c.loop-i.sight) c.args.begin (marks_of c.loop-i.labels) in
    let old = c.args.cases.now.items in
    let cur = c.loop-i.cases.items in
    let i = c.loop-i.i in
    let long : length cur ≡ length old = c.loop-i.invariant.unvisited.0 in
    let past : length old ≤ i = search (rules, arith) in
    cases_done (noted_cases v (plain_cases old)) (plain_cases (take i cur)) (noted_cases w (plain_cases (drop i old))) c.loop-i.invariant.noted (ap (λ l. noted_cases w (plain_cases l)) (none_left old i past))
    ∙ ap (λ zs. Good (plain_cases zs)) (all_done cur i (omega (arith, past, long)))

pub note_kind-returns-in-Switch-clause-noted : goal.note_kind-returns-in-Switch-clause-noted
note_kind-returns-in-Switch-clause-noted t c = λ at.
    let whole = switch_noted (seen_in_body (plain_sight c.args.sight.now) c.args.begin (marks_of c.args.labels.now)) at c.in-Switch._controlling c.in-Switch.cases c.note_cases.new.cases c.note_cases.result in
    search (rules, whole)

pub note_cases-returns-in_err-note_case-clause-noted : goal.note_cases-returns-in_err-note_case-clause-noted
note_cases-returns-in_err-note_case-clause-noted t c =
    let begin = c.args.begin in
    let old = c.args.cases.now.items in
    let cur = c.loop-i.cases.items in
    let i = c.loop-i.i in
    let x = c.index_mut.result.now in
    let h = c.in_err-note_case.field-0.0 in
    let lt : i < length cur = search (rules, arith) in
    let e : c.from_residual.result ≡ Err h = search rules in
    let rest = left old cur i x lt c.loop-i.invariant.unvisited c.index_mut.ensures.value in
    rw e (case_refused (λ (v : Unit {0}). plain_items c.note_case.new.case.items.items) (λ (v : Unit {0}). plain_cases old) (noted_cases (seen_in_body (plain_sight c.args.sight.now) begin (marks_of c.args.labels.now)) (plain_cases old))
    (seen_in_body (plain_sight c.loop-i.sight) begin (marks_of c.loop-i.labels)) (take i cur) (drop i old) x (drop (i + 1) old) h c.loop-i.invariant.noted rest c.in_err-note_case.ensures.noted)

pub note_case-returns-clause-same : goal.note_case-returns-clause-same
note_case-returns-clause-same t c =
    body_left (plain_sight c.args.sight.now) (plain_sight c.note_items.new.sight) (plain_sight c.leave.new.sight) c.mark_here-mark.result.count c.mark_here-mark.result.innermost
    (plain_items c.note_items.new.items.items) (ap (λ m. m.count) c.mark_here-mark.ensures) (ap (λ m. m.innermost) c.mark_here-mark.ensures) c.in_ok-note_items.ensures.behind c.leave.ensures

pub note_case-returns-clause-labels : goal.note_case-returns-clause-labels
note_case-returns-clause-labels t c =
    let kept = labels_left (marks_of c.args.labels.now) (marks_of c.note_items.new.labels) (marks_of c.truncate.new.self) c.len-count.result
    (marks_in_items (plain_sight c.args.sight.now) (plain_items c.note_items.new.items.items)) c.len-count.ensures c.in_ok-note_items.ensures.labels c.truncate.ensures in
    c.in_ok-see_labels_in.ensures ∙ (λ i. kept i ++ marks_in_case (c.mark_here-mark.ensures i) (plain_items (c.deref.ensures.value i)))
