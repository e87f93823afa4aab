use Rattle.std.proofs.Common.{rules, ◌≡◌, ◌++◌, reverse, Err, OnOk, sym, subst, ◌∙◌}
use Rattle.mon_syntax.specs.Trees.{MonStatement, plain_stmt}
use Rattle.mon_syntax.specs.Parsed.{ParsedStatement}
use Rattle.mon_syntax.specs.Checking.{Checked, labels_in, checked_statement}
use Rattle.mon_parser.specs.ParsedTrees.{plain_expr}
use Rattle.mon_typing.specs.Answers.{Gives}
use Rattle.mon_typing.specs.Scopes.{plain_scope}
use Rattle.mon_typing.proofs.Parts.{fails_along}
use Rattle.mon_typing.proofs.Statements.{labels_of_two, if_spelled, loop_spelled, second_fails, both_checked, if_fails, if_checked, loop_fails, loop_checked, next_checked, all_checked, next_labels, inside_is, inside_label, labelled_checked}
use Rattle.mon_typing.proofs.statement.+statement.Goals as goal

pub checked_statement-returns-in-If-clause-spelled : goal.checked_statement-returns-in-If-clause-spelled
checked_statement-returns-in-If-clause-spelled t c =
    subst (λ (x : ParsedStatement). Gives plain_stmt c.selection.result (checked_statement (plain_scope c.args.scope.now) c.args.result_type (reverse c.args.labels.now.around.items) x))
    (sym (if_spelled c.args.s.now c.deref.result.now c.in-If.e c.in-If.first c.in-If.second c.deref-in-If.result.now c.deref-in-If-2.result.now c.deref.ensures c.in-If.is c.deref-in-If.ensures.value c.deref-in-If-2.ensures.value))
    c.selection.ensures.spelled

pub checked_statement-returns-in-If-clause-closed : goal.checked_statement-returns-in-If-clause-closed
checked_statement-returns-in-If-clause-closed t c =
    subst (λ (x : ParsedStatement). OnOk c.selection.result (c.selection.new.labels.closed.items ≡ c.args.labels.now.closed.items ++ labels_in x))
    (sym (if_spelled c.args.s.now c.deref.result.now c.in-If.e c.in-If.first c.in-If.second c.deref-in-If.result.now c.deref-in-If-2.result.now c.deref.ensures c.in-If.is c.deref-in-If.ensures.value c.deref-in-If-2.ensures.value))
    c.selection.ensures.closed

pub checked_statement-returns-in-Loop-clause-spelled : goal.checked_statement-returns-in-Loop-clause-spelled
checked_statement-returns-in-Loop-clause-spelled t c =
    subst (λ (x : ParsedStatement). Gives plain_stmt c.iteration.result (checked_statement (plain_scope c.args.scope.now) c.args.result_type (reverse c.args.labels.now.around.items) x))
    (sym (loop_spelled c.args.s.now c.deref.result.now c.in-Loop.before c.in-Loop.behind c.deref-in-Loop.result.now c.deref-in-Loop-2.result.now c.deref.ensures c.in-Loop.is c.deref-in-Loop.ensures.value c.deref-in-Loop-2.ensures.value))
    c.iteration.ensures.spelled

pub checked_statement-returns-in-Loop-clause-closed : goal.checked_statement-returns-in-Loop-clause-closed
checked_statement-returns-in-Loop-clause-closed t c =
    subst (λ (x : ParsedStatement). OnOk c.iteration.result (c.iteration.new.labels.closed.items ≡ c.args.labels.now.closed.items ++ labels_in x))
    (sym (loop_spelled c.args.s.now c.deref.result.now c.in-Loop.before c.in-Loop.behind c.deref-in-Loop.result.now c.deref-in-Loop-2.result.now c.deref.ensures c.in-Loop.is c.deref-in-Loop.ensures.value c.deref-in-Loop-2.ensures.value))
    c.iteration.ensures.closed

pub checked_bodies-returns-in_err-second-clause-spelled : goal.checked_bodies-returns-in_err-second-clause-spelled
checked_bodies-returns-in_err-second-clause-spelled t c =
    let e : c.from_residual-in_err-second.result ≡ Err c.in_err-second.field-0.0 = search rules in
    rw e (second_fails (plain_scope c.args.scope.now) c.args.result_type c.args.labels.now.around.items c.args.first.now c.args.second.now c.checked_statements.new.labels.around.items _ c.in_err-second.field-0.0 c.in_ok-first.ensures.around
    c.in_ok-first.ensures.spelled c.in_err-second.ensures.spelled)

pub checked_bodies-returns-clause-spelled : goal.checked_bodies-returns-clause-spelled
checked_bodies-returns-clause-spelled t c =
    both_checked (plain_scope c.args.scope.now) c.args.result_type c.args.labels.now.around.items c.args.first.now c.args.second.now c.checked_statements.new.labels.around.items c.in_ok-first.first c.in_ok-second.second c.in_ok-first.ensures.around
    c.in_ok-first.ensures.spelled c.in_ok-second.ensures.spelled

pub checked_bodies-returns-clause-closed : goal.checked_bodies-returns-clause-closed
checked_bodies-returns-clause-closed t c = labels_of_two c.args.labels.now.closed.items c.checked_statements.new.labels.closed.items c.checked_statements-2.new.labels.closed.items _ _ c.in_ok-first.ensures.closed c.in_ok-second.ensures.closed

pub selection-returns-in_err-first-clause-spelled : goal.selection-returns-in_err-first-clause-spelled
selection-returns-in_err-first-clause-spelled t c =
    let e : c.from_residual-in_err-first.result ≡ Err c.in_err-first.field-0.0 = search rules in
    rw e (if_fails (plain_scope c.args.scope.now) c.args.result_type c.args.labels.now.around.items (plain_expr c.args.e.now) c.args.first.now c.args.second.now _ c.in_err-first.field-0.0 c.in_ok-e.ensures c.in_err-first.ensures.spelled)

pub selection-returns-clause-spelled : goal.selection-returns-clause-spelled
selection-returns-clause-spelled t c =
    if_checked (plain_scope c.args.scope.now) c.args.result_type c.args.labels.now.around.items (plain_expr c.args.e.now) c.args.first.now c.args.second.now c.in_ok-e.e c.in_ok-first.first c.in_ok-first.second c.in_ok-new.field-0 c.in_ok-e.ensures
    c.in_ok-first.ensures.spelled c.in_ok-new.ensures

pub iteration-returns-in_err-before-clause-spelled : goal.iteration-returns-in_err-before-clause-spelled
iteration-returns-in_err-before-clause-spelled t c =
    let e : c.from_residual.result ≡ Err c.in_err-before.field-0.0 = search rules in
    rw e (loop_fails (plain_scope c.args.scope.now) c.args.result_type c.args.labels.now.around.items c.args.before.now c.args.behind.now c.in_err-before.field-0.0 c.in_err-before.ensures.spelled)

pub iteration-returns-clause-spelled : goal.iteration-returns-clause-spelled
iteration-returns-clause-spelled t c =
    loop_checked (plain_scope c.args.scope.now) c.args.result_type c.args.labels.now.around.items c.args.before.now c.args.behind.now c.in_ok-before.before c.in_ok-before.behind c.in_ok-new.field-0 c.in_ok-before.ensures.spelled c.in_ok-new.ensures

pub checked_statements-each-preserved : goal.checked_statements-each-preserved
checked_statements-each-preserved t c = record {
  same = next_checked (plain_scope c.args.scope.now) c.args.result_type c.args.labels.now.around.items c.args.list.now c.each.one-index c.one-item.result c.each.labels.around.items c.each.all.items c.push.new.self.items c.in_ok-one.one _
      c.each-test.true c.one-item.is c.each.invariant.around c.in_ok-one.ensures.spelled c.in_ok-push.ensures.items c.each.invariant.same;
  around = c.in_ok-one.ensures.around ∙ c.each.invariant.around;
  closed = next_labels c.args.list.now c.each.one-index c.one-item.result c.each.labels.closed.items c.checked_statement.new.labels.closed.items _ c.each-test.true c.one-item.is c.in_ok-one.ensures.closed c.each.invariant.closed;
}

pub checked_statements-returns-clause-spelled : goal.checked_statements-returns-clause-spelled
checked_statements-returns-clause-spelled t c = all_checked (plain_scope c.args.scope.now) c.args.result_type c.args.labels.now.around.items c.args.list.now c.each.one-index c.each.all.items c.each-test.false c.each.invariant.same

pub labelled_body-returns-in_err-body-clause-spelled : goal.labelled_body-returns-in_err-body-clause-spelled
labelled_body-returns-in_err-body-clause-spelled t c =
    let e : c.from_residual-in_err-body.result ≡ Err c.in_err-body.field-0.0 = search rules in
    rw e (fails_along c.in_err-body.field-0.0 _ _ (inside_label (plain_scope c.args.scope.now) c.args.result_type c.args.labels.now.around.items c.push.new.self.items c.args.body.now c.args.label c.in_ok-push.ensures.items)
    c.in_err-body.ensures.spelled)

pub labelled_body-returns-clause-spelled : goal.labelled_body-returns-clause-spelled
labelled_body-returns-clause-spelled t c =
    inside_label (plain_scope c.args.scope.now) c.args.result_type c.args.labels.now.around.items c.push.new.self.items c.args.body.now c.args.label c.in_ok-push.ensures.items ∙ c.in_ok-body.ensures.spelled

pub labelled-returns-clause-spelled : goal.labelled-returns-clause-spelled
labelled-returns-clause-spelled t c =
    subst (λ (x : Checked MonStatement). Gives plain_stmt c.make_labelled.result x)
    (sym (labelled_checked (plain_scope c.args.scope.now) c.args.result_type c.args.labels.now.around.items c.args.body.now c.args.label _ c.in_ok-body.body tt c.in_ok-body.ensures.spelled
    (inside_is c.args.labels.now.closed.items c.labelled_body.new.labels.closed.items _ _ (search rules) c.in_ok-body.ensures.closed)
    c.in_ok-close_label.ensures.new))
    c.make_labelled.ensures
