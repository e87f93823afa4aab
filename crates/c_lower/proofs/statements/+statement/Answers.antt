use Rattle.std.proofs.Common.{◌≡◌}
use Rattle.std.proofs.Common.{ap, sym, ◌∙◌, subst, OnOk}
use Rattle.mon_syntax.specs.Trees.{If, Loop, Labelled, plain_expr, plain_stmt_kind, plain_stmts}
use Rattle.mon_syntax.proofs.Rows.{if_is, loop_is, labelled_is}
use Rattle.c_lower.specs.Labels.{open_labels}
use Rattle.c_lower.proofs.Written.{in_front, if_written, loop_written}
use Rattle.c_lower.proofs.statements.+statement.Goals as goal

pub emit_choice-returns : goal.emit_choice-returns
emit_choice-returns t c =
    let w = if_written (plain_expr c.args.e.now) (plain_stmts c.args.first.now) (plain_stmts c.args.second.now) (open_labels c.args.labels.now) c.args.code.now
    c.emit_statements.new.code c.pass_since.new.code c.emit_statements-2.new.code c.len-end.result c.len-middle.result
    c.len-end.ensures c.in_ok-emit_statements.ensures c.in_ok-pass_since.ensures c.len-middle.ensures c.in_ok-emit_statements-2.ensures in
    subst (λ z. OnOk c.emit_test.result (c.emit_test.new.code ≡ z)) w c.emit_test.ensures

pub emit_loop-returns : goal.emit_loop-returns
emit_loop-returns t c =
    let w = loop_written (plain_stmts c.args.before.now) (plain_stmts c.args.behind.now) (open_labels c.args.labels.now) c.args.code.now c.put.new.self
    c.emit_statements.new.code c.emit_statements-2.new.code c.len-end.result c.len-middle.result
    c.len-end.ensures c.in_ok-put.ensures c.in_ok-emit_statements.ensures c.len-middle.ensures c.in_ok-emit_statements-2.ensures in
    subst (λ z. OnOk c.close_loop.result (c.close_loop.new.code ≡ z)) w.2 (c.close_loop.ensures w.0 c.args.code.now _ w.1 c.len-end.ensures)

pub emit_statement-returns-in-If : goal.emit_statement-returns-in-If
emit_statement-returns-in-If t c =
    let same = (λ i. If (plain_expr c.in-If.e) (plain_stmts (c.deref-in-If.ensures.value i)) (plain_stmts (c.deref-in-If-2.ensures.value i)))
    ∙ sym (if_is c.in-If.e c.in-If.a c.in-If.b)
    ∙ ap plain_stmt_kind (sym c.in-If.is ∙ c.deref.ensures) in
    subst (λ z. OnOk c.emit_choice.result (c.emit_choice.new.code ≡ z))
    (ap (λ s. in_front s (open_labels c.args.labels.now) c.args.code.now) same) c.emit_choice.ensures

pub emit_statement-returns-in-Loop : goal.emit_statement-returns-in-Loop
emit_statement-returns-in-Loop t c =
    let same = (λ i. Loop (plain_stmts (c.deref-in-Loop.ensures.value i)) (plain_stmts (c.deref-in-Loop-2.ensures.value i)))
    ∙ sym (loop_is c.in-Loop.before c.in-Loop.behind)
    ∙ ap plain_stmt_kind (sym c.in-Loop.is ∙ c.deref.ensures) in
    subst (λ z. OnOk c.emit_loop.result (c.emit_loop.new.code ≡ z))
    (ap (λ s. in_front s (open_labels c.args.labels.now) c.args.code.now) same) c.emit_loop.ensures

pub emit_statement-returns-in-Labelled : goal.emit_statement-returns-in-Labelled
emit_statement-returns-in-Labelled t c =
    let same = (λ i. Labelled (plain_stmts (c.deref-in-Labelled.ensures.value i)) (c.bytes-in-Labelled.ensures i))
    ∙ sym (labelled_is c.in-Labelled.body c.in-Labelled.label)
    ∙ ap plain_stmt_kind (sym c.in-Labelled.is ∙ c.deref.ensures) in
    subst (λ z. OnOk c.emit_labelled.result (c.emit_labelled.new.code ≡ z))
    (ap (λ s. in_front s (open_labels c.args.labels.now) c.args.code.now) same) c.emit_labelled.ensures
