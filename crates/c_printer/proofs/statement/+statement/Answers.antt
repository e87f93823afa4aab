use Rattle.std.proofs.Common.{◌+◌, ◌<◌, ◌++◌, ◌∙◌, ap, sym, length, option_map, drop, rules}
use Rattle.mon_syntax.specs.Trees.{plain_expr, plain_stmts}
use Rattle.mon_syntax.specs.Text.{new_line, spelled, spelled_piece, statements_pieces}
use Rattle.c_printer.specs.Depths.{depth_of}
use Rattle.c_printer.specs.Sight.{functions_of, in_sight}
use Rattle.mon_syntax.proofs.Rows.{if_is, loop_is, labelled_is}
use Rattle.c_printer.proofs.Behind.{left_at, none_left}
use Rattle.c_printer.proofs.Written.{then, shown, up_none, up_more, up_shut, up_all}
use Rattle.c_printer.proofs.Texts.{statement_text, return_anywhere, at_kind, choice_text, turns_text, labelled_text, body_text, no_body_text, statements_each}
use Rattle.c_printer.proofs.statement.+statement.Goals as goal

pub body-returns-then-is_empty : goal.body-returns-then-is_empty
body-returns-then-is_empty g t c = shown (no_body_text (functions_of c.args.named.now) (in_sight c.args.named.now) (depth_of c.args.depth.now) c.args.stmts.now (search rules)) c.write.ensures

pub body-returns-else-is_empty : goal.body-returns-else-is_empty
body-returns-else-is_empty g t c =
    let some : 0 < length c.args.stmts.now = search rules in
    shown (body_text (functions_of c.args.named.now) (in_sight c.args.named.now) (depth_of c.args.depth.now) c.args.stmts.now some)
    (then c.write-else-is_empty.ensures (then c.statements.ensures c.closing.ensures))

pub choice-returns : goal.choice-returns
choice-returns g t c =
    shown (choice_text (functions_of c.args.named.now) (in_sight c.args.named.now) (depth_of c.args.depth.now) (plain_expr c.args.e.now) (plain_stmts c.args.first.now) (plain_stmts c.args.second.now))
    (then c.between.ensures (then c.body.ensures (then c.write.ensures c.body-2.ensures)))

pub repeated-returns : goal.repeated-returns
repeated-returns g t c =
    shown (turns_text (functions_of c.args.named.now) (in_sight c.args.named.now) (depth_of c.args.depth.now) (plain_stmts c.args.before.now) (plain_stmts c.args.behind.now))
    (then c.write.ensures (then c.statements.ensures (then c.step_line.ensures (then c.statements-2.ensures c.closing.ensures))))

pub labelled-returns : goal.labelled-returns
labelled-returns g t c =
    shown (labelled_text (functions_of c.args.named.now) (in_sight c.args.named.now) (depth_of c.args.depth.now) (plain_stmts c.args.stmts.now) c.args.label.now)
    (then c.body.ensures c.write_three.ensures)

pub statement-returns-in-Step : goal.statement-returns-in-Step
statement-returns-in-Step g t c = shown (ap (statement_text (functions_of c.args.named.now) (in_sight c.args.named.now) (depth_of c.args.depth.now)) (sym c.deref.ensures ∙ c.in-Step.is)) c.write.ensures

pub statement-returns-in-Assert : goal.statement-returns-in-Assert
statement-returns-in-Assert g t c =
    shown (ap (statement_text (functions_of c.args.named.now) (in_sight c.args.named.now) (depth_of c.args.depth.now)) (sym c.deref.ensures ∙ c.in-Assert.is)) c.assertion.ensures

pub statement-returns-in-PrintText : goal.statement-returns-in-PrintText
statement-returns-in-PrintText g t c =
    shown (ap (statement_text (functions_of c.args.named.now) (in_sight c.args.named.now) (depth_of c.args.depth.now)) (sym c.deref.ensures ∙ c.in-PrintText.is)) (rw c.bytes.ensures at c.print_text.ensures)

pub statement-returns-in-PrintSigned : goal.statement-returns-in-PrintSigned
statement-returns-in-PrintSigned g t c = shown (ap (statement_text (functions_of c.args.named.now) (in_sight c.args.named.now) (depth_of c.args.depth.now)) (sym c.deref.ensures ∙ c.in-PrintSigned.is)) c.call-in-PrintSigned.ensures

pub statement-returns-in-PrintUnsigned : goal.statement-returns-in-PrintUnsigned
statement-returns-in-PrintUnsigned g t c = shown (ap (statement_text (functions_of c.args.named.now) (in_sight c.args.named.now) (depth_of c.args.depth.now)) (sym c.deref.ensures ∙ c.in-PrintUnsigned.is)) c.call-in-PrintUnsigned.ensures

pub statement-returns-in-PrintString : goal.statement-returns-in-PrintString
statement-returns-in-PrintString g t c = shown (ap (statement_text (functions_of c.args.named.now) (in_sight c.args.named.now) (depth_of c.args.depth.now)) (sym c.deref.ensures ∙ c.in-PrintString.is)) c.call-in-PrintString.ensures

pub statement-returns-in-If : goal.statement-returns-in-If
statement-returns-in-If g t c =
    shown (at_kind (functions_of c.args.named.now) (in_sight c.args.named.now) (depth_of c.args.depth.now) _ _ _ (sym c.deref.ensures ∙ c.in-If.is) (if_is c.in-If.e c.in-If.a c.in-If.b))
    (rw (c.deref-in-If.ensures.value, c.deref-in-If-2.ensures.value) at c.choice.ensures)

pub statement-returns-in-Loop : goal.statement-returns-in-Loop
statement-returns-in-Loop g t c =
    shown (at_kind (functions_of c.args.named.now) (in_sight c.args.named.now) (depth_of c.args.depth.now) _ _ _ (sym c.deref.ensures ∙ c.in-Loop.is) (loop_is c.in-Loop.a c.in-Loop.b))
    (rw (c.deref-in-Loop.ensures.value, c.deref-in-Loop-2.ensures.value) at c.repeated.ensures)

pub statement-returns-in-Labelled : goal.statement-returns-in-Labelled
statement-returns-in-Labelled g t c =
    shown (at_kind (functions_of c.args.named.now) (in_sight c.args.named.now) (depth_of c.args.depth.now) _ _ _ (sym c.deref.ensures ∙ c.in-Labelled.is) (labelled_is c.in-Labelled.a c.in-Labelled.label))
    (rw (c.deref-in-Labelled.ensures.value, c.bytes-in-Labelled.ensures) at c.labelled.ensures)

pub statement-returns-in-Goto : goal.statement-returns-in-Goto
statement-returns-in-Goto g t c =
    shown (ap (statement_text (functions_of c.args.named.now) (in_sight c.args.named.now) (depth_of c.args.depth.now)) (sym c.deref.ensures ∙ c.in-Goto.is)) (rw c.bytes-in-Goto.ensures at c.write_three.ensures)

pub statement-returns-in-Return : goal.statement-returns-in-Return
statement-returns-in-Return g t c =
    let gs = functions_of c.args.named.now in
    let rs = in_sight c.args.named.now in
    let depth = depth_of c.args.depth.now in
    shown (ap (statement_text gs rs depth) (sym c.deref.ensures ∙ c.in-Return.is) ∙ return_anywhere gs rs depth (option_map plain_expr c.in-Return.value)) c.give_back.ensures

pub statements-stmts-init : goal.statements-stmts-init
statements-stmts-init g t c = up_none _ (spelled (statements_pieces (functions_of c.args.named.now) (in_sight c.args.named.now) (depth_of c.args.depth.now) (plain_stmts c.args.stmts.now)))

pub statements-stmts-preserved : goal.statements-stmts-preserved
statements-stmts-preserved g t c =
    let gs = functions_of c.args.named.now in
    let rs = in_sight c.args.named.now in
    let depth = depth_of c.args.depth.now in
    let rest = drop (c.stmts.s-index + 1) c.args.stmts.now in
    let s = c.s-item.result in
    up_more (spelled_piece (new_line depth) ++ statement_text gs rs depth s.kind.value) (spelled (statements_pieces gs rs depth (plain_stmts rest)))
    (left_at (λ l. spelled (statements_pieces gs rs depth (plain_stmts l))) c.args.stmts.now c.stmts.s-index s c.stmts-test.true c.s-item.is ∙ statements_each gs rs depth s rest)
    c.stmts.invariant
    (then c.line.ensures c.statement.ensures)

pub statements-returns-then-is_shut : goal.statements-returns-then-is_shut
statements-returns-then-is_shut g t c = up_shut (sym c.is_shut.ensures ∙ c.if-is_shut.true) c.stmts.invariant

pub statements-returns : goal.statements-returns
statements-returns g t c =
    up_all (none_left (λ l. spelled (statements_pieces (functions_of c.args.named.now) (in_sight c.args.named.now) (depth_of c.args.depth.now) (plain_stmts l))) c.args.stmts.now c.stmts.s-index c.stmts-test.false) c.stmts.invariant
