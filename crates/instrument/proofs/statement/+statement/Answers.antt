use Rattle.std.proofs.Common.{◌≡◌, ℕ, suc, List, [], ◌+◌, ◌-◌, ◌<◌, ◌^◌, ◌++◌, rules, arith, drop, length, length-drop, map, option_map, reverse, refl, ap, subst, sym, ◌∙◌}
use Rattle.std.specs.Prelude.{OnOk}
use Rattle.c_syntax.specs.Logic.{plain_annot}
use Rattle.c_syntax.specs.Expressions.{plain_expr}
use Rattle.c_syntax.specs.Statements.{plain_else_part, Statement, plain_item, plain_items, plain_stmt, plain_stmt_kind, plain_cases}
use Rattle.c_model.specs.Meaning.{declared_in}
use Rattle.mon_syntax.specs.Registers.{Names, next_register}
use Rattle.mon_syntax.specs.Trees.{MonStatements, plain_expr as plain_monitored, plain_stmts}
use Rattle.mon_syntax.proofs.Rows.{if_is}
use Rattle.track_scopes.specs.Blocks.{deaths, with_born}
use Rattle.c_effects.specs.Expressions.{before}
use Rattle.c_effects.proofs.Sequences.{left_at, none_left, all_there, more_behind, nothing}
use Rattle.c_effects.proofs.Trees.{on_ok, on_ok_then}
use Rattle.instrument.specs.Limits.{HasNumbers, HaveNumbers}
use Rattle.instrument.specs.Options.{ItemsHaveNumbers, behind_cases, blocks_of_cases_by, cases_in_block, after, behind_first, behind_item, behind_items, else_part_by, entering, first_part_by, item_by, items_by, plain_first_part, plain_spot, plan_in}
use Rattle.instrument.specs.LoopForms.{plain_kept_variant, turn_by}
use Rattle.instrument.specs.Options.{statement_by}
use Rattle.instrument.proofs.DeclarationCode.{born_front, inside_is}
use Rattle.instrument.proofs.StatementTrees.{block_stmt, branches_code, if_stmt, for_stmt, if_code, do_code, do_names, round_code, turns_code, turns_names, while_code, while_names, entered_code, rest_code, for_code, alive_code, declared_of_first}
use Rattle.instrument.proofs.StatementTrees.{for_names}
use Rattle.instrument.proofs.SwitchCode.{switch_code, switch_stmt, one_more_case, more_names, more_numbers, no_more_code, no_more_cases, one_more_block, further_names, further_numbers, have_numbers}
use Rattle.instrument.proofs.statement.+statement.Goals as goal

pub else_part-returns-in-None-clause-code : goal.else_part-returns-in-None-clause-code
else_part-returns-in-None-clause-code t c =
    ap plain_stmts c.new.ensures.items ∙ sym (ap (λ o. else_part_by (plan_in c.args.spot.now) c.args.names.now (plain_spot c.args.spot.now) (plain_else_part o)) c.in-None.is)

pub first_part-returns-in-None-clause-code : goal.first_part-returns-in-None-clause-code
first_part-returns-in-None-clause-code t c =
    nothing _ _ (ap (λ o. first_part_by (plan_in c.args.spot.now) c.args.names.now (plain_spot c.args.spot.now) (plain_first_part o)) c.in-None.is)

pub items-returns-clause-code : goal.items-returns-clause-code
items-returns-clause-code t c =
    all_there (none_left (λ l. items_by (plan_in c.args.spot.now) c.items.names (plain_spot c.args.spot.now) (plain_items l)) c.args.block.now c.items.i-index c.items-test.false) c.items.invariant.code

pub items-returns-clause-names : goal.items-returns-clause-names
items-returns-clause-names t c = sym (none_left (λ l. behind_items (plan_in c.args.spot.now) (plain_items l) c.items.names) c.args.block.now c.items.i-index c.items-test.false) ∙ c.items.invariant.names

pub items-returns-clause-numbers : goal.items-returns-clause-numbers
items-returns-clause-numbers t c = c.items.invariant.numbers (subst HaveNumbers (sym (none_left plain_items c.args.block.now c.items.i-index c.items-test.false)) tt)

pub items-items-preserved : goal.items-items-preserved
items-items-preserved t c =
    let n = c.items.names in
    let spot = plain_spot c.args.spot.now in
    let i = plain_item c.i-item.result in
    let rest = plain_items (drop (c.items.i-index + 1) c.args.block.now) in
    let left = left_at plain_items c.args.block.now c.items.i-index _ _ c.items-test.true c.i-item.is refl in
    record {
      code = more_behind (plain_stmts c.items.to.items) (item_by (plan_in c.args.spot.now) n spot i) (behind_item (plan_in c.args.spot.now) i n) (λ m. items_by (plan_in c.args.spot.now) m spot rest)
          (ap (items_by (plan_in c.args.spot.now) n spot) left) c.in_ok-item.ensures.code c.in_ok-item.ensures.names c.items.invariant.code;
      names = ap (behind_items (plan_in c.args.spot.now) rest) c.in_ok-item.ensures.names ∙ sym (ap (λ l. behind_items (plan_in c.args.spot.now) l n) left) ∙ c.items.invariant.names;
      numbers = λ rest. c.items.invariant.numbers (subst HaveNumbers (sym left) (c.in_ok-item.ensures.numbers, rest));
    }

pub block-returns-clause-code : goal.block-returns-clause-code
block-returns-clause-code t c =
    let n = c.args.names.now in
    let spot = c.args.spot.now in
    let body = plain_items c.args.body.now in
    let ds = declared_in body in
    let around = reverse spot.inside.now in
    let f : Names → List ℕ → MonStatements = λ m l. items_by (plan_in c.args.spot.now) m (record (plain_spot spot) { inside = l }) body in
    let own = c.in_ok-own.ensures.own in
    let live = inside_is spot.inside.now c.deref.result.now c.in_ok-own.own.items _ c.deref-2.result.now c.deref.ensures.value c.in_ok-live.ensures c.deref-2.ensures.value ∙ ap (λ l. l ++ around) own ∙ born_front (next_register n.table) ds around in
    on_ok_then c.leave.result (λ last. alive_code n c.enter_block.new.names around (reverse c.deref-2.result.now) ds f (plain_stmts c.args.to.now.items) (plain_stmts c.enter_block.new.to.items) (plain_stmts c.items.new.to.items)
    (plain_stmts c.leave.new.to.items) c.in_ok-own.ensures.names
    c.in_ok-own.ensures.born live c.in_ok-items.ensures.code (last ∙ ap (λ l. before (plain_stmts c.items.new.to.items) (deaths l)) (ap reverse c.deref-3.ensures.value ∙ own)))
    c.leave.ensures

pub turns-returns-clause-code : goal.turns-returns-clause-code
turns-returns-clause-code t c =
    let ks = plan_in c.args.spot.now in
    let n = c.args.names.now in
    let annots = map plain_annot c.args.controls.0.now in
    let a = plain_stmt c.args.a.now in
    on_ok_then c.repeat.result
    (turns_code ks n c.front_of_for.new.names c.turn.new.names c.act_if_any.new.names annots (option_map plain_expr c.args.controls.1.now) (option_map plain_expr c.args.controls.2.now) a
    (option_map plain_kept_variant c.in_ok-kept.kept) c.in_ok-front.ensures.names c.in_ok-kept.ensures.kept c.in_ok-kept.ensures.names c.in_ok-act_if_any.ensures.names
    (plain_spot c.args.spot.now) (plain_stmts c.args.to.now.items) (plain_stmts c.repeat.new.to.items) c.in_ok-loops.loops (plain_stmts c.in_ok-front.front.items) (plain_stmts c.turn.new.to.items)
    (plain_stmts c.act_if_any.new.to.items) (plain_stmts c.compare_variant.new.to.items)
    c.in_ok-loops.ensures c.in_ok-front.ensures.code
    (c.in_ok-kept.ensures.code ∙ ap (λ l. before (plain_stmts l) (turn_by ks c.front_of_for.new.names (plain_spot c.args.spot.now) annots a)) c.new-behind.ensures.items)
    c.in_ok-act_if_any.ensures.setup c.in_ok-compare_variant.ensures.code)
    c.repeat.ensures

pub turns-returns-clause-names : goal.turns-returns-clause-names
turns-returns-clause-names t c =
    on_ok c.repeat.result
    (turns_names (plan_in c.args.spot.now) c.args.names.now c.front_of_for.new.names c.turn.new.names c.act_if_any.new.names (map plain_annot c.args.controls.0.now)
    (option_map plain_expr c.args.controls.1.now) (option_map plain_expr c.args.controls.2.now) (plain_stmt c.args.a.now) (option_map plain_kept_variant c.in_ok-kept.kept)
    c.in_ok-front.ensures.names c.in_ok-kept.ensures.kept c.in_ok-kept.ensures.names c.in_ok-act_if_any.ensures.names c.compare_variant.new.names c.in_ok-compare_variant.ensures.names)

pub while_loop-returns-clause-code : goal.while_loop-returns-clause-code
while_loop-returns-clause-code t c =
    let ks = plan_in c.args.spot.now in
    let n = c.args.names.now in
    let annots = map plain_annot c.args.head.0.now in
    let a = plain_stmt c.args.a.now in
    on_ok_then c.repeat.result
    (while_code ks n c.front_of_while.new.names c.turn.new.names annots (plain_expr c.args.head.1.now) a (option_map plain_kept_variant c.in_ok-kept.kept)
    c.in_ok-front.ensures.names c.in_ok-kept.ensures.kept c.in_ok-kept.ensures.names c.args.a.now.place
    (plain_spot c.args.spot.now) (plain_stmts c.args.to.now.items) (plain_stmts c.repeat.new.to.items) c.in_ok-loops.loops (plain_stmts c.in_ok-front.front.items) (plain_stmts c.turn.new.to.items)
    (plain_stmts c.compare_variant.new.to.items)
    c.in_ok-loops.ensures c.in_ok-front.ensures.code
    (c.in_ok-kept.ensures.code ∙ ap (λ l. before (plain_stmts l) (turn_by ks c.front_of_while.new.names (plain_spot c.args.spot.now) annots a)) c.new-code.ensures.items)
    c.in_ok-compare_variant.ensures.code)
    c.repeat.ensures

pub while_loop-returns-clause-names : goal.while_loop-returns-clause-names
while_loop-returns-clause-names t c =
    on_ok c.repeat.result
    (while_names (plan_in c.args.spot.now) c.args.names.now c.front_of_while.new.names c.turn.new.names (map plain_annot c.args.head.0.now) (plain_expr c.args.head.1.now) (plain_stmt c.args.a.now)
    (option_map plain_kept_variant c.in_ok-kept.kept)
    c.in_ok-front.ensures.names c.in_ok-kept.ensures.kept c.in_ok-kept.ensures.names c.args.a.now.place c.compare_variant.new.names c.in_ok-compare_variant.ensures.names)

pub round-returns-clause-code : goal.round-returns-clause-code
round-returns-clause-code t c =
    let spot = c.args.spot.now in
    let around = inside_is spot.outside.now spot.between.now spot.between.now c.in_ok-around.around.items c.deref.result.now refl c.in_ok-around.ensures c.deref.ensures.value in
    let outside =
    inside_is c.deref.result.now spot.inside.now spot.inside.now c.in_ok-outside.outside.items c.deref-2.result.now refl c.in_ok-outside.ensures c.deref-2.ensures.value
    ∙ ap (λ l. reverse spot.inside.now ++ l) around in
    round_code c.labelled.result (λ l. statement_by (plan_in c.args.spot.now) c.args.names.now l (plain_stmt c.args.s.now)) (plain_spot spot)
    c.in_ok-loops.loops (reverse c.deref-2.result.now) (plain_stmts c.in_ok-body.body.items) c.in_ok-loops.ensures outside
    c.in_ok-body.ensures.code c.labelled.ensures

pub statement-returns-in-Empty-clause-code : goal.statement-returns-in-Empty-clause-code
statement-returns-in-Empty-clause-code t c =
    nothing _ _ (ap (λ k. statement_by (plan_in c.args.spot.now) c.args.names.now (plain_spot c.args.spot.now) (plain_stmt_kind c.args.s.now.place k))
    (sym c.deref.ensures ∙ c.in-Empty.is))

pub statement-returns-in-Block-clause-code : goal.statement-returns-in-Block-clause-code
statement-returns-in-Block-clause-code t c =
    subst (λ (x : Statement). OnOk c.block.result (plain_stmts c.block.new.to.items ≡ before (plain_stmts c.args.to.now.items) (statement_by (plan_in c.args.spot.now) c.args.names.now (plain_spot c.args.spot.now) x)))
    (block_stmt c.args.s.now c.in-Block.body _ (sym c.deref.ensures ∙ c.in-Block.is) c.deref-in-Block.ensures.value) c.block.ensures.code

pub statement-returns-in-Block-clause-names : goal.statement-returns-in-Block-clause-names
statement-returns-in-Block-clause-names t c =
    subst (λ (x : Statement). OnOk c.block.result (c.block.new.names ≡ after (plan_in c.args.spot.now) x c.args.names.now))
    (block_stmt c.args.s.now c.in-Block.body _ (sym c.deref.ensures ∙ c.in-Block.is) c.deref-in-Block.ensures.value) c.block.ensures.names

pub statement-returns-in-Block-clause-numbers : goal.statement-returns-in-Block-clause-numbers
statement-returns-in-Block-clause-numbers t c =
    subst (λ (x : Statement). OnOk c.block.result (HasNumbers x)) (block_stmt c.args.s.now c.in-Block.body _ (sym c.deref.ensures ∙ c.in-Block.is) c.deref-in-Block.ensures.value) c.block.ensures.numbers

pub do_loop-returns-clause-code : goal.do_loop-returns-clause-code
do_loop-returns-clause-code t c =
    let a = c.args.a.now in
    let n = c.args.names.now in
    let t0 = plain_stmts c.args.to.now.items in
    on_ok_then c.repeat.result
    (do_code (plan_in c.args.spot.now) n c.round.new.names n (plain_spot c.args.spot.now) t0 (plain_stmts c.repeat.new.to.items) a.place (plain_expr c.args.e.now)
    (plain_stmt a) c.in_ok-loops.loops
    (plain_stmts c.new.result.items) (plain_stmts c.in_ok-behind.behind.items) (plain_stmts c.leave_unless.new.to.items)
    c.in_ok-loops.ensures c.in_ok-behind.ensures.names (ap plain_stmts c.new.ensures.items) c.in_ok-behind.ensures.code c.in_ok-leave_unless.ensures.code)
    c.repeat.ensures

pub do_loop-returns-clause-names : goal.do_loop-returns-clause-names
do_loop-returns-clause-names t c =
    let a = c.args.a.now in
    on_ok c.repeat.result
    (do_names (plan_in c.args.spot.now) c.args.names.now c.round.new.names c.leave_unless.new.names a.place (plain_expr c.args.e.now) (plain_stmt a) c.in_ok-behind.ensures.names c.in_ok-leave_unless.ensures.names)

pub enter_for-returns-clause-own : goal.enter_for-returns-clause-own
enter_for-returns-clause-own t c =
    c.in_ok-own.ensures.own ∙ ap (λ ds. with_born (next_register c.args.names.now.table) ds []) (ap declared_in c.items_of.ensures ∙ declared_of_first (plain_first_part c.args.first.now))

pub enter_for-returns-clause-code : goal.enter_for-returns-clause-code
enter_for-returns-clause-code t c =
    let first = plain_first_part c.args.first.now in
    entered_code (plan_in c.args.spot.now) c.args.names.now (plain_spot c.args.spot.now) (plain_stmts c.args.to.now.items)
    (plain_stmts c.enter_block.new.to.items) (plain_stmts c.first_part.new.to.items)
    first c.enter_block.new.names (declared_in (plain_items c.items_of.result.now)) (reverse c.in_ok-own.own.items) (reverse c.deref-2.result.now)
    (ap declared_in c.items_of.ensures ∙ declared_of_first first) c.in_ok-own.ensures.names c.in_ok-own.ensures.born c.in_ok-own.ensures.own
    (inside_is c.args.spot.now.inside.now c.deref.result.now c.in_ok-own.own.items _ c.deref-2.result.now c.deref.ensures.value c.in_ok-live.ensures c.deref-2.ensures.value)
    c.in_ok-first_part.ensures.code

pub enter_for-returns-clause-names : goal.enter_for-returns-clause-names
enter_for-returns-clause-names t c =
    let first = plain_first_part c.args.first.now in
    c.in_ok-first_part.ensures.names ∙ ap (behind_first (plan_in c.args.spot.now) first) (c.in_ok-own.ensures.names ∙ ap (λ ds. entering ds c.args.names.now) (ap declared_in c.items_of.ensures ∙ declared_of_first first))

pub rest_of_for-returns-clause-code : goal.rest_of_for-returns-clause-code
rest_of_for-returns-clause-code t c =
    on_ok_then c.leave.result (rest_code (plan_in c.args.spot.now) c.args.names.now (plain_spot c.args.spot.now) (plain_stmts c.args.to.now.items)
    (plain_stmts c.turns.new.to.items) (plain_stmts c.leave.new.to.items)
    (map plain_annot c.args.controls.0.now) (option_map plain_expr c.args.controls.1.now) (option_map plain_expr c.args.controls.2.now) (plain_stmt c.args.a.now) (reverse c.args.own.items) (reverse c.deref-2.result.now)
    (reverse c.deref-3.result.now)
    (inside_is c.args.spot.now.inside.now c.deref.result.now c.args.own.items _ c.deref-2.result.now c.deref.ensures.value c.in_ok-live.ensures c.deref-2.ensures.value) (ap reverse c.deref-3.ensures.value) c.in_ok-turns.ensures.code)
    c.leave.ensures

pub branches-returns-clause-code : goal.branches-returns-clause-code
branches-returns-clause-code t c =
    on_ok_then c.then.result
    (branches_code (plain_stmts c.args.to.now.items) (plain_stmts c.then.new.to.items) _ (plain_monitored c.args.front.0) (plain_stmts c.args.front.1.items) (plain_stmts c.in_ok-second.second.items) _
    (if_is c.args.front.0 c.args.front.1 c.in_ok-second.second) c.in_ok-second.ensures.code)
    c.then.ensures

pub statement-returns-in_ok-first-in-If-clause-code : goal.statement-returns-in_ok-first-in-If-clause-code
statement-returns-in_ok-first-in-If-clause-code t c =
    let n = c.args.names.now in
    let first = c.in_ok-first-in-If in
    subst (λ (y : Statement). OnOk c.branches.result (plain_stmts c.branches.new.to.items ≡ before (plain_stmts c.args.to.now.items) (statement_by (plan_in c.args.spot.now) n (plain_spot c.args.spot.now) y)))
    (if_stmt c.args.s.now c.in-If.e c.in-If.a c.in-If.b c.in-If.a (sym c.deref.ensures ∙ c.in-If.is) refl)
    (on_ok_then c.branches.result (if_code (plan_in c.args.spot.now) n c.tested.new.names (plain_spot c.args.spot.now) (plain_stmts c.args.to.now.items) (plain_stmts c.tested.new.to.items)
    (plain_stmts c.branches.new.to.items) c.args.s.now.place
    (plain_expr c.in-If.e) (plain_stmt c.in-If.a) (plain_else_part c.in-If.b) (plain_monitored first.first.0) (plain_stmts first.first.1.items)
    first.ensures.condition first.ensures.first first.ensures.setup first.ensures.names)
    c.branches.ensures.code)

pub statement-returns-in_ok-own-in-For-clause-code : goal.statement-returns-in_ok-own-in-For-clause-code
statement-returns-in_ok-own-in-For-clause-code t c =
    let n = c.args.names.now in
    let spot = plain_spot c.args.spot.now in
    let first = plain_first_part c.in-For.first in
    let t0 = plain_stmts c.args.to.now.items in
    subst (λ (y : Statement). OnOk c.rest_of_for.result (plain_stmts c.rest_of_for.new.to.items ≡ before t0 (statement_by (plan_in c.args.spot.now) n spot y)))
    (for_stmt c.args.s.now c.in-For.annots c.deref-in-For.result.now c.in-For.first c.in-For.e c.in-For.step c.in-For.a c.in-For.a (sym c.deref.ensures ∙ c.in-For.is) c.deref-in-For.ensures.value refl)
    (on_ok_then c.rest_of_for.result (λ last.
    for_code (plan_in c.args.spot.now) n spot t0 (plain_stmts c.enter_for.new.to.items) (plain_stmts c.rest_of_for.new.to.items) first c.enter_for.new.names c.args.s.now.place
    (map plain_annot c.deref-in-For.result.now) (option_map plain_expr c.in-For.e) (option_map plain_expr c.in-For.step) (plain_stmt c.in-For.a) (reverse c.in_ok-own-in-For.own.items)
    c.in_ok-own-in-For.ensures.own c.in_ok-own-in-For.ensures.code c.in_ok-own-in-For.ensures.names last)
    c.rest_of_for.ensures.code)

pub statement-returns-in_ok-own-in-For-clause-names : goal.statement-returns-in_ok-own-in-For-clause-names
statement-returns-in_ok-own-in-For-clause-names t c =
    let n = c.args.names.now in
    let a = c.in-For.a in
    subst (λ (y : Statement). OnOk c.rest_of_for.result (c.rest_of_for.new.names ≡ after (plan_in c.args.spot.now) y n))
    (for_stmt c.args.s.now c.in-For.annots c.deref-in-For.result.now c.in-For.first c.in-For.e c.in-For.step a a (sym c.deref.ensures ∙ c.in-For.is) c.deref-in-For.ensures.value refl)
    (on_ok_then c.rest_of_for.result
    (for_names (plan_in c.args.spot.now) n c.enter_for.new.names c.rest_of_for.new.names c.args.s.now.place (map plain_annot c.deref-in-For.result.now) (plain_first_part c.in-For.first)
    (option_map plain_expr c.in-For.e) (option_map plain_expr c.in-For.step)
    (plain_stmt a) c.in_ok-own-in-For.ensures.names)
    c.rest_of_for.ensures.names)

pub statement-returns-in_ok-own-in-For-clause-numbers : goal.statement-returns-in_ok-own-in-For-clause-numbers
statement-returns-in_ok-own-in-For-clause-numbers t c =
    subst (λ (y : Statement). OnOk c.rest_of_for.result (HasNumbers y))
    (for_stmt c.args.s.now c.in-For.annots c.deref-in-For.result.now c.in-For.first c.in-For.e c.in-For.step c.in-For.a c.in-For.a (sym c.deref.ensures ∙ c.in-For.is) c.deref-in-For.ensures.value refl)
    (on_ok_then c.rest_of_for.result (λ l. (c.in_ok-own-in-For.ensures.numbers, l.0, l.1, l.2, l.3)) c.rest_of_for.ensures.numbers)

pub statement-returns-in-Switch-clause-code : goal.statement-returns-in-Switch-clause-code
statement-returns-in-Switch-clause-code t c =
    subst (λ (x : Statement). OnOk c.switch.result (plain_stmts c.switch.new.to.items ≡ before (plain_stmts c.args.to.now.items) (statement_by (plan_in c.args.spot.now) c.args.names.now (plain_spot c.args.spot.now) x)))
    (switch_stmt c.args.s.now c.in-Switch.e c.in-Switch.cases _ (sym c.deref.ensures ∙ c.in-Switch.is) c.deref-in-Switch.ensures.value) c.switch.ensures.code

pub statement-returns-in-Switch-clause-names : goal.statement-returns-in-Switch-clause-names
statement-returns-in-Switch-clause-names t c =
    subst (λ (x : Statement). OnOk c.switch.result (c.switch.new.names ≡ after (plan_in c.args.spot.now) x c.args.names.now))
    (switch_stmt c.args.s.now c.in-Switch.e c.in-Switch.cases _ (sym c.deref.ensures ∙ c.in-Switch.is) c.deref-in-Switch.ensures.value) c.switch.ensures.names

pub statement-returns-in-Switch-clause-numbers : goal.statement-returns-in-Switch-clause-numbers
statement-returns-in-Switch-clause-numbers t c =
    subst (λ (x : Statement). OnOk c.switch.result (HasNumbers x))
    (switch_stmt c.args.s.now c.in-Switch.e c.in-Switch.cases _ (sym c.deref.ensures ∙ c.in-Switch.is) c.deref-in-Switch.ensures.value) c.switch.ensures.numbers

pub switch-returns-clause-code : goal.switch-returns-clause-code
switch-returns-clause-code t c =
    let spot = c.args.spot.now in
    let around = spot.inside.now in
    let between = inside_is spot.between.now around around c.in_ok-between.between.items c.deref.result.now refl c.in_ok-between.ensures c.deref.ensures.value in
    on_ok_then c.until_end.result
    (switch_code (plan_in c.args.spot.now) c.args.names.now c.choose_case.new.names (plain_spot spot) (plain_stmts c.args.to.now.items) (plain_stmts c.choose_case.new.to.items) (plain_stmts c.until_end.new.to.items) c.args.e.now.place
    (plain_expr c.args.e.now) (plain_cases c.args.cases.now) c.in_ok-levels.levels c.in_ok-chosen.chosen (reverse c.deref.result.now) (plain_stmts c.in_ok-code.code.items) c.in_ok-levels.ensures
    c.in_ok-chosen.ensures.index between c.in_ok-chosen.ensures.names c.in_ok-chosen.ensures.code c.in_ok-code.ensures.code)
    c.until_end.ensures

pub next_cases-loop-i-preserved : goal.next_cases-loop-i-preserved
next_cases-loop-i-preserved t c =
    let n = c.loop-i.names in
    let m = c.next_case.new.names in
    let spot = plain_spot c.args.spot.now in
    let l = c.args.cases.now in
    let i = c.loop-i.i in
    let x = c.index-cases-i.result in
    let t0 = plain_stmts c.loop-i.code.items in
    let k = c.args.first + cases_in_block - i in
    let k' = c.args.first + cases_in_block - (i + 1) in
    let lt : i < length l = omega (arith, c.loop-i-test.true, c.min-end.ensures) in
    let few : i < c.args.first + cases_in_block = omega (arith, c.loop-i-test.true, c.min-end.ensures) in
    let count : k ≡ suc k' = omega (arith, few) in
    let is = c.index-cases-i.is in
    let next = c.in_ok-next_case.ensures in
    record {
      code = one_more_case (plan_in c.args.spot.now) n m spot c.args.chosen i k k' l x t0 (plain_stmts c.next_case.new.to.items) lt is count next.code next.names c.loop-i.invariant.code;
      names = more_names (plan_in c.args.spot.now) n m i k k' l x lt is count next.names c.loop-i.invariant.names;
      numbers = more_numbers i k k' l x lt is count next.numbers c.loop-i.invariant.numbers;
    }

pub next_cases-returns-clause-code : goal.next_cases-returns-clause-code
next_cases-returns-clause-code t c =
    let rest = drop c.loop-i.i c.args.cases.now in
    let none : 0 < length rest → 0 < (c.args.first + cases_in_block - c.loop-i.i) → ⊥ = λ some few. omega (arith, some, few, length-drop c.loop-i.i c.args.cases.now, c.min-end.ensures, c.loop-i-test.false) in
    all_there (no_more_code (plan_in c.args.spot.now) c.loop-i.names (plain_spot c.args.spot.now) c.args.chosen c.loop-i.i (c.args.first + cases_in_block - c.loop-i.i) rest none) c.loop-i.invariant.code

pub next_cases-returns-clause-names : goal.next_cases-returns-clause-names
next_cases-returns-clause-names t c =
    let rest = drop c.loop-i.i c.args.cases.now in
    let none : 0 < length rest → 0 < (c.args.first + cases_in_block - c.loop-i.i) → ⊥ = λ some few. omega (arith, some, few, length-drop c.loop-i.i c.args.cases.now, c.min-end.ensures, c.loop-i-test.false) in
    sym (ap (λ a. behind_cases (plan_in c.args.spot.now) a c.loop-i.names) (no_more_cases (c.args.first + cases_in_block - c.loop-i.i) rest none)) ∙ c.loop-i.invariant.names

pub next_cases-returns-clause-numbers : goal.next_cases-returns-clause-numbers
next_cases-returns-clause-numbers t c =
    let rest = drop c.loop-i.i c.args.cases.now in
    let none : 0 < length rest → 0 < (c.args.first + cases_in_block - c.loop-i.i) → ⊥ = λ some few. omega (arith, some, few, length-drop c.loop-i.i c.args.cases.now, c.min-end.ensures, c.loop-i-test.false) in
    c.loop-i.invariant.numbers (subst ItemsHaveNumbers (sym (no_more_cases (c.args.first + cases_in_block - c.loop-i.i) rest none)) tt)

pub blocks_of_cases-loop-first-preserved : goal.blocks_of_cases-loop-first-preserved
blocks_of_cases-loop-first-preserved t c =
    let n = c.loop-first.names in
    let m = c.next_cases.new.names in
    let l = c.args.cases.now in
    let i = c.loop-first.first in
    let lt = c.loop-first-test.true in
    let block = c.in_ok-block.ensures in
    record {
      code = one_more_block l i lt (plan_in c.args.spot.now) n m (plain_spot c.args.spot.now) c.args.chosen (plain_stmts c.loop-first.code.items) (plain_stmts c.where_reached.new.to.items) (plain_stmts c.in_ok-block.block.items) block.code
          c.in_ok-where_reached.ensures block.names c.loop-first.invariant.code;
      names = further_names l i lt (plan_in c.args.spot.now) n m block.names c.loop-first.invariant.names;
      numbers = further_numbers l i lt block.numbers c.loop-first.invariant.numbers;
    }

pub blocks_of_cases-returns-clause-code : goal.blocks_of_cases-returns-clause-code
blocks_of_cases-returns-clause-code t c =
    all_there (none_left (λ l. blocks_of_cases_by (plan_in c.args.spot.now) c.loop-first.names (plain_spot c.args.spot.now) c.args.chosen c.loop-first.first 0 (plain_cases l)) c.args.cases.now c.loop-first.first c.loop-first-test.false)
    c.loop-first.invariant.code

pub blocks_of_cases-returns-clause-numbers : goal.blocks_of_cases-returns-clause-numbers
blocks_of_cases-returns-clause-numbers t c =
    let l = c.args.cases.now in
    let formed = c.well_formed in
    let few : 0 + length l < 2 ^ 63 = first_of (omega (arith, formed), omega arith, search (rules, arith, formed)) in
    have_numbers l 0 few (c.loop-first.invariant.numbers (subst ItemsHaveNumbers (sym (none_left plain_cases l c.loop-first.first c.loop-first-test.false)) tt))
