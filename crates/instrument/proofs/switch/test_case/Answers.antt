use Rattle.std.proofs.Common.{rules, FitsSigned, pos, option_map, ap, sym, ◌∙◌}
use Rattle.std.specs.Int.{w128}
use Rattle.std.proofs.lemmas.Int.{to_z-of_z}
use Rattle.c_syntax.specs.Expressions.{plain_expr}
use Rattle.mon_syntax.specs.Trees.{Binary, Constant, Goto, Register, plain_expr as plain_monitored, plain_stmt_kind, plain_stmts}
use Rattle.mon_syntax.specs.declared.tree.MonOp.TheVariants.{Eq}
use Rattle.mon_syntax.specs.declared.tree.MonStmtKind as code
use Rattle.mon_syntax.specs.declared.tree.MonType.TheVariants.{U64}
use Rattle.mon_syntax.proofs.Rows.{if_is}
use Rattle.c_effects.specs.Expressions.{before, one, set}
use Rattle.c_effects.proofs.Sequences.{nothing}
use Rattle.c_effects.proofs.Trees.{on_ok_then}
use Rattle.instrument.specs.Translation.{case_label}
use Rattle.instrument.proofs.SwitchCode.{if_alone, tested, tested_is}
use Rattle.instrument.proofs.switch.test_case.Goals as goal

pub returns-in_default : goal.returns-in_default
returns-in_default c =
    let choice = c.args.choice in
    nothing _ _ (tested_is c.args.levels choice.kind choice.value choice.index c.args.index (option_map plain_expr c.args.value.now)
    ∙ ap (tested c.args.levels choice.kind choice.value choice.index c.args.index) (sym c.number_behind.ensures ∙ c.in_default.is))

pub returns : goal.returns
returns c =
    let choice = c.args.choice in
    let z = c.in-Some.n in
    let fits : FitsSigned w128 z = search rules in
    let test = c.in_ok-test.ensures ∙ ap (λ n. Binary Eq choice.kind (Register choice.value) (Constant choice.kind n)) (to_z-of_z w128 z fits) in
    let t = plain_stmts c.args.to.now.items in
    let value = option_map plain_expr c.args.value.now in
    let is = tested_is c.args.levels choice.kind choice.value choice.index c.args.index value
    ∙ ap (tested c.args.levels choice.kind choice.value choice.index c.args.index) (sym c.number_behind.ensures ∙ c.in-Some.is) in
    let found = before (set choice.index (Constant U64 (pos c.args.index))) (one (Goto (case_label c.args.levels))) in
    on_ok_then c.then.result (λ last.
    if_alone t (plain_stmts c.then.new.to.items) (plain_stmt_kind (code.If c.in_ok-test.test c.in_ok-on.on c.new.result)) (plain_monitored c.in_ok-test.test)
    (Binary Eq choice.kind (Register choice.value) (Constant choice.kind z)) (plain_stmts c.in_ok-on.on.items) found (plain_stmts c.new.result.items) (if_is c.in_ok-test.test c.in_ok-on.on c.new.result) test c.in_ok-on.ensures
    (ap plain_stmts c.new.ensures.items) last
    ∙ ap (before t) (sym is))
    c.then.ensures
