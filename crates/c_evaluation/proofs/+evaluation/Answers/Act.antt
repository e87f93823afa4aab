-- Calls, and expressions that stand for their effects.
use Rattle.std.proofs.Common.{◌≡◌, ◌+◌, drop, ◌∷◌, [], ◌++◌, map, refl, ap, sym, subst, ◌∙◌, arith}
use Rattle.std.proofs.lemmas.List.{map-append}
use Rattle.std.specs.Prelude.{None, OnOk, Some}
use Rattle.c_syntax.specs.Ctypes.{plain_type}
use Rattle.c_syntax.specs.Expressions.{Expression, plain_expr, plain_exprs}
use Rattle.mon_syntax.specs.declared.tree.MonExpr.{MonExpr}
use Rattle.mon_syntax.specs.Registers.{Names, next_register}
use Rattle.mon_syntax.specs.Trees.{If, plain_expr as plain_monitored, plain_stmts}
use Rattle.mon_syntax.proofs.Rows.{if_is}
use Rattle.c_effects.specs.Expressions.{before, one, value_type}
use Rattle.c_effects.specs.Full.{act_takes, all_takes, keeps_all, takes}
use Rattle.c_effects.specs.Named.{unit_of, with_registers}
use Rattle.c_effects.specs.Objects.{assign_of}
use Rattle.c_effects.proofs.Sequences.{all_there, complete, left_at, none_left, registers_complete}
use Rattle.c_effects.proofs.Trees.{call_expr, if_ok_then, on_ok, on_ok_then}
use Rattle.c_effects.specs.Letters.{ActHasLetters, ValuesHaveLetters}
use Rattle.c_evaluation.specs.Evaluated.{act_by, all_results_by, prepare_all_by}
use Rattle.c_evaluation.proofs.Acts.{both_acted, both_pure, choice_acted, choice_letters, choice_pure, choice_pure_letters, choice_pure_takes, choice_takes, either_acted, either_pure, one_letters}
use Rattle.c_evaluation.proofs.Acts.{one_pure_letters, one_pure_takes, one_takes, taken_then}
use Rattle.c_evaluation.proofs.EvaluationTrees.{act_at, act_takes_at, act_takes_placed}
use Rattle.c_evaluation.proofs.EvaluationTrees.{act_placed, assign_expr, called_is, last_register, of_both_sides}
use Rattle.c_evaluation.proofs.Operands.{argument_letters, argument_names, argument_setup, argument_values}
use Rattle.c_evaluation.proofs.Operands.{rest_all}
use Rattle.c_evaluation.proofs.Sizes.{assign_size, binary_size, both_size, choice_size, comma_size, either_size, index_size}
use Rattle.c_evaluation.proofs.+evaluation.Goals as goal

pub act::act-assign_alone-requires : goal.act::act-assign_alone-requires
act::act-assign_alone-requires t c =
    let smaller = assign_size c.args.e.now c.in-Assign.op c.in-Assign.a c.in-Assign.b (sym c.deref.ensures ∙ c.in-Assign.is) in
    let measure = c.decreases in
    (omega (arith, smaller, measure), tt)

pub act::act-act_both-requires : goal.act::act-act_both-requires
act::act-act_both-requires t c =
    let smaller = both_size c.args.e.now c.in-Both.a c.in-Both.b (sym c.deref.ensures ∙ c.in-Both.is) in
    let measure = c.decreases in
    (omega (arith, smaller, measure), tt)

pub act::act-act_either-requires : goal.act::act-act_either-requires
act::act-act_either-requires t c =
    let smaller = either_size c.args.e.now c.in-Either.a c.in-Either.b (sym c.deref.ensures ∙ c.in-Either.is) in
    let measure = c.decreases in
    (omega (arith, smaller, measure), tt)

pub act::act-act_choice-requires : goal.act::act-act_choice-requires
act::act-act_choice-requires t c =
    let smaller = choice_size c.args.e.now c.in-Choice.a c.in-Choice.b c.in-Choice.c (sym c.deref.ensures ∙ c.in-Choice.is) in
    let measure = c.decreases in
    (omega (arith, smaller, measure), tt)

pub act::act-act_both_sides-requires : goal.act::act-act_both_sides-requires
act::act-act_both_sides-requires t c =
    let smaller = binary_size c.args.e.now c.in-Binary.field-0 c.in-Binary.a c.in-Binary.b (sym c.deref.ensures ∙ c.in-Binary.is) in
    let measure = c.decreases in
    (omega (arith, smaller, measure), tt)

pub act::act-act_both_sides-requires-in-Index : goal.act::act-act_both_sides-requires-in-Index
act::act-act_both_sides-requires-in-Index t c =
    let smaller = index_size c.args.e.now c.in-Index.a c.in-Index.b (sym c.deref.ensures ∙ c.in-Index.is) in
    let measure = c.decreases in
    (omega (arith, smaller, measure), tt)

pub act::act-act_both_sides-requires-in-Comma : goal.act::act-act_both_sides-requires-in-Comma
act::act-act_both_sides-requires-in-Comma t c =
    let smaller = comma_size c.args.e.now c.in-Comma.a c.in-Comma.b (sym c.deref.ensures ∙ c.in-Comma.is) in
    let measure = c.decreases in
    (omega (arith, smaller, measure), tt)

pub act::act-returns-in-Call-clause-setup : goal.act::act-returns-in-Call-clause-setup
act::act-returns-in-Call-clause-setup t c =
    subst (λ (x : Expression). OnOk c.call_alone.result (plain_stmts c.call_alone.new.to.items ≡ before (plain_stmts c.args.to.now.items) (act_by c.args.names.now x)))
    (call_expr c.args.e.now c.in-Call.f c.in-Call.args _ (sym c.deref.ensures ∙ c.in-Call.is) c.deref-in-Call.ensures.value) c.call_alone.ensures.setup

pub act::act-returns-in-Call-clause-names : goal.act::act-returns-in-Call-clause-names
act::act-returns-in-Call-clause-names t c =
    subst (λ (x : Expression). OnOk c.call_alone.result (c.call_alone.new.names ≡ with_registers (act_takes (unit_of c.args.names.now) x) c.args.names.now))
    (call_expr c.args.e.now c.in-Call.f c.in-Call.args _ (sym c.deref.ensures ∙ c.in-Call.is) c.deref-in-Call.ensures.value) c.call_alone.ensures.names

pub act::act-returns-in-Call-clause-letters : goal.act::act-returns-in-Call-clause-letters
act::act-returns-in-Call-clause-letters t c =
    subst (λ (x : Expression). OnOk c.call_alone.result (ActHasLetters x)) (call_expr c.args.e.now c.in-Call.f c.in-Call.args _ (sym c.deref.ensures ∙ c.in-Call.is) c.deref-in-Call.ensures.value)
    c.call_alone.ensures.letters

-- ---- expressions that stand for their effects

pub act::act_both_sides-returns-clause-setup : goal.act::act_both_sides-returns-clause-setup
act::act_both_sides-returns-clause-setup t c =
    on_ok_then c.act-2.result (of_both_sides c.args.names.now c.act.new.names (plain_stmts c.args.to.now.items) (plain_stmts c.act.new.to.items) (plain_stmts c.act-2.new.to.items) c.args.a.now.place
    (plain_type c.args.b.now.ctype) (plain_expr c.args.a.now) (plain_expr c.args.b.now) c.in_ok-act.ensures.names c.in_ok-act.ensures.setup) c.act-2.ensures.setup

pub act::act_both-returns-then-is_pure-clause-setup : goal.act::act_both-returns-then-is_pure-clause-setup
act::act_both-returns-then-is_pure-clause-setup t c =
    on_ok_then c.act.result (λ (h : plain_stmts c.act.new.to.items ≡ before (plain_stmts c.args.to.now.items) (act_by c.args.names.now (plain_expr c.args.a.now))).
    h ∙ ap (before (plain_stmts c.args.to.now.items)) (both_pure c.args.names.now c.args.a.now.place (plain_type c.args.a.now.ctype) (plain_expr c.args.a.now) (plain_expr c.args.b.now)
    (sym c.is_pure.ensures ∙ c.if-is_pure.true))) c.act.ensures.setup

pub act::act_either-returns-then-is_pure-clause-setup : goal.act::act_either-returns-then-is_pure-clause-setup
act::act_either-returns-then-is_pure-clause-setup t c =
    on_ok_then c.act.result (λ (h : plain_stmts c.act.new.to.items ≡ before (plain_stmts c.args.to.now.items) (act_by c.args.names.now (plain_expr c.args.a.now))).
    h ∙ ap (before (plain_stmts c.args.to.now.items)) (either_pure c.args.names.now c.args.a.now.place (plain_type c.args.a.now.ctype) (plain_expr c.args.a.now) (plain_expr c.args.b.now)
    (sym c.is_pure.ensures ∙ c.if-is_pure.true))) c.act.ensures.setup

pub act::act_both-returns-in_ok-on-clause-setup : goal.act::act_both-returns-in_ok-on-clause-setup
act::act_both-returns-in_ok-on-clause-setup t c =
    on_ok_then c.then.result (λ last. both_acted c.args.names.now c.condition_of.new.names (plain_stmts c.args.to.now.items) (plain_stmts c.condition_of.new.to.items) (plain_stmts c.then.new.to.items)
    c.args.a.now.place (plain_type c.args.a.now.ctype) (plain_expr c.args.a.now) (plain_monitored c.in_ok-test.test) c.in_ok-test.ensures.setup c.in_ok-test.ensures.names c.in_ok-test.ensures.value
    (plain_expr c.args.b.now) (plain_stmts c.in_ok-on.on.items) c.in_ok-on.ensures.code (sym c.is_pure.ensures ∙ c.if-is_pure.false)
    (last ∙ ap (λ s. before (plain_stmts c.condition_of.new.to.items) (one s)) (if_is c.in_ok-test.test c.in_ok-on.on c.empty.result ∙ ap (If (plain_monitored c.in_ok-test.test) (plain_stmts c.in_ok-on.on.items)) c.empty.ensures))) c.then.ensures

-- ---- `a ? b : c` for its effects

pub act::act_choice-returns-then-are_both_pure-clause-setup : goal.act::act_choice-returns-then-are_both_pure-clause-setup
act::act_choice-returns-then-are_both_pure-clause-setup t c =
    let n = c.args.names.now in
    let a = plain_expr c.args.a.now in
    let b = plain_expr c.args.values.0.now in
    let d = plain_expr c.args.values.1.now in
    on_ok_then c.act.result (λ (h : plain_stmts c.act.new.to.items ≡ before (plain_stmts c.args.to.now.items) (act_by c.args.names.now (plain_expr c.args.a.now))).
    h ∙ ap (before (plain_stmts c.args.to.now.items)) (choice_pure n c.args.a.now.place (plain_type c.args.values.0.now.ctype) a b d (sym c.are_both_pure.ensures ∙ c.if-are_both_pure.true))) c.act.ensures.setup

pub act::act_choice-returns-then-are_both_pure-clause-names : goal.act::act_choice-returns-then-are_both_pure-clause-names
act::act_choice-returns-then-are_both_pure-clause-names t c =
    let n = c.args.names.now in
    let a = plain_expr c.args.a.now in
    let b = plain_expr c.args.values.0.now in
    let d = plain_expr c.args.values.1.now in
    on_ok_then c.act.result (λ (h : c.act.new.names ≡ with_registers (act_takes (unit_of c.args.names.now) (plain_expr c.args.a.now)) c.args.names.now).
    h ∙ ap (λ ts. with_registers ts n) (choice_pure_takes n c.args.a.now.place (plain_type c.args.values.0.now.ctype) a b d (sym c.are_both_pure.ensures ∙ c.if-are_both_pure.true))) c.act.ensures.names

pub act::act_choice-returns-then-are_both_pure-clause-letters : goal.act::act_choice-returns-then-are_both_pure-clause-letters
act::act_choice-returns-then-are_both_pure-clause-letters t c =
    let n = c.args.names.now in
    let a = plain_expr c.args.a.now in
    let b = plain_expr c.args.values.0.now in
    let d = plain_expr c.args.values.1.now in
    on_ok_then c.act.result (choice_pure_letters n c.args.a.now.place (plain_type c.args.values.0.now.ctype) a b d (sym c.are_both_pure.ensures ∙ c.if-are_both_pure.true)) c.act.ensures.letters

pub act::act_choice-returns-in_ok-off-clause-setup : goal.act::act_choice-returns-in_ok-off-clause-setup
act::act_choice-returns-in_ok-off-clause-setup t c =
    let n = c.args.names.now in
    let a = plain_expr c.args.a.now in
    let b = plain_expr c.args.values.0.now in
    let d = plain_expr c.args.values.1.now in
    on_ok_then c.then.result (λ last. choice_acted n c.condition_of.new.names (plain_stmts c.args.to.now.items) (plain_stmts c.condition_of.new.to.items) (plain_stmts c.then.new.to.items)
    c.args.a.now.place (plain_type c.args.values.0.now.ctype) a (plain_monitored c.in_ok-test.test) c.in_ok-test.ensures.setup c.in_ok-test.ensures.names c.in_ok-test.ensures.value
    b d c.acted.new.names (plain_stmts c.in_ok-on.on.items) (plain_stmts c.in_ok-off.off.items) c.in_ok-on.ensures.code c.in_ok-on.ensures.names c.in_ok-off.ensures.code (sym c.are_both_pure.ensures ∙ c.if-are_both_pure.false)
    (last ∙ ap (λ s. before (plain_stmts c.condition_of.new.to.items) (one s)) (if_is c.in_ok-test.test c.in_ok-on.on c.in_ok-off.off))) c.then.ensures

pub act::act_choice-returns-in_ok-off-clause-names : goal.act::act_choice-returns-in_ok-off-clause-names
act::act_choice-returns-in_ok-off-clause-names t c =
    let n = c.args.names.now in
    let a = plain_expr c.args.a.now in
    let b = plain_expr c.args.values.0.now in
    let d = plain_expr c.args.values.1.now in
    let first = taken_then n (takes (unit_of n) a) (λ p. act_takes p b) c.in_ok-test.ensures.names c.in_ok-on.ensures.names in
    let second = taken_then n (takes (unit_of n) a ++ act_takes (unit_of n) b) (λ p. act_takes p d) first c.in_ok-off.ensures.names in
    on_ok c.then.result (second ∙ ap (λ ts. with_registers ts n) (choice_takes n c.args.a.now.place (plain_type c.args.values.0.now.ctype) a b d (sym c.are_both_pure.ensures ∙ c.if-are_both_pure.false)))

pub act::act_choice-returns-in_ok-off-clause-letters : goal.act::act_choice-returns-in_ok-off-clause-letters
act::act_choice-returns-in_ok-off-clause-letters t c =
    let n = c.args.names.now in
    let a = plain_expr c.args.a.now in
    let b = plain_expr c.args.values.0.now in
    let d = plain_expr c.args.values.1.now in
    on_ok c.then.result (choice_letters n c.args.a.now.place (plain_type c.args.values.0.now.ctype) a b d (sym c.are_both_pure.ensures ∙ c.if-are_both_pure.false) c.in_ok-test.ensures.letters c.in_ok-on.ensures.letters c.in_ok-off.ensures.letters)

pub act::act_both_sides-returns-clause-names : goal.act::act_both_sides-returns-clause-names
act::act_both_sides-returns-clause-names t c =
    on_ok_then c.act-2.result (taken_then c.args.names.now (act_takes (unit_of c.args.names.now) (plain_expr c.args.a.now)) (λ p. act_takes p (plain_expr c.args.b.now)) c.in_ok-act.ensures.names) c.act-2.ensures.names

-- ---- arguments, from left to right

pub act::arguments-returns-clause-values : goal.act::arguments-returns-clause-values
act::arguments-returns-clause-values t c =
    complete (map plain_monitored c.expressions.values.items) (none_left (λ l. all_results_by c.expressions.names (plain_exprs l)) c.args.args.now c.expressions.i c.expressions-test.false) c.expressions.invariant.values

pub act::arguments-returns-clause-setup : goal.act::arguments-returns-clause-setup
act::arguments-returns-clause-setup t c =
    all_there (none_left (λ l. prepare_all_by c.expressions.names (plain_exprs l)) c.args.args.now c.expressions.i c.expressions-test.false) c.expressions.invariant.setup

pub act::arguments-returns-clause-names : goal.act::arguments-returns-clause-names
act::arguments-returns-clause-names t c =
    registers_complete c.expressions.names (none_left (λ l. all_takes (unit_of c.expressions.names) (plain_exprs l)) c.args.args.now c.expressions.i c.expressions-test.false) c.expressions.invariant.names

pub act::arguments-returns-clause-letters : goal.act::arguments-returns-clause-letters
act::arguments-returns-clause-letters t c =
    c.expressions.invariant.letters (subst ValuesHaveLetters (sym (none_left plain_exprs c.args.args.now c.expressions.i c.expressions-test.false)) tt)

pub act::act_both-returns-then-is_pure-clause-names : goal.act::act_both-returns-then-is_pure-clause-names
act::act_both-returns-then-is_pure-clause-names t c =
    on_ok_then c.act.result (λ (h : c.act.new.names ≡ with_registers (act_takes (unit_of c.args.names.now) (plain_expr c.args.a.now)) c.args.names.now).
    h ∙ ap (λ ts. with_registers ts c.args.names.now) (one_pure_takes c.args.names.now c.args.a.now.place (plain_type c.args.a.now.ctype) (plain_expr c.args.a.now) (plain_expr c.args.b.now) (sym c.is_pure.ensures ∙
    c.if-is_pure.true))) c.act.ensures.names

pub act::act_both-returns-then-is_pure-clause-letters : goal.act::act_both-returns-then-is_pure-clause-letters
act::act_both-returns-then-is_pure-clause-letters t c =
    on_ok_then c.act.result (one_pure_letters c.args.names.now c.args.a.now.place (plain_type c.args.a.now.ctype) (plain_expr c.args.a.now) (plain_expr c.args.b.now) (sym c.is_pure.ensures ∙ c.if-is_pure.true)) c.act.ensures.letters

pub act::act_both-returns-in_ok-on-clause-names : goal.act::act_both-returns-in_ok-on-clause-names
act::act_both-returns-in_ok-on-clause-names t c =
    let n = c.args.names.now in
    on_ok c.then.result (taken_then n (takes (unit_of n) (plain_expr c.args.a.now)) (λ p. act_takes p (plain_expr c.args.b.now)) c.in_ok-test.ensures.names c.in_ok-on.ensures.names
    ∙ ap (λ ts. with_registers ts n) (one_takes c.args.names.now c.args.a.now.place (plain_type c.args.a.now.ctype) (plain_expr c.args.a.now) (plain_expr c.args.b.now) (sym c.is_pure.ensures ∙ c.if-is_pure.false)))

pub act::act_both-returns-in_ok-on-clause-letters : goal.act::act_both-returns-in_ok-on-clause-letters
act::act_both-returns-in_ok-on-clause-letters t c =
    on_ok c.then.result (one_letters c.args.names.now c.args.a.now.place (plain_type c.args.a.now.ctype) (plain_expr c.args.a.now) (plain_expr c.args.b.now) (sym c.is_pure.ensures ∙ c.if-is_pure.false) c.in_ok-test.ensures.letters
    c.in_ok-on.ensures.letters)

pub act::act_either-returns-then-is_pure-clause-names : goal.act::act_either-returns-then-is_pure-clause-names
act::act_either-returns-then-is_pure-clause-names t c =
    on_ok_then c.act.result (λ (h : c.act.new.names ≡ with_registers (act_takes (unit_of c.args.names.now) (plain_expr c.args.a.now)) c.args.names.now).
    h ∙ ap (λ ts. with_registers ts c.args.names.now) (one_pure_takes c.args.names.now c.args.a.now.place (plain_type c.args.a.now.ctype) (plain_expr c.args.a.now) (plain_expr c.args.b.now) (sym c.is_pure.ensures ∙
    c.if-is_pure.true))) c.act.ensures.names

pub act::act_either-returns-then-is_pure-clause-letters : goal.act::act_either-returns-then-is_pure-clause-letters
act::act_either-returns-then-is_pure-clause-letters t c =
    on_ok_then c.act.result (one_pure_letters c.args.names.now c.args.a.now.place (plain_type c.args.a.now.ctype) (plain_expr c.args.a.now) (plain_expr c.args.b.now) (sym c.is_pure.ensures ∙ c.if-is_pure.true)) c.act.ensures.letters

pub act::act_either-returns-in_ok-on-clause-names : goal.act::act_either-returns-in_ok-on-clause-names
act::act_either-returns-in_ok-on-clause-names t c =
    let n = c.args.names.now in
    on_ok c.then.result (taken_then n (takes (unit_of n) (plain_expr c.args.a.now)) (λ p. act_takes p (plain_expr c.args.b.now)) c.in_ok-test.ensures.names c.in_ok-on.ensures.names
    ∙ ap (λ ts. with_registers ts n) (one_takes c.args.names.now c.args.a.now.place (plain_type c.args.a.now.ctype) (plain_expr c.args.a.now) (plain_expr c.args.b.now) (sym c.is_pure.ensures ∙ c.if-is_pure.false)))

pub act::act_either-returns-in_ok-on-clause-letters : goal.act::act_either-returns-in_ok-on-clause-letters
act::act_either-returns-in_ok-on-clause-letters t c =
    on_ok c.then.result (one_letters c.args.names.now c.args.a.now.place (plain_type c.args.a.now.ctype) (plain_expr c.args.a.now) (plain_expr c.args.b.now) (sym c.is_pure.ensures ∙ c.if-is_pure.false) c.in_ok-test.ensures.letters
    c.in_ok-on.ensures.letters)

pub act::act_either-returns-in_ok-on-clause-setup : goal.act::act_either-returns-in_ok-on-clause-setup
act::act_either-returns-in_ok-on-clause-setup t c =
    on_ok_then c.then.result (λ last. either_acted c.args.names.now c.condition_of.new.names (plain_stmts c.args.to.now.items) (plain_stmts c.condition_of.new.to.items) (plain_stmts c.then.new.to.items)
    c.args.a.now.place (plain_type c.args.a.now.ctype) (plain_expr c.args.a.now) (plain_monitored c.in_ok-test.test) c.in_ok-test.ensures.setup c.in_ok-test.ensures.names c.in_ok-test.ensures.value
    (plain_expr c.args.b.now) (plain_stmts c.in_ok-on.on.items) c.in_ok-on.ensures.code (sym c.is_pure.ensures ∙ c.if-is_pure.false)
    (last ∙ ap (λ s. before (plain_stmts c.condition_of.new.to.items) (one s)) (if_is c.in_ok-test.test c.empty.result c.in_ok-on.on ∙ ap (λ off. If (plain_monitored c.in_ok-test.test) off (plain_stmts c.in_ok-on.on.items)) c.empty.ensures)))
    c.then.ensures

pub act::arguments-expressions-preserved : goal.act::arguments-expressions-preserved
act::arguments-expressions-preserved t c =
    let l = c.args.args.now in
    let i = c.expressions.i in
    let n = c.expressions.names in
    let e = plain_expr c.index-args-i.result in
    let es = plain_exprs (drop (i + 1) l) in
    let left = left_at plain_exprs l i _ _ c.expressions-test.true c.index-args-i.is refl in
    let value = c.in_ok-value in
    let kept = c.keeps_all.ensures ∙ ap (λ r. keeps_all e (plain_exprs r)) (rest_all l (i + 1)) in
    let pushed = ap (map plain_monitored) c.in_ok-push.ensures.items ∙ map-append plain_monitored c.expressions.values.items (value.value ∷ []) in
    record {
      within = omega arith;
      values = argument_values n c.operand.new.names e es (plain_exprs (drop i l)) left c.keeps_all.result kept value.ensures.names (map plain_monitored c.expressions.values.items)
          (plain_monitored value.value) value.ensures.value pushed c.expressions.invariant.values;
      setup = argument_setup n c.operand.new.names e es (plain_exprs (drop i l)) left c.keeps_all.result kept value.ensures.names (plain_stmts c.expressions.to.items) value.ensures.setup c.expressions.invariant.setup;
      names = argument_names n c.operand.new.names e es (plain_exprs (drop i l)) left c.keeps_all.result kept value.ensures.names c.expressions.invariant.names;
      letters = argument_letters n c.operand.new.names e es (plain_exprs (drop i l)) left c.keeps_all.result kept value.ensures.names value.ensures.letters c.expressions.invariant.letters;
    }

-- ---- assignments, wherever they stand

pub act::act-returns-in-Assign-clause-setup : goal.act::act-returns-in-Assign-clause-setup
act::act-returns-in-Assign-clause-setup t c =
    let n = c.args.names.now in
    let e = c.args.e.now in
    let op = c.in-Assign.op in
    let a = c.in-Assign.a in
    let b = c.in-Assign.b in
    let is = assign_expr e op a b (sym c.deref.ensures ∙ c.in-Assign.is) in
    on_ok_then c.assign_alone.result (λ (h : plain_stmts c.assign_alone.new.to.items ≡ before (plain_stmts c.args.to.now.items) (act_by n (assign_of op e.ctype a b))).
    h ∙ ap (λ x. before (plain_stmts c.args.to.now.items) x) (act_placed n a.place e.place (plain_type e.ctype) op (plain_expr a) (plain_expr b) ∙ ap (act_by n) (sym is))) c.assign_alone.ensures.setup

-- ---- two sides, and calls

pub act::act_both_sides-returns-clause-letters : goal.act::act_both_sides-returns-clause-letters
act::act_both_sides-returns-clause-letters t c = on_ok_then c.act-2.result (λ l. (c.in_ok-act.ensures.letters, l)) c.act-2.ensures.letters

pub act::called-returns-clause-value : goal.act::called-returns-clause-value
act::called-returns-clause-value t c =
    let number = c.in_ok-number.ensures.number ∙ ap (λ (l : Names). next_register l.table) c.in_ok-values.ensures.names in
    if_ok_then c.register.result (λ (m : MonExpr) last. last_register {m = plain_monitored m} last number) c.register.ensures

pub act::called-returns-clause-setup : goal.act::called-returns-clause-setup
act::called-returns-clause-setup t c =
    let n = c.args.names.now in
    let es = plain_exprs c.args.args.now in
    let number = ap Some (c.in_ok-number.ensures.number ∙ ap (λ (l : Names). next_register l.table) c.in_ok-values.ensures.names) in
    on_ok c.register.result (called_is n c.arguments.new.names c.fresh.new.self (plain_stmts c.args.to.now.items) es c.args.callee.0 c.in_ok-values.ensures.setup c.in_ok-values.ensures.names (ap unit_of c.in_ok-number.ensures.names)
    number c.in_ok-values.ensures.values c.in_ok-call.ensures)

pub act::called-returns-clause-names : goal.act::called-returns-clause-names
act::called-returns-clause-names t c =
    let n = c.args.names.now in
    let us = all_takes (unit_of n) (plain_exprs c.args.args.now) in
    on_ok c.register.result (taken_then n us (λ p. value_type (plain_type c.args.callee.1.now) ∷ []) c.in_ok-values.ensures.names
    (c.in_ok-number.ensures.names ∙ ap (λ u. with_registers (u ∷ []) c.arguments.new.names) c.value_type.ensures))

pub act::call_alone-returns-clause-setup : goal.act::call_alone-returns-clause-setup
act::call_alone-returns-clause-setup t c =
    let n = c.args.names.now in
    on_ok_then c.call.result (λ last. called_is n c.arguments.new.names c.arguments.new.names (plain_stmts c.args.to.now.items) {t2 = plain_stmts c.call.new.to.items} (plain_exprs c.args.args.now) c.args.f
    {to = None} {into = None} c.in_ok-values.ensures.setup c.in_ok-values.ensures.names refl refl c.in_ok-values.ensures.values last) c.call.ensures

-- ---- what a function for the form of an expression does

pub act::act-returns-in-Assign-clause-names : goal.act::act-returns-in-Assign-clause-names
act::act-returns-in-Assign-clause-names t c =
    act_takes_at c.args.names.now c.args.e.now (sym c.deref.ensures ∙ c.in-Assign.is) c.assign_alone.result c.assign_alone.new.names
    (on_ok_then c.assign_alone.result (λ (h : c.assign_alone.new.names ≡ with_registers (act_takes (unit_of c.args.names.now) (assign_of c.in-Assign.op c.args.e.now.ctype c.in-Assign.a c.in-Assign.b)) c.args.names.now).
    h ∙ ap (λ ts. with_registers ts c.args.names.now) (act_takes_placed c.args.names.now c.in-Assign.a.place c.args.e.now.place (plain_type c.args.e.now.ctype)
    c.in-Assign.op (plain_expr c.in-Assign.a) (plain_expr c.in-Assign.b))) c.assign_alone.ensures.names)

pub act::act-returns-in-Bump-clause-setup : goal.act::act-returns-in-Bump-clause-setup
act::act-returns-in-Bump-clause-setup t c =
    act_at c.args.names.now c.args.e.now (sym c.deref.ensures ∙ c.in-Bump.is) c.bump_alone.result (plain_stmts c.args.to.now.items) (plain_stmts c.bump_alone.new.to.items) c.bump_alone.ensures.setup

pub act::act-returns-in-Bump-clause-names : goal.act::act-returns-in-Bump-clause-names
act::act-returns-in-Bump-clause-names t c =
    act_takes_at c.args.names.now c.args.e.now (sym c.deref.ensures ∙ c.in-Bump.is) c.bump_alone.result c.bump_alone.new.names c.bump_alone.ensures.names

pub act::act-returns-in-Both-clause-setup : goal.act::act-returns-in-Both-clause-setup
act::act-returns-in-Both-clause-setup t c =
    act_at c.args.names.now c.args.e.now (sym c.deref.ensures ∙ c.in-Both.is) c.act_both.result (plain_stmts c.args.to.now.items) (plain_stmts c.act_both.new.to.items) c.act_both.ensures.setup

pub act::act-returns-in-Both-clause-names : goal.act::act-returns-in-Both-clause-names
act::act-returns-in-Both-clause-names t c =
    act_takes_at c.args.names.now c.args.e.now (sym c.deref.ensures ∙ c.in-Both.is) c.act_both.result c.act_both.new.names c.act_both.ensures.names

pub act::act-returns-in-Either-clause-setup : goal.act::act-returns-in-Either-clause-setup
act::act-returns-in-Either-clause-setup t c =
    act_at c.args.names.now c.args.e.now (sym c.deref.ensures ∙ c.in-Either.is) c.act_either.result (plain_stmts c.args.to.now.items) (plain_stmts c.act_either.new.to.items) c.act_either.ensures.setup

pub act::act-returns-in-Either-clause-names : goal.act::act-returns-in-Either-clause-names
act::act-returns-in-Either-clause-names t c =
    act_takes_at c.args.names.now c.args.e.now (sym c.deref.ensures ∙ c.in-Either.is) c.act_either.result c.act_either.new.names c.act_either.ensures.names

pub act::act-returns-in-Choice-clause-setup : goal.act::act-returns-in-Choice-clause-setup
act::act-returns-in-Choice-clause-setup t c =
    act_at c.args.names.now c.args.e.now (sym c.deref.ensures ∙ c.in-Choice.is) c.act_choice.result (plain_stmts c.args.to.now.items) (plain_stmts c.act_choice.new.to.items) c.act_choice.ensures.setup

pub act::act-returns-in-Choice-clause-names : goal.act::act-returns-in-Choice-clause-names
act::act-returns-in-Choice-clause-names t c =
    act_takes_at c.args.names.now c.args.e.now (sym c.deref.ensures ∙ c.in-Choice.is) c.act_choice.result c.act_choice.new.names c.act_choice.ensures.names

pub act::act-returns-in-Unary-clause-setup : goal.act::act-returns-in-Unary-clause-setup
act::act-returns-in-Unary-clause-setup t c =
    act_at c.args.names.now c.args.e.now (sym c.deref.ensures ∙ c.in-Unary.is) c.act.result (plain_stmts c.args.to.now.items) (plain_stmts c.act.new.to.items) c.act.ensures.setup

pub act::act-returns-in-Unary-clause-names : goal.act::act-returns-in-Unary-clause-names
act::act-returns-in-Unary-clause-names t c =
    act_takes_at c.args.names.now c.args.e.now (sym c.deref.ensures ∙ c.in-Unary.is) c.act.result c.act.new.names c.act.ensures.names

pub act::act-returns-in-Cast-clause-setup : goal.act::act-returns-in-Cast-clause-setup
act::act-returns-in-Cast-clause-setup t c =
    act_at c.args.names.now c.args.e.now (sym c.deref.ensures ∙ c.in-Cast.is) c.act-in-Cast.result (plain_stmts c.args.to.now.items) (plain_stmts c.act-in-Cast.new.to.items) c.act-in-Cast.ensures.setup

pub act::act-returns-in-Cast-clause-names : goal.act::act-returns-in-Cast-clause-names
act::act-returns-in-Cast-clause-names t c =
    act_takes_at c.args.names.now c.args.e.now (sym c.deref.ensures ∙ c.in-Cast.is) c.act-in-Cast.result c.act-in-Cast.new.names c.act-in-Cast.ensures.names

pub act::act-returns-in-Dot-clause-setup : goal.act::act-returns-in-Dot-clause-setup
act::act-returns-in-Dot-clause-setup t c =
    act_at c.args.names.now c.args.e.now (sym c.deref.ensures ∙ c.in-Dot.is) c.act-in-Dot.result (plain_stmts c.args.to.now.items) (plain_stmts c.act-in-Dot.new.to.items) c.act-in-Dot.ensures.setup

pub act::act-returns-in-Dot-clause-names : goal.act::act-returns-in-Dot-clause-names
act::act-returns-in-Dot-clause-names t c =
    act_takes_at c.args.names.now c.args.e.now (sym c.deref.ensures ∙ c.in-Dot.is) c.act-in-Dot.result c.act-in-Dot.new.names c.act-in-Dot.ensures.names

pub act::act-returns-in-Arrow-clause-setup : goal.act::act-returns-in-Arrow-clause-setup
act::act-returns-in-Arrow-clause-setup t c =
    act_at c.args.names.now c.args.e.now (sym c.deref.ensures ∙ c.in-Arrow.is) c.act-in-Arrow.result (plain_stmts c.args.to.now.items) (plain_stmts c.act-in-Arrow.new.to.items)
    c.act-in-Arrow.ensures.setup

pub act::act-returns-in-Arrow-clause-names : goal.act::act-returns-in-Arrow-clause-names
act::act-returns-in-Arrow-clause-names t c =
    act_takes_at c.args.names.now c.args.e.now (sym c.deref.ensures ∙ c.in-Arrow.is) c.act-in-Arrow.result c.act-in-Arrow.new.names c.act-in-Arrow.ensures.names

pub act::act-returns-in-Binary-clause-setup : goal.act::act-returns-in-Binary-clause-setup
act::act-returns-in-Binary-clause-setup t c =
    act_at c.args.names.now c.args.e.now (sym c.deref.ensures ∙ c.in-Binary.is) c.act_both_sides.result (plain_stmts c.args.to.now.items) (plain_stmts c.act_both_sides.new.to.items)
    c.act_both_sides.ensures.setup

pub act::act-returns-in-Binary-clause-names : goal.act::act-returns-in-Binary-clause-names
act::act-returns-in-Binary-clause-names t c =
    act_takes_at c.args.names.now c.args.e.now (sym c.deref.ensures ∙ c.in-Binary.is) c.act_both_sides.result c.act_both_sides.new.names c.act_both_sides.ensures.names

pub act::act-returns-in-Index-clause-setup : goal.act::act-returns-in-Index-clause-setup
act::act-returns-in-Index-clause-setup t c =
    act_at c.args.names.now c.args.e.now (sym c.deref.ensures ∙ c.in-Index.is) c.act_both_sides-in-Index.result (plain_stmts c.args.to.now.items) (plain_stmts c.act_both_sides-in-Index.new.to.items)
    c.act_both_sides-in-Index.ensures.setup

pub act::act-returns-in-Index-clause-names : goal.act::act-returns-in-Index-clause-names
act::act-returns-in-Index-clause-names t c =
    act_takes_at c.args.names.now c.args.e.now (sym c.deref.ensures ∙ c.in-Index.is) c.act_both_sides-in-Index.result c.act_both_sides-in-Index.new.names c.act_both_sides-in-Index.ensures.names

pub act::act-returns-in-Comma-clause-setup : goal.act::act-returns-in-Comma-clause-setup
act::act-returns-in-Comma-clause-setup t c =
    act_at c.args.names.now c.args.e.now (sym c.deref.ensures ∙ c.in-Comma.is) c.act_both_sides-in-Comma.result (plain_stmts c.args.to.now.items) (plain_stmts c.act_both_sides-in-Comma.new.to.items)
    c.act_both_sides-in-Comma.ensures.setup

pub act::act-returns-in-Comma-clause-names : goal.act::act-returns-in-Comma-clause-names
act::act-returns-in-Comma-clause-names t c =
    act_takes_at c.args.names.now c.args.e.now (sym c.deref.ensures ∙ c.in-Comma.is) c.act_both_sides-in-Comma.result c.act_both_sides-in-Comma.new.names c.act_both_sides-in-Comma.ensures.names
