-- Values, places and origins.
use Rattle.std.proofs.Common.{◌≡◌, map, ap, sym, subst, ◌∙◌, arith}
use Rattle.std.specs.Prelude.{IfOk, OnOk, pos}
use Rattle.c_syntax.specs.Ctypes.{plain_type}
use Rattle.c_syntax.specs.Expressions.{Expression, plain_expr}
use Rattle.c_syntax.specs.Programs.{plain_layout}
use Rattle.mon_syntax.specs.declared.tree.MonExpr.{MonExpr}
use Rattle.mon_syntax.specs.declared.tree.MonType.TheVariants.{I32}
use Rattle.mon_syntax.specs.Trees.{Constant, If, Register, plain_expr as plain_monitored, plain_stmts}
use Rattle.c_effects.specs.Expressions.{before, one, set}
use Rattle.c_effects.specs.Full.{act_takes, takes}
use Rattle.c_effects.specs.Named.{unit_of, with_registers}
use Rattle.c_effects.specs.Objects.{assign_of}
use Rattle.c_effects.specs.Parts.{unary_of}
use Rattle.c_effects.proofs.Sequences.{before_none}
use Rattle.c_effects.proofs.Trees.{call_expr, if_ok_then, on_ok, on_ok_then}
use Rattle.c_effects.specs.Letters.{ValueHasLetters}
use Rattle.c_evaluation.specs.Evaluated.{location_by, origin_by, prepare_by, result_by}
use Rattle.c_evaluation.proofs.Acts.{taken_then}
use Rattle.c_evaluation.proofs.EvaluationTrees.{assign_expr, binary_expr, choice_expr, index_expr, of_binary, of_both, of_choice, of_comma}
use Rattle.c_evaluation.proofs.EvaluationTrees.{IsElsewhere, of_either, of_element, origin_elsewhere, prepare_placed, result_placed, second_names, second_register, third_names, third_register}
use Rattle.c_evaluation.proofs.EvaluationTrees.{location_at, origin_at, pointed_placed, prepare_at, takes_at, takes_placed, unary_placed, value_at}
use Rattle.c_evaluation.proofs.Operands.{both_taken, indexed_is}
use Rattle.c_evaluation.proofs.Operands.{layouts_of, operand_names, operand_setup, operand_value, operated_is}
use Rattle.c_evaluation.proofs.Sizes.{assign_size, binary_size, both_size, choice_size, comma_size, either_size, index_size}
use Rattle.c_evaluation.proofs.+evaluation.Goals as goal

-- ---- parts are less deep

pub evaluation::value-binary-requires : goal.evaluation::value-binary-requires
evaluation::value-binary-requires t c =
    let smaller = binary_size c.args.e.now c.in-Binary.op c.in-Binary.a c.in-Binary.b (sym c.deref.ensures ∙ c.in-Binary.is) in
    let measure = c.decreases in
    (omega (arith, smaller, measure), tt)

pub evaluation::value-and-requires : goal.evaluation::value-and-requires
evaluation::value-and-requires t c =
    let smaller = both_size c.args.e.now c.in-Both.a c.in-Both.b (sym c.deref.ensures ∙ c.in-Both.is) in
    let measure = c.decreases in
    (omega (arith, smaller, measure), tt)

pub evaluation::value-or-requires : goal.evaluation::value-or-requires
evaluation::value-or-requires t c =
    let smaller = either_size c.args.e.now c.in-Either.a c.in-Either.b (sym c.deref.ensures ∙ c.in-Either.is) in
    let measure = c.decreases in
    (omega (arith, smaller, measure), tt)

pub evaluation::value-choice-requires : goal.evaluation::value-choice-requires
evaluation::value-choice-requires t c =
    let smaller = choice_size c.args.e.now c.in-Choice.a c.in-Choice.b c.in-Choice.c (sym c.deref.ensures ∙ c.in-Choice.is) in
    let measure = c.decreases in
    (omega (arith, smaller, measure), tt)

pub evaluation::value-assigned_value-requires : goal.evaluation::value-assigned_value-requires
evaluation::value-assigned_value-requires t c =
    let smaller = assign_size c.args.e.now c.in-Assign.op c.in-Assign.a c.in-Assign.b (sym c.deref.ensures ∙ c.in-Assign.is) in
    let measure = c.decreases in
    (omega (arith, smaller, measure), tt)

pub evaluation::value-element_value-requires : goal.evaluation::value-element_value-requires
evaluation::value-element_value-requires t c =
    let smaller = index_size c.args.e.now c.in-Index.a c.in-Index.b (sym c.deref.ensures ∙ c.in-Index.is) in
    let measure = c.decreases in
    (omega (arith, smaller, measure), tt)

pub evaluation::location-element-requires : goal.evaluation::location-element-requires
evaluation::location-element-requires t c =
    let smaller = index_size c.args.e.now c.in-Index.a c.in-Index.b (sym c.deref.ensures ∙ c.in-Index.is) in
    let measure = c.decreases in
    (omega (arith, smaller, measure), tt)

pub evaluation::location-assigned_location-requires : goal.evaluation::location-assigned_location-requires
evaluation::location-assigned_location-requires t c =
    let smaller = assign_size c.args.e.now c.in-Assign.op c.in-Assign.a c.in-Assign.b (sym c.deref.ensures ∙ c.in-Assign.is) in
    let measure = c.decreases in
    (omega (arith, smaller, measure), tt)

pub evaluation::origin-assigned_origin-requires : goal.evaluation::origin-assigned_origin-requires
evaluation::origin-assigned_origin-requires t c =
    let smaller = assign_size c.args.e.now c.in-Assign.op c.in-Assign.a c.in-Assign.b (sym c.deref.ensures ∙ c.in-Assign.is) in
    let measure = c.decreases in
    (omega (arith, smaller, measure), tt)

pub evaluation::value-second_value-requires : goal.evaluation::value-second_value-requires
evaluation::value-second_value-requires t c =
    let smaller = comma_size c.args.e.now c.in-Comma.a c.in-Comma.b (sym c.deref.ensures ∙ c.in-Comma.is) in
    let measure = c.decreases in
    (omega (arith, smaller, measure), tt)

pub evaluation::location-second_location-requires : goal.evaluation::location-second_location-requires
evaluation::location-second_location-requires t c =
    let smaller = comma_size c.args.e.now c.in-Comma.a c.in-Comma.b (sym c.deref.ensures ∙ c.in-Comma.is) in
    let measure = c.decreases in
    (omega (arith, smaller, measure), tt)

pub evaluation::origin-second_origin-requires : goal.evaluation::origin-second_origin-requires
evaluation::origin-second_origin-requires t c =
    let smaller = comma_size c.args.e.now c.in-Comma.a c.in-Comma.b (sym c.deref.ensures ∙ c.in-Comma.is) in
    let measure = c.decreases in
    (omega (arith, smaller, measure), tt)

-- ---- what stands before a value

pub evaluation::binary-returns-clause-setup : goal.evaluation::binary-returns-clause-setup
evaluation::binary-returns-clause-setup t c =
    on_ok c.operated.result (of_binary c.args.names.now c.operand.new.names (plain_stmts c.args.to.now.items) (plain_stmts c.operand.new.to.items) (plain_stmts c.value.new.to.items) c.args.operands.0.now.place
    (plain_type c.args.operands.0.now.ctype) (plain_expr c.args.operands.0.now) (plain_expr c.args.operands.1.now) c.keeps-keep.result c.keeps-keep.ensures c.in_ok-first.ensures.names
    c.in_ok-first.ensures.setup c.args.op c.in_ok-second.ensures.setup)

pub evaluation::element-returns-clause-setup : goal.evaluation::element-returns-clause-setup
evaluation::element-returns-clause-setup t c =
    on_ok c.indexed.result (of_element c.args.names.now c.operand.new.names (plain_stmts c.args.to.now.items) (plain_stmts c.operand.new.to.items) (plain_stmts c.value.new.to.items) c.args.operands.0.now.place
    (plain_type c.args.operands.0.now.ctype) (plain_expr c.args.operands.0.now) (plain_expr c.args.operands.1.now) c.keeps-keep.result c.keeps-keep.ensures c.in_ok-first.ensures.names
    c.in_ok-first.ensures.setup c.in_ok-second.ensures.setup)

pub evaluation::and-returns-clause-setup : goal.evaluation::and-returns-clause-setup
evaluation::and-returns-clause-setup t c =
    let right = c.in_ok-right in
    on_ok_then c.both.result (λ last. of_both c.args.names.now c.condition_of.new.names (plain_stmts c.args.to.now.items) (plain_stmts c.condition_of.new.to.items) (plain_stmts c.both.new.to.items) c.args.a.now.place
    (plain_type c.args.a.now.ctype) (plain_expr c.args.a.now) (plain_expr c.args.b.now) c.in_ok-test.ensures.names (plain_monitored c.in_ok-test.test) c.in_ok-test.ensures.setup c.in_ok-test.ensures.value
    (last ∙ (λ i. before (plain_stmts c.condition_of.new.to.items) (one (If (plain_monitored c.in_ok-test.test) (right.ensures.code i) (set (right.ensures.register i) (Constant I32 (pos 0))))))))
    c.both.ensures.setup

pub evaluation::or-returns-clause-setup : goal.evaluation::or-returns-clause-setup
evaluation::or-returns-clause-setup t c =
    let right = c.in_ok-right in
    on_ok_then c.either.result (λ last. of_either c.args.names.now c.condition_of.new.names (plain_stmts c.args.to.now.items) (plain_stmts c.condition_of.new.to.items) (plain_stmts c.either.new.to.items) c.args.a.now.place
    (plain_type c.args.a.now.ctype) (plain_expr c.args.a.now) (plain_expr c.args.b.now) c.in_ok-test.ensures.names (plain_monitored c.in_ok-test.test) c.in_ok-test.ensures.setup c.in_ok-test.ensures.value
    (last ∙ (λ i. before (plain_stmts c.condition_of.new.to.items) (one (If (plain_monitored c.in_ok-test.test) (set (right.ensures.register i) (Constant I32 (pos 1))) (right.ensures.code i))))))
    c.either.ensures.setup

pub evaluation::choice-returns-clause-setup : goal.evaluation::choice-returns-clause-setup
evaluation::choice-returns-clause-setup t c =
    let first = c.in_ok-first in
    let second = c.in_ok-second in
    on_ok_then c.choose.result (of_choice c.args.names.now c.condition_of.new.names (plain_stmts c.args.to.now.items) (plain_stmts c.condition_of.new.to.items) (plain_stmts c.choose.new.to.items) c.args.a.now.place
    (plain_type c.args.values.0.now.ctype) (plain_expr c.args.a.now) (plain_expr c.args.values.0.now) c.in_ok-test.ensures.names
    (plain_monitored c.in_ok-test.test) c.in_ok-test.ensures.setup c.in_ok-test.ensures.value
    (plain_expr c.args.values.1.now) c.apart.new.names c.apart-2.new.names (plain_stmts first.first.0.items) (plain_stmts second.second.0.items) (plain_monitored first.first.1) (plain_monitored second.second.1) c.in_ok-number.number
    first.ensures.setup first.ensures.value first.ensures.names second.ensures.setup second.ensures.value second.ensures.names c.in_ok-number.ensures.number)
    c.choose.ensures.setup

-- ---- operands

pub evaluation::operand-returns-clause-value : goal.evaluation::operand-returns-clause-value
evaluation::operand-returns-clause-value t c =
    let n = c.args.names.now in
    let e = plain_expr c.args.e.now in
    let found = c.in_ok-found in
    if_ok_then c.kept.result (λ (m : MonExpr) last. operand_value n c.value.new.names (plain_stmts c.args.to.now.items) (plain_stmts c.value.new.to.items) c.args.keep e (plain_monitored found.found) found.ensures.setup found.ensures.names
    found.ensures.value {m = plain_monitored m} last) c.kept.ensures.value

pub evaluation::operand-returns-clause-setup : goal.evaluation::operand-returns-clause-setup
evaluation::operand-returns-clause-setup t c =
    let n = c.args.names.now in
    let e = plain_expr c.args.e.now in
    let found = c.in_ok-found in
    on_ok_then c.kept.result (λ last. operand_setup n c.value.new.names (plain_stmts c.args.to.now.items) (plain_stmts c.value.new.to.items) c.args.keep e (plain_monitored found.found) found.ensures.setup found.ensures.names
    found.ensures.value {t2 = plain_stmts c.kept.new.to.items} last) c.kept.ensures.setup

pub evaluation::operand-returns-clause-names : goal.evaluation::operand-returns-clause-names
evaluation::operand-returns-clause-names t c =
    let n = c.args.names.now in
    let e = plain_expr c.args.e.now in
    let found = c.in_ok-found in
    on_ok_then c.kept.result (λ last. operand_names n c.value.new.names (plain_stmts c.args.to.now.items) (plain_stmts c.value.new.to.items) c.args.keep e (plain_monitored found.found) found.ensures.setup found.ensures.names
    found.ensures.value c.value_type.result {n2 = c.kept.new.names} c.value_type.ensures last) c.kept.ensures.names

pub evaluation::binary-returns-clause-value : goal.evaluation::binary-returns-clause-value
evaluation::binary-returns-clause-value t c =
    let n = c.args.names.now in
    let a = c.args.operands.0.now in
    let b = plain_expr c.args.operands.1.now in
    let first = c.in_ok-first in
    let second = c.in_ok-second in
    let layouts = c.layouts.ensures ∙ ap layouts_of second.ensures.names ∙ ap layouts_of first.ensures.names in
    if_ok_then c.operated.result (λ (m : MonExpr) last. operated_is n c.operand.new.names a.place (plain_type a.ctype) (plain_expr a) b c.keeps-keep.result c.keeps-keep.ensures first.ensures.names (plain_monitored first.first)
    (plain_monitored second.second) first.ensures.value second.ensures.value c.args.op {m = plain_monitored m} (ap (map plain_layout) layouts) last) c.operated.ensures

pub evaluation::binary-returns-clause-names : goal.evaluation::binary-returns-clause-names
evaluation::binary-returns-clause-names t c =
    let n = c.args.names.now in
    let a = c.args.operands.0.now in
    let b = plain_expr c.args.operands.1.now in
    let first = c.in_ok-first in
    let second = c.in_ok-second in
    on_ok c.operated.result (both_taken n c.operand.new.names a.place (plain_type a.ctype) (plain_expr a) b c.keeps-keep.result c.keeps-keep.ensures first.ensures.names second.ensures.names)

pub evaluation::element-returns-clause-value : goal.evaluation::element-returns-clause-value
evaluation::element-returns-clause-value t c =
    let n = c.args.names.now in
    let a = c.args.operands.0.now in
    let b = plain_expr c.args.operands.1.now in
    let first = c.in_ok-first in
    let second = c.in_ok-second in
    let layouts = c.layouts.ensures ∙ ap layouts_of second.ensures.names ∙ ap layouts_of first.ensures.names in
    if_ok_then c.indexed.result (λ (m : MonExpr) last. indexed_is n c.operand.new.names a.place (plain_type a.ctype) (plain_expr a) b c.keeps-keep.result c.keeps-keep.ensures first.ensures.names (plain_monitored first.first)
    (plain_monitored second.second) first.ensures.value second.ensures.value {m = plain_monitored m} (ap (map plain_layout) layouts) last) c.indexed.ensures

pub evaluation::element-returns-clause-names : goal.evaluation::element-returns-clause-names
evaluation::element-returns-clause-names t c =
    let n = c.args.names.now in
    let a = c.args.operands.0.now in
    let b = plain_expr c.args.operands.1.now in
    let first = c.in_ok-first in
    let second = c.in_ok-second in
    on_ok c.indexed.result (both_taken n c.operand.new.names a.place (plain_type a.ctype) (plain_expr a) b c.keeps-keep.result c.keeps-keep.ensures first.ensures.names second.ensures.names)

pub evaluation::second_value-returns-clause-value : goal.evaluation::second_value-returns-clause-value
evaluation::second_value-returns-clause-value t c =
    if_ok_then c.value.result (λ (m : MonExpr) (last : plain_monitored m ≡ result_by c.act.new.names (plain_expr c.args.b.now)). last ∙ ap (λ l. result_by l (plain_expr c.args.b.now)) c.in_ok-act.ensures.names) c.value.ensures.value

pub evaluation::second_value-returns-clause-setup : goal.evaluation::second_value-returns-clause-setup
evaluation::second_value-returns-clause-setup t c =
    on_ok_then c.value.result (of_comma c.args.names.now c.act.new.names (plain_stmts c.args.to.now.items) (plain_stmts c.act.new.to.items) (plain_stmts c.value.new.to.items) c.args.a.now.place
    (plain_type c.args.b.now.ctype) (plain_expr c.args.a.now) (plain_expr c.args.b.now) c.in_ok-act.ensures.names c.in_ok-act.ensures.setup) c.value.ensures.setup

pub evaluation::second_value-returns-clause-names : goal.evaluation::second_value-returns-clause-names
evaluation::second_value-returns-clause-names t c =
    on_ok_then c.value.result (taken_then c.args.names.now (act_takes (unit_of c.args.names.now) (plain_expr c.args.a.now)) (λ p. takes p (plain_expr c.args.b.now)) c.in_ok-act.ensures.names) c.value.ensures.names

pub evaluation::second_location-returns-clause-value : goal.evaluation::second_location-returns-clause-value
evaluation::second_location-returns-clause-value t c =
    if_ok_then c.location.result (λ (m : MonExpr) (last : plain_monitored m ≡ location_by c.act.new.names (plain_expr c.args.b.now)). last ∙ ap (λ l. location_by l (plain_expr c.args.b.now)) c.in_ok-act.ensures.names) c.location.ensures.value

pub evaluation::second_location-returns-clause-setup : goal.evaluation::second_location-returns-clause-setup
evaluation::second_location-returns-clause-setup t c =
    on_ok_then c.location.result (of_comma c.args.names.now c.act.new.names (plain_stmts c.args.to.now.items) (plain_stmts c.act.new.to.items) (plain_stmts c.location.new.to.items) c.args.a.now.place
    (plain_type c.args.b.now.ctype) (plain_expr c.args.a.now) (plain_expr c.args.b.now) c.in_ok-act.ensures.names c.in_ok-act.ensures.setup) c.location.ensures.setup

pub evaluation::second_location-returns-clause-names : goal.evaluation::second_location-returns-clause-names
evaluation::second_location-returns-clause-names t c =
    on_ok_then c.location.result (taken_then c.args.names.now (act_takes (unit_of c.args.names.now) (plain_expr c.args.a.now)) (λ p. takes p (plain_expr c.args.b.now)) c.in_ok-act.ensures.names) c.location.ensures.names

pub evaluation::second_origin-returns-clause-value : goal.evaluation::second_origin-returns-clause-value
evaluation::second_origin-returns-clause-value t c =
    if_ok_then c.origin.result (λ (m : MonExpr) (last : plain_monitored m ≡ origin_by c.act.new.names (plain_expr c.args.b.now)). last ∙ ap (λ l. origin_by l (plain_expr c.args.b.now)) c.in_ok-act.ensures.names) c.origin.ensures.value

pub evaluation::second_origin-returns-clause-setup : goal.evaluation::second_origin-returns-clause-setup
evaluation::second_origin-returns-clause-setup t c =
    on_ok_then c.origin.result (of_comma c.args.names.now c.act.new.names (plain_stmts c.args.to.now.items) (plain_stmts c.act.new.to.items) (plain_stmts c.origin.new.to.items) c.args.a.now.place
    (plain_type c.args.b.now.ctype) (plain_expr c.args.a.now) (plain_expr c.args.b.now) c.in_ok-act.ensures.names c.in_ok-act.ensures.setup) c.origin.ensures.setup

pub evaluation::second_origin-returns-clause-names : goal.evaluation::second_origin-returns-clause-names
evaluation::second_origin-returns-clause-names t c =
    on_ok_then c.origin.result (taken_then c.args.names.now (act_takes (unit_of c.args.names.now) (plain_expr c.args.a.now)) (λ p. takes p (plain_expr c.args.b.now)) c.in_ok-act.ensures.names) c.origin.ensures.names

-- ---- calls

pub evaluation::value-returns-in-Call-clause-value : goal.evaluation::value-returns-in-Call-clause-value
evaluation::value-returns-in-Call-clause-value t c =
    subst (λ (x : Expression). IfOk c.called.result (λ (m : MonExpr). plain_monitored m ≡ result_by c.args.names.now x))
    (call_expr c.args.e.now c.in-Call.f c.in-Call.args _ (sym c.deref.ensures ∙ c.in-Call.is) c.deref-in-Call.ensures.value) c.called.ensures.value

pub evaluation::value-returns-in-Call-clause-setup : goal.evaluation::value-returns-in-Call-clause-setup
evaluation::value-returns-in-Call-clause-setup t c =
    subst (λ (x : Expression). OnOk c.called.result (plain_stmts c.called.new.to.items ≡ before (plain_stmts c.args.to.now.items) (prepare_by c.args.names.now x)))
    (call_expr c.args.e.now c.in-Call.f c.in-Call.args _ (sym c.deref.ensures ∙ c.in-Call.is) c.deref-in-Call.ensures.value) c.called.ensures.setup

pub evaluation::value-returns-in-Call-clause-names : goal.evaluation::value-returns-in-Call-clause-names
evaluation::value-returns-in-Call-clause-names t c =
    subst (λ (x : Expression). OnOk c.called.result (c.called.new.names ≡ with_registers (takes (unit_of c.args.names.now) x) c.args.names.now))
    (call_expr c.args.e.now c.in-Call.f c.in-Call.args _ (sym c.deref.ensures ∙ c.in-Call.is) c.deref-in-Call.ensures.value) c.called.ensures.names

pub evaluation::value-returns-in-Call-clause-letters : goal.evaluation::value-returns-in-Call-clause-letters
evaluation::value-returns-in-Call-clause-letters t c =
    subst (λ (x : Expression). OnOk c.called.result (ValueHasLetters x)) (call_expr c.args.e.now c.in-Call.f c.in-Call.args _ (sym c.deref.ensures ∙ c.in-Call.is) c.deref-in-Call.ensures.value)
    c.called.ensures.letters

pub evaluation::and-returns-clause-value : goal.evaluation::and-returns-clause-value
evaluation::and-returns-clause-value t c =
    if_ok_then c.both.result (λ (m : MonExpr) last. second_register c.args.names.now c.condition_of.new.names (plain_expr c.args.a.now) (plain_expr c.args.b.now) c.in_ok-test.ensures.names {m = plain_monitored m}
    (last ∙ ap Register c.in_ok-right.ensures.register)) c.both.ensures.value

pub evaluation::and-returns-clause-names : goal.evaluation::and-returns-clause-names
evaluation::and-returns-clause-names t c =
    on_ok c.both.result (second_names c.args.names.now c.condition_of.new.names (plain_expr c.args.a.now) (plain_expr c.args.b.now) c.in_ok-test.ensures.names I32 {n2 = c.truth_set.new.names} c.in_ok-right.ensures.names)

pub evaluation::or-returns-clause-value : goal.evaluation::or-returns-clause-value
evaluation::or-returns-clause-value t c =
    if_ok_then c.either.result (λ (m : MonExpr) last. second_register c.args.names.now c.condition_of.new.names (plain_expr c.args.a.now) (plain_expr c.args.b.now) c.in_ok-test.ensures.names {m = plain_monitored m}
    (last ∙ ap Register c.in_ok-right.ensures.register)) c.either.ensures.value

pub evaluation::or-returns-clause-names : goal.evaluation::or-returns-clause-names
evaluation::or-returns-clause-names t c =
    on_ok c.either.result (second_names c.args.names.now c.condition_of.new.names (plain_expr c.args.a.now) (plain_expr c.args.b.now) c.in_ok-test.ensures.names I32 {n2 = c.truth_set.new.names} c.in_ok-right.ensures.names)

pub evaluation::choice-returns-clause-value : goal.evaluation::choice-returns-clause-value
evaluation::choice-returns-clause-value t c =
    if_ok_then c.choose.result (λ (m : MonExpr) last. third_register c.args.names.now c.condition_of.new.names (plain_expr c.args.a.now) (plain_expr c.args.values.0.now) c.in_ok-test.ensures.names (plain_expr c.args.values.1.now)
    c.apart.new.names c.apart-2.new.names c.in_ok-first.ensures.names c.in_ok-second.ensures.names c.in_ok-number.number {m = plain_monitored m} c.in_ok-number.ensures.number last) c.choose.ensures.value

pub evaluation::choice-returns-clause-names : goal.evaluation::choice-returns-clause-names
evaluation::choice-returns-clause-names t c =
    on_ok c.choose.result (third_names c.args.names.now c.condition_of.new.names (plain_expr c.args.a.now) (plain_expr c.args.values.0.now) c.in_ok-test.ensures.names (plain_expr c.args.values.1.now)
    c.apart.new.names c.apart-2.new.names c.in_ok-first.ensures.names c.in_ok-second.ensures.names c.value_type.result _ c.value_type.ensures c.in_ok-number.ensures.names)

pub evaluation::location-returns-in-Assign-clause-setup : goal.evaluation::location-returns-in-Assign-clause-setup
evaluation::location-returns-in-Assign-clause-setup t c =
    let n = c.args.names.now in
    let e = c.args.e.now in
    let op = c.in-Assign.op in
    let a = c.in-Assign.a in
    let b = c.in-Assign.b in
    let is = assign_expr e op a b (sym c.deref.ensures ∙ c.in-Assign.is) in
    on_ok_then c.assigned_location.result (λ (h : plain_stmts c.assigned_location.new.to.items ≡ before (plain_stmts c.args.to.now.items) (prepare_by n (assign_of op e.ctype a b))).
    h ∙ ap (λ x. before (plain_stmts c.args.to.now.items) x) (prepare_placed n a.place e.place (plain_type e.ctype) op (plain_expr a) (plain_expr b) ∙ ap (prepare_by n) (sym is))) c.assigned_location.ensures.setup

pub evaluation::origin-returns-in-Assign-clause-setup : goal.evaluation::origin-returns-in-Assign-clause-setup
evaluation::origin-returns-in-Assign-clause-setup t c =
    let n = c.args.names.now in
    let e = c.args.e.now in
    let op = c.in-Assign.op in
    let a = c.in-Assign.a in
    let b = c.in-Assign.b in
    let is = assign_expr e op a b (sym c.deref.ensures ∙ c.in-Assign.is) in
    on_ok_then c.assigned_origin.result (λ (h : plain_stmts c.assigned_origin.new.to.items ≡ before (plain_stmts c.args.to.now.items) (prepare_by n (assign_of op e.ctype a b))).
    h ∙ ap (λ x. before (plain_stmts c.args.to.now.items) x) (prepare_placed n a.place e.place (plain_type e.ctype) op (plain_expr a) (plain_expr b) ∙ ap (prepare_by n) (sym is))) c.assigned_origin.ensures.setup

pub evaluation::value-returns-in-Assign-clause-setup : goal.evaluation::value-returns-in-Assign-clause-setup
evaluation::value-returns-in-Assign-clause-setup t c =
    let n = c.args.names.now in
    let e = c.args.e.now in
    let op = c.in-Assign.op in
    let a = c.in-Assign.a in
    let b = c.in-Assign.b in
    let is = assign_expr e op a b (sym c.deref.ensures ∙ c.in-Assign.is) in
    on_ok_then c.assigned_value.result (λ (h : plain_stmts c.assigned_value.new.to.items ≡ before (plain_stmts c.args.to.now.items) (prepare_by n (assign_of op e.ctype a b))).
    h ∙ ap (λ x. before (plain_stmts c.args.to.now.items) x) (prepare_placed n a.place e.place (plain_type e.ctype) op (plain_expr a) (plain_expr b) ∙ ap (prepare_by n) (sym is))) c.assigned_value.ensures.setup

pub evaluation::value-returns-in-Assign-clause-value : goal.evaluation::value-returns-in-Assign-clause-value
evaluation::value-returns-in-Assign-clause-value t c =
    let n = c.args.names.now in
    let e = c.args.e.now in
    let op = c.in-Assign.op in
    let a = c.in-Assign.a in
    let b = c.in-Assign.b in
    let is = assign_expr e op a b (sym c.deref.ensures ∙ c.in-Assign.is) in
    if_ok_then c.assigned_value.result (λ (m : MonExpr) (h : plain_monitored m ≡ result_by n (assign_of op e.ctype a b)).
    h ∙ result_placed n a.place e.place (plain_type e.ctype) op (plain_expr a) (plain_expr b) ∙ ap (result_by n) (sym is)) c.assigned_value.ensures.value

-- ---- operators and elements, wherever they stand

pub evaluation::value-returns-in-Binary-clause-value : goal.evaluation::value-returns-in-Binary-clause-value
evaluation::value-returns-in-Binary-clause-value t c =
    let is = binary_expr c.args.e.now c.in-Binary.op c.in-Binary.a c.in-Binary.b (sym c.deref.ensures ∙ c.in-Binary.is) in
    subst (λ (x : Expression). IfOk c.binary.result (λ (m : MonExpr). plain_monitored m ≡ result_by c.args.names.now x)) (sym is) c.binary.ensures.value

pub evaluation::value-returns-in-Choice-clause-setup : goal.evaluation::value-returns-in-Choice-clause-setup
evaluation::value-returns-in-Choice-clause-setup t c =
    let is = choice_expr c.args.e.now c.in-Choice.a c.in-Choice.b c.in-Choice.c (sym c.deref.ensures ∙ c.in-Choice.is) in
    subst (λ (x : Expression). OnOk c.choice.result (plain_stmts c.choice.new.to.items ≡ before (plain_stmts c.args.to.now.items) (prepare_by c.args.names.now x))) (sym is) c.choice.ensures.setup

pub evaluation::value-returns-in-Index-clause-value : goal.evaluation::value-returns-in-Index-clause-value
evaluation::value-returns-in-Index-clause-value t c =
    let is = index_expr c.args.e.now c.in-Index.a c.in-Index.b (sym c.deref.ensures ∙ c.in-Index.is) in
    subst (λ (x : Expression). IfOk c.element_value.result (λ (m : MonExpr). plain_monitored m ≡ result_by c.args.names.now x)) (sym is) c.element_value.ensures.value

-- ---- what is no member of an object

pub evaluation::origin-returns-in-Number-clause-value : goal.evaluation::origin-returns-in-Number-clause-value
evaluation::origin-returns-in-Number-clause-value t c =
    let n = c.args.names.now in
    let e = c.args.e.now in
    if_ok_then c.location.result (λ (m : MonExpr) (h : plain_monitored m ≡ location_by n (plain_expr e)).
    h ∙ sym (origin_elsewhere n e.place (plain_type e.ctype) e.kind.value (subst IsElsewhere c.deref.ensures c.in-Number.is))) c.location.ensures.value

-- ---- what a function for the form of an expression gives

pub evaluation::value-returns-in-Unary-clause-value : goal.evaluation::value-returns-in-Unary-clause-value
evaluation::value-returns-in-Unary-clause-value t c =
    value_at c.args.names.now c.args.e.now (sym c.deref.ensures ∙ c.in-Unary.is) c.prefixed.result
    (if_ok_then c.prefixed.result (λ (m : MonExpr) (h : plain_monitored m ≡ result_by c.args.names.now (unary_of c.args.e.now.ctype c.in-Unary.op c.in-Unary.a)).
    h ∙ unary_placed c.args.names.now c.in-Unary.a.place c.args.e.now.place (plain_type c.args.e.now.ctype) c.in-Unary.op (plain_expr c.in-Unary.a)) c.prefixed.ensures.value)

pub evaluation::value-returns-in-Unary-clause-setup : goal.evaluation::value-returns-in-Unary-clause-setup
evaluation::value-returns-in-Unary-clause-setup t c =
    prepare_at c.args.names.now c.args.e.now (sym c.deref.ensures ∙ c.in-Unary.is) c.prefixed.result (plain_stmts c.args.to.now.items) (plain_stmts c.prefixed.new.to.items) c.prefixed.ensures.setup

pub evaluation::value-returns-in-Unary-clause-names : goal.evaluation::value-returns-in-Unary-clause-names
evaluation::value-returns-in-Unary-clause-names t c =
    takes_at c.args.names.now c.args.e.now (sym c.deref.ensures ∙ c.in-Unary.is) c.prefixed.result c.prefixed.new.names c.prefixed.ensures.names

pub evaluation::value-returns-in-Binary-clause-setup : goal.evaluation::value-returns-in-Binary-clause-setup
evaluation::value-returns-in-Binary-clause-setup t c =
    prepare_at c.args.names.now c.args.e.now (sym c.deref.ensures ∙ c.in-Binary.is) c.binary.result (plain_stmts c.args.to.now.items) (plain_stmts c.binary.new.to.items) c.binary.ensures.setup

pub evaluation::value-returns-in-Binary-clause-names : goal.evaluation::value-returns-in-Binary-clause-names
evaluation::value-returns-in-Binary-clause-names t c =
    takes_at c.args.names.now c.args.e.now (sym c.deref.ensures ∙ c.in-Binary.is) c.binary.result c.binary.new.names c.binary.ensures.names

pub evaluation::value-returns-in-Both-clause-value : goal.evaluation::value-returns-in-Both-clause-value
evaluation::value-returns-in-Both-clause-value t c =
    value_at c.args.names.now c.args.e.now (sym c.deref.ensures ∙ c.in-Both.is) c.and.result c.and.ensures.value

pub evaluation::value-returns-in-Both-clause-setup : goal.evaluation::value-returns-in-Both-clause-setup
evaluation::value-returns-in-Both-clause-setup t c =
    prepare_at c.args.names.now c.args.e.now (sym c.deref.ensures ∙ c.in-Both.is) c.and.result (plain_stmts c.args.to.now.items) (plain_stmts c.and.new.to.items) c.and.ensures.setup

pub evaluation::value-returns-in-Both-clause-names : goal.evaluation::value-returns-in-Both-clause-names
evaluation::value-returns-in-Both-clause-names t c =
    takes_at c.args.names.now c.args.e.now (sym c.deref.ensures ∙ c.in-Both.is) c.and.result c.and.new.names c.and.ensures.names

pub evaluation::value-returns-in-Either-clause-value : goal.evaluation::value-returns-in-Either-clause-value
evaluation::value-returns-in-Either-clause-value t c =
    value_at c.args.names.now c.args.e.now (sym c.deref.ensures ∙ c.in-Either.is) c.or.result c.or.ensures.value

pub evaluation::value-returns-in-Either-clause-setup : goal.evaluation::value-returns-in-Either-clause-setup
evaluation::value-returns-in-Either-clause-setup t c =
    prepare_at c.args.names.now c.args.e.now (sym c.deref.ensures ∙ c.in-Either.is) c.or.result (plain_stmts c.args.to.now.items) (plain_stmts c.or.new.to.items) c.or.ensures.setup

pub evaluation::value-returns-in-Either-clause-names : goal.evaluation::value-returns-in-Either-clause-names
evaluation::value-returns-in-Either-clause-names t c =
    takes_at c.args.names.now c.args.e.now (sym c.deref.ensures ∙ c.in-Either.is) c.or.result c.or.new.names c.or.ensures.names

pub evaluation::value-returns-in-Choice-clause-value : goal.evaluation::value-returns-in-Choice-clause-value
evaluation::value-returns-in-Choice-clause-value t c =
    value_at c.args.names.now c.args.e.now (sym c.deref.ensures ∙ c.in-Choice.is) c.choice.result c.choice.ensures.value

pub evaluation::value-returns-in-Choice-clause-names : goal.evaluation::value-returns-in-Choice-clause-names
evaluation::value-returns-in-Choice-clause-names t c =
    takes_at c.args.names.now c.args.e.now (sym c.deref.ensures ∙ c.in-Choice.is) c.choice.result c.choice.new.names c.choice.ensures.names

pub evaluation::value-returns-in-Assign-clause-names : goal.evaluation::value-returns-in-Assign-clause-names
evaluation::value-returns-in-Assign-clause-names t c =
    takes_at c.args.names.now c.args.e.now (sym c.deref.ensures ∙ c.in-Assign.is) c.assigned_value.result c.assigned_value.new.names
    (on_ok_then c.assigned_value.result (λ (h : c.assigned_value.new.names ≡ with_registers (takes (unit_of c.args.names.now) (assign_of c.in-Assign.op c.args.e.now.ctype c.in-Assign.a c.in-Assign.b)) c.args.names.now).
    h ∙ ap (λ ts. with_registers ts c.args.names.now) (takes_placed c.args.names.now c.in-Assign.a.place c.args.e.now.place (plain_type c.args.e.now.ctype)
    c.in-Assign.op (plain_expr c.in-Assign.a) (plain_expr c.in-Assign.b))) c.assigned_value.ensures.names)

pub evaluation::value-returns-in-Bump-clause-value : goal.evaluation::value-returns-in-Bump-clause-value
evaluation::value-returns-in-Bump-clause-value t c =
    value_at c.args.names.now c.args.e.now (sym c.deref.ensures ∙ c.in-Bump.is) c.bumped.result c.bumped.ensures.value

pub evaluation::value-returns-in-Bump-clause-setup : goal.evaluation::value-returns-in-Bump-clause-setup
evaluation::value-returns-in-Bump-clause-setup t c =
    prepare_at c.args.names.now c.args.e.now (sym c.deref.ensures ∙ c.in-Bump.is) c.bumped.result (plain_stmts c.args.to.now.items) (plain_stmts c.bumped.new.to.items) c.bumped.ensures.setup

pub evaluation::value-returns-in-Bump-clause-names : goal.evaluation::value-returns-in-Bump-clause-names
evaluation::value-returns-in-Bump-clause-names t c =
    takes_at c.args.names.now c.args.e.now (sym c.deref.ensures ∙ c.in-Bump.is) c.bumped.result c.bumped.new.names c.bumped.ensures.names

pub evaluation::value-returns-in-Cast-clause-value : goal.evaluation::value-returns-in-Cast-clause-value
evaluation::value-returns-in-Cast-clause-value t c =
    value_at c.args.names.now c.args.e.now (sym c.deref.ensures ∙ c.in-Cast.is) c.cast.result c.cast.ensures.value

pub evaluation::value-returns-in-Cast-clause-setup : goal.evaluation::value-returns-in-Cast-clause-setup
evaluation::value-returns-in-Cast-clause-setup t c =
    prepare_at c.args.names.now c.args.e.now (sym c.deref.ensures ∙ c.in-Cast.is) c.cast.result (plain_stmts c.args.to.now.items) (plain_stmts c.cast.new.to.items) c.cast.ensures.setup

pub evaluation::value-returns-in-Cast-clause-names : goal.evaluation::value-returns-in-Cast-clause-names
evaluation::value-returns-in-Cast-clause-names t c =
    takes_at c.args.names.now c.args.e.now (sym c.deref.ensures ∙ c.in-Cast.is) c.cast.result c.cast.new.names c.cast.ensures.names

pub evaluation::value-returns-in-Index-clause-setup : goal.evaluation::value-returns-in-Index-clause-setup
evaluation::value-returns-in-Index-clause-setup t c =
    prepare_at c.args.names.now c.args.e.now (sym c.deref.ensures ∙ c.in-Index.is) c.element_value.result (plain_stmts c.args.to.now.items) (plain_stmts c.element_value.new.to.items)
    c.element_value.ensures.setup

pub evaluation::value-returns-in-Index-clause-names : goal.evaluation::value-returns-in-Index-clause-names
evaluation::value-returns-in-Index-clause-names t c =
    takes_at c.args.names.now c.args.e.now (sym c.deref.ensures ∙ c.in-Index.is) c.element_value.result c.element_value.new.names c.element_value.ensures.names

pub evaluation::value-returns-in-Dot-clause-value : goal.evaluation::value-returns-in-Dot-clause-value
evaluation::value-returns-in-Dot-clause-value t c =
    value_at c.args.names.now c.args.e.now (sym c.deref.ensures ∙ c.in-Dot.is) c.member_value.result c.member_value.ensures.value

pub evaluation::value-returns-in-Dot-clause-setup : goal.evaluation::value-returns-in-Dot-clause-setup
evaluation::value-returns-in-Dot-clause-setup t c =
    prepare_at c.args.names.now c.args.e.now (sym c.deref.ensures ∙ c.in-Dot.is) c.member_value.result (plain_stmts c.args.to.now.items) (plain_stmts c.member_value.new.to.items)
    c.member_value.ensures.setup

pub evaluation::value-returns-in-Dot-clause-names : goal.evaluation::value-returns-in-Dot-clause-names
evaluation::value-returns-in-Dot-clause-names t c =
    takes_at c.args.names.now c.args.e.now (sym c.deref.ensures ∙ c.in-Dot.is) c.member_value.result c.member_value.new.names c.member_value.ensures.names

pub evaluation::value-returns-in-Arrow-clause-value : goal.evaluation::value-returns-in-Arrow-clause-value
evaluation::value-returns-in-Arrow-clause-value t c =
    value_at c.args.names.now c.args.e.now (sym c.deref.ensures ∙ c.in-Arrow.is) c.member_behind_value.result c.member_behind_value.ensures.value

pub evaluation::value-returns-in-Arrow-clause-setup : goal.evaluation::value-returns-in-Arrow-clause-setup
evaluation::value-returns-in-Arrow-clause-setup t c =
    prepare_at c.args.names.now c.args.e.now (sym c.deref.ensures ∙ c.in-Arrow.is) c.member_behind_value.result (plain_stmts c.args.to.now.items) (plain_stmts c.member_behind_value.new.to.items)
    c.member_behind_value.ensures.setup

pub evaluation::value-returns-in-Arrow-clause-names : goal.evaluation::value-returns-in-Arrow-clause-names
evaluation::value-returns-in-Arrow-clause-names t c =
    takes_at c.args.names.now c.args.e.now (sym c.deref.ensures ∙ c.in-Arrow.is) c.member_behind_value.result c.member_behind_value.new.names c.member_behind_value.ensures.names

pub evaluation::value-returns-in-Comma-clause-value : goal.evaluation::value-returns-in-Comma-clause-value
evaluation::value-returns-in-Comma-clause-value t c =
    value_at c.args.names.now c.args.e.now (sym c.deref.ensures ∙ c.in-Comma.is) c.second_value.result c.second_value.ensures.value

pub evaluation::value-returns-in-Comma-clause-setup : goal.evaluation::value-returns-in-Comma-clause-setup
evaluation::value-returns-in-Comma-clause-setup t c =
    prepare_at c.args.names.now c.args.e.now (sym c.deref.ensures ∙ c.in-Comma.is) c.second_value.result (plain_stmts c.args.to.now.items) (plain_stmts c.second_value.new.to.items)
    c.second_value.ensures.setup

pub evaluation::value-returns-in-Comma-clause-names : goal.evaluation::value-returns-in-Comma-clause-names
evaluation::value-returns-in-Comma-clause-names t c =
    takes_at c.args.names.now c.args.e.now (sym c.deref.ensures ∙ c.in-Comma.is) c.second_value.result c.second_value.new.names c.second_value.ensures.names

pub evaluation::location-returns-in-Unary-clause-value : goal.evaluation::location-returns-in-Unary-clause-value
evaluation::location-returns-in-Unary-clause-value t c =
    location_at c.args.names.now c.args.e.now (sym c.deref.ensures ∙ c.in-Unary.is) c.pointed_to.result
    (if_ok_then c.pointed_to.result (λ (m : MonExpr) (h : plain_monitored m ≡ location_by c.args.names.now (unary_of c.in-Unary.a.ctype c.in-Unary.op c.in-Unary.a)).
    h ∙ pointed_placed c.args.names.now c.in-Unary.a.place c.args.e.now.place (plain_type c.in-Unary.a.ctype) (plain_type c.args.e.now.ctype) c.in-Unary.op (plain_expr c.in-Unary.a)) c.pointed_to.ensures.value)

pub evaluation::location-returns-in-Unary-clause-setup : goal.evaluation::location-returns-in-Unary-clause-setup
evaluation::location-returns-in-Unary-clause-setup t c =
    prepare_at c.args.names.now c.args.e.now (sym c.deref.ensures ∙ c.in-Unary.is) c.pointed_to.result (plain_stmts c.args.to.now.items) (plain_stmts c.pointed_to.new.to.items) c.pointed_to.ensures.setup

pub evaluation::location-returns-in-Unary-clause-names : goal.evaluation::location-returns-in-Unary-clause-names
evaluation::location-returns-in-Unary-clause-names t c =
    takes_at c.args.names.now c.args.e.now (sym c.deref.ensures ∙ c.in-Unary.is) c.pointed_to.result c.pointed_to.new.names c.pointed_to.ensures.names

pub evaluation::location-returns-in-Index-clause-value : goal.evaluation::location-returns-in-Index-clause-value
evaluation::location-returns-in-Index-clause-value t c =
    location_at c.args.names.now c.args.e.now (sym c.deref.ensures ∙ c.in-Index.is) c.element.result c.element.ensures.value

pub evaluation::location-returns-in-Index-clause-setup : goal.evaluation::location-returns-in-Index-clause-setup
evaluation::location-returns-in-Index-clause-setup t c =
    prepare_at c.args.names.now c.args.e.now (sym c.deref.ensures ∙ c.in-Index.is) c.element.result (plain_stmts c.args.to.now.items) (plain_stmts c.element.new.to.items) c.element.ensures.setup

pub evaluation::location-returns-in-Index-clause-names : goal.evaluation::location-returns-in-Index-clause-names
evaluation::location-returns-in-Index-clause-names t c =
    takes_at c.args.names.now c.args.e.now (sym c.deref.ensures ∙ c.in-Index.is) c.element.result c.element.new.names c.element.ensures.names

pub evaluation::location-returns-in-Dot-clause-value : goal.evaluation::location-returns-in-Dot-clause-value
evaluation::location-returns-in-Dot-clause-value t c =
    location_at c.args.names.now c.args.e.now (sym c.deref.ensures ∙ c.in-Dot.is) c.member.result c.member.ensures.value

pub evaluation::location-returns-in-Dot-clause-setup : goal.evaluation::location-returns-in-Dot-clause-setup
evaluation::location-returns-in-Dot-clause-setup t c =
    prepare_at c.args.names.now c.args.e.now (sym c.deref.ensures ∙ c.in-Dot.is) c.member.result (plain_stmts c.args.to.now.items) (plain_stmts c.member.new.to.items) c.member.ensures.setup

pub evaluation::location-returns-in-Dot-clause-names : goal.evaluation::location-returns-in-Dot-clause-names
evaluation::location-returns-in-Dot-clause-names t c =
    takes_at c.args.names.now c.args.e.now (sym c.deref.ensures ∙ c.in-Dot.is) c.member.result c.member.new.names c.member.ensures.names

pub evaluation::location-returns-in-Arrow-clause-value : goal.evaluation::location-returns-in-Arrow-clause-value
evaluation::location-returns-in-Arrow-clause-value t c =
    location_at c.args.names.now c.args.e.now (sym c.deref.ensures ∙ c.in-Arrow.is) c.member_behind.result c.member_behind.ensures.value

pub evaluation::location-returns-in-Arrow-clause-setup : goal.evaluation::location-returns-in-Arrow-clause-setup
evaluation::location-returns-in-Arrow-clause-setup t c =
    prepare_at c.args.names.now c.args.e.now (sym c.deref.ensures ∙ c.in-Arrow.is) c.member_behind.result (plain_stmts c.args.to.now.items) (plain_stmts c.member_behind.new.to.items)
    c.member_behind.ensures.setup

pub evaluation::location-returns-in-Arrow-clause-names : goal.evaluation::location-returns-in-Arrow-clause-names
evaluation::location-returns-in-Arrow-clause-names t c =
    takes_at c.args.names.now c.args.e.now (sym c.deref.ensures ∙ c.in-Arrow.is) c.member_behind.result c.member_behind.new.names c.member_behind.ensures.names

pub evaluation::location-returns-in-Assign-clause-value : goal.evaluation::location-returns-in-Assign-clause-value
evaluation::location-returns-in-Assign-clause-value t c =
    location_at c.args.names.now c.args.e.now (sym c.deref.ensures ∙ c.in-Assign.is) c.assigned_location.result c.assigned_location.ensures.value

pub evaluation::location-returns-in-Assign-clause-names : goal.evaluation::location-returns-in-Assign-clause-names
evaluation::location-returns-in-Assign-clause-names t c =
    takes_at c.args.names.now c.args.e.now (sym c.deref.ensures ∙ c.in-Assign.is) c.assigned_location.result c.assigned_location.new.names
    (on_ok_then c.assigned_location.result (λ (h : c.assigned_location.new.names ≡ with_registers (takes (unit_of c.args.names.now) (assign_of c.in-Assign.op c.args.e.now.ctype c.in-Assign.a c.in-Assign.b)) c.args.names.now).
    h ∙ ap (λ ts. with_registers ts c.args.names.now) (takes_placed c.args.names.now c.in-Assign.a.place c.args.e.now.place (plain_type c.args.e.now.ctype)
    c.in-Assign.op (plain_expr c.in-Assign.a) (plain_expr c.in-Assign.b))) c.assigned_location.ensures.names)

pub evaluation::location-returns-in-Comma-clause-value : goal.evaluation::location-returns-in-Comma-clause-value
evaluation::location-returns-in-Comma-clause-value t c =
    location_at c.args.names.now c.args.e.now (sym c.deref.ensures ∙ c.in-Comma.is) c.second_location.result c.second_location.ensures.value

pub evaluation::location-returns-in-Comma-clause-setup : goal.evaluation::location-returns-in-Comma-clause-setup
evaluation::location-returns-in-Comma-clause-setup t c =
    prepare_at c.args.names.now c.args.e.now (sym c.deref.ensures ∙ c.in-Comma.is) c.second_location.result (plain_stmts c.args.to.now.items) (plain_stmts c.second_location.new.to.items)
    c.second_location.ensures.setup

pub evaluation::location-returns-in-Comma-clause-names : goal.evaluation::location-returns-in-Comma-clause-names
evaluation::location-returns-in-Comma-clause-names t c =
    takes_at c.args.names.now c.args.e.now (sym c.deref.ensures ∙ c.in-Comma.is) c.second_location.result c.second_location.new.names c.second_location.ensures.names

pub evaluation::value-returns-in-Number-clause-setup : goal.evaluation::value-returns-in-Number-clause-setup
evaluation::value-returns-in-Number-clause-setup t c =
    let t0 = plain_stmts c.args.to.now.items in
    prepare_at c.args.names.now c.args.e.now (sym c.deref.ensures ∙ c.in-Number.is) c.constant.result t0 t0 (on_ok c.constant.result (sym (before_none t0)))

pub evaluation::value-returns-in-Letter-clause-setup : goal.evaluation::value-returns-in-Letter-clause-setup
evaluation::value-returns-in-Letter-clause-setup t c =
    let t0 = plain_stmts c.args.to.now.items in
    prepare_at c.args.names.now c.args.e.now (sym c.deref.ensures ∙ c.in-Letter.is) c.constant-in-Letter.result t0 t0 (on_ok c.constant-in-Letter.result (sym (before_none t0)))

pub evaluation::value-returns-in-Text-clause-setup : goal.evaluation::value-returns-in-Text-clause-setup
evaluation::value-returns-in-Text-clause-setup t c =
    let t0 = plain_stmts c.args.to.now.items in
    prepare_at c.args.names.now c.args.e.now (sym c.deref.ensures ∙ c.in-Text.is) c.literal.result t0 t0 (on_ok c.literal.result (sym (before_none t0)))

pub evaluation::value-returns-in-Variable-clause-setup : goal.evaluation::value-returns-in-Variable-clause-setup
evaluation::value-returns-in-Variable-clause-setup t c =
    let t0 = plain_stmts c.args.to.now.items in
    prepare_at c.args.names.now c.args.e.now (sym c.deref.ensures ∙ c.in-Variable.is) c.variable.result t0 t0 (on_ok c.variable.result (sym (before_none t0)))

pub evaluation::value-returns-in-SizeOfType-clause-setup : goal.evaluation::value-returns-in-SizeOfType-clause-setup
evaluation::value-returns-in-SizeOfType-clause-setup t c =
    let t0 = plain_stmts c.args.to.now.items in
    prepare_at c.args.names.now c.args.e.now (sym c.deref.ensures ∙ c.in-SizeOfType.is) c.size_constant.result t0 t0 (on_ok c.size_constant.result (sym (before_none t0)))

pub evaluation::value-returns-in-SizeOfExpr-clause-setup : goal.evaluation::value-returns-in-SizeOfExpr-clause-setup
evaluation::value-returns-in-SizeOfExpr-clause-setup t c =
    let t0 = plain_stmts c.args.to.now.items in
    prepare_at c.args.names.now c.args.e.now (sym c.deref.ensures ∙ c.in-SizeOfExpr.is) c.size_constant-in-SizeOfExpr.result t0 t0 (on_ok c.size_constant-in-SizeOfExpr.result (sym (before_none t0)))

-- ---- letters of two sides

pub evaluation::binary-returns-clause-letters : goal.evaluation::binary-returns-clause-letters
evaluation::binary-returns-clause-letters t c = on_ok c.operated.result (c.in_ok-first.ensures.letters, c.in_ok-second.ensures.letters)

pub evaluation::element-returns-clause-letters : goal.evaluation::element-returns-clause-letters
evaluation::element-returns-clause-letters t c = on_ok c.indexed.result (c.in_ok-first.ensures.letters, c.in_ok-second.ensures.letters)

pub evaluation::and-returns-clause-letters : goal.evaluation::and-returns-clause-letters
evaluation::and-returns-clause-letters t c = on_ok c.both.result (c.in_ok-test.ensures.letters, c.in_ok-right.ensures.letters)

pub evaluation::or-returns-clause-letters : goal.evaluation::or-returns-clause-letters
evaluation::or-returns-clause-letters t c = on_ok c.either.result (c.in_ok-test.ensures.letters, c.in_ok-right.ensures.letters)

pub evaluation::choice-returns-clause-letters : goal.evaluation::choice-returns-clause-letters
evaluation::choice-returns-clause-letters t c = on_ok c.choose.result (c.in_ok-test.ensures.letters, c.in_ok-first.ensures.letters, c.in_ok-second.ensures.letters)

pub evaluation::second_value-returns-clause-letters : goal.evaluation::second_value-returns-clause-letters
evaluation::second_value-returns-clause-letters t c = on_ok_then c.value.result (λ l. (c.in_ok-act.ensures.letters, l)) c.value.ensures.letters

pub evaluation::second_location-returns-clause-letters : goal.evaluation::second_location-returns-clause-letters
evaluation::second_location-returns-clause-letters t c = on_ok_then c.location.result (λ l. (c.in_ok-act.ensures.letters, l)) c.location.ensures.letters

pub evaluation::second_origin-returns-clause-letters : goal.evaluation::second_origin-returns-clause-letters
evaluation::second_origin-returns-clause-letters t c = on_ok_then c.origin.result (λ l. (c.in_ok-act.ensures.letters, l)) c.origin.ensures.letters

pub evaluation::origin-returns-in-Dot-clause-value : goal.evaluation::origin-returns-in-Dot-clause-value
evaluation::origin-returns-in-Dot-clause-value t c =
    origin_at c.args.names.now c.args.e.now (sym c.deref.ensures ∙ c.in-Dot.is) c.origin.result c.origin.ensures.value

pub evaluation::origin-returns-in-Dot-clause-setup : goal.evaluation::origin-returns-in-Dot-clause-setup
evaluation::origin-returns-in-Dot-clause-setup t c =
    prepare_at c.args.names.now c.args.e.now (sym c.deref.ensures ∙ c.in-Dot.is) c.origin.result (plain_stmts c.args.to.now.items) (plain_stmts c.origin.new.to.items) c.origin.ensures.setup

pub evaluation::origin-returns-in-Dot-clause-names : goal.evaluation::origin-returns-in-Dot-clause-names
evaluation::origin-returns-in-Dot-clause-names t c =
    takes_at c.args.names.now c.args.e.now (sym c.deref.ensures ∙ c.in-Dot.is) c.origin.result c.origin.new.names c.origin.ensures.names

pub evaluation::origin-returns-in-Arrow-clause-value : goal.evaluation::origin-returns-in-Arrow-clause-value
evaluation::origin-returns-in-Arrow-clause-value t c =
    origin_at c.args.names.now c.args.e.now (sym c.deref.ensures ∙ c.in-Arrow.is) c.value.result c.value.ensures.value

pub evaluation::origin-returns-in-Arrow-clause-setup : goal.evaluation::origin-returns-in-Arrow-clause-setup
evaluation::origin-returns-in-Arrow-clause-setup t c =
    prepare_at c.args.names.now c.args.e.now (sym c.deref.ensures ∙ c.in-Arrow.is) c.value.result (plain_stmts c.args.to.now.items) (plain_stmts c.value.new.to.items) c.value.ensures.setup

pub evaluation::origin-returns-in-Arrow-clause-names : goal.evaluation::origin-returns-in-Arrow-clause-names
evaluation::origin-returns-in-Arrow-clause-names t c =
    takes_at c.args.names.now c.args.e.now (sym c.deref.ensures ∙ c.in-Arrow.is) c.value.result c.value.new.names c.value.ensures.names

pub evaluation::origin-returns-in-Assign-clause-value : goal.evaluation::origin-returns-in-Assign-clause-value
evaluation::origin-returns-in-Assign-clause-value t c =
    origin_at c.args.names.now c.args.e.now (sym c.deref.ensures ∙ c.in-Assign.is) c.assigned_origin.result c.assigned_origin.ensures.value

pub evaluation::origin-returns-in-Assign-clause-names : goal.evaluation::origin-returns-in-Assign-clause-names
evaluation::origin-returns-in-Assign-clause-names t c =
    takes_at c.args.names.now c.args.e.now (sym c.deref.ensures ∙ c.in-Assign.is) c.assigned_origin.result c.assigned_origin.new.names
    (on_ok_then c.assigned_origin.result (λ (h : c.assigned_origin.new.names ≡ with_registers (takes (unit_of c.args.names.now) (assign_of c.in-Assign.op c.args.e.now.ctype c.in-Assign.a c.in-Assign.b)) c.args.names.now).
    h ∙ ap (λ ts. with_registers ts c.args.names.now) (takes_placed c.args.names.now c.in-Assign.a.place c.args.e.now.place (plain_type c.args.e.now.ctype)
    c.in-Assign.op (plain_expr c.in-Assign.a) (plain_expr c.in-Assign.b))) c.assigned_origin.ensures.names)

pub evaluation::origin-returns-in-Comma-clause-value : goal.evaluation::origin-returns-in-Comma-clause-value
evaluation::origin-returns-in-Comma-clause-value t c =
    origin_at c.args.names.now c.args.e.now (sym c.deref.ensures ∙ c.in-Comma.is) c.second_origin.result c.second_origin.ensures.value

pub evaluation::origin-returns-in-Comma-clause-setup : goal.evaluation::origin-returns-in-Comma-clause-setup
evaluation::origin-returns-in-Comma-clause-setup t c =
    prepare_at c.args.names.now c.args.e.now (sym c.deref.ensures ∙ c.in-Comma.is) c.second_origin.result (plain_stmts c.args.to.now.items) (plain_stmts c.second_origin.new.to.items)
    c.second_origin.ensures.setup

pub evaluation::origin-returns-in-Comma-clause-names : goal.evaluation::origin-returns-in-Comma-clause-names
evaluation::origin-returns-in-Comma-clause-names t c =
    takes_at c.args.names.now c.args.e.now (sym c.deref.ensures ∙ c.in-Comma.is) c.second_origin.result c.second_origin.new.names c.second_origin.ensures.names
