use Rattle.std.proofs.Common.{◌≡◌, ℤ, rules, Err}
use Rattle.c_syntax.specs.Expressions.{place_of, plain_expr}
use Rattle.c_model.specs.ExpressionTyping.{constant, decayed_of, typed}
use Rattle.c_scopes.specs.Answers.{Answers}
use Rattle.c_scopes.specs.Sights.{plain_sight}
use Rattle.c_scopes.proofs.Least.{one_refused}
use Rattle.c_function_rules.specs.Cases.{new_value}
use Rattle.c_function_rules.specs.PassedCases.{holds}
use Rattle.c_function_rules.proofs.Cases.{value_refused}
use Rattle.c_function_rules.proofs.switch.type_case_value.Goals as goal

pub returns-in_err-type_value-clause-value : goal.returns-in_err-type_value-clause-value
returns-in_err-type_value-clause-value c =
    let s = plain_sight c.args.sight.now in
    let e : c.from_residual.result ≡ Err c.in_err-type_value.field-0.0 = search rules in
    let x = plain_expr c.type_value.new.e in
    rw e (one_refused _ (λ (u : Unit {0}). x) (λ (z : ℤ). (z, x)) (decayed_of (typed s (plain_expr c.args.e.now))) c.in_err-type_value.field-0.0 c.in_err-type_value.ensures.typed)

pub returns-in_err-z-clause-value : goal.returns-in_err-z-clause-value
returns-in_err-z-clause-value c =
    let s = plain_sight c.args.sight.now in
    let e : c.from_residual-in_err-z.result ≡ Err c.in_err-z.field-0.0 = search rules in
    let x = plain_expr c.type_value.new.e in
    let bad : Answers (λ (z : ℤ). z) (new_value c.args.k (holds c.args.passed.now) (place_of (plain_expr c.args.e.now)) (constant s x)) (Err c.in_err-z.field-0.0) = search rules in
    rw e (value_refused s c.args.k (holds c.args.passed.now) (plain_expr c.args.e.now) x c.in_ok-type_value.ensures.typed (λ (z : ℤ). (z, x)) c.in_err-z.field-0.0 bad)
