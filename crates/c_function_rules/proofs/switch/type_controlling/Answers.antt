use Rattle.std.proofs.Common.{◌≡◌, rules, Err}
use Rattle.c_syntax.specs.declared.types.CInt.{CInt}
use Rattle.c_syntax.specs.Expressions.{plain_expr}
use Rattle.c_model.specs.ExpressionTyping.{decayed_of, typed}
use Rattle.c_model.specs.StatementTyping.{controlling}
use Rattle.c_scopes.specs.Sights.{plain_sight}
use Rattle.c_scopes.proofs.Least.{one_refused}
use Rattle.c_function_rules.proofs.switch.type_controlling.Goals as goal

pub returns-in_err-type_value : goal.returns-in_err-type_value
returns-in_err-type_value c =
    let s = plain_sight c.args.sight.now in
    let e : c.from_residual.result ≡ Err c.in_err-type_value.field-0.0 = search rules in
    let x = plain_expr c.type_value.new.e in
    rw e (one_refused controlling (λ (u : Unit {0}). x) (λ (k : CInt). (k, x)) (decayed_of (typed s (plain_expr c.args.e.now))) c.in_err-type_value.field-0.0 c.in_err-type_value.ensures.typed)
