use Rattle.std.proofs.Common.{◌≡◌, rules, Option, Some, Err, option_map, subst, sym}
use Rattle.c_syntax.specs.Ctypes.{plain_type}
use Rattle.c_syntax.specs.Expressions.{Expression, plain_expr}
use Rattle.c_syntax.specs.Statements.{Statement, Return}
use Rattle.c_model.specs.Checked.{Checked, Good, one_part}
use Rattle.c_model.specs.ExpressionTyping.{decayed_of, typed}
use Rattle.c_model.specs.StatementTyping.{returned, typed_maybe}
use Rattle.c_scopes.specs.Answers.{Answers}
use Rattle.c_scopes.specs.Sights.{plain_sight}
use Rattle.c_scopes.proofs.Least.{one_refused}
use Rattle.c_function_rules.proofs.statement.type_return.Goals as goal

pub returns-in_err-type_value-in-Some : goal.returns-in_err-type_value-in-Some
returns-in_err-type_value-in-Some c =
    let s = plain_sight c.args.sight.now in
    let f = c.in_err-type_value-in-Some.field-0.0 in
    let is : c.from_residual.result ≡ Err f = search rules in
    let x = plain_expr c.in-Some.e in
    let check : Expression → Checked Expression = λ e. decayed_of (typed s e) in
    let k = returned s c.args.place (plain_type c.args.ctype.now) in
    let value : Unit {0} → Expression = λ u. plain_expr c.type_value.new.e in
    let some : Unit {0} → Option Expression = λ u. Some (plain_expr c.type_value.new.e) in
    let left : Unit {0} → Statement = λ u. Return c.args.place (Some (plain_expr c.type_value.new.e)) in
    let h : Answers value (check x) (Err f) = search rules in
    let there = one_refused k some left (typed_maybe check (Some x)) f (one_refused (λ (e : Expression). Good (Some e)) value some (check x) f h) in
    let was = subst (λ e. Answers left (one_part (typed_maybe check (option_map plain_expr e)) k) (Err f)) (sym c.in-Some.is) there in
    rw is was
