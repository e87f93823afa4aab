use Rattle.std.proofs.Common.{◌≡◌, rules, subst, sym, true, Err}
use Rattle.c_syntax.specs.Expressions.{plain_expr}
use Rattle.c_syntax.specs.Statements.{One}
use Rattle.c_model.specs.ExpressionTyping.{decayed, typed}
use Rattle.c_syntax.specs.Ctypes.{plain_type}
use Rattle.c_model.specs.DeclarationTyping.{initial_value}
use Rattle.c_expression_rules.specs.Constants.{has_small_sizes}
use Rattle.c_scopes.specs.Sights.{plain_sight}
use Rattle.c_scopes.proofs.Least.{one_refused}
use Rattle.c_expression_rules.proofs.Small.{small_decayed}
use Rattle.c_declaration_rules.specs.Initialisers.{allowed}
use Rattle.c_declaration_rules.proofs.initialiser.type_one.Goals as goal

pub put_value-requires : goal.put_value-requires
put_value-requires c =
    let s = plain_sight c.args.sight.now in
    let small : has_small_sizes s.structs (plain_expr c.type_expr.new.e) ≡ true = search rules in
    let d : plain_expr c.decay.new.e ≡ decayed (plain_expr c.type_expr.new.e) = search rules in
    subst (λ e. has_small_sizes s.structs e ≡ true) (sym d) (small_decayed s.structs (plain_expr c.type_expr.new.e) small)

pub returns-in_err-type_expr : goal.returns-in_err-type_expr
returns-in_err-type_expr c =
    let s = plain_sight c.args.sight.now in
    let e : c.from_residual.result ≡ Err c.in_err-type_expr.field-0.0 = search rules in
    let x = plain_expr c.type_expr.new.e in
    let whole = one_refused {S = Unit {0}} (initial_value s (allowed s c.args.global) c.args.here (plain_type c.args.t.now) (plain_expr c.args.e.now)) (λ (u : Unit {0}). x) (λ u. One x)
    (typed s (plain_expr c.args.e.now)) c.in_err-type_expr.field-0.0 c.in_err-type_expr.ensures.typed in
    search (rules, e, whole)
