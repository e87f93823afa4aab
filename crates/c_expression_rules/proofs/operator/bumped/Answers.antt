use Rattle.std.proofs.Common.{rules, pos, ◌≡◌, ap, sym, ◌∙◌, Some, Err}
use Rattle.c_syntax.specs.Ctypes.{PlainType, int_type, plain_type}
use Rattle.c_syntax.specs.Expressions.{Expression, Node, Number, Bump, plain_expr, type_of}
use Rattle.c_syntax.specs.declared.types.CType.{CType}
use Rattle.c_syntax.specs.declared.types.CInt.TheVariants.{I32}
use Rattle.c_syntax.specs.declared.expression.BinOp.TheVariants.{Add}
use Rattle.c_model.specs.Checked.{Good}
use Rattle.c_model.specs.Integers.{integer_type}
use Rattle.c_model.specs.Library.{is_there}
use Rattle.c_scopes.specs.Answers.{Answers}
use Rattle.c_expression_rules.specs.Operators.{compoundable}
use Rattle.c_scopes.specs.Sights.{plain_sight}
use Rattle.c_expression_rules.proofs.Demands.{operated_good, operated_bad}
use Rattle.c_expression_rules.proofs.operator.bumped.Goals as goal

pub returns : goal.returns
returns c =
    let s = plain_sight c.args.sight.now in
    let a = plain_expr c.args.a.now in
    let b = Node c.args.place int_type (Number (pos 1) (Some I32)) in
    let made : PlainType → Expression = λ t. Node c.args.place t (Bump c.args._op a) in
    let e : compoundable s c.args.place Add a (is_there (integer_type (type_of b))) ≡ Good tt = search rules in
    let t : plain_type c.in_ok-ctype.ctype ≡ plain_type c.args.a.now.ctype = search rules in
    operated_good s c.args.place Add a b (made (plain_type c.args.a.now.ctype)) e ∙ ap (λ t. Good (made t)) (sym t)

pub returns-in_err-compoundable : goal.returns-in_err-compoundable
returns-in_err-compoundable c =
    let s = plain_sight c.args.sight.now in
    let a = plain_expr c.args.a.now in
    let b = Node c.args.place int_type (Number (pos 1) (Some I32)) in
    let e : c.from_residual.result ≡ Err c.in_err-compoundable.field-0.0 = search rules in
    let h : Answers (λ (u : Unit {0}). u) (compoundable s c.args.place Add a (is_there (integer_type (type_of b)))) (Err c.in_err-compoundable.field-0.0) = search rules in
    rw e (operated_bad s c.args.place Add a b (Node c.args.place (plain_type c.args.a.now.ctype) (Bump c.args._op a))
    (λ (t : CType). Node c.args.place (plain_type t) (Bump c.args._op a)) c.in_err-compoundable.field-0.0 h)
