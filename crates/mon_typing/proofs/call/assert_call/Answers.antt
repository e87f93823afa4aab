use Rattle.std.proofs.Common.{rules, ◌≡◌, map, Err, sym, subst}
use Rattle.mon_syntax.specs.declared.tree.MonType.TheVariants.{I32}
use Rattle.mon_syntax.specs.Trees.{MonStatement, plain_expr, plain_stmt}
use Rattle.mon_syntax.specs.Checking.{Checked, value_of_type}
use Rattle.mon_parser.specs.ParsedTrees.{plain_arg}
use Rattle.mon_typing.specs.Answers.{Gives}
use Rattle.mon_typing.specs.Arguments.{assert_numbers}
use Rattle.mon_typing.specs.Scopes.{plain_scope}
use Rattle.mon_typing.proofs.Calls.{second_fails, both_taken}
use Rattle.mon_typing.proofs.call.assert_call.Goals as goal

pub returns-in_err-holds : goal.returns-in_err-holds
returns-in_err-holds c =
    let s = plain_scope c.args.scope.now in
    let e : c.from_residual-in_err-holds.result ≡ Err c.in_err-holds.field-0.0 = search rules in
    rw e (second_fails s c.args.place (value_of_type s I32) (value_of_type s I32) (λ d v. assert_numbers s c.args.place d v) (map plain_arg c.args.arguments.now) (map plain_arg c.in_ok-defined.more.now) (plain_expr c.in_ok-defined.defined)
    c.in_err-holds.field-0.0 c.in_ok-defined.ensures c.in_err-holds.ensures)

pub returns : goal.returns
returns c =
    let s = plain_scope c.args.scope.now in
    subst (λ (x : Checked MonStatement). Gives plain_stmt c.assert_numbers.result x)
    (sym (both_taken s c.args.place (value_of_type s I32) (value_of_type s I32) (λ d v. assert_numbers s c.args.place d v) (map plain_arg c.args.arguments.now) (map plain_arg c.in_ok-defined.more.now) (map plain_arg c.in_ok-holds.more.now)
    (plain_expr c.in_ok-defined.defined) (plain_expr c.in_ok-holds.holds) c.in_ok-defined.ensures c.in_ok-holds.ensures))
    c.assert_numbers.ensures
