use Rattle.std.proofs.Common.{rules, ◌≡◌, map, Err, sym, subst}
use Rattle.mon_syntax.specs.Trees.{MonStatement, plain_expr, plain_stmt}
use Rattle.mon_syntax.specs.Checking.{Checked, small_number}
use Rattle.mon_parser.specs.ParsedTrees.{plain_arg}
use Rattle.mon_typing.specs.Answers.{Gives}
use Rattle.mon_typing.specs.Arguments.{assert_kind}
use Rattle.mon_typing.specs.Scopes.{plain_scope}
use Rattle.mon_typing.proofs.Calls.{second_fails, both_taken}
use Rattle.mon_typing.proofs.call.assert_numbers.Goals as goal

pub returns-in_err-line : goal.returns-in_err-line
returns-in_err-line c =
    let s = plain_scope c.args.scope.now in
    let e : c.from_residual-in_err-line.result ≡ Err c.in_err-line.field-0.0 = search rules in
    rw e (second_fails s c.args.place (small_number s) (small_number s) (λ n line. assert_kind s c.args.place (plain_expr c.args.truth.defined) (plain_expr c.args.truth.holds) n line) (map plain_arg c.args.arguments.now)
    (map plain_arg c.in_ok-number.more.now) c.in_ok-number.number c.in_err-line.field-0.0 c.in_ok-number.ensures c.in_err-line.ensures)

pub returns : goal.returns
returns c =
    let s = plain_scope c.args.scope.now in
    subst (λ (x : Checked MonStatement). Gives plain_stmt c.assert_kind.result x)
    (sym (both_taken s c.args.place (small_number s) (small_number s) (λ n line. assert_kind s c.args.place (plain_expr c.args.truth.defined) (plain_expr c.args.truth.holds) n line) (map plain_arg c.args.arguments.now)
    (map plain_arg c.in_ok-number.more.now) (map plain_arg c.in_ok-line.more.now) c.in_ok-number.number c.in_ok-line.line c.in_ok-number.ensures c.in_ok-line.ensures))
    c.assert_kind.ensures
