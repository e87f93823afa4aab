use Rattle.std.proofs.Common.{rules, ◌≡◌, map, Err, sym, subst}
use Rattle.mon_syntax.specs.declared.tree.MonType.TheVariants.{Ptr}
use Rattle.mon_syntax.specs.Trees.{MonStatement, plain_expr, plain_stmt}
use Rattle.mon_syntax.specs.Checking.{Checked, value_of_type}
use Rattle.mon_parser.specs.ParsedTrees.{plain_arg}
use Rattle.mon_typing.specs.Answers.{Gives}
use Rattle.mon_typing.specs.Arguments.{copy_size}
use Rattle.mon_typing.specs.Scopes.{plain_scope}
use Rattle.mon_typing.proofs.Calls.{second_fails, both_taken}
use Rattle.mon_typing.proofs.call.copy_call.Goals as goal

pub returns-in_err-source : goal.returns-in_err-source
returns-in_err-source c =
    let s = plain_scope c.args.scope.now in
    let e : c.from_residual-in_err-source.result ≡ Err c.in_err-source.field-0.0 = search rules in
    rw e (second_fails s c.args.place (value_of_type s Ptr) (value_of_type s Ptr) (λ p o. copy_size s c.args.place p o) (map plain_arg c.args.arguments.now) (map plain_arg c.in_ok-target.more.now) (plain_expr c.in_ok-target.target)
    c.in_err-source.field-0.0 c.in_ok-target.ensures c.in_err-source.ensures)

pub returns : goal.returns
returns c =
    let s = plain_scope c.args.scope.now in
    subst (λ (x : Checked MonStatement). Gives plain_stmt c.copy_size.result x)
    (sym (both_taken s c.args.place (value_of_type s Ptr) (value_of_type s Ptr) (λ p o. copy_size s c.args.place p o) (map plain_arg c.args.arguments.now) (map plain_arg c.in_ok-target.more.now) (map plain_arg c.in_ok-source.more.now)
    (plain_expr c.in_ok-target.target) (plain_expr c.in_ok-source.source) c.in_ok-target.ensures c.in_ok-source.ensures))
    c.copy_size.ensures
