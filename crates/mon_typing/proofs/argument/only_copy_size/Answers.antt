use Rattle.std.proofs.Common.{rules, ◌≡◌, map, Err}
use Rattle.mon_syntax.specs.declared.tree.CopySize.{CopySize}
use Rattle.mon_syntax.specs.Checking.{copy_size_named, no_more}
use Rattle.mon_parser.specs.ParsedTrees.{plain_arg}
use Rattle.mon_typing.specs.Scopes.{plain_scope}
use Rattle.mon_typing.proofs.Parts.{fails_at}
use Rattle.mon_typing.proofs.Calls.{last_fails, last_taken}
use Rattle.mon_typing.proofs.argument.only_copy_size.Goals as goal

pub returns-in_err-size : goal.returns-in_err-size
returns-in_err-size c =
    let s = plain_scope c.args.scope.now in
    let e : c.from_residual.result ≡ Err c.in_err-size.field-0.0 = search rules in
    rw e (fails_at s c.args.place (copy_size_named s) (map plain_arg c.args.arguments.now) (λ (k : CopySize) more. no_more s c.args.place more k) c.in_err-size.field-0.0 c.in_err-size.ensures)

pub returns-in_err-no_more : goal.returns-in_err-no_more
returns-in_err-no_more c =
    let s = plain_scope c.args.scope.now in
    let e : c.from_residual-in_err-no_more.result ≡ Err c.in_err-no_more.field-0.0 = search rules in
    rw e (last_fails s c.args.place (copy_size_named s) (map plain_arg c.args.arguments.now) (map plain_arg c.in_ok-size.more.now) c.in_ok-size.size c.in_err-no_more.field-0.0 c.in_ok-size.ensures c.in_err-no_more.ensures)

pub returns : goal.returns
returns c =
    let s = plain_scope c.args.scope.now in
    last_taken s c.args.place (copy_size_named s) (map plain_arg c.args.arguments.now) (map plain_arg c.in_ok-size.more.now) c.in_ok-size.size tt c.in_ok-size.ensures c.in_ok-no_more.ensures
