use Rattle.std.proofs.Common.{rules, ◌≡◌, map, Err}
use Rattle.mon_syntax.specs.Trees.{plain_expr}
use Rattle.mon_parser.specs.ParsedTrees.{plain_arg}
use Rattle.mon_typing.specs.Scopes.{plain_scope}
use Rattle.mon_typing.proofs.Calls.{only_value_fails}
use Rattle.mon_typing.proofs.argument.only_value.Goals as goal

pub returns-in_err-no_more : goal.returns-in_err-no_more
returns-in_err-no_more c =
    let e : c.from_residual-in_err-no_more.result ≡ Err c.in_err-no_more.field-0.0 = search rules in
    rw e (only_value_fails (plain_scope c.args.scope.now) c.args.place c.args.kind (map plain_arg c.args.arguments.now) (map plain_arg c.in_ok-value.more.now) (plain_expr c.in_ok-value.value) c.in_err-no_more.field-0.0 c.in_ok-value.ensures
    c.in_err-no_more.ensures)
