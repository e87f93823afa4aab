use Rattle.std.proofs.Common.{rules, ◌≡◌, map, Err}
use Rattle.mon_syntax.specs.declared.tree.MonType.TheVariants.{Ptr}
use Rattle.mon_syntax.specs.Trees as tree
use Rattle.mon_parser.specs.ParsedTrees.{plain_arg}
use Rattle.mon_typing.specs.Scopes.{plain_scope}
use Rattle.mon_typing.proofs.Calls.{one_value_fails}
use Rattle.mon_typing.proofs.call.print_string.Goals as goal

pub returns-in_err-value : goal.returns-in_err-value
returns-in_err-value c =
    let e : c.from_residual.result ≡ Err c.in_err-value.field-0.0 = search rules in
    rw e (one_value_fails (plain_scope c.args.scope.now) c.args.place Ptr (map plain_arg c.args.arguments.now) tree.PrintString c.in_err-value.field-0.0 c.in_err-value.ensures)
