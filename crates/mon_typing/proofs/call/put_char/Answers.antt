use Rattle.std.proofs.Common.{rules, ◌≡◌, map, None, Err}
use Rattle.mon_syntax.specs.declared.tree.MonType.TheVariants.{I32}
use Rattle.mon_syntax.specs.Trees as tree
use Rattle.mon_parser.specs.ParsedTrees.{plain_arg}
use Rattle.mon_typing.specs.Scopes.{plain_scope}
use Rattle.mon_typing.proofs.Calls.{one_value_fails}
use Rattle.mon_typing.proofs.call.put_char.Goals as goal

pub returns-in_err-byte : goal.returns-in_err-byte
returns-in_err-byte c =
    let e : c.from_residual.result ≡ Err c.in_err-byte.field-0.0 = search rules in
    rw e (one_value_fails (plain_scope c.args.scope.now) c.args.place I32 (map plain_arg c.args.arguments.now) (tree.PutChar None) c.in_err-byte.field-0.0 c.in_err-byte.ensures)
