use Rattle.std.proofs.Common.{◌≡◌, map, drop}
use Rattle.mon_syntax.specs.Trees.{plain_expr}
use Rattle.mon_syntax.specs.Checking.{arguments_of}
use Rattle.mon_parser.specs.ParsedTrees.{plain_arg}
use Rattle.mon_typing.specs.Scopes.{plain_scope}
use Rattle.mon_typing.proofs.Values.{behind_values}
use Rattle.mon_typing.proofs.argument.values_of.Given as goal

abbrev pub invariant-each : goal.invariant-each
invariant-each l =
    behind_values (map plain_expr l.values.items) (arguments_of (plain_scope l.scope) l.place (drop l.kind-index l.kinds) (map plain_arg l.rest))
    ≡ arguments_of (plain_scope l.scope) l.place l.kinds (map plain_arg l.arguments)
