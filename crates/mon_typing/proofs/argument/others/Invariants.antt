use Rattle.std.proofs.Common.{◌≡◌, map, drop}
use Rattle.mon_syntax.specs.Checking.{others}
use Rattle.mon_parser.specs.ParsedTrees.{plain_arg}
use Rattle.mon_typing.specs.Scopes.{plain_scope}
use Rattle.mon_typing.proofs.argument.others.Given as goal

abbrev pub invariant-each : goal.invariant-each
invariant-each l = others (plain_scope l.scope) (map plain_arg (drop l.argument-index l.arguments)) ≡ others (plain_scope l.scope) (map plain_arg l.arguments)
