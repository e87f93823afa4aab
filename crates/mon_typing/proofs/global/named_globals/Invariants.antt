use Rattle.std.proofs.Common.{◌≡◌, ◌++◌, map, drop}
use Rattle.mon_syntax.specs.Trees as tree
use Rattle.mon_parser.specs.ParsedTrees.{plain_global}
use Rattle.mon_typing.specs.Globals.{named_global}
use Rattle.mon_typing.proofs.global.named_globals.Given as goal

abbrev pub invariant-each : goal.invariant-each
invariant-each l = map tree.plain_global l.all.items ++ map (named_global l.names) (map plain_global (drop l.g-index l.globals)) ≡ map (named_global l.names) (map plain_global l.globals)
