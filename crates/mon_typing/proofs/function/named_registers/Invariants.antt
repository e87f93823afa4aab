use Rattle.std.proofs.Common.{◌≡◌, ◌++◌, map, drop}
use Rattle.mon_syntax.specs.Trees as tree
use Rattle.mon_syntax.specs.Checking.{named_register}
use Rattle.mon_parser.specs.ParsedTrees.{plain_register}
use Rattle.mon_typing.specs.Scopes.{numbered}
use Rattle.mon_typing.proofs.function.named_registers.Given as goal

abbrev pub invariant-each : goal.invariant-each
invariant-each l = map tree.plain_register l.all.items ++ map (named_register l.names) (numbered (map plain_register (drop l.register-index l.registers))) ≡ map (named_register l.names) (numbered (map plain_register l.registers))
