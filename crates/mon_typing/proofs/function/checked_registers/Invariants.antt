use Rattle.std.proofs.Common.{◌≡◌, map, drop}
use Rattle.mon_syntax.specs.Checking.{checked_registers}
use Rattle.mon_parser.specs.ParsedTrees.{plain_register}
use Rattle.mon_typing.proofs.function.checked_registers.Given as goal

abbrev pub invariant-each : goal.invariant-each
invariant-each l = checked_registers l.words l.globals.numbers.keys l.known.entries (map plain_register (drop l.register-index l.registers)) ≡ checked_registers l.words l.globals.numbers.keys l.initial.known.entries (map plain_register l.registers)
