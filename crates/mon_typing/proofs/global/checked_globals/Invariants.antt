use Rattle.std.proofs.Common.{◌≡◌, map, drop}
use Rattle.mon_parser.specs.ParsedTrees.{plain_global}
use Rattle.mon_typing.specs.Globals.{checked_numbers}
use Rattle.mon_typing.proofs.global.checked_globals.Given as goal

abbrev pub invariant-each : goal.invariant-each
invariant-each l = checked_numbers l.words l.known.keys (map plain_global (drop l.g-index l.globals)) ≡ checked_numbers l.words l.initial.known.keys (map plain_global l.globals)
