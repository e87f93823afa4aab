use Rattle.std.proofs.Common.{◌≡◌, map, drop}
use Rattle.mon_syntax.specs.Spelled.{main_in}
use Rattle.mon_parser.specs.ParsedTrees.{plain_func}
use Rattle.mon_reader.proofs.entry.found_main.Given as goal

abbrev pub invariant-each : goal.invariant-each
invariant-each l = main_in l.names (map plain_func (drop l.f-index l.f-items)) ≡ main_in l.names (map plain_func l.f-items)
