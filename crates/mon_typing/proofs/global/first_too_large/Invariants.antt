use Rattle.std.proofs.Common.{◌≡◌, ◌*◌, ◌≤◌, map, drop}
use Rattle.mon_syntax.specs.Spelled.{first_too_large}
use Rattle.mon_parser.specs.ParsedTrees.{plain_global}
use Rattle.mon_typing.proofs.global.first_too_large.Given as goal

abbrev pub invariant-each : goal.invariant-each
invariant-each l = record {
  few : l.taken ≤ 65536;
  same : first_too_large (16 * l.taken) (map plain_global (drop l.g-index l.globals)) ≡ first_too_large 0 (map plain_global l.globals);
}
