use Rattle.std.proofs.Common.{◌≡◌, [], map, drop}
use Rattle.mon_syntax.specs.Checking.{checked_functions}
use Rattle.mon_parser.specs.ParsedTrees.{plain_func}
use Rattle.mon_typing.specs.Headers.{plain_header}
use Rattle.mon_typing.proofs.Programs.{names_before, behind_functions}
use Rattle.mon_typing.proofs.function.checked_functions.Given as goal

abbrev pub invariant-each : goal.invariant-each
invariant-each l =
    behind_functions l.all.items (checked_functions l.names l.words (map plain_header l.functions.headers.items) l.globals.numbers.keys (names_before l.index l.list) (map plain_func (drop l.index l.list)))
    ≡ checked_functions l.names l.words (map plain_header l.functions.headers.items) l.globals.numbers.keys [] (map plain_func l.list)
