use Rattle.std.proofs.Common.{◌≡◌, map, take}
use Rattle.mon_syntax.specs.Checking.{header_of}
use Rattle.mon_parser.specs.ParsedTrees.{plain_func}
use Rattle.mon_typing.specs.Headers.{plain_header, AreFirst}
use Rattle.mon_typing.proofs.header.Functions.new.Given as goal

abbrev pub invariant-each : goal.invariant-each
invariant-each l = record {
  headers : map plain_header l.headers.items ≡ map header_of (map plain_func (take l.f-index l.list));
  firsts : AreFirst l.headers.items l.firsts.entries;
}
