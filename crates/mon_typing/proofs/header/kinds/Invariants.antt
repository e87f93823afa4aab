use Rattle.std.proofs.Common.{◌≡◌, map, take}
use Rattle.mon_syntax.specs.Checking.{kinds_of}
use Rattle.mon_parser.specs.ParsedTrees.{plain_register}
use Rattle.mon_typing.proofs.header.kinds.Given as goal

abbrev pub invariant-loop-parameter : goal.invariant-loop-parameter
invariant-loop-parameter l = l.kinds.items ≡ kinds_of (map plain_register (take l.parameter-index l.parameters))
