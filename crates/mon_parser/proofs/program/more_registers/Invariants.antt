use Rattle.std.proofs.Common.{◌≡◌, length, map}
use Rattle.mon_parser.specs.ParsedTrees.{plain_register}
use Rattle.mon_parser.specs.Reading.{more_registers}
use Rattle.token_reader.specs.Reading.{plain_list}
use Rattle.mon_parser.proofs.program.more_registers.Given as goal

abbrev pub invariant-turn : goal.invariant-turn
invariant-turn l = (more_registers l.words (map plain_register l.all.items)).parse (plain_list l.rest) ≡ (more_registers l.words (map plain_register l.fn.all.items)).parse (plain_list l.fn.tokens)

abbrev pub decreases-turn : goal.decreases-turn
decreases-turn l = length l.rest
