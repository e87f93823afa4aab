use Rattle.std.proofs.Common.{◌≡◌, length, map}
use Rattle.mon_parser.specs.ParsedTrees.{plain_func}
use Rattle.mon_parser.specs.Reading.{more_functions}
use Rattle.token_reader.specs.Reading.{plain_list}
use Rattle.mon_parser.proofs.program.more_functions.Given as goal

abbrev pub invariant-turn : goal.invariant-turn
invariant-turn l = (more_functions l.words (map plain_func l.all.items)).parse (plain_list l.rest) ≡ (more_functions l.words (map plain_func l.fn.all.items)).parse (plain_list l.fn.tokens)

abbrev pub decreases-turn : goal.decreases-turn
decreases-turn l = length l.rest
