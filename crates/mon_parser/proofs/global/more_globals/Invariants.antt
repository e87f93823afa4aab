use Rattle.std.proofs.Common.{◌≡◌, length, map}
use Rattle.mon_parser.specs.ParsedTrees.{plain_global}
use Rattle.mon_parser.specs.Reading.{more_globals}
use Rattle.token_reader.specs.Reading.{plain_list}
use Rattle.mon_parser.proofs.global.more_globals.Given as goal

abbrev pub invariant-turn : goal.invariant-turn
invariant-turn l = (more_globals l.words (map plain_global l.all.items)).parse (plain_list l.rest) ≡ (more_globals l.words (map plain_global l.fn.all.items)).parse (plain_list l.fn.tokens)

abbrev pub decreases-turn : goal.decreases-turn
decreases-turn l = length l.rest
