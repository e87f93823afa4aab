use Rattle.std.proofs.Common.{◌≡◌, length, map}
use Rattle.mon_parser.specs.ParsedTrees.{plain_arg}
use Rattle.mon_parser.specs.Reading.{more_arguments}
use Rattle.token_reader.specs.Reading.{plain_list}
use Rattle.mon_parser.proofs.call.more_arguments.Given as goal

abbrev pub invariant-turn : goal.invariant-turn
invariant-turn l = (more_arguments l.words (map plain_arg l.all.items)).parse (plain_list l.rest) ≡ (more_arguments l.words (map plain_arg l.fn.all.items)).parse (plain_list l.fn.tokens)

abbrev pub decreases-turn : goal.decreases-turn
decreases-turn l = length l.rest
