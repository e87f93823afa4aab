use Rattle.std.proofs.Common.{◌≡◌, length, option_map}
use Rattle.c_syntax.specs.Programs.{plain_contract}
use Rattle.token_reader.specs.Reading.{plain_list}
use Rattle.c_parser.specs.Reading.{more_strays}
use Rattle.c_parser.proofs.annotation.more_strays.Given as goal

abbrev pub invariant-turn : goal.invariant-turn
invariant-turn l = (more_strays l.words (l.state, option_map plain_contract l.awaiting)).parse (plain_list l.rest) ≡
    (more_strays l.words (l.fn.state, option_map plain_contract l.fn.awaiting)).parse (plain_list l.fn.tokens)

abbrev pub decreases-turn : goal.decreases-turn
decreases-turn l = length l.rest
