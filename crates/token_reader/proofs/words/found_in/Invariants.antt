use Rattle.std.proofs.Common.{◌≡◌, length}
use Rattle.c_model.specs.Terminals.{found_in}
use Rattle.token_reader.specs.Reading.{plain_words}
use Rattle.token_reader.proofs.words.found_in.Given as goal

abbrev pub invariant-turn : goal.invariant-turn
invariant-turn g l = found_in (plain_words l.rest) l.bytes l.other ≡ found_in (plain_words l.table) l.bytes l.other

abbrev pub decreases-turn : goal.decreases-turn
decreases-turn g l = length l.rest
