use Rattle.std.proofs.Common.{◌≡◌, length}
use Rattle.c_model.specs.TokenWords.{from_place}
use Rattle.token_reader.specs.Reading.{plain_list}
use Rattle.token_reader.proofs.refusal.from_place.Given as goal

abbrev pub invariant-turn : goal.invariant-turn
invariant-turn l = from_place l.at (plain_list l.rest) ≡ from_place l.at (plain_list l.tokens)

abbrev pub decreases-turn : goal.decreases-turn
decreases-turn l = length l.rest
