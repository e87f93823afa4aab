use Rattle.std.proofs.Common.{◌≡◌, map, length, option_map}
use Rattle.c_model.specs.Formats.{pieces_of}
use Rattle.c_scopes.specs.Pieces.{plain_piece, with_front}
use Rattle.c_scopes.proofs.format.pieces_of.Given as goal

-- the pieces and the text so far, and what is left, make the whole
abbrev pub invariant-turn : goal.invariant-turn
invariant-turn l = option_map (with_front (map plain_piece l.pieces.items) l.text.items) (pieces_of l.rest) ≡ pieces_of l.bytes

abbrev pub decreases-turn : goal.decreases-turn
decreases-turn l = length l.rest
