use Rattle.c_model.proofs.PieceLaws.{pieces_joined, pieces_placed, pieces_spelled, pieces_broken}
use Rattle.c_model.proofs.OnlyPieces.{only_pieces}
use Rattle.c_model.proofs.monitored_tokens.laws.pieces_of_a_text.Goals as goal

pub returns-clause-joined : goal.returns-clause-joined
returns-clause-joined c = pieces_joined

pub returns-clause-placed : goal.returns-clause-placed
returns-clause-placed c = pieces_placed

pub returns-clause-spelled : goal.returns-clause-spelled
returns-clause-spelled c = pieces_spelled

pub returns-clause-broken : goal.returns-clause-broken
returns-clause-broken c = pieces_broken

pub returns-clause-only : goal.returns-clause-only
returns-clause-only c = only_pieces
