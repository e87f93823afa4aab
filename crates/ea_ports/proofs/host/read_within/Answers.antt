use Rattle.std.proofs.Common.{arith}
use Rattle.std.proofs.lemmas.Grind.{common_steps}
use Rattle.ea_ports.proofs.Known.{loses-more}
use Rattle.ea_ports.proofs.host.read_within.Goals as goal

pub returns-in_err-read_piece-clause-limited : goal.returns-in_err-read_piece-clause-limited
returns-in_err-read_piece-clause-limited g c =
    loses-more _ _ _ _ _ _ c.loop-bytes.invariant.1 c.read_piece.ensures.limited (grind (arith, common_steps))
