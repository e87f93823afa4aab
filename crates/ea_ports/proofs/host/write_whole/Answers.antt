use Rattle.std.proofs.Common.{arith}
use Rattle.std.proofs.lemmas.Grind.{common_steps}
use Rattle.ea_ports.proofs.Known.{appends-next}
use Rattle.ea_ports.proofs.host.write_whole.Goals as goal

pub loop-at-preserved : goal.loop-at-preserved
loop-at-preserved g c =
    (grind (arith, common_steps), appends-next _ _ _ _ _ _ c.loop-at.invariant.1 c.in_ok-at.ensures.written)
