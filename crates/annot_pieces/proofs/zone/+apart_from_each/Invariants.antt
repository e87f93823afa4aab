use Rattle.std.proofs.Common.{length}
use Rattle.annot_pieces.proofs.zone.+apart_from_each.Given as goal

abbrev pub decreases-apart_from_each : goal.decreases-apart_from_each
decreases-apart_from_each l = length l.others.now
