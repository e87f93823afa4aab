use Rattle.std.proofs.Common.{length}
use Rattle.annot_pieces.proofs.zone.+each_pair.Given as goal

abbrev pub decreases-each_pair : goal.decreases-each_pair
decreases-each_pair l = length l.zones.now
