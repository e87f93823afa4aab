use Rattle.std.proofs.Common.{length}
use Rattle.annot_pieces.proofs.binder.+hold_all.Given as goal

abbrev pub decreases-hold_all : goal.decreases-hold_all
decreases-hold_all l = length l.from.now
