use Rattle.std.proofs.Common.{length}
use Rattle.annot_pieces.proofs.binder.+open_binders.Given as goal

abbrev pub decreases-open_binders : goal.decreases-open_binders
decreases-open_binders l = length l.binders.now
