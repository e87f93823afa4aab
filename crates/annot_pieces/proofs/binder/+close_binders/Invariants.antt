use Rattle.std.proofs.Common.{length}
use Rattle.annot_pieces.proofs.binder.+close_binders.Given as goal

abbrev pub decreases-close_binders : goal.decreases-close_binders
decreases-close_binders l = length l.opened.now.items
