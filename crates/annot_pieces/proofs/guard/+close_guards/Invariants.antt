use Rattle.std.proofs.Common.{length}
use Rattle.annot_pieces.proofs.guard.+close_guards.Given as goal

abbrev pub decreases-close_guards : goal.decreases-close_guards
decreases-close_guards l = length l.opened.now.items
