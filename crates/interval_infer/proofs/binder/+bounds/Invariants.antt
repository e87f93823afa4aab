use Rattle.std.proofs.Common.{length}
use Rattle.interval_infer.proofs.binder.+bounds.Given as goal

abbrev pub decreases-bounds : goal.decreases-bounds
decreases-bounds l = length l.binders.now
