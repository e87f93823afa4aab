use Rattle.std.proofs.Common.{length}
use Rattle.interval_infer.proofs.binder.+named.Given as goal

abbrev pub decreases-named : goal.decreases-named
decreases-named l = length l.binders.now
