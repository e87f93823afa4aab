use Rattle.std.proofs.Common.{length}
use Rattle.c_effects.proofs.settled.+are_pure.Given as goal

abbrev pub decreases-are_pure : goal.decreases-are_pure
decreases-are_pure l = length l.args.now
