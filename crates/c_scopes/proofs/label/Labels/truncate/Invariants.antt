use Rattle.std.proofs.Common.{◌≡◌, length, take}
use Rattle.c_scopes.specs.Labels.{plain_marks}
use Rattle.c_scopes.proofs.label.Labels.truncate.Given as goal

abbrev pub invariant-loop-self : goal.invariant-loop-self
invariant-loop-self l = take l.count (plain_marks l.self.known.items) ≡ take l.count (plain_marks l.fn.self.known.items)

abbrev pub decreases-loop-self : goal.decreases-loop-self
decreases-loop-self l = length (plain_marks l.self.known.items)
