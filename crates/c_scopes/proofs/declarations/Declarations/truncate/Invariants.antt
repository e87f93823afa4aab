use Rattle.std.proofs.Common.{◌≡◌, length, take}
use Rattle.c_scopes.specs.Newest.{entities_of}
use Rattle.c_scopes.proofs.declarations.Declarations.truncate.Given as goal

abbrev pub invariant-loop-self : goal.invariant-loop-self
invariant-loop-self l = take l.count (entities_of l.self.declared.items) ≡ take l.count (entities_of l.fn.self.declared.items)

abbrev pub decreases-loop-self : goal.decreases-loop-self
decreases-loop-self l = length (entities_of l.self.declared.items)
