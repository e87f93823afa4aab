use Rattle.c_scopes.proofs.Earlier.{IsBack, turns_of}
use Rattle.c_scopes.proofs.declarations.Declarations.newest_before.Given as goal

abbrev pub invariant-back : goal.invariant-back
invariant-back l = IsBack l.fn.name l.count l.self.declared.items l.newest

abbrev pub decreases-back : goal.decreases-back
decreases-back l = turns_of l.newest
