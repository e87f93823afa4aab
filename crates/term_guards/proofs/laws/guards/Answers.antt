use Rattle.term_guards.proofs.Guards.{guards_are_typed, guards_over_blocks, guards_over_flat}
use Rattle.term_guards.proofs.laws.guards.Goals as goal

pub returns-clause-over_blocks : goal.returns-clause-over_blocks
returns-clause-over_blocks c = guards_over_blocks

pub returns-clause-over_flat : goal.returns-clause-over_flat
returns-clause-over_flat c = guards_over_flat

pub returns-clause-typed : goal.returns-clause-typed
returns-clause-typed c = guards_are_typed
