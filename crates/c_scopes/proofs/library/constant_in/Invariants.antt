use Rattle.std.proofs.Common.{◌≡◌, length}
use Rattle.c_model.specs.Library.{constant_in}
use Rattle.c_scopes.specs.Library.{plain_constants}
use Rattle.c_scopes.proofs.library.constant_in.Given as goal

abbrev pub invariant-turn : goal.invariant-turn
invariant-turn l = constant_in (plain_constants l.rest) l.bytes ≡ constant_in (plain_constants l.table) l.bytes

abbrev pub decreases-turn : goal.decreases-turn
decreases-turn l = length l.rest
