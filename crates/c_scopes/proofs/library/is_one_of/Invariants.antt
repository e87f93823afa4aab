use Rattle.std.proofs.Common.{◌≡◌, length}
use Rattle.c_model.specs.Library.{is_one_of}
use Rattle.c_scopes.specs.Library.{plain_bytes}
use Rattle.c_scopes.proofs.library.is_one_of.Given as goal

abbrev pub invariant-turn : goal.invariant-turn
invariant-turn l = is_one_of (plain_bytes l.rest) l.bytes ≡ is_one_of (plain_bytes l.list) l.bytes

abbrev pub decreases-turn : goal.decreases-turn
decreases-turn l = length l.rest
