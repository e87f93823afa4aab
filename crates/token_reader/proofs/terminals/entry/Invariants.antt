use Rattle.std.proofs.Common.{◌≡◌, length}
use Rattle.c_model.specs.Terminals.{entry}
use Rattle.token_reader.proofs.terminals.entry.Given as goal

abbrev pub invariant-turn : goal.invariant-turn
invariant-turn g l = entry l.mark l.rest ≡ entry l.mark l.table

abbrev pub decreases-turn : goal.decreases-turn
decreases-turn g l = length l.rest
