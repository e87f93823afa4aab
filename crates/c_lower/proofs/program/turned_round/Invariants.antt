use Rattle.std.proofs.Common.{◌≡◌, ◌++◌, length, reverse, map}
use Rattle.c_lower.specs.Entries.{from_start}
use Rattle.c_lower.proofs.program.turned_round.Given as goal

-- what was turned round and what is left are all
abbrev pub invariant-loop-e : goal.invariant-loop-e
invariant-loop-e l = l.entries.items ++ map (from_start l.total) (reverse l.written.items) ≡ map (from_start l.total) (reverse l.fn.written.items)

abbrev pub decreases-loop-e : goal.decreases-loop-e
decreases-loop-e l = length l.written.items
