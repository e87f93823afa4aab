use Rattle.std.proofs.Common.{◌≡◌, ℕ, ◌+◌, ◌-◌, length}
use Rattle.c_parser.specs.Contracted.{flag_of}
use Rattle.c_parser.proofs.functions.grow.Given as goal

abbrev pub invariant-turn : goal.invariant-turn
invariant-turn l = (x : ℕ) → flag_of l.flags.items x ≡ flag_of l.fn.flags.items x

abbrev pub decreases-turn : goal.decreases-turn
decreases-turn l = l.fn.number + 1 - length l.flags.items
