use Rattle.std.proofs.Common.{◌≡◌, ℕ, None, length, map}
use Rattle.c_syntax.specs.Programs.{plain_func}
use Rattle.c_typing.specs.NotedContracts.{numbers_in}
use Rattle.c_typing.proofs.NotedContracts.{numbers_from}
use Rattle.c_typing.proofs.contract.parameter_numbers.Given as goal

abbrev pub invariant-turn : goal.invariant-turn
invariant-turn l = (x : ℕ) → numbers_from (numbers_in l.definitions x) (map plain_func l.rest) x ≡ numbers_from None (map plain_func l.funcs) x

abbrev pub decreases-turn : goal.decreases-turn
decreases-turn l = length l.rest
