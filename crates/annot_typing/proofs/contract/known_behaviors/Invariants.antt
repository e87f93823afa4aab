use Rattle.std.proofs.Common.{◌≡◌, length}
use Rattle.c_model.specs.ContractTyping.{known_behaviors}
use Rattle.annot_typing.proofs.contract.known_behaviors.Given as goal

abbrev pub invariant-turn : goal.invariant-turn
invariant-turn l = known_behaviors l.names.list.items l.rest ≡ known_behaviors l.names.list.items l.used

abbrev pub decreases-turn : goal.decreases-turn
decreases-turn l = length l.rest
