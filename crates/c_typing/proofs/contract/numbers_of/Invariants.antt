use Rattle.std.proofs.Common.{◌≡◌, ◌++◌, length, map}
use Rattle.c_syntax.specs.Statements.{plain_decl}
use Rattle.c_model.specs.AnnotationTyping.{numbers_of_parameters}
use Rattle.c_typing.proofs.contract.numbers_of.Given as goal

abbrev pub invariant-turn : goal.invariant-turn
invariant-turn l = l.numbers.items ++ numbers_of_parameters (map plain_decl l.rest) ≡ numbers_of_parameters (map plain_decl l.params)

abbrev pub decreases-turn : goal.decreases-turn
decreases-turn l = length l.rest
