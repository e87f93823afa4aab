use Rattle.std.proofs.Common.{◌≡◌, length}
use Rattle.c_model.specs.Literals.{first_fitting}
use Rattle.c_lexer.proofs.source.literals.first_fitting.Given as goal

abbrev pub invariant-turn : goal.invariant-turn
invariant-turn l = first_fitting l.rest l.value ≡ first_fitting l.fn.types l.value

abbrev pub decreases-turn : goal.decreases-turn
decreases-turn l = length l.rest
