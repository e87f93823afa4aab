use Rattle.std.proofs.Common.{◌≡◌, length, map}
use Rattle.c_syntax.specs.Statements.{plain_decl}
use Rattle.c_model.specs.UnitTyping.{with_parameters}
use Rattle.c_scopes.specs.Sights.{plain_sight}
use Rattle.c_function_rules.proofs.parameter.see_parameters.Given as goal

abbrev pub invariant-turn : goal.invariant-turn
invariant-turn l = with_parameters (plain_sight l.sight) (map plain_decl l.rest) ≡ with_parameters (plain_sight l.initial.sight) (map plain_decl l.params)

abbrev pub decreases-turn : goal.decreases-turn
decreases-turn l = length l.rest
