use Rattle.c_simulation.proofs.ExpressionLaws.{conditions_follow, conditions_reach, places_follow, places_reach, values_follow, values_reach}
use Rattle.c_simulation.proofs.laws.expressions.Goals as goal

pub returns-clause-values : goal.returns-clause-values
returns-clause-values c = values_follow

pub returns-clause-places : goal.returns-clause-places
returns-clause-places c = places_follow

pub returns-clause-conditions : goal.returns-clause-conditions
returns-clause-conditions c = conditions_follow

pub returns-clause-values_reach : goal.returns-clause-values_reach
returns-clause-values_reach c = values_reach

pub returns-clause-places_reach : goal.returns-clause-places_reach
returns-clause-places_reach c = places_reach

pub returns-clause-conditions_reach : goal.returns-clause-conditions_reach
returns-clause-conditions_reach c = conditions_reach
