use Rattle.c_simulation.proofs.EffectLaws.{conditions_reach, effects_reach, origins_reach, places_reach, values_reach}
use Rattle.c_simulation.proofs.laws.effects.Goals as goal

pub returns-clause-values : goal.returns-clause-values
returns-clause-values c = values_reach

pub returns-clause-conditions : goal.returns-clause-conditions
returns-clause-conditions c = conditions_reach

pub returns-clause-places : goal.returns-clause-places
returns-clause-places c = places_reach

pub returns-clause-origins : goal.returns-clause-origins
returns-clause-origins c = origins_reach

pub returns-clause-alone : goal.returns-clause-alone
returns-clause-alone c = effects_reach
