use Rattle.interval_infer.proofs.Sound.{ranges_are_ordered, ranges_are_within_128, values_lie_in_ranges}
use Rattle.interval_infer.proofs.Terms.{sound_stores_load}
use Rattle.interval_infer.proofs.laws.values.Goals as goal

pub returns-clause-lie : goal.returns-clause-lie
returns-clause-lie c = values_lie_in_ranges

pub returns-clause-ordered : goal.returns-clause-ordered
returns-clause-ordered c = ranges_are_ordered

pub returns-clause-within : goal.returns-clause-within
returns-clause-within c = ranges_are_within_128

pub returns-clause-loads : goal.returns-clause-loads
returns-clause-loads c = sound_stores_load
