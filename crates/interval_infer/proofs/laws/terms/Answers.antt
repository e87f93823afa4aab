use Rattle.interval_infer.proofs.Terms.{places_lie_in_ranges, returned_values_fit, sound_states_fit, sound_terms_lie_in_ranges, terms_lie_in_ranges, zones_lie_in_ranges}
use Rattle.interval_infer.proofs.laws.terms.Goals as goal

pub returns-clause-lie : goal.returns-clause-lie
returns-clause-lie c = terms_lie_in_ranges

pub returns-clause-places : goal.returns-clause-places
returns-clause-places c = places_lie_in_ranges

pub returns-clause-zones : goal.returns-clause-zones
returns-clause-zones c = zones_lie_in_ranges

pub returns-clause-states : goal.returns-clause-states
returns-clause-states c = sound_states_fit

pub returns-clause-sound : goal.returns-clause-sound
returns-clause-sound c = sound_terms_lie_in_ranges

pub returns-clause-results : goal.returns-clause-results
returns-clause-results c = returned_values_fit
