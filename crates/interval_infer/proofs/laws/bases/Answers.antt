use Rattle.interval_infer.proofs.Bases.{based_offsets_lie, based_places_lie, bases_add_up}
use Rattle.interval_infer.proofs.laws.bases.Goals as goal

pub returns-clause-sums : goal.returns-clause-sums
returns-clause-sums c = bases_add_up

pub returns-clause-lie : goal.returns-clause-lie
returns-clause-lie c = based_offsets_lie

pub returns-clause-places : goal.returns-clause-places
returns-clause-places c = based_places_lie
