use Rattle.mon_syntax.proofs.FlatLaws.{places_stay, dead_have_no_record, pointers_lie_in_units, pieces_have_their_bytes, pieces_are_of_one}
use Rattle.mon_syntax.proofs.FlatWorlds.{same_later}
use Rattle.mon_syntax.proofs.laws.flat_places.Goals as goal

pub returns-clause-places : goal.returns-clause-places
returns-clause-places c = places_stay

pub returns-clause-values : goal.returns-clause-values
returns-clause-values c = same_later

pub returns-clause-dead : goal.returns-clause-dead
returns-clause-dead c = dead_have_no_record

pub returns-clause-pointers : goal.returns-clause-pointers
returns-clause-pointers c = pointers_lie_in_units

pub returns-clause-pieces : goal.returns-clause-pieces
returns-clause-pieces c = pieces_have_their_bytes

pub returns-clause-one : goal.returns-clause-one
returns-clause-one c = pieces_are_of_one
