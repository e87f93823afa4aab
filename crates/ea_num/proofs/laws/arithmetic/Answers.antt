use Rattle.ea_num.proofs.Linear.{sums_lie, differences_lie, negations_lie, complements_lie}
use Rattle.ea_num.proofs.laws.arithmetic.Goals as goal

pub returns-clause-sums : goal.returns-clause-sums
returns-clause-sums c = sums_lie

pub returns-clause-differences : goal.returns-clause-differences
returns-clause-differences c = differences_lie

pub returns-clause-negations : goal.returns-clause-negations
returns-clause-negations c = negations_lie

pub returns-clause-complements : goal.returns-clause-complements
returns-clause-complements c = complements_lie
