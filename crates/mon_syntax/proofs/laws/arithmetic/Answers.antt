use Rattle.mon_syntax.proofs.Wrapping.{wrap_fits, wrap_congruent, wrap-fitting}
use Rattle.mon_syntax.proofs.laws.arithmetic.Goals as goal

pub returns-clause-fits : goal.returns-clause-fits
returns-clause-fits c = wrap_fits

pub returns-clause-congruent : goal.returns-clause-congruent
returns-clause-congruent c = wrap_congruent

pub returns-clause-stands : goal.returns-clause-stands
returns-clause-stands c = wrap-fitting
