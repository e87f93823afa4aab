use Rattle.ea_num.proofs.Converted.{widths_fit, conversions_fit, conversions_are_congruent, conversions_keep_values}
use Rattle.ea_num.proofs.laws.conversions.Goals as goal

pub returns-clause-widths : goal.returns-clause-widths
returns-clause-widths c = widths_fit

pub returns-clause-fit : goal.returns-clause-fit
returns-clause-fit c = conversions_fit

pub returns-clause-congruent : goal.returns-clause-congruent
returns-clause-congruent c = conversions_are_congruent

pub returns-clause-kept : goal.returns-clause-kept
returns-clause-kept c = conversions_keep_values
