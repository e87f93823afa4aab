use Rattle.c_model.proofs.Cells.{value_of_bits-bits_of}
use Rattle.c_model.proofs.Results.{result_in-fitting, result_in-overflow, result_in-unsigned, fits-result_in}
use Rattle.c_model.proofs.Conversions.{fits-convert}
use Rattle.c_model.proofs.OperatorResults.{fits-operate_in, fits-operate_one_in}
use Rattle.c_model.proofs.laws.integers.Goals as goal

pub returns-clause-bits : goal.returns-clause-bits
returns-clause-bits c = value_of_bits-bits_of

pub returns-clause-fitting : goal.returns-clause-fitting
returns-clause-fitting c = result_in-fitting

pub returns-clause-signed : goal.returns-clause-signed
returns-clause-signed c = result_in-overflow

pub returns-clause-unsigned : goal.returns-clause-unsigned
returns-clause-unsigned c = result_in-unsigned

pub returns-clause-fits : goal.returns-clause-fits
returns-clause-fits c = fits-result_in

pub returns-clause-converted : goal.returns-clause-converted
returns-clause-converted c = fits-convert

pub returns-clause-kept : goal.returns-clause-kept
returns-clause-kept c = value_of_bits-bits_of

pub returns-clause-operators : goal.returns-clause-operators
returns-clause-operators c = fits-operate_in

pub returns-clause-operators_of_one : goal.returns-clause-operators_of_one
returns-clause-operators_of_one c = fits-operate_one_in
