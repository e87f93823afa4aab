use Rattle.ea_num.proofs.Ordered.{sum_range-ordered, difference_range-ordered, negation_range-ordered, complement_range-ordered, product_range-ordered, quotient_range-ordered, remainder_range-ordered, shift_left_range-ordered}
use Rattle.ea_num.proofs.Ordered.{shift_right_range-ordered, bitwise_and_range-ordered, bitwise_or_range-ordered, bitwise_xor_range-ordered}
use Rattle.ea_num.proofs.laws.ordered.Goals as goal

pub returns-clause-sums : goal.returns-clause-sums
returns-clause-sums c = sum_range-ordered

pub returns-clause-differences : goal.returns-clause-differences
returns-clause-differences c = difference_range-ordered

pub returns-clause-negations : goal.returns-clause-negations
returns-clause-negations c = negation_range-ordered

pub returns-clause-complements : goal.returns-clause-complements
returns-clause-complements c = complement_range-ordered

pub returns-clause-products : goal.returns-clause-products
returns-clause-products c = product_range-ordered

pub returns-clause-quotients : goal.returns-clause-quotients
returns-clause-quotients c = quotient_range-ordered

pub returns-clause-remainders : goal.returns-clause-remainders
returns-clause-remainders c = remainder_range-ordered

pub returns-clause-shifts_left : goal.returns-clause-shifts_left
returns-clause-shifts_left c = shift_left_range-ordered

pub returns-clause-shifts_right : goal.returns-clause-shifts_right
returns-clause-shifts_right c = shift_right_range-ordered

pub returns-clause-ands : goal.returns-clause-ands
returns-clause-ands c = bitwise_and_range-ordered

pub returns-clause-ors : goal.returns-clause-ors
returns-clause-ors c = bitwise_or_range-ordered

pub returns-clause-xors : goal.returns-clause-xors
returns-clause-xors c = bitwise_xor_range-ordered
