use Rattle.ea_num.proofs.Masked.{ands_lie, ors_lie, xors_lie, operators_act_on_each_bit}
use Rattle.ea_num.proofs.laws.bits.Goals as goal

pub returns-clause-and : goal.returns-clause-and
returns-clause-and c = ands_lie

pub returns-clause-or : goal.returns-clause-or
returns-clause-or c = ors_lie

pub returns-clause-xor : goal.returns-clause-xor
returns-clause-xor c = xors_lie

pub returns-clause-each_bit : goal.returns-clause-each_bit
returns-clause-each_bit c = operators_act_on_each_bit
