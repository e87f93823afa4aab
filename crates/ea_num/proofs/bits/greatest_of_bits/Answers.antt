use Rattle.ea_num.proofs.Masked.{greatest-fits, greatest_of_code}
use Rattle.ea_num.proofs.bits.greatest_of_bits.Goals as goal

pub overflow_cast-result-2 : goal.overflow_cast-result-2
overflow_cast-result-2 c = greatest-fits c.args.bits c.requires

pub returns : goal.returns
returns c = greatest_of_code c.args.bits c.requires
