use Rattle.ea_num.proofs.Masked.{bits_range_of_code}
use Rattle.ea_num.proofs.bits.bit_or.Goals as goal

pub returns : goal.returns
returns c = bits_range_of_code c.args.a c.args.b c.of_bits.result c.bits_of_both.result c.bits_of_both.ensures.value c.bits_of_both.ensures.bound c.of_bits.ensures
