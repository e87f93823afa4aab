use Rattle.std.proofs.Common.{◌∙◌, sym}
use Rattle.ea_num.proofs.Masked.{signed_bits_of_code}
use Rattle.ea_num.proofs.bits.of_bits.Goals as goal

pub returns-else-are_nonnegative : goal.returns-else-are_nonnegative
returns-else-are_nonnegative c = signed_bits_of_code c.args.a c.args.b c.args.bits c.greatest_of_bits-hi.result c.requires c.greatest_of_bits-hi.ensures (sym c.are_nonnegative.ensures ∙ c.if-are_nonnegative.false)
