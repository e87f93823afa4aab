use Rattle.std.proofs.Common.{FitsSigned, rules}
use Rattle.std.specs.Int.{w128}
use Rattle.std.proofs.lemmas.Int.{to_z-of_z}
use Rattle.c_printer.proofs.Written.{then, shown}
use Rattle.c_printer.proofs.Texts.{constant_text}
use Rattle.c_printer.proofs.expression.constant.Goals as goal

pub returns : goal.returns
returns g c =
    let f : FitsSigned w128 c.args.z = search rules in
    let word = rw (c.as_bytes.ensures.value, c.constant_word.ensures) at c.write.ensures in
    let digits = rw (to_z-of_z w128 c.args.z f) at c.signed_number.ensures in
    shown (constant_text c.args.t c.args.z) (then word (then c.write-2.ensures (then digits c.write-3.ensures)))
