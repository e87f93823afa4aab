use Rattle.std.proofs.Common.{refl, ap, ◌∙◌, arith}
use Rattle.raw_seg.specs.Bytes.{bytes_of}
use Rattle.raw_seg.proofs.Numbers.{halves, same_bytes}
use Rattle.raw_seg.proofs.bytes.number_16.Goals as goal

pub returns-clause-value : goal.returns-clause-value
returns-clause-value c =
    let whole = halves c.args.bytes.now c.args.at 8 8 18446744073709551616 refl (omega arith) in
    omega (arith, whole, c.number_8.ensures.value, c.number_8-2.ensures.value)

pub returns-clause-bytes : goal.returns-clause-bytes
returns-clause-bytes c =
    same_bytes c.args.bytes.now c.args.at 8 8 18446744073709551616 c.from.result c.from-2.result refl (omega (arith, c.from.ensures, c.number_8.ensures.small))
    (ap (bytes_of 8) c.from.ensures ∙ c.number_8.ensures.bytes) (ap (bytes_of 8) c.from-2.ensures ∙ c.number_8-2.ensures.bytes)
