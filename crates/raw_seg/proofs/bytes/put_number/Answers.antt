use Rattle.std.proofs.Common.{◌≡◌, arith, ap, ◌∙◌, sym}
use Rattle.std.proofs.lemmas.Bool.Decides.{nat_tests}
use Rattle.raw_seg.specs.Bytes.{bytes_of, with_bytes}
use Rattle.raw_seg.proofs.Numbers.{le_bytes_16}
use Rattle.raw_seg.proofs.bytes.put_number.Goals as goal

pub returns-in_default-clause-bytes : goal.returns-in_default-clause-bytes
returns-in_default-clause-bytes c =
    let widest : c.args.width ≡ 16 = grind (arith, nat_tests, c.requires.width) in
    c.put-in_default.ensures.bytes ∙ ap (with_bytes c.args.bytes.now c.args.at) (c.to_le_bytes-in_default.ensures ∙ le_bytes_16 c.args.value ∙ ap (λ w. bytes_of w c.args.value) (sym widest))
