use Rattle.std.proofs.Common.{ap, sym, ◌∙◌, arith}
use Rattle.std.specs.Int.{w64, from_le_bytes}
use Rattle.std.proofs.lemmas.Nat.{le_bytes_8}
use Rattle.raw_seg.proofs.Numbers as numbers
use Rattle.raw_seg.proofs.bytes.number_of_8.Goals as goal

pub returns-clause-bytes : goal.returns-clause-bytes
returns-clause-bytes c =
    let is = c.from_le_bytes.ensures ∙ ap (from_le_bytes w64) c.copy_from_slice.ensures.after in
    sym (numbers.le_bytes_8 c.from_le_bytes.result) ∙ le_bytes_8 c.args.bytes.now c.from_le_bytes.result c.requires (λ i. omega (arith, c.type_inv.bytes i)) is
