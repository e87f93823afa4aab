use Rattle.std.proofs.Common.{◌+◌, ◌<◌, ◌≤◌, ◌⊎◌, length, get_or, arith, ap, ◌∙◌, sym, subst}
use Rattle.raw_seg.specs.Bytes.{number_of, bytes_of, bytes_at}
use Rattle.raw_seg.proofs.Numbers.{length-bytes_of, number_at-stored, get_or-with_bytes_outside}
use Rattle.raw_seg.proofs.Seg.store.Goals as goal

pub returns-clause-stored : goal.returns-clause-stored
returns-clause-stored c =
    ap (λ bytes. number_of (bytes_at bytes c.args.at c.args.width)) c.set_number.ensures.bytes
    ∙ number_at-stored c.args.self.now c.args.at c.args.width c.args.value c.requires.inside

pub returns-clause-others : goal.returns-clause-others
returns-clause-others c k outside =
    let size = length-bytes_of c.args.width c.args.value in
    let room : c.args.at + length (bytes_of c.args.width c.args.value) ≤ length c.args.self.now = omega (arith, size, c.requires.inside) in
    let away : (k < c.args.at) ⊎ (c.args.at + length (bytes_of c.args.width c.args.value) ≤ k) = subst (λ w. (k < c.args.at) ⊎ (c.args.at + w ≤ k)) (sym size) outside in
    ap (λ bytes. get_or bytes k 0) c.set_number.ensures.bytes
    ∙ get_or-with_bytes_outside c.args.self.now c.args.at (bytes_of c.args.width c.args.value) k 0 room away
