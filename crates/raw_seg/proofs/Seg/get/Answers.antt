use Rattle.std.proofs.Common.{◌+◌, ◌<◌, ◌≤◌, length, Some, None, sym, ap, ◌∙◌, arith}
use Rattle.std.specs.Prelude.{if◌then◌else◌}
use Rattle.std.proofs.lemmas.Bool.{le-leb}
use Rattle.raw_seg.specs.Bytes.{number_of, bytes_at}
use Rattle.raw_seg.proofs.Zeros.{length-zeros_to, number_behind, is_behind}
use Rattle.raw_seg.proofs.Seg.get.Goals as goal

pub returns-then-at-width-2-clause-value : goal.returns-then-at-width-2-clause-value
returns-then-at-width-2-clause-value c =
    let at = c.args.at in
    let width = c.args.width in
    let bytes = c.self.inside.bytes.items in
    let seen = c.args.self.now in
    let long = length-zeros_to c.self.inside.len bytes seen c.self.view_is c.self.invariant.0 in
    let past : length bytes < at + width = omega (arith, c.if-at-width.false, c.len.ensures, c.self.inside.bytes.ok.0) in
    let behind = is_behind c.self.inside.len (length bytes) at width c.self.invariant.2 c.requires.width c.requires.aligned c.if-at-width-2.true past in
    let inside : at + width ≤ length seen = omega (arith, c.if-at-width-2.true, long) in
    ap Some (number_behind c.self.inside.len bytes seen at width c.self.view_is behind c.if-at-width-2.true)
    ∙ sym (ap (λ b. if b then Some (number_of (bytes_at seen at width)) else None) (le-leb (at + width) (length seen) inside))
