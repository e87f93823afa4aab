use Rattle.std.proofs.Common.{◌≡◌, ◌-◌, inl, inr, ⊎_elim, reverse, ap, ◌∙◌, arith}
use Rattle.instrument.specs.Options.{youngest}
use Rattle.instrument.proofs.DeclarationCode.{youngest_pushed}
use Rattle.instrument.proofs.block.between.Goals as goal

pub returns : goal.returns
returns c =
    let first = c.args.first in
    let next = c.registers.next in
    let above = c.registers.invariant.above in
    let past = c.registers-test.false in
    let count : next - first ≡ c.args.end - first = ⊎_elim (λ le. omega (arith, le, above, past)) (λ le. omega (arith, le, above, past)) c.registers.invariant.below in
    c.registers.invariant.pushed ∙ ap (youngest first) count

pub registers-init : goal.registers-init
registers-init c =
    let first = c.args.first in
    let none : 0 ≡ first - first = omega arith in
    record { pushed = ap reverse c.new-all.ensures.items ∙ ap (youngest first) none; above = omega arith; below = inl (omega arith) }

pub registers-preserved : goal.registers-preserved
registers-preserved c =
    let above = c.registers.invariant.above in
    record {
      pushed = youngest_pushed c.registers.all.items _ c.args.first c.registers.next above c.registers.invariant.pushed c.in_ok-push.ensures.items;
      above = omega (arith, above);
      below = inr (omega (arith, c.registers-test.true));
    }
