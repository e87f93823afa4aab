use Rattle.std.proofs.Common.{◌≡◌, ◌+◌, ◌-◌, ◌*◌, min, max, length, ap, ◌∙◌, arith}
use Rattle.shadow_segments.specs.Shadow.{NumberByte}
use Rattle.shadow_segments.proofs.Marks.{walk_on}
use Rattle.shadow_segments.proofs.Shadow.set_written.Goals as goal

pub loop-unit-preserved : goal.loop-unit-preserved
loop-unit-preserved c =
    let unit = c.loop-unit.unit in
    let k = min c.args.to (max c.args.from (16 * unit)) - c.args.from in
    let n = min c.args.to (max c.args.from (16 * (unit + 1))) - c.args.from in
    let at : 16 * unit + c.start_in.result ≡ c.args.from + k = omega (arith, c.start_in.ensures, c.loop-unit.auto, c.loop-unit-test.true, c.if-from-to.true) in
    let sum : k + (c.end_in.result - c.start_in.result) ≡ n = omega (arith, c.start_in.ensures, c.end_in.ensures, c.loop-unit.auto, c.loop-unit-test.true, c.if-from-to.true) in
    record {
      done = c.set_number_in.ensures ∙ walk_on c.args.self.now c.loop-unit.self c.args.from k (c.end_in.result - c.start_in.result) (16 * unit + c.start_in.result) n NumberByte c.loop-unit.invariant.done at sum;
      same = ap (λ s. length s.notes) c.set_number_in.ensures ∙ c.loop-unit.invariant.same;
    }
