use Rattle.std.proofs.Common.{◌≡◌, ◌≤◌, ◌+◌, ◌-◌, ◌*◌, min, max, sym, ◌∙◌, arith}
use Rattle.shadow_segments.specs.Shadow.{test_of}
use Rattle.shadow_segments.proofs.Marks.{all_on, all_fails}
use Rattle.shadow_segments.proofs.Shadow.all.Goals as goal

pub loop-unit-preserved : goal.loop-unit-preserved
loop-unit-preserved g c =
    let unit = c.loop-unit.unit in
    let k = min c.args.to (max c.args.from (16 * unit)) - c.args.from in
    let n = min c.args.to (max c.args.from (16 * (unit + 1))) - c.args.from in
    let at : 16 * unit + c.start_in.result ≡ c.args.from + k = omega (arith, c.start_in.ensures, c.loop-unit.auto, c.loop-unit-test.true, c.if-from-to.true) in
    let sum : k + (c.end_in.result - c.start_in.result) ≡ n = omega (arith, c.start_in.ensures, c.end_in.ensures, c.loop-unit.auto, c.loop-unit-test.true, c.if-from-to.true) in
    record {
      done = all_on (test_of c.args.asked) c.args.self.now.marks c.args.from k (c.end_in.result - c.start_in.result) (16 * unit + c.start_in.result)
          n c.all_in_unit.result c.loop-unit.invariant.done c.all_in_unit.ensures.value at sum c.if-not-all_in_unit.false;
      steps = omega (arith, c.all_in_unit.ensures.step, c.loop-unit.invariant.steps, c.loop-unit.auto);
    }

pub returns-then-not-all_in_unit-clause-value : goal.returns-then-not-all_in_unit-clause-value
returns-then-not-all_in_unit-clause-value g c =
    let unit = c.loop-unit.unit in
    let k = min c.args.to (max c.args.from (16 * unit)) - c.args.from in
    let at : 16 * unit + c.start_in.result ≡ c.args.from + k = omega (arith, c.start_in.ensures, c.loop-unit.auto, c.loop-unit-test.true, c.if-from-to.true) in
    let le : k + (c.end_in.result - c.start_in.result) ≤ c.args.to - c.args.from = omega (arith, c.start_in.ensures, c.end_in.ensures, c.loop-unit.auto, c.loop-unit-test.true, c.if-from-to.true) in
    sym (all_fails (test_of c.args.asked) c.args.self.now.marks c.args.from k (c.end_in.result - c.start_in.result) (16 * unit + c.start_in.result) (c.args.to - c.args.from)
    c.loop-unit.invariant.done (sym c.all_in_unit.ensures.value ∙ c.if-not-all_in_unit.true) at le)
