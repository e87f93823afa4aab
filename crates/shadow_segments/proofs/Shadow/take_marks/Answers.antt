use Rattle.std.proofs.Common.{◌≡◌, ◌+◌, ◌*◌, ◌/◌, ◌%◌, length, ap, ◌∙◌, arith}
use Rattle.shadow_segments.specs.Shadow.{with_part}
use Rattle.shadow_segments.proofs.CopiedMarks.{part_taken}
use Rattle.shadow_segments.proofs.Shadow.take_marks.Goals as goal

pub loop-done-preserved : goal.loop-done-preserved
loop-done-preserved c =
    let from = c.args.from + c.loop-done.done in
    let to = c.args.to + c.loop-done.done in
    let source : 16 * (from / 16) + from % 16 ≡ from = omega arith in
    let target : 16 * (to / 16) + to % 16 ≡ to = omega arith in
    record {
      part =
          c.take_in.ensures
          ∙ part_taken c.args.self.now c.loop-done.self c.args.other.now.marks c.args.from c.args.to c.args.n c.loop-done.done c.first_part-count.result _ _ c.loop-done.invariant.part source target;
      same = ap (λ s. length s.notes) c.take_in.ensures ∙ c.loop-done.invariant.same;
      most = omega (arith, c.first_part-count.ensures.most, c.loop-done-test.true);
    }

pub returns : goal.returns
returns c =
    let all : c.loop-done.done ≡ c.args.n = omega (arith, c.loop-done.invariant.most, c.loop-done-test.false) in
    c.loop-done.invariant.part ∙ ap (with_part c.args.self.now c.args.other.now.marks c.args.from c.args.to c.args.n) all
