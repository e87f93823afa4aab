use Rattle.std.proofs.Common.{◌≡◌, ◌≤◌, ◌+◌, ◌-◌, ◌*◌, ◌/◌, ◌%◌, length, ap, ◌∙◌, arith}
use Rattle.shadow_segments.proofs.CopiedMarks.{with_last, part_down, last_down}
use Rattle.shadow_segments.proofs.Shadow.copy_downward.Goals as goal

pub loop-left-preserved : goal.loop-left-preserved
loop-left-preserved c =
    let left = c.loop-left.left - c.last_part-count.result in
    let from = c.args.from + left in
    let to = c.args.to + left in
    let source : 16 * (from / 16) + from % 16 ≡ from = omega arith in
    let target : 16 * (to / 16) + to % 16 ≡ to = omega arith in
    let back : c.loop-left.left ≡ left + c.last_part-count.result = omega (arith, c.last_part-count.ensures.most) in
    let was = c.loop-left.invariant.last ∙ ap (with_last c.args.self.now c.args.self.now.marks c.args.from c.args.to c.args.n) back in
    let most : left + c.last_part-count.result ≤ c.args.n = omega (arith, c.loop-left.invariant.most, c.last_part-count.ensures.most) in
    let room : c.args.to + c.args.n ≤ length c.args.self.now.marks = omega (arith, c.requires.target, c.len.ensures.units, c.len.ensures.bytes) in
    record {
      last = c.copy_in.ensures ∙ part_down c.args.self.now c.loop-left.self c.args.from c.args.to c.args.n left c.last_part-count.result _ _ was c.requires.order source target most room;
      same = ap (λ s. length s.notes) c.copy_in.ensures ∙ c.loop-left.invariant.same;
      most = omega (arith, c.loop-left.invariant.most);
    }

pub returns : goal.returns
returns c = last_down c.args.self.now c.loop-left.self c.args.from c.args.to c.args.n c.loop-left.left c.loop-left.invariant.last (omega (arith, c.loop-left-test.false))
