use Rattle.std.proofs.Common.{◌≡◌, ◌≤◌, length}
use Rattle.shadow_segments.proofs.CopiedMarks.{with_last}
use Rattle.shadow_segments.proofs.Shadow.copy_downward.Given as goal

abbrev pub invariant-loop-left : goal.invariant-loop-left
invariant-loop-left l = record {
  last : l.self ≡ with_last l.fn.self l.fn.self.marks l.from l.to l.n l.left;
  same : length l.self.notes ≡ length l.fn.self.notes;
  most : l.left ≤ l.n;
}

abbrev pub decreases-loop-left : goal.decreases-loop-left
decreases-loop-left l = l.left
