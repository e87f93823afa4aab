use Rattle.std.proofs.Common.{◌≡◌, ◌≤◌, ◌-◌, length}
use Rattle.shadow_segments.specs.Shadow.{with_part}
use Rattle.shadow_segments.proofs.Shadow.copy_upward.Given as goal

abbrev pub invariant-loop-done : goal.invariant-loop-done
invariant-loop-done l = record {
  part : l.self ≡ with_part l.fn.self l.fn.self.marks l.from l.to l.n l.done;
  same : length l.self.notes ≡ length l.fn.self.notes;
  most : l.done ≤ l.n;
}

abbrev pub decreases-loop-done : goal.decreases-loop-done
decreases-loop-done l = l.n - l.done
