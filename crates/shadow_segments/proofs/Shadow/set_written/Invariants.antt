use Rattle.std.proofs.Common.{◌≡◌, ◌-◌, ◌*◌, min, max, length}
use Rattle.shadow_segments.specs.Shadow.{with_marks, NumberByte}
use Rattle.shadow_segments.proofs.Shadow.set_written.Given as goal

abbrev pub invariant-loop-unit : goal.invariant-loop-unit
invariant-loop-unit l = record {
  done : l.self ≡ with_marks l.fn.self l.from (min l.to (max l.from (16 * l.unit)) - l.from) NumberByte;
  same : length l.self.notes ≡ length l.fn.self.notes;
}
