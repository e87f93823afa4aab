use Rattle.std.proofs.Common.{◌≡◌, ◌-◌, ◌≤◌, ◌⊎◌, reverse}
use Rattle.instrument.specs.Options.{youngest}
use Rattle.instrument.proofs.block.between.Given as goal

abbrev pub invariant-registers : goal.invariant-registers
invariant-registers l = record {
  pushed : reverse l.all.items ≡ youngest l.first (l.next - l.first);
  above : l.first ≤ l.next;
  below : (l.next ≤ l.first) ⊎ (l.next ≤ l.end);
}

abbrev pub decreases-registers : goal.decreases-registers
decreases-registers l = l.end - l.next
