use Rattle.std.proofs.Common.{◌≡◌, ◌≤◌, length, drop, ◌++◌}
use Rattle.std.specs.Prelude.{map}
use Rattle.c_lower.specs.declared.code.Instr.TheVariants as instr
use Rattle.c_lower.proofs.simple.emit_text.Given as goal

abbrev pub invariant-loop-left : goal.invariant-loop-left
invariant-loop-left l = (l.left ≤ length l.bytes) × (l.code ≡ map instr.PutByte (drop l.left l.bytes) ++ l.fn.code)

abbrev pub decreases-loop-left : goal.decreases-loop-left
decreases-loop-left l = l.left
