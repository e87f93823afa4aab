use Rattle.std.proofs.Common.{◌≡◌, ℕ, ◌≤◌, ◌<◌, ℤ, true, take, Some}
use Rattle.std.specs.Prelude.{slice_get}
use Rattle.c_lower.specs.Code.{is_short}
use Rattle.c_lower.specs.declared.code.Instr.TheVariants as instr
use Rattle.c_lower.specs.Sound.{operands_behind}
use Rattle.c_machine.proofs.depth.deepest.Given as goal

-- the count is that of the code so far, and none before was greater than the greatest
abbrev pub invariant-loop-instr : goal.invariant-loop-instr
invariant-loop-instr l = record {
  small : l.count ≤ l.instr-index;
  exact : (k : ℕ) → operands_behind 0 (take l.instr-index l.code) ≡ Some k → k ≡ l.count;
  short : (p : ℕ) (z : ℤ) → p < l.instr-index → slice_get l.code p ≡ Some (instr.Push z) → is_short z ≡ true;
  most : (p k : ℕ) → p ≤ l.instr-index → operands_behind 0 (take p l.code) ≡ Some k → k ≤ l.most;
}
