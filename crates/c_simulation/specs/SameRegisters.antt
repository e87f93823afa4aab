-- Ours: which registers an evaluation leaves as they are.
use Rattle.std.specs.Prelude.{◌≡◌, ◌⊎◌, ℕ, ◌<◌, ◌≤◌, List, length, slice_get}
use Rattle.c_model.specs.Memory.{Value}

-- the same registers below n
pub record Same (n : ℕ) (regs after : List Value) : Type 0 where
  pub long : length after ≡ length regs
  pub below : (j : ℕ) → j < n → slice_get after j ≡ slice_get regs j

-- and but for those from one number to another, where what labels keep stands
pub record Stays (n m low : ℕ) (regs after : List Value) : Type 0 where
  pub long : length after ≡ length regs
  pub kept : (j : ℕ) → j < low → (j < n) ⊎ (m ≤ j) → slice_get after j ≡ slice_get regs j
