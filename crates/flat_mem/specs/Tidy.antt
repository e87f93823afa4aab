-- Ours: what a run's memory keeps to, so that there is a free place at the top of the stack and one after the globals.
use Rattle.std.specs.Prelude.{◌≡◌, ℕ, ◌/◌, ◌%◌, ◌≤◌, length, get_or, None}
use Rattle.mon_syntax.specs.Regions.{Region}

-- blocks that lie one after the other end at the top, and no unit from there on has a record
pub record IsTidy (r : Region) (top : ℕ) : Type 0 where
  pub unit : top % 16 ≡ 0
  pub inside : top ≤ length r.bytes
  pub free : (u : ℕ) → top / 16 ≤ u → get_or r.shadow.notes u None ≡ None
