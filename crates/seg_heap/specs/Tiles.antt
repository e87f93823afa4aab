-- Ours: C99 7.20.3 leaves it open how a place is found.
-- What is kept for the units of a segment: blocks and gaps cover it, one after the other.
use Rattle.std.specs.Prelude.{◌≡◌, ℕ, zero, suc, ◌+◌, ◌*◌, ◌/◌, ◌<◌, ◌≤◌, List, [], ◌∷◌, length, get_or}
use Rattle.seg_heap.specs.Placement.{Live, Heap}

-- The blocks from a unit on, in order. Each unit has one more than the length of the block that begins there, or 0.
abbrev pub blocks_from : ℕ → List ℕ → List Live
blocks_from unit [] = []
blocks_from unit (zero ∷ starts) = blocks_from (suc unit) starts
blocks_from unit (suc size ∷ starts) = record { place = 16 * unit; length = size } ∷ blocks_from (suc unit) starts

abbrev pub heap_of : ℕ → List ℕ → Heap
heap_of units starts = record { units = units; live = blocks_from 0 starts }

-- The units of the block that begins at a unit, and of the gap, 0 where none does.
abbrev pub block_at : List ℕ → ℕ → ℕ
block_at starts unit = (get_or starts unit 0 + 15) / 16

abbrev pub gap_at : List ℕ → ℕ → ℕ
gap_at gaps unit = get_or gaps unit 0

-- A block or a gap holds a unit.
pub record IsHeld (block gap : ℕ → ℕ) (unit : ℕ) : Type 0 where
  pub start : ℕ
  pub from : start ≤ unit
  pub to : unit < start + block start + gap start

-- Blocks and gaps lie apart and leave no unit out, and no gap follows another.
pub record AreTiles (units : ℕ) (block gap : ℕ → ℕ) : Type 0 where
  pub kind : (unit : ℕ) → 0 < block unit → gap unit ≡ 0
  pub within : (unit : ℕ) → 0 < block unit + gap unit → unit + block unit + gap unit ≤ units
  pub apart : (unit later : ℕ) → unit < later → 0 < block later + gap later → unit + block unit + gap unit ≤ later
  pub whole : (unit : ℕ) → unit < units → IsHeld block gap unit
  pub widest : (unit : ℕ) → 0 < gap unit → gap (unit + gap unit) ≡ 0

-- Each block has the length of the gap that ends where it begins, or 0.
pub record AreBefore (block gap before : ℕ → ℕ) : Type 0 where
  pub ends : (unit : ℕ) → 0 < block unit → 0 < before unit → (start : ℕ) × (start + before unit ≡ unit) × (gap start ≡ before unit)
  pub all : (unit : ℕ) → 0 < gap unit → 0 < block (unit + gap unit) → before (unit + gap unit) ≡ gap unit

-- What the placer keeps.
pub record Keeps (units : ℕ) (starts before gaps : List ℕ) : Type 0 where
  pub small : units ≤ 16777216
  pub each_start : length starts ≡ units
  pub each_before : length before ≡ units
  pub each_gap : units ≤ length gaps
  pub tiles : AreTiles units (block_at starts) (gap_at gaps)
  pub ends : AreBefore (block_at starts) (gap_at gaps) (gap_at before)
