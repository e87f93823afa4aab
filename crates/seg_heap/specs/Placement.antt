-- Ours: C99 7.20.3 leaves a block's place open.
-- Where a block may lie in the heap's segment.
use Rattle.std.specs.Prelude.{◌≡◌, ℕ, ◌+◌, ◌*◌, ◌/◌, ◌%◌, ◌≤◌, ◌⊎◌, not, ◌==◌, nat_lt, List, ◌∷◌, ◌++◌, All, AllPairs, Any, filter}

-- A live block: where it begins in the segment, and its length, both in bytes.
pub record Live : Type 0 where
  pub place : ℕ
  pub length : ℕ

-- A segment of this many units of 16 bytes, with its live blocks.
pub record Heap : Type 0 where
  pub units : ℕ
  pub live : List Live

-- The bytes that a block of this length takes: whole units, and one past the last byte is still its own.
abbrev pub rounded_size : ℕ → ℕ
rounded_size length = 16 * (length / 16 + 1)

-- The first byte after a block's units.
abbrev pub end_of : Live → ℕ
end_of block = block.place + rounded_size block.length

-- A block of this length fits here: at a multiple of 16, clear of each live block, within the segment.
pub record IsFree (heap : Heap) (length place : ℕ) : Type 0 where
  pub aligned : place % 16 ≡ 0
  pub clear : All (λ block. (place + rounded_size length ≤ block.place) ⊎ (end_of block ≤ place)) heap.live
  pub within : place + rounded_size length ≤ 16 * heap.units

-- It fits here, and nowhere before.
pub record IsLeastPlace (heap : Heap) (length place : ℕ) : Type 0 where
  pub free : IsFree heap length place
  pub least : (other : ℕ) → IsFree heap length other → place ≤ other

-- The live blocks lie in order of place, apart from one another, at multiples of 16, within the segment.
pub record AreApart (heap : Heap) : Type 0 where
  pub apart : AllPairs (λ block later. end_of block ≤ later.place) heap.live
  pub aligned : All (λ block. block.place % 16 ≡ 0) heap.live
  pub within : All (λ block. end_of block ≤ 16 * heap.units) heap.live

-- A live block begins here.
abbrev pub IsStart : Heap → ℕ → Type 0
IsStart heap place = Any (λ block. block.place ≡ place) heap.live

-- The blocks that begin before a place, and after it.
abbrev pub blocks_before : Heap → ℕ → List Live
blocks_before heap place = filter (λ block. nat_lt block.place place) heap.live

abbrev pub blocks_behind : Heap → ℕ → List Live
blocks_behind heap place = filter (λ block. nat_lt place block.place) heap.live

-- With one more block, in its order of place.
abbrev pub with_block : Heap → ℕ → ℕ → Heap
with_block heap place length = record {
  units = heap.units;
  live =
      blocks_before heap place ++ (record { place = place; length = length } ∷ blocks_behind heap place);
}

-- Without the block that begins here.
abbrev pub without_block : Heap → ℕ → Heap
without_block heap place = record { units = heap.units; live = filter (λ block. not (block.place == place)) heap.live }
