-- Ours: what ties the placer of the heap to the records of the heap's units.
use Rattle.std.specs.Prelude.{◌≡◌, ℕ, ◌+◌, ◌/◌, ◌<◌, ◌≤◌, List, length, get_or, Option, Some, None, Contains}
use Rattle.seg_heap.specs.Placement.{Live, Heap, AreApart}
use Rattle.shadow_segments.specs.declared.BlockNote.{BlockNote}
use Rattle.shadow_segments.specs.Shadow.{AreWhole, units}

-- the unit has a record with the place of a block
pub record IsNoted (ns : List (Option BlockNote)) (u : ℕ) (b : Live) : Type 0 where
  pub note : BlockNote
  pub there : get_or ns u None ≡ Some note
  pub base : note.base ≡ b.place

-- the placer's live blocks are those of the records
pub record IsPlaced (h : Heap) (ns : List (Option BlockNote)) : Type 0 where
  pub size : length ns ≡ h.units
  pub apart : AreApart h
  pub whole : AreWhole ns
  pub listed : (b : Live) → Contains h.live b → (u : ℕ) → b.place / 16 ≤ u → u < b.place / 16 + units b.length → IsNoted ns u b
  pub only : (u : ℕ) (n : BlockNote) → get_or ns u None ≡ Some n → Contains h.live (record { place = n.base; length = n.length })
