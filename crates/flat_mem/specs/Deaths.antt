-- Ours: deaths of blocks, by the place at which they begin.
use Rattle.std.specs.Prelude.{◌≡◌, ℕ, ◌+◌, ◌/◌, get_or, Some, None}
use Rattle.c_model.specs.Memory.{rounded}
use Rattle.shadow_segments.specs.declared.BlockNote.{BlockNote}
use Rattle.shadow_segments.specs.Shadow.{IsLiveBase, cleared_at}
use Rattle.mon_syntax.specs.declared.spot.RegionName.TheVariants.{Globals, Stack, Heap}
use Rattle.mon_syntax.specs.declared.spot.Spot.{Spot}
use Rattle.mon_syntax.specs.declared.spot.Spot.TheVariants.{Nowhere, In}
use Rattle.mon_syntax.specs.Regions.{Region}
use Rattle.mon_syntax.specs.Flat.{Flat}

-- the youngest live stack block begins here
pub record IsYoungest (f : Flat) (at : ℕ) : Type 0 where
  pub note : BlockNote
  pub there : get_or f.stack.shadow.notes (at / 16) None ≡ Some note
  pub base_is : note.base ≡ at
  pub ends : at + rounded note.length ≡ f.top

-- a block that may die begins here
abbrev pub MayDie : Flat → Spot → Type 0
MayDie f Nowhere = ⊥
MayDie f (In Globals at) = ⊥
MayDie f (In Stack at) = IsYoungest f at
MayDie f (In Heap at) = IsLiveBase f.heap.shadow.notes at

-- a region without the block at whose record a place leads
abbrev pub without : Region → ℕ → Region
without r at = record { bytes = r.bytes; shadow = cleared_at r.shadow at }

abbrev pub died : Flat → Spot → Flat
died f Nowhere = f
died f (In Globals at) = f
died f (In Stack at) = record f { stack = without f.stack at; top = at }
died f (In Heap at) = record f { heap = without f.heap at }
