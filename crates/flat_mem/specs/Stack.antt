-- Ours: numbers on the stack alone, which most pointers lead to.
use Rattle.std.specs.Prelude.{ℕ, Option, None, false}
use Rattle.mon_syntax.specs.declared.spot.Spot.{Spot}
use Rattle.mon_syntax.specs.declared.spot.Spot.TheVariants.{In, Nowhere}
use Rattle.mon_syntax.specs.declared.spot.RegionName.TheVariants.{Globals, Stack, Heap}
use Rattle.mon_syntax.specs.Flat.{Flat, load_spot, store_spot}

-- the number there, or none where the spot isn't on the stack
abbrev pub stack_load : Flat → Spot → ℕ → Option ℕ
stack_load f (In Stack at) width = load_spot f (In Stack at) width
stack_load f (In Globals at) width = None
stack_load f (In Heap at) width = None
stack_load f Nowhere width = None

-- the memory in which it stands there, or none where the spot isn't on the stack
abbrev pub stack_store : Flat → Spot → ℕ → ℕ → Option Flat
stack_store f (In Stack at) width value = store_spot f (In Stack at) width value false
stack_store f (In Globals at) width value = None
stack_store f (In Heap at) width value = None
stack_store f Nowhere width value = None
