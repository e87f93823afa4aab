-- Laws of the heap and of struct assignment: where blocks are born, what is left of them when they are freed, and what is copied.
use Rattle.std.specs.Prelude.{◌≡◌, ℕ, ◌+◌, ◌/◌, ◌<◌, ◌≤◌, ◌≢◌, ℤ, true, false, List, [], ◌∷◌, length, replicate, map, Some, None, option_map, slice_get}
use Rattle.c_syntax.specs.declared.types.BlockKind.TheVariants.{Heap}
use Rattle.c_syntax.specs.declared.types.Segment.TheVariants as segment
use Rattle.c_syntax.specs.Statements.{Statement}
use Rattle.c_syntax.specs.Ctypes.{PlainType}
use Rattle.c_syntax.specs.Programs.{StructType, TranslationUnit}
use Rattle.c_syntax.specs.Layouts.{Scalar, scalar_size, size_of, scalars_of}
use Rattle.c_model.specs.Limits.{heap_bytes}
use Rattle.c_model.specs.Memory.{Pointer, Null, Into, Value, Points, Byte, copied, Block, Store, block_at, load_bytes, load, save, shifted, copy_all, moved}
use Rattle.c_model.specs.Memory.{distance, equal_pointers, tested_value, Sizes, standard_sizes, greatest_number, units, At, NoRoom, heap_room, freed}
use Rattle.c_model.specs.State.{State, Normal, allocate}
use Rattle.c_model.specs.Meaning.{exec}
use Rattle.c_model.specs.TypedPrograms.{AreLaidOut}
use Rattle.c_model.specs.Laws.{AreWhole, store_after}

-- ---- the place of a heap block

-- m units from a on and n units from b on have none in common
pub data AreApart (a m b n : ℕ) : Type 0 where
  Before : a + m ≤ b → AreApart a m b n
  Behind : b + n ≤ a → AreApart a m b n

-- a place for a block of a size in a heap of so many units: it ends within the heap and meets no live block of the heap
pub record IsPlace (length : ℕ) (store : Store) (size place : ℕ) : Type 0 where
  pub inside : place + units size ≤ length
  pub apart : (n : ℕ) (b : Block) → block_at store n ≡ Some b → b.live ≡ true → b.kind ≡ Heap → AreApart place (units size) b.place (units b.size)

-- a block of the heap is born at such a place
abbrev pub HeapPlacesFit : Type 0
HeapPlacesFit = (sizes : Sizes) (store : Store) (size place : ℕ) → heap_room sizes store size ≡ At place → IsPlace (sizes.heap / 16) store size place

-- which is the least
abbrev pub HeapPlacesAreLeast : Type 0
HeapPlacesAreLeast = (sizes : Sizes) (store : Store) (size place other : ℕ) → heap_room sizes store size ≡ At place → other < place
    → IsPlace (sizes.heap / 16) store size other → ⊥

-- the heap is full where there is none
abbrev pub FullHeapsHaveNoPlace : Type 0
FullHeapsHaveNoPlace = (sizes : Sizes) (store : Store) (size other : ℕ) → heap_room sizes store size ≡ NoRoom segment.Heap
    → IsPlace (sizes.heap / 16) store size other → ⊥

-- and only there, as long as numbers are left
abbrev pub HeapsWithNoPlaceAreFull : Type 0
HeapsWithNoPlaceAreFull = (sizes : Sizes) (store : Store) (size : ℕ) → length store < greatest_number
    → ((other : ℕ) → IsPlace (sizes.heap / 16) store size other → ⊥) → heap_room sizes store size ≡ NoRoom segment.Heap

-- numbers are asked for before a place
abbrev pub NumbersComeFirst : Type 0
NumbersComeFirst = (sizes : Sizes) (store : Store) (size : ℕ) → greatest_number ≤ length store → heap_room sizes store size ≡ NoRoom segment.Numbers

-- ---- births on the heap

-- the block with this number was born on the heap, with so many bytes that are all this one, between two states
pub record IsBorn (s t : State) (number n : ℕ) (byte : Byte) : Type 0 where
  pub block : Block
  pub found : block_at t.store number ≡ Some block
  pub kind : block.kind ≡ Heap
  pub size : block.size ≡ n
  pub live : block.live ≡ true
  pub bytes : block.bytes ≡ replicate n byte
  pub place : heap_room standard_sizes s.store n ≡ At block.place
  -- no block had the number
  pub new : block_at s.store number ≡ None
  pub others : (m : ℕ) → m ≢ number → block_at t.store m ≡ block_at s.store m

-- what is allocated is the start of a new block, whose number no block ever had, and no other block changes (C99 7.20.3)
abbrev pub AllocatedBlocksAreNew : Type 0
AllocatedBlocksAreNew = (n : ℕ) (byte : Byte) (s t : State) (number offset : ℕ) → allocate n byte s ≡ Normal (Points (Into number offset)) t
    → (offset ≡ 0) × IsBorn s t number n byte

-- no bytes give null, and no block is born
abbrev pub NoBytesGiveNull : Type 0
NoBytesGiveNull = (byte : Byte) (s : State) → allocate 0 byte s ≡ Normal (Points Null) s

-- ---- what is freed

-- a block that is freed keeps all but its life
pub record IsDead (b dead : Block) : Type 0 where
  pub kind : dead.kind ≡ b.kind
  pub size : dead.size ≡ b.size
  pub place : dead.place ≡ b.place
  pub bytes : dead.bytes ≡ b.bytes
  pub live : dead.live ≡ false

-- what `free` did: a live block of the heap is dead, and no other block changes
pub record IsFreed (store after : Store) (number : ℕ) : Type 0 where
  pub block : Block
  pub found : block_at store number ≡ Some block
  pub was_live : block.live ≡ true
  pub kind : block.kind ≡ Heap
  pub dead : Block
  pub after_is : block_at after number ≡ Some dead
  pub died : IsDead block dead
  pub others : (m : ℕ) → m ≢ number → block_at after m ≡ block_at store m

-- `free` takes the start of a live block of the heap (C99 7.20.3.2)
abbrev pub FreedBlocksDie : Type 0
FreedBlocksDie = (store after : Store) (number offset : ℕ) → freed store (Into number offset) ≡ Some after → (offset ≡ 0) × IsFreed store after number

-- and each such start
abbrev pub LiveBlocksCanBeFreed : Type 0
LiveBlocksCanBeFreed = (store : Store) (number : ℕ) (b : Block) → block_at store number ≡ Some b → b.live ≡ true → b.kind ≡ Heap
    → (after : Store) × (freed store (Into number 0) ≡ Some after)

-- null changes nothing
abbrev pub FreeLetsNullBe : Type 0
FreeLetsNullBe = (store : Store) → freed store Null ≡ Some store

-- no access to the block and no operation on a pointer into it is defined
pub record HasNoUse (store : Store) (number : ℕ) : Type 0 where
  pub loads : (i : ℕ) (k : Scalar) → load store (Into number i) k ≡ None
  pub saves : (i : ℕ) (k : Scalar) (v : Value) → save store (Into number i) k v ≡ None
  pub moves : (i : ℕ) (d : ℤ) → moved store (Into number i) d ≡ None
  pub distances : (i : ℕ) (q : Pointer) → (distance store (Into number i) q ≡ None) × (distance store q (Into number i) ≡ None)
  pub equals : (i : ℕ) (q : Pointer) → (equal_pointers store (Into number i) q ≡ None) × (equal_pointers store q (Into number i) ≡ None)
  pub tests : (i : ℕ) → tested_value store (Points (Into number i)) ≡ None
  pub frees : (i : ℕ) → freed store (Into number i) ≡ None

-- a dead block has no use (C99 6.2.4 p2)
abbrev pub DeadBlocksHaveNoUse : Type 0
DeadBlocksHaveNoUse = (store : Store) (number : ℕ) (b : Block) → block_at store number ≡ Some b → b.live ≡ false → HasNoUse store number

-- ---- blocks along a run

-- each block keeps its number, its kind, its size and its place, and a dead one stays dead
pub record StaysItself (b later : Block) : Type 0 where
  pub kind : later.kind ≡ b.kind
  pub size : later.size ≡ b.size
  pub place : later.place ≡ b.place
  pub dead : b.live ≡ false → later.live ≡ false

abbrev pub BlocksStay : Store → Store → Type 0
BlocksStay store after = (number : ℕ) (b : Block) → block_at store number ≡ Some b
    → (later : Block) × (block_at after number ≡ Some later) × StaysItself b later

-- so it is along each statement: no number is given twice, and what was freed is never live again
abbrev pub StatementsKeepBlocks : Type 0
StatementsKeepBlocks = (p : TranslationUnit) (a : Statement) (n : ℕ) (s : State) → BlocksStay s.store (store_after (exec p n a s))

-- the live blocks of the heap end within it, and no two of them have a unit in common
pub record AreSettled (store : Store) : Type 0 where
  pub inside : (n : ℕ) (b : Block) → block_at store n ≡ Some b → b.live ≡ true → b.kind ≡ Heap → b.place + units b.size ≤ heap_bytes / 16
  pub apart : (n m : ℕ) (b c : Block) → n ≢ m → block_at store n ≡ Some b → b.live ≡ true → b.kind ≡ Heap
      → block_at store m ≡ Some c → c.live ≡ true → c.kind ≡ Heap → AreApart b.place (units b.size) c.place (units c.size)

-- so it stays along each statement
abbrev pub StatementsKeepPlaces : Type 0
StatementsKeepPlaces = (p : TranslationUnit) (a : Statement) (n : ℕ) (s : State) → AreSettled s.store → AreSettled (store_after (exec p n a s))

-- ---- struct assignment (C99 6.5.16.1)

-- scalars at offsets from one number to another, each behind the one before it
abbrev pub StandInOrder : ℕ → List (ℕ × Scalar) → ℕ → Type 0
StandInOrder from [] to = from ≤ to
StandInOrder from (c ∷ cs) to = (from ≤ c.0) × StandInOrder (c.0 + scalar_size c.1) cs to

-- two objects of so many bytes are one, or have no byte in common (C99 6.5.16.1 p3)
pub data SameOrApart (size : ℕ) : Pointer → Pointer → Type 0 where
  TheSame : (p : Pointer) → SameOrApart size p p
  InOthers : (n m i j : ℕ) → n ≢ m → SameOrApart size (Into n i) (Into m j)
  TheFirstBefore : (n i j : ℕ) → i + size ≤ j → SameOrApart size (Into n i) (Into n j)
  TheFirstBehind : (n i j : ℕ) → j + size ≤ i → SameOrApart size (Into n i) (Into n j)

-- the offsets and sizes of scalars
abbrev pub sizes_of : List (ℕ × Scalar) → List (ℕ × ℕ)
sizes_of cs = map (λ (c : ℕ × Scalar). (c.0, scalar_size c.1)) cs

-- a member at p has the bytes that the one at q had: unwritten bytes and numbers as they were, and so the pieces where all eight are copied
pub record IsCopied (store saved : Store) (p q : Pointer) (k : Scalar) : Type 0 where
  pub bytes : load_bytes saved p (scalar_size k) ≡ option_map copied (load_bytes store q (scalar_size k))
  -- and so its value, where it has one
  pub value : load saved p k ≡ load store q k

-- the scalars of a type stand in it, one behind the other
abbrev pub ScalarsStandInOrder : Type 0
ScalarsStandInOrder = (structs : List StructType) → AreLaidOut structs structs → (t : PlainType) → StandInOrder 0 (scalars_of structs t) (size_of structs t)

-- each scalar of a struct that is assigned is the one of the other struct
abbrev pub AssignedStructsAreCopies : Type 0
AssignedStructsAreCopies = (structs : List StructType) → AreLaidOut structs structs → (t : PlainType) (store saved : Store) (p q : Pointer) → AreWhole store
    → SameOrApart (size_of structs t) p q → copy_all store p q (sizes_of (scalars_of structs t)) ≡ Some saved
    → (n : ℕ) (c : ℕ × Scalar) → slice_get (scalars_of structs t) n ≡ Some c → IsCopied store saved (shifted p c.0) (shifted q c.0) c.1

-- a byte is none of a scalar in the struct at a pointer
pub data IsOutside (n i m j : ℕ) (c : ℕ × Scalar) : Type 0 where
  InAnotherBlock : m ≢ n → IsOutside n i m j c
  InFront : j < i + c.0 → IsOutside n i m j c
  BehindIt : i + c.0 + scalar_size c.1 ≤ j → IsOutside n i m j c

-- and no other byte changes: padding isn't copied
abbrev pub AssignedStructsKeepTheRest : Type 0
AssignedStructsKeepTheRest = (structs : List StructType) (t : PlainType) (store saved : Store) (n i : ℕ) (q : Pointer) → AreWhole store
    → copy_all store (Into n i) q (sizes_of (scalars_of structs t)) ≡ Some saved
    → (m j : ℕ) → ((k : ℕ) (c : ℕ × Scalar) → slice_get (scalars_of structs t) k ≡ Some c → IsOutside n i m j c)
    → load_bytes saved (Into m j) 1 ≡ load_bytes store (Into m j) 1
