-- Ours: the relation of the two memories.
-- When flat memory stands for numbered blocks: where each block ever born lies or lay, and what its units, its records and its bytes are there.
use Rattle.std.specs.Prelude.{◌≡◌, ◌≢◌, ℕ, zero, suc, ◌+◌, ◌*◌, ◌/◌, ◌%◌, ◌^◌, ◌<◌, ◌≤◌, ◌⊎◌, ℤ, pos, Bool, true, ◌&&◌, if◌then◌else◌, List, [], ◌∷◌, ◌++◌}
use Rattle.std.specs.Prelude.{length, Option, Some, None, map, take, get_or, slice_get}
use Rattle.c_syntax.specs.declared.types.BlockKind.{BlockKind}
use Rattle.c_syntax.specs.declared.types.BlockKind.TheVariants as kind
use Rattle.c_model.specs.Limits.{most_frames}
use Rattle.c_model.specs.Memory.{Pointer, Null, Into, Value, Integer, Points, NoValue, Byte, Unwritten, Number, Piece, LoosePiece, Block, Store}
use Rattle.c_model.specs.Memory.{is_stack, is_heap, greatest_number, Sizes, standard_sizes}
use Rattle.c_model.specs.Together.{AllTogether}
use Rattle.shadow_segments.specs.declared.BlockNote.{BlockNote}
use Rattle.shadow_segments.specs.Shadow as shadow
use Rattle.shadow_segments.specs.Shadow.{Mark, NumberByte, PieceByte, LooseByte, units}
use Rattle.mon_syntax.specs.declared.spot.RegionName.{RegionName}
use Rattle.mon_syntax.specs.declared.spot.RegionName.TheVariants.{Globals, Stack, Heap}
use Rattle.mon_syntax.specs.Flat.{Flat, region, start_of}
use Rattle.mon_syntax.specs.BlockMemory.{Blocks}

-- ---- places

-- the region of a kind of block
abbrev pub region_of : BlockKind → RegionName
region_of kind.Global = Globals
region_of kind.Literal = Globals
region_of kind.Stack = Stack
region_of kind.Heap = Heap

-- the bytes that a region may have at most, so that no address of it is one of the next
abbrev pub most_bytes : RegionName → ℕ
most_bytes Globals = 805306368
most_bytes Stack = 1073741824
most_bytes Heap = 2147483648

-- where a block ever born lies or lay: its region, its first unit of 16 bytes there, and its size in bytes
pub record Place : Type 0 where
  pub name : RegionName
  pub unit : ℕ
  pub size : ℕ

-- the places of all blocks ever born, by their numbers
abbrev pub World : Type 0
World = List Place

-- more blocks were born
pub record Later (u v : World) : Type 0 where
  pub more : List Place
  pub is : v ≡ u ++ more

-- ---- values

-- the number that stands for a pointer to an offset in the block with this number, which lies or lay there
pub record PointsTo (w : World) (number offset : ℕ) (x : ℕ) : Type 0 where
  pub index : ℕ
  pub place : Place
  pub is_number : number ≡ suc index
  pub there : slice_get w index ≡ Some place
  pub small : number ≤ greatest_number
  pub inside : offset ≤ place.size
  pub within : 16 * (place.unit + units place.size) ≤ most_bytes place.name
  pub is : x ≡ number * 2 ^ 32 + (start_of place.name + (16 * place.unit + offset))

abbrev pub SamePointer : World → Pointer → ℕ → Type 0
SamePointer w Null x = x ≡ 0
SamePointer w (Into number offset) x = PointsTo w number offset x

-- a number for an integer, and a block's number above an address for a pointer
abbrev pub Same : World → Value → ℤ → Type 0
Same w (Integer z) y = z ≡ y
Same w (Points p) y = (x : ℕ) × (y ≡ pos x) × SamePointer w p x
Same w NoValue y = Unit {0}

-- ---- bytes

-- byte k of a number, the lowest first
abbrev pub byte_at : ℕ → ℕ → ℕ
byte_at v zero = v % 256
byte_at v (suc k) = byte_at (v / 256) k

-- a byte of a block, and a byte of a region with its mark
abbrev pub SameByte : World → Byte → Mark → ℕ → Type 0
SameByte w Unwritten m x = m ≡ shadow.Unwritten
SameByte w (Number n) m x = (m ≡ NumberByte) × (x ≡ n) × (n < 256)
SameByte w (Piece p k) m x = (m ≡ PieceByte) × (v : ℕ) × SamePointer w p v × (x ≡ byte_at v k)
SameByte w LoosePiece m x = m ≡ LooseByte

-- ---- the relation: first all but the bytes of blocks, which a store doesn't touch

-- what is known of a block beside its bytes; the place is a heap block's
pub record Head : Type 0 where
  pub kind : BlockKind
  pub size : ℕ
  pub live : Bool
  pub place : ℕ

abbrev pub head_of : Block → Head
head_of b = record { kind = b.kind; size = b.size; live = b.live; place = b.place }

abbrev pub heads : Store → List Head
heads s = map head_of s

abbrev pub is_on_stack : Head → Bool
is_on_stack h = h.live && is_stack h.kind

-- what live stack blocks take, in units
abbrev pub units_taken : List Head → ℕ
units_taken [] = 0
units_taken (h ∷ hs) = (if is_on_stack h then units h.size else 0) + units_taken hs

-- the record of the block with this index
abbrev pub note_of : ℕ → Head → Place → BlockNote
note_of index h p = record { base = 16 * p.unit; length = p.size; number = suc index; kind = h.kind }

abbrev pub notes_in : Flat → RegionName → List (Option BlockNote)
notes_in f name = (region f name).shadow.notes

abbrev pub marks_in : Flat → RegionName → List Mark
marks_in f name = (region f name).shadow.marks

abbrev pub bytes_in : Flat → RegionName → List ℕ
bytes_in f name = (region f name).bytes

-- blocks that share no unit
abbrev pub Apart : Place → Place → Type 0
Apart p q = (p.name ≢ q.name) ⊎ ((p.unit + units p.size ≤ q.unit) ⊎ (q.unit + units q.size ≤ p.unit))

-- a live block at its place
pub record Lain (p : Place) (h : Head) (f : Flat) : Type 0 where
  pub size : p.size ≡ h.size
  pub name : p.name ≡ region_of h.kind
  pub inside : p.unit + units p.size ≤ length (notes_in f p.name)
  pub placed : is_heap h.kind ≡ true → p.unit ≡ h.place

-- the live block of which a record is
pub record Owner (w : World) (hs : List Head) (name : RegionName) (u : ℕ) (n : BlockNote) : Type 0 where
  pub index : ℕ
  pub head : Head
  pub place : Place
  pub there : slice_get hs index ≡ Some head
  pub lies : slice_get w index ≡ Some place
  pub live : head.live ≡ true
  pub note : n ≡ note_of index head place
  pub which : place.name ≡ name
  pub from : place.unit ≤ u
  pub below : u < place.unit + units place.size

pub record Laid (w : World) (hs : List Head) (f : Flat) : Type 0 where
  pub count : length w ≡ length hs
  pub births : f.births ≡ length hs
  pub numbers : length hs ≤ greatest_number
  pub top : f.top ≡ 16 * units_taken hs
  -- each region is as long as its units, and no longer than it may be
  pub sized : (name : RegionName) → length (bytes_in f name) ≡ 16 * length (notes_in f name)
  pub marked : (name : RegionName) → length (marks_in f name) ≡ 16 * length (notes_in f name)
  pub small : (name : RegionName) → 16 * length (notes_in f name) ≤ most_bytes name
  pub lain : (b : ℕ) (h : Head) (p : Place) → slice_get hs b ≡ Some h → slice_get w b ≡ Some p → h.live ≡ true → Lain p h f
  -- live stack blocks stand one after another, in the order of their births
  pub tight : (b : ℕ) (h : Head) (p : Place) → slice_get hs b ≡ Some h → slice_get w b ≡ Some p → is_on_stack h ≡ true → p.unit ≡ units_taken (take b hs)
  pub noted : (b : ℕ) (h : Head) (p : Place) → slice_get hs b ≡ Some h → slice_get w b ≡ Some p → h.live ≡ true
      → (i : ℕ) → i < units p.size → get_or (notes_in f p.name) (p.unit + i) None ≡ Some (note_of b h p)
  pub only : (name : RegionName) (u : ℕ) (n : BlockNote) → get_or (notes_in f name) u None ≡ Some n → Owner w hs name u n
  pub apart : (a b : ℕ) (h i : Head) (p q : Place) → a ≢ b → slice_get hs a ≡ Some h → slice_get hs b ≡ Some i → h.live ≡ true → i.live ≡ true
      → slice_get w a ≡ Some p → slice_get w b ≡ Some q → Apart p q

-- the bytes of a live block
pub record Held (w : World) (p : Place) (b : Block) (f : Flat) : Type 0 where
  pub size : length b.bytes ≡ b.size
  pub bytes : (i : ℕ) → i < b.size
      → SameByte w (get_or b.bytes i Unwritten) (get_or (marks_in f p.name) (16 * p.unit + i) shadow.Unwritten) (get_or (bytes_in f p.name) (16 * p.unit + i) 0)

-- flat memory stands for blocks, in segments of these sizes
pub record HoldsIn (sizes : Sizes) (w : World) (m : Blocks) (f : Flat) : Type 0 where
  pub frames : m.frames ≡ f.frames
  pub most : f.most_frames ≡ most_frames
  -- each segment has the units of its size
  pub globals : length (notes_in f Globals) ≡ sizes.globals / 16
  pub stack : length (notes_in f Stack) ≡ sizes.stack / 16
  pub heap : length (notes_in f Heap) ≡ sizes.heap / 16
  pub laid : Laid w (heads m.store) f
  pub held : (b : ℕ) (k : Block) (p : Place) → slice_get m.store b ≡ Some k → slice_get w b ≡ Some p → k.live ≡ true → Held w p k f
  -- in an aligned group of eight bytes the pieces are those of one pointer, each at its own place
  pub together : AllTogether m.store

-- in segments of this profile's sizes
abbrev pub Holds : World → Blocks → Flat → Type 0
Holds w m f = HoldsIn standard_sizes w m f
