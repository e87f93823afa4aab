-- Ours: laws of the relation of the two memories.
-- A run begins with flat memory that stands for its blocks, and whatever a monitored program does to memory leaves it so, up to the first operation that has
-- no meaning over blocks. What the relation says of dead blocks, of pointers and of their pieces.
use Rattle.std.specs.Prelude.{◌≡◌, ◌≢◌, ℕ, suc, ◌+◌, ◌-◌, ◌*◌, ◌/◌, ◌%◌, ◌<◌, ◌≤◌, ℤ, true, false, List, [], Some, None, get_or, slice_get}
use Rattle.c_model.specs.Limits.{globals_bytes}
use Rattle.c_model.specs.Memory.{Pointer, Value, Unwritten, Piece, Block}
use Rattle.shadow_segments.specs.declared.BlockNote.{BlockNote}
use Rattle.shadow_segments.specs.Shadow as shadow
use Rattle.shadow_segments.specs.Shadow.{Mark, PieceByte, units}
use Rattle.mon_syntax.specs.declared.spot.RegionName.{RegionName}
use Rattle.mon_syntax.specs.declared.spot.Spot.TheVariants.{In}
use Rattle.mon_syntax.specs.declared.tree.MemoryCall.{MemoryCall}
use Rattle.mon_syntax.specs.declared.tree.MonOp.{MonOp}
use Rattle.mon_syntax.specs.declared.tree.MonType.{MonType}
use Rattle.mon_syntax.specs.Trees.{MonitoredGlobal}
use Rattle.mon_syntax.specs.Globals.{globals_taken}
use Rattle.mon_syntax.specs.Valid.{AreGlobals}
use Rattle.mon_syntax.specs.Memory.{Reply}
use Rattle.mon_syntax.specs.Strings.{GoesWith}
use Rattle.mon_syntax.specs.Flat.{Flat, number_in, spot_of, flat_enter, flat_leave, flat_string}
use Rattle.mon_syntax.specs.BlockMemory.{Blocks, load_block, store_value, pointed_block, act_on_blocks, string_in, enter_blocks, over_blocks, blocks_start}
use Rattle.mon_syntax.specs.FlatMemory.{load_flat, store_flat, pointed_flat, act_on_flat, pointer_in, valued, over_flat, flat_start}
use Rattle.mon_syntax.specs.Following.{Kept, AllKept, Replied}
use Rattle.mon_syntax.specs.FlatRelation.{World, Later, Place, PointsTo, SamePointer, Same, byte_at, notes_in, marks_in, bytes_in, Holds}

-- ---- what a program does to memory

-- the blocks of these globals and literals and the flat memory in which a run begins, with the pointers to their starts
pub record StartsAlike (gs : List MonitoredGlobal) : Type 0 where
  pub world : World
  pub holds : Holds world (blocks_start gs) (flat_start gs)
  pub starts : AllKept (Same world) (over_blocks.starts gs) (over_flat.starts gs)

abbrev pub RunsStartAlike : Type 0
RunsStartAlike = (gs : List MonitoredGlobal) → AreGlobals [] gs → globals_taken gs ≤ globals_bytes → StartsAlike gs

-- what both answer: the same, in places of blocks that were born before and others
abbrev pub AnswerAlike : World → Reply Blocks Value → Reply Flat ℤ → Type 0
AnswerAlike w = Replied World Later Same Holds w

-- births, deaths, copies and questions
abbrev pub CallsKeep : Type 0
CallsKeep =
    (w : World) (f : MemoryCall) (xs : List Value) (ys : List ℤ) (m : Blocks) (n : Flat) → AllKept (Same w) xs ys → Holds w m n
    → AnswerAlike w (act_on_blocks f xs m) (act_on_flat f ys n)

-- a string over blocks that ends is the one of flat memory; one that breaks off is a beginning of it
abbrev pub StringsKeep : Type 0
StringsKeep =
    (w : World) (a : Value) (b : ℤ) (m : Blocks) (n : Flat) → Same w a b → Holds w m n
    → GoesWith (string_in a m).1 (string_in a m).0 (flat_string n (pointer_in b))

abbrev pub FramesKeep : Type 0
FramesKeep = (w : World) (m : Blocks) (n : Flat) → Holds w m n → AnswerAlike w (enter_blocks m) (valued (flat_enter n))

abbrev pub FrameEndsKeep : Type 0
FrameEndsKeep = (w : World) (m : Blocks) (n : Flat) → Holds w m n → Holds w (record m { frames = m.frames - 1 }) (flat_leave n)

abbrev pub LoadsKeep : Type 0
LoadsKeep =
    (w : World) (t : MonType) (a : Value) (b : ℤ) (m : Blocks) (n : Flat) → Same w a b → Holds w m n → Kept (Same w) (load_block t a m) (load_flat t b n)

abbrev pub StoresKeep : Type 0
StoresKeep =
    (w : World) (t : MonType) (a x : Value) (b y : ℤ) (m : Blocks) (n : Flat) → Same w a b → Same w x y → Holds w m n
    → Kept (Holds w) (store_value t a x m) (store_flat t b y n)

abbrev pub OperatorsKeep : Type 0
OperatorsKeep =
    (w : World) (op : MonOp) (a x : Value) (b y : ℤ) (m : Blocks) (n : Flat) → Same w a b → Same w x y → Holds w m n
    → Kept (Same w) (pointed_block op a x m) (pointed_flat op b y n)

-- ---- places and pointers

-- a block keeps the one place that it has, also when it is dead
abbrev pub PlacesStay : Type 0
PlacesStay = (u v : World) (b : ℕ) (p : Place) → Later u v → slice_get u b ≡ Some p → slice_get v b ≡ Some p

-- so what stands for a value goes on to do so
abbrev pub ValuesStay : Type 0
ValuesStay = (u v : World) (a : Value) (b : ℤ) → Later u v → Same u a b → Same v a b

-- the number of a dead block stands in no record
abbrev pub DeadHaveNoRecord : Type 0
DeadHaveNoRecord =
    (w : World) (m : Blocks) (f : Flat) → Holds w m f → (b : ℕ) (k : Block) → slice_get m.store b ≡ Some k → k.live ≡ false
    → (name : RegionName) (u : ℕ) (n : BlockNote) → get_or (notes_in f name) u None ≡ Some n → n.number ≢ suc b

-- a pointer is the number of its block above an address in the block's units
pub record LiesIn (p : Place) (number offset x : ℕ) : Type 0 where
  pub number_is : number_in x ≡ number
  pub spot_is : spot_of x ≡ In p.name (16 * p.unit + offset)
  pub below : 16 * p.unit + offset < 16 * (p.unit + units p.size)

-- one after the block's end does too
abbrev pub PointersLieInUnits : Type 0
PointersLieInUnits = (w : World) (number offset x : ℕ) (q : PointsTo w number offset x) → LiesIn q.place number offset x

-- a byte of flat memory that is a piece of a pointer, at its own place in an aligned group of eight
pub record IsPieceOf (w : World) (q : Pointer) (i k : ℕ) (mark : Mark) (byte : ℕ) : Type 0 where
  pub mark_is : mark ≡ PieceByte
  pub own : k ≡ i % 8
  pub value : ℕ
  pub same : SamePointer w q value
  pub byte_is : byte ≡ byte_at value k

abbrev pub PiecesHaveTheirBytes : Type 0
PiecesHaveTheirBytes =
    (w : World) (m : Blocks) (f : Flat) → Holds w m f → (b : ℕ) (c : Block) (p : Place) → slice_get m.store b ≡ Some c → slice_get w b ≡ Some p
    → c.live ≡ true → (i k : ℕ) (q : Pointer) → i < c.size → get_or c.bytes i Unwritten ≡ Piece q k
    → IsPieceOf w q i k (get_or (marks_in f p.name) (16 * p.unit + i) shadow.Unwritten) (get_or (bytes_in f p.name) (16 * p.unit + i) 0)

-- the pieces of a group are those of one pointer
abbrev pub PiecesAreOfOne : Type 0
PiecesAreOfOne =
    (w : World) (m : Blocks) (f : Flat) → Holds w m f → (b : ℕ) (c : Block) → slice_get m.store b ≡ Some c → (i j k l : ℕ) (p q : Pointer) → i / 8 ≡ j / 8
    → get_or c.bytes i Unwritten ≡ Piece p k → get_or c.bytes j Unwritten ≡ Piece q l → p ≡ q
