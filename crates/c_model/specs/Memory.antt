-- Memory: numbered blocks of bytes (C99 6.2.4, 6.2.6), with what an access reads and writes.
use Rattle.std.specs.Prelude.{ℕ, zero, suc, ◌+◌, ◌*◌, ◌/◌, ◌%◌, ℤ, pos, negsuc, ◌+ℤ◌, ◌-ℤ◌, Bool, true, false, not, ◌&&◌, ◌||◌, if◌then◌else◌}
use Rattle.std.specs.Prelude.{nat_eq, nat_le, nat_lt, List, [], ◌∷◌, ◌++◌, length, take, drop, replicate, map, Option, Some, None, option_map}
use Rattle.std.specs.Prelude.{slice_get, slice_set}
use Rattle.c_syntax.specs.declared.types.BlockKind.{BlockKind}
use Rattle.c_syntax.specs.declared.types.BlockKind.TheVariants.{Global, Literal, Stack, Heap}
use Rattle.c_syntax.specs.declared.types.Segment.{Segment}
use Rattle.c_syntax.specs.declared.types.Segment.TheVariants as segment
use Rattle.c_syntax.specs.Layouts.{int_size, Scalar, IntegerType, PointerType, scalar_size}
use Rattle.c_model.specs.Limits.{globals_bytes, stack_bytes, heap_bytes}
use Rattle.c_model.specs.Integers.{bits_of, value_of_bits, truth}

-- null, or a place in a block: its number, from 1, and the offset in bytes
pub data Pointer : Type 0 where
  Null : Pointer
  Into : ℕ → ℕ → Pointer

-- a value of a scalar type, or the value of an expression of another type, which is none (C99 6.3.2.2)
pub data Value : Type 0 where
  Integer : ℤ → Value
  Points : Pointer → Value
  NoValue : Value

-- a byte of a block: nothing was written there, a part of a number, the k-th of the eight pieces of a pointer, or a piece that
-- was copied without the others
pub data Byte : Type 0 where
  Unwritten : Byte
  Number : ℕ → Byte
  Piece : Pointer → ℕ → Byte
  LoosePiece : Byte

-- an object (C99 6.2.4): its kind, its size in bytes, whether it lives, its bytes, and the first of a heap block's units in its segment
pub record Block : Type 0 where
  pub kind : BlockKind
  pub size : ℕ
  pub live : Bool
  pub bytes : List Byte
  pub place : ℕ

-- all blocks ever born; the block with the number n is the n-th
abbrev pub Store : Type 0
Store = List Block

abbrev pub block_at : Store → ℕ → Option Block
block_at store zero = None
block_at store (suc k) = slice_get store k

-- a new block that holds these bytes
abbrev pub block_of : BlockKind → List Byte → Block
block_of kind bytes = record { kind = kind; size = length bytes; live = true; bytes = bytes; place = 0 }

-- a new block of a size, with unwritten bytes
abbrev pub new_block : BlockKind → ℕ → Block
new_block kind size = record { kind = kind; size = size; live = true; bytes = replicate size Unwritten; place = 0 }

-- ---- bytes and values

abbrev pub with_low_byte : ℕ → Option ℕ → Option ℕ
with_low_byte b None = None
with_low_byte b (Some n) = Some (b + 256 * n)

-- the number that bytes hold, the lowest first; nothing where a byte is no part of a number
abbrev pub number_of : List Byte → Option ℕ
number_of [] = Some 0
number_of (Unwritten ∷ bs) = None
number_of (Number b ∷ bs) = with_low_byte b (number_of bs)
number_of (Piece p k ∷ bs) = None
number_of (LoosePiece ∷ bs) = None

-- a number in so many bytes
abbrev pub bytes_of : ℕ → ℕ → List Byte
bytes_of zero n = []
bytes_of (suc w) n = Number (n % 256) ∷ bytes_of w (n / 256)

abbrev pub same_pointer : Pointer → Pointer → Bool
same_pointer Null Null = true
same_pointer Null (Into m j) = false
same_pointer (Into n i) Null = false
same_pointer (Into n i) (Into m j) = nat_eq n m && nat_eq i j

-- the last pieces of a pointer, from the k-th on
abbrev pub are_pieces : Pointer → ℕ → List Byte → Bool
are_pieces p k [] = true
are_pieces p k (Unwritten ∷ bs) = false
are_pieces p k (Number b ∷ bs) = false
are_pieces p k (Piece q j ∷ bs) = (same_pointer p q && nat_eq j k) && are_pieces p (suc k) bs
are_pieces p k (LoosePiece ∷ bs) = false

-- so many pieces of a pointer, from the k-th on
abbrev pub pieces : Pointer → ℕ → ℕ → List Byte
pieces p k zero = []
pieces p k (suc n) = Piece p k ∷ pieces p (suc k) n

-- null, where bytes hold the number 0
abbrev pub null_of : Option ℕ → Option Pointer
null_of None = None
null_of (Some zero) = Some Null
null_of (Some (suc n)) = None

-- the pointer that eight bytes hold: its pieces, or the number 0 for null (C99 6.3.2.3 p3)
abbrev pub pointer_of : List Byte → Option Pointer
pointer_of [] = None
pointer_of (Unwritten ∷ bs) = None
pointer_of (Number b ∷ bs) = null_of (number_of (Number b ∷ bs))
pointer_of (Piece p k ∷ bs) = if are_pieces p 0 (Piece p k ∷ bs) then Some p else None
pointer_of (LoosePiece ∷ bs) = None

-- the value of a scalar type that bytes hold
abbrev pub value_from : Scalar → List Byte → Option Value
value_from (IntegerType k) bytes = option_map (λ n. Integer (value_of_bits k n)) (number_of bytes)
value_from PointerType bytes = option_map Points (pointer_of bytes)

-- the bytes of a value of a scalar type
abbrev pub bytes_from : Scalar → Value → List Byte
bytes_from (IntegerType k) (Integer z) = bytes_of (int_size k) (bits_of k z)
bytes_from (IntegerType k) (Points p) = []
bytes_from (IntegerType k) NoValue = []
bytes_from PointerType (Integer z) = []
bytes_from PointerType (Points p) = pieces p 0 8
bytes_from PointerType NoValue = []

-- a byte that is copied without the other bytes of a pointer
abbrev pub loosened : Byte → Byte
loosened Unwritten = Unwritten
loosened (Number b) = Number b
loosened (Piece p k) = LoosePiece
loosened LoosePiece = LoosePiece

-- copied bytes: fewer than eight hold no pointer any more
abbrev pub copied : List Byte → List Byte
copied bytes = if nat_lt (length bytes) 8 then map loosened bytes else bytes

-- ---- accesses (C99 6.3.2.1, 6.5 p7)

-- an access of so many bytes at the offset: the block lives, the bytes are inside it, and the offset is a multiple of their number
abbrev pub is_accessible : Block → ℕ → ℕ → Bool
is_accessible b offset n = b.live && (nat_le (offset + n) b.size && nat_eq (offset % n) 0)

abbrev pub is_literal : BlockKind → Bool
is_literal Global = false
is_literal Literal = true
is_literal Stack = false
is_literal Heap = false

abbrev pub bytes_in : Option Block → ℕ → ℕ → Option (List Byte)
bytes_in None offset n = None
bytes_in (Some b) offset n = if is_accessible b offset n then Some (take n (drop offset b.bytes)) else None

-- so many bytes at a pointer, where they can be accessed
abbrev pub load_bytes : Store → Pointer → ℕ → Option (List Byte)
load_bytes store Null n = None
load_bytes store (Into m offset) n = bytes_in (block_at store m) offset n

infixl 10 ◌>>=◌
abbrev pub ◌>>=◌ : {A B : Type 0} → Option A → (A → Option B) → Option B
None >>= go = None
(Some a) >>= go = go a

-- the value of the type at a pointer, where it can be read
abbrev pub load : Store → Pointer → Scalar → Option Value
load store p k = load_bytes store p (scalar_size k) >>= value_from k

-- the block with these bytes at the offset
abbrev pub with_bytes : Block → ℕ → List Byte → Block
with_bytes b offset bytes = record b { bytes = take offset b.bytes ++ (bytes ++ drop (offset + length bytes) b.bytes) }

abbrev pub saved_block : Option Block → ℕ → ℕ → List Byte → Option Block
saved_block None offset n bytes = None
saved_block (Some b) offset n bytes = if is_accessible b offset n && not (is_literal b.kind) then Some (with_bytes b offset bytes) else None

abbrev pub with_block : Store → ℕ → Option Block → Option Store
with_block store k None = None
with_block store k (Some b) = Some (slice_set store k b)

-- the store with these bytes at a pointer, where so many can be written: just they are replaced
abbrev pub save_bytes : Store → Pointer → ℕ → List Byte → Option Store
save_bytes store Null n bytes = None
save_bytes store (Into zero offset) n bytes = None
save_bytes store (Into (suc k) offset) n bytes = with_block store k (saved_block (slice_get store k) offset n bytes)

-- the store with the value of the type at a pointer, where it can be written
abbrev pub save : Store → Pointer → Scalar → Value → Option Store
save store p k v = save_bytes store p (scalar_size k) (bytes_from k v)

-- a pointer so many bytes farther, without a look at its block
abbrev pub shifted : Pointer → ℕ → Pointer
shifted Null d = Null
shifted (Into n offset) d = Into n (offset + d)

-- the store with so many bytes copied from the second pointer to the first, all read before one is written
abbrev pub copy : Store → Pointer → Pointer → ℕ → Option Store
copy store p q n = load_bytes store q n >>= λ bytes. save_bytes store p n (copied bytes)

-- the store with scalars copied, each at an offset and of a size, in this order (C99 6.5.16.1 p2)
abbrev pub copy_all : Store → Pointer → Pointer → List (ℕ × ℕ) → Option Store
copy_all store p q [] = Some store
copy_all store p q (c ∷ cs) = copy store (shifted p c.0) (shifted q c.0) c.1 >>= λ saved. copy_all saved p q cs

-- ---- pointers (C99 6.5.6, 6.5.8, 6.5.9)

abbrev pub live_size : Option Block → Option ℕ
live_size None = None
live_size (Some b) = if b.live then Some b.size else None

-- the offset, from 0 to the size of the block
abbrev pub offset_in : ℕ → ℤ → Option ℕ → Option Pointer
offset_in n (negsuc i) size = None
offset_in n (pos i) None = None
offset_in n (pos i) (Some size) = if nat_le i size then Some (Into n i) else None

-- a pointer and a number of bytes: within the block, or one after its end, while it lives
abbrev pub moved : Store → Pointer → ℤ → Option Pointer
moved store Null d = None
moved store (Into n i) d = offset_in n (pos i +ℤ d) (live_size (block_at store n))

-- the distance of two pointers into one live block, in bytes
abbrev pub apart : Option ℕ → Bool → ℕ → ℕ → Option ℤ
apart None same i j = None
apart (Some size) same i j = if same then Some (pos i -ℤ pos j) else None

abbrev pub distance : Store → Pointer → Pointer → Option ℤ
distance store Null q = None
distance store (Into n i) Null = None
distance store (Into n i) (Into m j) = apart (live_size (block_at store n)) (nat_eq n m) i j

-- null, or into a live block
abbrev pub is_usable : Store → Pointer → Bool
is_usable store Null = true
is_usable store (Into n i) = elim (live_size (block_at store n)) [ None ↦ false | Some size ↦ true ]

abbrev pub equal_pointers : Store → Pointer → Pointer → Option Bool
equal_pointers store p q = if is_usable store p && is_usable store q then Some (same_pointer p q) else None

-- whether a pointer isn't null
abbrev pub is_some_place : Pointer → Bool
is_some_place Null = false
is_some_place (Into n i) = true

-- the value as a number that a condition tests: a pointer is to be usable (C99 6.8.4.1)
abbrev pub tested_value : Store → Value → Option Value
tested_value store (Integer z) = Some (Integer z)
tested_value store (Points p) = if is_usable store p then Some (Integer (truth (is_some_place p))) else None
tested_value store NoValue = Some NoValue

-- ---- births and deaths

abbrev pub is_stack : BlockKind → Bool
is_stack Global = false
is_stack Literal = false
is_stack Stack = true
is_stack Heap = false

-- all variables with blocks from this index on are dead (C99 6.2.4 p5); what stands in the heap lives on
abbrev pub kill_from : ℕ → Store → Store
kill_from n [] = []
kill_from zero (b ∷ bs) = record b { live = b.live && not (is_stack b.kind) } ∷ kill_from zero bs
kill_from (suc n) (b ∷ bs) = b ∷ kill_from n bs

-- the sizes of the segments in bytes
pub record Sizes : Type 0 where
  pub globals : ℕ
  pub stack : ℕ
  pub heap : ℕ

abbrev pub standard_sizes : Sizes
standard_sizes = record { globals = globals_bytes; stack = stack_bytes; heap = heap_bytes }

-- the greatest number of a block
abbrev pub greatest_number : ℕ
greatest_number = 4294967295

-- what a block of a size takes of its segment: whole units of 16 bytes, with its one-past address in the last
abbrev pub units : ℕ → ℕ
units size = size / 16 + 1

abbrev pub rounded : ℕ → ℕ
rounded size = 16 * units size

-- what the live stack blocks take
abbrev pub stack_taken : Store → ℕ
stack_taken [] = 0
stack_taken (b ∷ bs) = (if b.live && is_stack b.kind then rounded b.size else 0) + stack_taken bs

-- what is full at the birth of a stack block of a size; numbers are asked for first
abbrev pub full_at_stack_birth : Sizes → Store → ℕ → Option Segment
full_at_stack_birth sizes store size =
    if nat_le greatest_number (length store) then Some segment.Numbers
    else (if nat_lt sizes.stack (stack_taken store + rounded size) then Some segment.Stack else None)

-- ---- the heap (C99 7.20.3)

abbrev pub is_heap : BlockKind → Bool
is_heap Global = false
is_heap Literal = false
is_heap Stack = false
is_heap Heap = true

-- whether so many units from this one on meet no unit of a block
abbrev pub is_apart : ℕ → ℕ → Block → Bool
is_apart unit count b = nat_le (b.place + units b.size) unit || nat_le (unit + count) b.place

-- whether they meet no live block of the heap
abbrev pub is_free : Store → ℕ → ℕ → Bool
is_free [] unit count = true
is_free (b ∷ bs) unit count = (not (b.live && is_heap b.kind) || is_apart unit count b) && is_free bs unit count

-- the least number from u on, of so many, that passes a test
abbrev pub first_passing : (ℕ → Bool) → ℕ → ℕ → Option ℕ
first_passing passes zero u = None
first_passing passes (suc k) u = if passes u then Some u else first_passing passes k (suc u)

-- the place of so many units in a segment of a length: the least from which on they are free and end within the segment
unfoldable pub heap_place : ℕ → Store → ℕ → Option ℕ
heap_place length store count = first_passing (λ u. nat_le (u + count) length && is_free store u count) (suc length) 0

-- where a block is born, or what is full
pub data Room : Type 0 where
  At : ℕ → Room
  NoRoom : Segment → Room

abbrev pub room_at : Option ℕ → Room
room_at None = NoRoom segment.Heap
room_at (Some place) = At place

-- the room for a heap block of a size; numbers are asked for first
abbrev pub heap_room : Sizes → Store → ℕ → Room
heap_room sizes store size =
    if nat_le greatest_number (length store) then NoRoom segment.Numbers else room_at (heap_place (sizes.heap / 16) store (units size))

-- a new block on the heap that holds these bytes
abbrev pub heap_block : ℕ → List Byte → Block
heap_block place bytes = record (block_of Heap bytes) { place = place }

-- a live block of the heap is dead
abbrev pub freed_block : Option Block → Option Block
freed_block None = None
freed_block (Some b) = if b.live && is_heap b.kind then Some (record b { live = false }) else None

-- the store after `free` of a pointer to the start of a live block of the heap; null is let be (C99 7.20.3.2)
abbrev pub freed : Store → Pointer → Option Store
freed store Null = Some store
freed store (Into zero offset) = None
freed store (Into (suc k) zero) = with_block store k (freed_block (slice_get store k))
freed store (Into (suc k) (suc offset)) = None
