-- What the list of blocks answers to questions about memory (ACSL 2.7). A place is that of a pointer of annotations: a block, or none for null, and an
-- offset in bytes of any size. No question changes anything, and each has an answer, whether the block lives or not.
use Rattle.std.specs.Prelude.{ℕ, zero, suc, ◌+◌, ◌%◌, nat_eq, nat_le, ℤ, pos, negsuc, ◌+ℤ◌, int_lt, Bool, true, false, not, ◌&&◌, if◌then◌else◌}
use Rattle.std.specs.Prelude.{List, [], ◌∷◌, take, drop, Option, Some, None}
use Rattle.c_model.specs.Memory.{Pointer, Null, Into, Byte, Unwritten, Number, Piece, LoosePiece, Block, Store, block_at, is_literal, number_of}

-- ---- places

-- the number of a block, 0 for null, and an offset
pub record Address : Type 0 where
  pub block : ℕ
  pub offset : ℤ

abbrev pub address_of : Pointer → Address
address_of Null = record { block = 0; offset = pos 0 }
address_of (Into n i) = record { block = n; offset = pos i }

-- null, which is in no block
abbrev pub null_address : Address
null_address = record { block = 0; offset = pos 0 }

-- so many bytes farther, wherever the block ends
abbrev pub address_farther : Address → ℤ → Address
address_farther x d = record { block = x.block; offset = x.offset +ℤ d }

-- ---- ranges of bytes

-- where a range begins in a live block
pub record Part : Type 0 where
  pub block : Block
  pub from : ℕ

-- an offset that is not before the start
abbrev pub from_start : ℤ → Option ℕ
from_start (pos i) = Some i
from_start (negsuc i) = None

abbrev pub part : Block → ℕ → Part
part b i = record { block = b; from = i }

-- so many bytes from an offset on, if they lie inside a live block and the offset is a multiple of the alignment
abbrev pub part_in : Option Block → Option ℕ → ℕ → ℕ → Option Part
part_in None from n a = None
part_in (Some b) None n a = None
part_in (Some b) (Some i) n a = if b.live && (nat_le (i + n) b.size && nat_eq (i % a) 0) then Some (part b i) else None

abbrev pub part_at : Store → Address → ℕ → ℕ → Option Part
part_at store x n a = part_in (block_at store x.block) (from_start x.offset) n a

-- an answer about a range; there is none of a range that isn't there
abbrev pub answered : Option Part → (Part → Bool) → Bool
answered None test = false
answered (Some p) test = test p

-- a range of no bytes always passes
abbrev pub if_any : ℤ → (ℕ → Bool) → Bool
if_any (pos (suc n)) test = test (suc n)
if_any (pos zero) test = true
if_any (negsuc n) test = true

-- ---- what bytes are

abbrev pub is_written_byte : Byte → Bool
is_written_byte Unwritten = false
is_written_byte (Number b) = true
is_written_byte (Piece p k) = true
is_written_byte LoosePiece = true

abbrev pub is_number_byte : Byte → Bool
is_number_byte Unwritten = false
is_number_byte (Number b) = true
is_number_byte (Piece p k) = false
is_number_byte LoosePiece = false

abbrev pub is_piece_byte : Byte → Bool
is_piece_byte Unwritten = false
is_piece_byte (Number b) = false
is_piece_byte (Piece p k) = true
is_piece_byte LoosePiece = false

abbrev pub all_bytes : (Byte → Bool) → List Byte → Bool
all_bytes test [] = true
all_bytes test (b ∷ bs) = test b && all_bytes test bs

abbrev pub part_bytes : Part → ℕ → List Byte
part_bytes p n = take n (drop p.from p.block.bytes)

abbrev pub is_number_zero : Option ℕ → Bool
is_number_zero None = false
is_number_zero (Some n) = nat_eq n 0

-- ---- the questions

-- `\valid`: so many bytes can be written there
abbrev pub is_valid : Store → Address → ℤ → ℕ → Bool
is_valid store x n a = if_any n (λ n. answered (part_at store x n a) (λ p. not (is_literal p.block.kind)))

-- `\valid_read`: they can be read
abbrev pub is_readable : Store → Address → ℤ → ℕ → Bool
is_readable store x n a = if_any n (λ n. answered (part_at store x n a) (λ p. true))

-- `\initialized`: all of them are written besides
abbrev pub is_initialized : Store → Address → ℤ → ℕ → Bool
is_initialized store x n a = if_any n (λ n. answered (part_at store x n a) (λ p. all_bytes is_written_byte (part_bytes p n)))

-- whether so many bytes hold a number
abbrev pub has_number : Store → Address → ℕ → Bool
has_number store x n = answered (part_at store x n n) (λ p. all_bytes is_number_byte (part_bytes p n))

-- whether eight bytes are pieces of pointers, or the number 0
abbrev pub has_pointer : Store → Address → Bool
has_pointer store x =
    answered (part_at store x 8 8) (λ p. if all_bytes is_piece_byte (part_bytes p 8) then true else is_number_zero (number_of (part_bytes p 8)))

-- inside a live block, or one past its end
abbrev pub inside : Store → Address → Option Part
inside store x = part_at store x 0 1

abbrev pub is_inside : Store → Address → Bool
is_inside store x = answered (inside store x) (λ p. true)

-- `\base_addr`, `\block_length`, `\offset`
abbrev pub base_pointer : ℕ → Option Part → Pointer
base_pointer n None = Null
base_pointer n (Some p) = Into n 0

abbrev pub base_of : Store → Address → Pointer
base_of store x = base_pointer x.block (inside store x)

abbrev pub length_in : Option Part → ℕ
length_in None = 0
length_in (Some p) = p.block.size

abbrev pub length_of : Store → Address → ℕ
length_of store x = length_in (inside store x)

abbrev pub offset_in : Option Part → ℕ
offset_in None = 0
offset_in (Some p) = p.from

abbrev pub offset_in_block : Store → Address → ℕ
offset_in_block store x = offset_in (inside store x)

-- `\separated`: two ranges share no byte of a block, or of null, whether or not the block lives
abbrev pub meet : Address → ℤ → Address → ℤ → Bool
meet x n y m = int_lt y.offset (x.offset +ℤ n) && int_lt x.offset (y.offset +ℤ m)

abbrev pub are_separated : Address → ℤ → Address → ℤ → Bool
are_separated x n y m = not (int_lt (pos 0) n && (int_lt (pos 0) m && (nat_eq x.block y.block && meet x n y m)))
