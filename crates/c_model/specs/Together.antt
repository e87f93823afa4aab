-- Ours, by C99 6.2.6.1: pieces of pointers stand together. In each aligned group of eight bytes of a block they are pieces of one pointer, each at its own
-- place. So where all eight are pieces, there is a pointer to be read.
use Rattle.std.specs.Prelude.{◌≡◌, ℕ, ◌+◌, ◌/◌, ◌%◌, List, length, get_or, Some, slice_get}
use Rattle.c_syntax.specs.Layouts.{PointerType}
use Rattle.c_model.specs.Library.{is_there}
use Rattle.c_model.specs.Memory.{Pointer, Byte, Unwritten, Piece, Block, Store, load}
use Rattle.c_model.specs.MemoryQuestions.{address_of, has_pointer}

pub record AreTogether (bytes : List Byte) : Type 0 where
  pub own : (i k : ℕ) (p : Pointer) → get_or bytes i Unwritten ≡ Piece p k → k ≡ i % 8
  pub one : (i j k l : ℕ) (p q : Pointer) → i / 8 ≡ j / 8 → get_or bytes i Unwritten ≡ Piece p k → get_or bytes j Unwritten ≡ Piece q l → p ≡ q

-- each block of a store holds its pointers so, and as many bytes as its size says
abbrev pub AllTogether : Store → Type 0
AllTogether store = (k : ℕ) (b : Block) → slice_get store k ≡ Some b → (length b.bytes ≡ b.size) × AreTogether b.bytes

-- bytes that may be written at an offset: only eight of them, at a multiple of eight, hold pieces
pub record FitAt (offset : ℕ) (bytes : List Byte) : Type 0 where
  pub own : (i k : ℕ) (p : Pointer) → get_or bytes i Unwritten ≡ Piece p k → k ≡ (offset + i) % 8
  pub one : (i j k l : ℕ) (p q : Pointer) → get_or bytes i Unwritten ≡ Piece p k → get_or bytes j Unwritten ≡ Piece q l → p ≡ q
  pub whole : (i k : ℕ) (p : Pointer) → get_or bytes i Unwritten ≡ Piece p k → (offset % 8 ≡ 0) × (length bytes ≡ 8)

-- the question whether a pointer can be read is answered so (ACSL 2.7)
abbrev pub PointersLoad : Type 0
PointersLoad = (store : Store) (p : Pointer) → AllTogether store → has_pointer store (address_of p) ≡ is_there (load store p PointerType)
