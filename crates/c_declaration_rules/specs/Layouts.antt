-- Ours: the layout of a struct (C99 6.7.2.1 p13) with one more member, as the code computes it.
-- A member behind those that were laid out.
use Rattle.std.specs.Prelude.{◌≡◌, ℕ, ◌+◌, List}
use Rattle.c_syntax.specs.Ctypes.{PlainType}
use Rattle.c_syntax.specs.Programs.{StructMember, StructType}
use Rattle.c_syntax.specs.Layouts.{align_of, aligned, size_of}
use Rattle.c_model.specs.DeclarationTyping.{end_of, greater, placed_from, widest}

-- the offset of a member of this type behind the others, and the alignment and the size of the struct with it
pub record IsLaidBehind (structs : List StructType) (ms : List StructMember) (t : PlainType) (offset align size : ℕ) : Type 0 where
  pub placed : placed_from structs 0 ms ≡ ms
  pub offset_is : offset ≡ aligned (align_of structs t) (end_of structs ms)
  pub align_is : align ≡ greater (widest structs ms) (align_of structs t)
  pub size_is : size ≡ aligned align (offset + size_of structs t)
