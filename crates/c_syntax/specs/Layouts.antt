-- The layout of types (C99 6.2.5, 6.2.6, 6.7.2.1): sizes, alignments, members, and the scalars that a type is made of.
use Rattle.std.specs.Prelude.{ℕ, zero, suc, ◌+◌, ◌*◌, ◌-◌, ◌/◌, nat_eq, nat_lt, ◌^◌, List, [], ◌∷◌, ◌++◌, length, Option, Some, None, if◌then◌else◌}
use Rattle.std.specs.Prelude.{option_map, slice_get}
use Rattle.c_syntax.specs.declared.types.CInt.{CInt}
use Rattle.c_syntax.specs.declared.types.CInt.TheVariants.{I8, U8, I16, U16, I32, U32, I64, U64}
use Rattle.c_syntax.specs.Ctypes.{PlainType, Void, Int, Ptr, Array, Struct, Named, StructTag, EnumTag, PlainLength, Left, Written, Count}
use Rattle.c_syntax.specs.Programs.{StructMember, StructType}

-- the bytes of an integer type
abbrev pub int_size : CInt → ℕ
int_size I8 = 1
int_size U8 = 1
int_size I16 = 2
int_size U16 = 2
int_size I32 = 4
int_size U32 = 4
int_size I64 = 8
int_size U64 = 8

-- a type whose values are read and written as a whole (C99 6.2.5 p21)
pub data Scalar : Type 0 where
  IntegerType : CInt → Scalar
  PointerType : Scalar

-- its size in bytes, which is its alignment too
abbrev pub scalar_size : Scalar → ℕ
scalar_size (IntegerType k) = int_size k
scalar_size PointerType = 8

abbrev pub scalar_of : PlainType → Option Scalar
scalar_of (Int k) = Some (IntegerType k)
scalar_of (Ptr t) = Some PointerType
scalar_of Void = None
scalar_of (Array t n) = None
scalar_of (Struct n) = None
scalar_of (Named x) = None
scalar_of (StructTag x at) = None
scalar_of (EnumTag x at) = None

abbrev pub count_of : PlainLength → ℕ
count_of Left = 0
count_of (Written e) = 0
count_of (Count n) = n

abbrev pub size_of_struct : Option StructType → ℕ
size_of_struct None = 0
size_of_struct (Some s) = s.size

abbrev pub align_of_struct : Option StructType → ℕ
align_of_struct None = 1
align_of_struct (Some s) = s.align

-- the size of a type in bytes (C99 6.5.3.4) among these structs; no object is `void`
abbrev pub size_of : List StructType → PlainType → ℕ
size_of structs (Int k) = int_size k
size_of structs (Ptr t) = 8
size_of structs (Array t n) = count_of n * size_of structs t
size_of structs (Struct n) = size_of_struct (slice_get structs n)
size_of structs Void = 0
size_of structs (Named x) = 0
size_of structs (StructTag x at) = 0
size_of structs (EnumTag x at) = 0

-- Ours: a number, where 32 bits hold it
abbrev pub in_word : ℕ → Option ℕ
in_word n = if nat_lt n (2 ^ 32) then Some n else None

abbrev pub align_of : List StructType → PlainType → ℕ
align_of structs (Int k) = int_size k
align_of structs (Ptr t) = 8
align_of structs (Array t n) = align_of structs t
align_of structs (Struct n) = align_of_struct (slice_get structs n)
align_of structs Void = 1
align_of structs (Named x) = 1
align_of structs (StructTag x at) = 1
align_of structs (EnumTag x at) = 1

-- ---- structs: each member stands at the next multiple of its alignment, and so does the end

-- the least multiple that is no less
abbrev pub aligned : ℕ → ℕ → ℕ
aligned a n = (n + a - 1) / a * a

-- the member with this name
abbrev pub member_among : ℕ → List StructMember → Option StructMember
member_among name [] = None
member_among name (m ∷ ms) = if nat_eq m.name name then Some m else member_among name ms

abbrev pub members_of_struct : Option StructType → List StructMember
members_of_struct None = []
members_of_struct (Some s) = s.members

abbrev pub members_of : List StructType → PlainType → List StructMember
members_of structs (Struct n) = members_of_struct (slice_get structs n)
members_of structs (Int k) = []
members_of structs (Ptr t) = []
members_of structs (Array t n) = []
members_of structs Void = []
members_of structs (Named x) = []
members_of structs (StructTag x at) = []
members_of structs (EnumTag x at) = []

abbrev pub member_offset : Option StructMember → ℕ
member_offset None = 0
member_offset (Some m) = m.offset

-- the offset of a member of this name in a struct type
abbrev pub offset_of : List StructType → PlainType → ℕ → ℕ
offset_of structs t name = member_offset (member_among name (members_of structs t))

-- the same, where there is such a member
abbrev pub offset_among : List StructType → PlainType → ℕ → Option ℕ
offset_among structs t name = option_map (λ m. m.offset) (member_among name (members_of structs t))

-- the type that a pointer points to
abbrev pub target_of : PlainType → PlainType
target_of (Ptr t) = t
target_of (Int k) = Void
target_of (Array t n) = Void
target_of (Struct n) = Void
target_of Void = Void
target_of (Named x) = Void
target_of (StructTag x at) = Void
target_of (EnumTag x at) = Void

-- ---- parts

-- elements of one type and size, from an offset on
abbrev pub elements : ℕ → ℕ → ℕ → PlainType → List (ℕ × PlainType)
elements offset size zero t = []
elements offset size (suc n) t = (offset, t) ∷ elements (offset + size) size n t

abbrev pub member_parts : List StructMember → List (ℕ × PlainType)
member_parts [] = []
member_parts (m ∷ ms) = (m.offset, m.ctype) ∷ member_parts ms

-- the elements of an array or the members of a struct, each at its offset
abbrev pub parts_of : List StructType → PlainType → List (ℕ × PlainType)
parts_of structs (Array t n) = elements 0 (size_of structs t) (count_of n) t
parts_of structs (Struct n) = member_parts (members_of_struct (slice_get structs n))
parts_of structs (Int k) = []
parts_of structs (Ptr t) = []
parts_of structs Void = []
parts_of structs (Named x) = []
parts_of structs (StructTag x at) = []
parts_of structs (EnumTag x at) = []

-- the scalars in so many equal parts
abbrev pub in_each : ℕ → ℕ → ℕ → (ℕ → List (ℕ × Scalar)) → List (ℕ × Scalar)
in_each offset size zero inside = []
in_each offset size (suc n) inside = inside offset ++ in_each (offset + size) size n inside

abbrev pub in_members : List StructMember → ℕ → (PlainType → ℕ → List (ℕ × Scalar)) → List (ℕ × Scalar)
in_members [] offset inside = []
in_members (m ∷ ms) offset inside = inside m.ctype (offset + m.offset) ++ in_members ms offset inside

-- the scalars of a type in order, each at its offset; structs may stand so deep in each other
abbrev pub scalars_from : List StructType → ℕ → PlainType → ℕ → List (ℕ × Scalar)
scalars_from structs deep (Int k) offset = (offset, IntegerType k) ∷ []
scalars_from structs deep (Ptr t) offset = (offset, PointerType) ∷ []
scalars_from structs deep (Array t n) offset = in_each offset (size_of structs t) (count_of n) (scalars_from structs deep t)
scalars_from structs zero (Struct n) offset = []
scalars_from structs (suc deep) (Struct n) offset = in_members (members_of_struct (slice_get structs n)) offset (scalars_from structs deep)
scalars_from structs deep Void offset = []
scalars_from structs deep (Named x) offset = []
scalars_from structs deep (StructTag x at) offset = []
scalars_from structs deep (EnumTag x at) offset = []

abbrev pub scalars_of : List StructType → PlainType → List (ℕ × Scalar)
scalars_of structs t = scalars_from structs (length structs) t 0
