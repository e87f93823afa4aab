-- The parts of types and their scalars stand within the types.
use Rattle.std.proofs.Common.{◌≡◌, ℕ, zero, suc, ◌+◌, ◌*◌, ◌≤◌, List, [], ◌∷◌, ◌++◌, length, Option, Some, None, slice_get, refl, sym, subst, arith, nat_eq, if◌then◌else◌, Bool, true, false}
use Rattle.c_syntax.specs.Ctypes as source_type
use Rattle.c_syntax.specs.Ctypes.{PlainType, Void, Int, Array, Struct}
use Rattle.c_syntax.specs.Programs.{StructMember, StructType}
use Rattle.c_syntax.specs.Layouts.{Scalar, scalar_size, size_of, count_of, offset_of, member_among, member_offset, members_of, members_of_struct, size_of_struct, elements, member_parts, in_each, in_members, scalars_from, scalars_of}
use Rattle.c_model.specs.Meaning.{Tables, parts_or_itself}
use Rattle.c_effects.specs.Effects.{moved, scalars_in}

-- ---- structs

-- members that end within so many bytes
abbrev pub MembersInside : List StructType → ℕ → List StructMember → Type 0
MembersInside structs most [] = Unit {0}
MembersInside structs most (m ∷ ms) = (m.offset + size_of structs m.ctype ≤ most) × MembersInside structs most ms

-- each struct has few enough bytes, and its members stand in it
pub record StructFits (structs : List StructType) (s : StructType) : Type 0 where
  pub inside : MembersInside structs s.size s.members
  pub small : s.size ≤ 2147483647

abbrev pub StructsFit : List StructType → Type 0
StructsFit structs = (n : ℕ) (s : StructType) → slice_get structs n ≡ Some s → StructFits structs s

-- the offset of a member
member_near : (structs : List StructType) (most : ℕ) (ms : List StructMember) (m : ℕ) → MembersInside structs most ms → member_offset (member_among m ms) ≤ most
member_near structs most [] m h = omega arith
member_near structs most (a ∷ ms) m h = by (nat_eq a.name m) (member_near structs most ms m h.1)
  where
    by : (b : Bool) → member_offset (member_among m ms) ≤ most → member_offset (if b then Some a else member_among m ms) ≤ most
    by true k = let l = h.0 in omega (arith, l)
    by false k = k

struct_near : (structs : List StructType) (m : ℕ) (o : Option StructType) → ((s : StructType) → o ≡ Some s → StructFits structs s) → member_offset (member_among m (members_of_struct o)) ≤ 2147483647
struct_near structs m None fits = omega arith
struct_near structs m (Some s) fits =
    let f = fits s refl in
    let l = member_near structs s.size s.members m f.inside in
    let k = f.small in
    omega (arith, l, k)

pub near : (structs : List StructType) → StructsFit structs → (t : PlainType) (m : ℕ) → offset_of structs t m ≤ 2147483647
near structs fits (Struct n) m = struct_near structs m (slice_get structs n) (λ s e. fits n s e)
near structs fits (Int k) m = omega arith
near structs fits (source_type.Ptr t) m = omega arith
near structs fits (Array t n) m = omega arith
near structs fits Void m = omega arith
near structs fits (source_type.Named x) m = omega arith
near structs fits (source_type.StructTag x tag) m = omega arith
near structs fits (source_type.EnumTag x at) m = omega arith

-- a member ends in its struct
member_ends : (structs : List StructType) (most : ℕ) (ms : List StructMember) (m : ℕ) (f : StructMember) → MembersInside structs most ms → member_among m ms ≡ Some f → f.offset + size_of structs f.ctype ≤ most
member_ends structs most [] m f h e = absurd cc
member_ends structs most (a ∷ ms) m f h e = by (nat_eq a.name m) (λ k. member_ends structs most ms m f h.1 k) e
  where
    by : (b : Bool) → (member_among m ms ≡ Some f → f.offset + size_of structs f.ctype ≤ most) → (if b then Some a else member_among m ms) ≡ Some f → f.offset + size_of structs f.ctype ≤ most
    by true g k = let same : a ≡ f = cc in subst (λ (x : StructMember). x.offset + size_of structs x.ctype ≤ most) same h.0
    by false g k = g k

struct_ends : (structs : List StructType) (m : ℕ) (f : StructMember) (o : Option StructType) → ((s : StructType) → o ≡ Some s → StructFits structs s) → member_among m (members_of_struct o) ≡ Some f
    → f.offset + size_of structs f.ctype ≤ size_of_struct o
struct_ends structs m f None fits e = absurd cc
struct_ends structs m f (Some s) fits e = member_ends structs s.size s.members m f (fits s refl).inside e

pub member_inside : (structs : List StructType) → StructsFit structs → (n m : ℕ) (f : StructMember) → member_among m (members_of structs (Struct n)) ≡ Some f
    → offset_of structs (Struct n) m + size_of structs f.ctype ≤ size_of structs (Struct n)
member_inside structs fits n m f e =
    subst (λ o. member_offset o + size_of structs f.ctype ≤ size_of structs (Struct n)) (sym e) (struct_ends structs m f (slice_get structs n) (λ s k. fits n s k) e)

pub struct_small : (structs : List StructType) → StructsFit structs → (n : ℕ) → size_of structs (Struct n) ≤ 2147483647
struct_small structs fits n = by (slice_get structs n) refl
  where
    by : (o : Option StructType) → slice_get structs n ≡ o → size_of_struct o ≤ 2147483647
    by None e = omega arith
    by (Some s) e = (fits n s e).small

-- ---- parts

more : (n k : ℕ) → suc n * k ≡ k + n * k
more n k = grind arith

-- parts that end within so many bytes
abbrev pub PartsInside : List StructType → ℕ → List (ℕ × PlainType) → Type 0
PartsInside structs most [] = Unit {0}
PartsInside structs most (c ∷ cs) = (c.0 + size_of structs c.1 ≤ most) × PartsInside structs most cs

elements_inside : (structs : List StructType) (offset n most : ℕ) (t : PlainType) → offset + n * size_of structs t ≤ most → PartsInside structs most (elements offset (size_of structs t) n t)
elements_inside structs offset zero most t h = tt
elements_inside structs offset (suc n) most t h =
    let e : suc n * size_of structs t ≡ size_of structs t + n * size_of structs t = more n (size_of structs t) in
    (omega (arith, h, e), elements_inside structs (offset + size_of structs t) n most t (omega (arith, h, e)))

members_inside : (structs : List StructType) (most : ℕ) (ms : List StructMember) → MembersInside structs most ms → PartsInside structs most (member_parts ms)
members_inside structs most [] h = tt
members_inside structs most (m ∷ ms) h = (h.0, members_inside structs most ms h.1)

struct_inside : (structs : List StructType) (o : Option StructType) → ((s : StructType) → o ≡ Some s → StructFits structs s) → PartsInside structs (size_of_struct o) (member_parts (members_of_struct o))
struct_inside structs None fits = tt
struct_inside structs (Some s) fits = members_inside structs s.size s.members (fits s refl).inside

pub parts_inside : (T : Tables) (t : PlainType) → StructsFit T.structs → PartsInside T.structs (size_of T.structs t) (parts_or_itself T t)
parts_inside T (Int k) fits = (omega arith, tt)
parts_inside T (source_type.Ptr t) fits = (omega arith, tt)
parts_inside T (Array t n) fits = elements_inside T.structs 0 (count_of n) (count_of n * size_of T.structs t) t (omega arith)
parts_inside T (Struct n) fits = struct_inside T.structs (slice_get T.structs n) (λ s e. fits n s e)
parts_inside T Void fits = tt
parts_inside T (source_type.Named x) fits = tt
parts_inside T (source_type.StructTag x tag) fits = tt
parts_inside T (source_type.EnumTag x at) fits = tt

-- ---- scalars

-- scalars that end within so many bytes
abbrev pub ScalarsInside : ℕ → List (ℕ × Scalar) → Type 0
ScalarsInside most [] = Unit {0}
ScalarsInside most (c ∷ cs) = (c.0 + scalar_size c.1 ≤ most) × ScalarsInside most cs

both_inside : (most : ℕ) (a b : List (ℕ × Scalar)) → ScalarsInside most a → ScalarsInside most b → ScalarsInside most (a ++ b)
both_inside most [] b h k = k
both_inside most (c ∷ a) b h k = (h.0, both_inside most a b h.1 k)

each_inside : (offset size n most : ℕ) (inside : ℕ → List (ℕ × Scalar)) → ((o : ℕ) → o + size ≤ most → ScalarsInside most (inside o)) → offset + n * size ≤ most → ScalarsInside most (in_each offset size n inside)
each_inside offset size zero most inside f h = tt
each_inside offset size (suc n) most inside f h =
    let e : suc n * size ≡ size + n * size = more n size in
    both_inside most (inside offset) (in_each (offset + size) size n inside) (f offset (omega (arith, h, e))) (each_inside (offset + size) size n most inside f (omega (arith, h, e)))

in_members_inside : (structs : List StructType) (offset size most : ℕ) (ms : List StructMember) (inside : PlainType → ℕ → List (ℕ × Scalar)) → ((t : PlainType) (o : ℕ) → o + size_of structs t ≤ most → ScalarsInside most (inside t o))
    → MembersInside structs size ms → offset + size ≤ most → ScalarsInside most (in_members ms offset inside)
in_members_inside structs offset size most [] inside f h le = tt
in_members_inside structs offset size most (m ∷ ms) inside f h le =
    let l = h.0 in
    both_inside most (inside m.ctype (offset + m.offset)) (in_members ms offset inside) (f m.ctype (offset + m.offset) (omega (arith, l, le))) (in_members_inside structs offset size most ms inside f h.1 le)

struct_scalars : (structs : List StructType) (offset most : ℕ) (o : Option StructType) (inside : PlainType → ℕ → List (ℕ × Scalar)) → ((s : StructType) → o ≡ Some s → StructFits structs s)
    → ((t : PlainType) (o : ℕ) → o + size_of structs t ≤ most → ScalarsInside most (inside t o)) → offset + size_of_struct o ≤ most → ScalarsInside most (in_members (members_of_struct o) offset inside)
struct_scalars structs offset most None inside fits f le = tt
struct_scalars structs offset most (Some s) inside fits f le = in_members_inside structs offset s.size most s.members inside f (fits s refl).inside le

scalars_inside : (structs : List StructType) (most deep : ℕ) (t : PlainType) (offset : ℕ) → StructsFit structs → offset + size_of structs t ≤ most → ScalarsInside most (scalars_from structs deep t offset)
scalars_inside structs most deep (Int k) offset fits h = (h, tt)
scalars_inside structs most deep (source_type.Ptr t) offset fits h = (h, tt)
scalars_inside structs most deep (Array t n) offset fits h = each_inside offset (size_of structs t) (count_of n) most (scalars_from structs deep t) (λ o k. scalars_inside structs most deep t o fits k) h
scalars_inside structs most zero (Struct n) offset fits h = tt
scalars_inside structs most (suc deep) (Struct n) offset fits h =
    struct_scalars structs offset most (slice_get structs n) (scalars_from structs deep) (λ s e. fits n s e) (λ t o k. scalars_inside structs most deep t o fits k) h
scalars_inside structs most deep Void offset fits h = tt
scalars_inside structs most deep (source_type.Named x) offset fits h = tt
scalars_inside structs most deep (source_type.StructTag x tag) offset fits h = tt
scalars_inside structs most deep (source_type.EnumTag x at) offset fits h = tt

pub all_scalars_inside : (structs : List StructType) (t : PlainType) → StructsFit structs → ScalarsInside (size_of structs t) (scalars_of structs t)
all_scalars_inside structs t fits = scalars_inside structs (size_of structs t) (length structs) t 0 fits (omega arith)

-- scalars so many bytes farther, and those of parts
moved_inside : (d most all : ℕ) (cs : List (ℕ × Scalar)) → ScalarsInside most cs → d + most ≤ all → ScalarsInside all (moved d cs)
moved_inside d most all [] h le = tt
moved_inside d most all (c ∷ cs) h le = let l = h.0 in (omega (arith, l, le), moved_inside d most all cs h.1 le)

pub parts_scalars : (structs : List StructType) (d most : ℕ) (cs : List (ℕ × PlainType)) → StructsFit structs → PartsInside structs most cs → ScalarsInside (d + most) (scalars_in structs d cs)
parts_scalars structs d most [] fits h = tt
parts_scalars structs d most (c ∷ cs) fits h =
    let l = h.0 in
    both_inside (d + most) (moved (d + c.0) (scalars_of structs c.1)) (scalars_in structs d cs)
    (moved_inside (d + c.0) (size_of structs c.1) (d + most) (scalars_of structs c.1) (all_scalars_inside structs c.1 fits) (omega (arith, l)))
    (parts_scalars structs d most cs fits h.1)
