-- The scalars of a type stand in it one behind another, where structs stand as their layout says (C99 6.7.2.1 p13, p15).
use Rattle.std.proofs.Common.{◌≡◌, ℕ, zero, suc, ◌+◌, ◌-◌, ◌*◌, ◌/◌, ◌%◌, ◌≤◌, ◌<◌, Bool, true, false, nat_lt, if◌then◌else◌, List, [], ◌∷◌, ◌++◌, length, Option, Some, None, slice_get, refl, sym, ap, subst, arith}
use Rattle.std.proofs.Math.Nat.{div-mul-le_self, mod-eq-sub-div-mul}
use Rattle.std.proofs.lemmas.Nat.{mod_below}
use Rattle.std.proofs.lemmas.Bool.Decides.{nat_tests}
use Rattle.c_syntax.specs.declared.types.CInt.TheVariants.{I8, U8, I16, U16, I32, U32, I64, U64}
use Rattle.c_syntax.specs.Ctypes.{PlainType, Void, Int, Ptr, Array, Struct, Named, StructTag, EnumTag}
use Rattle.c_syntax.specs.Programs.{StructMember, StructType}
use Rattle.c_syntax.specs.Layouts.{Scalar, scalar_size, aligned, count_of, size_of, size_of_struct, align_of, align_of_struct, members_of_struct, in_each, in_members, scalars_from, scalars_of}
use Rattle.c_model.specs.DeclarationTyping.{placed_from, end_of, widest}
use Rattle.c_model.specs.TypedPrograms.{IsLaidOut, AreLaidOut}
use Rattle.c_model.specs.HeapLaws.{StandInOrder}

-- ---- alignments

rounded_up : (whole quotient rest a n : ℕ) → rest ≡ whole - quotient → quotient ≤ whole → rest < a → whole ≡ n + a - 1 → 1 ≤ a → n ≤ quotient
rounded_up whole quotient rest a n e le lt is one = omega (arith, e, le, lt, is, one)

pub aligned_above : (a n : ℕ) → 1 ≤ a → n ≤ aligned a n
aligned_above a n one =
    let whole = n + a - 1 in
    rounded_up whole (whole / a * a) (whole % a) a n (mod-eq-sub-div-mul whole a) (div-mul-le_self whole a) (mod_below whole a one) refl one

-- members one behind another from one number to another
abbrev pub MembersInOrder : List StructType → ℕ → List StructMember → ℕ → Type 0
MembersInOrder structs from [] to = from ≤ to
MembersInOrder structs from (m ∷ ms) to = (from ≤ m.offset) × MembersInOrder structs (m.offset + size_of structs m.ctype) ms to

module _ (structs : List StructType) where
  pub widest_some : (ms : List StructMember) → 1 ≤ widest structs ms
  widest_some [] = omega arith
  widest_some (m ∷ ms) = by (nat_lt (align_of structs m.ctype) (widest structs ms)) refl (widest_some ms)
    where
      by : (b : Bool) → nat_lt (align_of structs m.ctype) (widest structs ms) ≡ b → 1 ≤ widest structs ms → 1 ≤ (if b then widest structs ms else align_of structs m.ctype)
      by true e h = h
      by false e h = grind (arith, nat_tests)

  pub laid_at : (all : List StructType) (n : ℕ) (s : StructType) → AreLaidOut structs all → slice_get all n ≡ Some s → IsLaidOut structs s
  laid_at [] n s h e = absurd cc
  laid_at (x ∷ all) zero s h e = let same : x ≡ s = cc in subst (IsLaidOut structs) same h.0
  laid_at (x ∷ all) (suc n) s h e = laid_at all n s h.1 e

  struct_align : (o : Option StructType) → ((s : StructType) → o ≡ Some s → IsLaidOut structs s) → 1 ≤ align_of_struct o
  struct_align None h = omega arith
  struct_align (Some s) h = subst (λ a. 1 ≤ a) (sym (ap (λ (x : StructType). x.align) (h s refl).is)) (widest_some (placed_from structs 0 s.members))

  module _ (laid : AreLaidOut structs structs) where
    pub align_some : (t : PlainType) → 1 ≤ align_of structs t
    align_some (Int I8) = omega arith
    align_some (Int U8) = omega arith
    align_some (Int I16) = omega arith
    align_some (Int U16) = omega arith
    align_some (Int I32) = omega arith
    align_some (Int U32) = omega arith
    align_some (Int I64) = omega arith
    align_some (Int U64) = omega arith
    align_some (Ptr t) = omega arith
    align_some (Array t n) = align_some t
    align_some (Struct n) = struct_align (slice_get structs n) (λ s e. laid_at structs n s laid e)
    align_some Void = omega arith
    align_some (Named x) = omega arith
    align_some (StructTag x tag) = omega arith
    align_some (EnumTag x at) = omega arith

    -- ---- members

    -- the members end no earlier than they begin
    end_above : (m : StructMember) (ms : List StructMember) (end : ℕ) → end ≤ end_of structs (placed_from structs end (m ∷ ms))
    end_above m [] end = let a = aligned_above (align_of structs m.ctype) end (align_some m.ctype) in omega (arith, a)
    end_above m (n ∷ ms) end =
        let a = aligned_above (align_of structs m.ctype) end (align_some m.ctype) in
        let r = end_above n ms (aligned (align_of structs m.ctype) end + size_of structs m.ctype) in
        omega (arith, a, r)

    placed_in_order : (ms : List StructMember) (end to : ℕ) → end ≤ to → end_of structs (placed_from structs end ms) ≤ to → MembersInOrder structs end (placed_from structs end ms) to
    placed_in_order [] end to e h = e
    placed_in_order (m ∷ []) end to e h = (aligned_above (align_of structs m.ctype) end (align_some m.ctype), h)
    placed_in_order (m ∷ n ∷ ms) end to e h =
        let next = aligned (align_of structs m.ctype) end + size_of structs m.ctype in
        let r = end_above n ms next in
        (aligned_above (align_of structs m.ctype) end (align_some m.ctype), placed_in_order (n ∷ ms) next to (omega (arith, r, h)) h)

    pub members_in_order : (s : StructType) → IsLaidOut structs s → MembersInOrder structs 0 s.members s.size
    members_in_order s h =
        let ms = placed_from structs 0 s.members in
        subst (λ (x : StructType). MembersInOrder structs 0 x.members x.size) (sym h.is)
        (placed_in_order s.members 0 (aligned (widest structs ms) (end_of structs ms)) (omega arith) (aligned_above (widest structs ms) (end_of structs ms) (widest_some ms)))

-- ---- scalars

-- they stand in order in more room
wider : (a b c d : ℕ) (xs : List (ℕ × Scalar)) → a ≤ b → c ≤ d → StandInOrder b xs c → StandInOrder a xs d
wider a b c d [] l m h = omega (arith, l, m, h)
wider a b c d (x ∷ xs) l m h = let k = h.0 in (omega (arith, l, k), wider (x.0 + scalar_size x.1) (x.0 + scalar_size x.1) c d xs (omega arith) m h.1)

joined : (a b c : ℕ) (xs ys : List (ℕ × Scalar)) → StandInOrder a xs b → StandInOrder b ys c → StandInOrder a (xs ++ ys) c
joined a b c [] ys h k = wider a b c c ys h (omega arith) k
joined a b c (x ∷ xs) ys h k = (h.0, joined (x.0 + scalar_size x.1) b c xs ys h.1 k)

more : (n k : ℕ) → suc n * k ≡ k + n * k
more n k = grind arith

each_in_order : (offset size n : ℕ) (inside : ℕ → List (ℕ × Scalar)) → ((o : ℕ) → StandInOrder o (inside o) (o + size)) → StandInOrder offset (in_each offset size n inside) (offset + n * size)
each_in_order offset size zero inside f = omega arith
each_in_order offset size (suc n) inside f =
    let e = more n size in
    joined offset (offset + size) (offset + suc n * size) (inside offset) (in_each (offset + size) size n inside) (f offset)
    (wider (offset + size) (offset + size) (offset + size + n * size) (offset + suc n * size) (in_each (offset + size) size n inside) (omega arith) (omega (arith, e)) (each_in_order (offset + size) size n inside f))

module _ (structs : List StructType) (laid : AreLaidOut structs structs) where
  in_members_order : (inside : PlainType → ℕ → List (ℕ × Scalar)) → ((t : PlainType) (o : ℕ) → StandInOrder o (inside t o) (o + size_of structs t)) → (ms : List StructMember) (offset from to : ℕ)
      → MembersInOrder structs from ms to → StandInOrder (offset + from) (in_members ms offset inside) (offset + to)
  in_members_order inside f [] offset from to h = omega (arith, h)
  in_members_order inside f (m ∷ ms) offset from to h =
      let l = h.0 in
      let here = offset + m.offset in
      let own = f m.ctype here in
      joined (offset + from) (offset + (m.offset + size_of structs m.ctype)) (offset + to) (inside m.ctype here) (in_members ms offset inside)
      (wider (offset + from) here (here + size_of structs m.ctype) (offset + (m.offset + size_of structs m.ctype)) (inside m.ctype here) (omega (arith, l)) (omega arith) own)
      (in_members_order inside f ms offset (m.offset + size_of structs m.ctype) to h.1)

  struct_in_order : (inside : PlainType → ℕ → List (ℕ × Scalar)) → ((t : PlainType) (o : ℕ) → StandInOrder o (inside t o) (o + size_of structs t)) → (offset : ℕ) (o : Option StructType)
      → ((s : StructType) → o ≡ Some s → IsLaidOut structs s) → StandInOrder offset (in_members (members_of_struct o) offset inside) (offset + size_of_struct o)
  struct_in_order inside f offset None h = omega arith
  struct_in_order inside f offset (Some s) h =
      wider offset (offset + 0) (offset + s.size) (offset + s.size) (in_members s.members offset inside) (omega arith) (omega arith)
      (in_members_order inside f s.members offset 0 s.size (members_in_order structs laid s (h s refl)))

  from_in_order : (deep : ℕ) (t : PlainType) (offset : ℕ) → StandInOrder offset (scalars_from structs deep t offset) (offset + size_of structs t)
  from_in_order deep (Int k) offset = (omega arith, omega arith)
  from_in_order deep (Ptr t) offset = (omega arith, omega arith)
  from_in_order deep (Array t n) offset = each_in_order offset (size_of structs t) (count_of n) (scalars_from structs deep t) (from_in_order deep t)
  from_in_order zero (Struct n) offset = omega arith
  from_in_order (suc deep) (Struct n) offset = struct_in_order (scalars_from structs deep) (from_in_order deep) offset (slice_get structs n) (λ s e. laid_at structs structs n s laid e)
  from_in_order deep Void offset = omega arith
  from_in_order deep (Named x) offset = omega arith
  from_in_order deep (StructTag x tag) offset = omega arith
  from_in_order deep (EnumTag x at) offset = omega arith

  pub scalars_in_order : (t : PlainType) → StandInOrder 0 (scalars_of structs t) (size_of structs t)
  scalars_in_order t =
      wider 0 0 (0 + size_of structs t) (size_of structs t) (scalars_of structs t) (omega arith) (omega arith) (from_in_order (length structs) t 0)
