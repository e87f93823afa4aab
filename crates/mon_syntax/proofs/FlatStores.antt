-- Stores over blocks and over flat memory.
use Rattle.std.proofs.Common.{◌≡◌, ℕ, zero, suc, ◌+◌, ◌-◌, ◌*◌, ◌/◌, ◌%◌, ◌^◌, ◌<◌, ◌≤◌, inl, inr, ⊎_elim, ℤ, pos, negsuc, Bool, true, false, not, ◌&&◌, if◌then◌else◌, List, length, Option, Some, None, get_or, slice_get, slice_set}
use Rattle.std.proofs.Common.{refl, sym, ap, ◌∙◌, subst, arith}
use Rattle.std.proofs.lemmas.Bool.{and_parts}
use Rattle.std.proofs.Math.Nat.{mod-lt}
use Rattle.c_syntax.specs.declared.types.CInt.{CInt}
use Rattle.c_syntax.specs.declared.types.CInt.TheVariants as cint
use Rattle.c_syntax.specs.Layouts.{int_size}
use Rattle.c_model.specs.Integers.{bits_of}
use Rattle.c_model.specs.Memory.{bytes_of, pieces, Pointer, Null, Into, Value, Integer, Points, NoValue, Byte, Unwritten, Block, is_accessible, is_literal, with_bytes, saved_block, with_block, save_bytes}
use Rattle.shadow_segments.specs.Shadow as shadow
use Rattle.shadow_segments.specs.Shadow.{NumberByte, PieceByte}
use Rattle.shadow_segments.proofs.Lists.{length-filled, filled_inside, filled_outside}
use Rattle.raw_seg.specs.Bytes as raw
use Rattle.raw_seg.proofs.Numbers as raw_proofs
use Rattle.c_model.specs.Together.{FitAt}
use Rattle.c_model.proofs.Cells as cells
use Rattle.c_model.proofs.Together.{no_pieces_fit, numbers_have_none, pieces_fit}
use Rattle.mon_syntax.specs.declared.tree.MonType.{MonType}
use Rattle.mon_syntax.specs.declared.tree.MonType.TheVariants.{I8, U8, I16, U16, I32, U32, I64, U64, I128, Ptr}
use Rattle.mon_syntax.specs.Regions.{Region, mark_for, stored}
use Rattle.mon_syntax.specs.Flat.{Flat, region, with_region, with_region_if, store_spot, flat_store}
use Rattle.mon_syntax.specs.BlockMemory.{Blocks, scalar_type, save_scalar, stored_in, store_value}
use Rattle.mon_syntax.specs.FlatMemory.{pointer_in, store_flat}
use Rattle.mon_syntax.specs.Arithmetic.{bit_count, byte_count, is_pointer, lowest_bits}
use Rattle.mon_syntax.specs.Following.{Kept}
use Rattle.mon_syntax.specs.FlatRelation.{World, PointsTo, SamePointer, Same, SameByte, byte_at, marks_in, bytes_in, Holds}
use Rattle.mon_syntax.proofs.FlatEntries.{length-replaced, replaced_inside, replaced_outside}
use Rattle.mon_syntax.proofs.FlatWritten.{Written, Changed, changed, region_same, written_holds}
use Rattle.mon_syntax.proofs.FlatPointers.{spot_of_pointer}
use Rattle.mon_syntax.proofs.FlatAddresses.{lies, pointer_is}
use Rattle.mon_syntax.proofs.FlatAccesses.{IsWide, type_wide, Accessed, accessed}

-- ---- a region after a store

module _ (r : Region) (at n value : ℕ) (pointer : Bool) (in_bytes : at + n ≤ length r.bytes) (in_marks : at + n ≤ length r.shadow.marks) where
  long : length (raw.bytes_of n value) ≡ n
  long = raw_proofs.length-bytes_of n value

  room : at + length (raw.bytes_of n value) ≤ length r.bytes
  room = omega (arith, long, in_bytes)

  pub stored_written : Written r (stored r at n value pointer) at n
  stored_written = record {
    notes = refl;
    bytes_long = length-replaced r.bytes at (raw.bytes_of n value) room;
    marks_long = length-filled r.shadow.marks at n (mark_for pointer);
    bytes = λ i o. replaced_outside r.bytes at (raw.bytes_of n value) room i 0 (⊎_elim (λ b. inl b) (λ a. inr (omega (arith, a, long))) o);
    marks = λ i o. filled_outside r.shadow.marks at n (mark_for pointer) i shadow.Unwritten o;
  }

  pub stored_byte : (i : ℕ) → i < n → get_or (stored r at n value pointer).bytes (at + i) 0 ≡ get_or (raw.bytes_of n value) i 0
  stored_byte i lt = replaced_inside r.bytes at (raw.bytes_of n value) room i 0 (omega (arith, long, lt))

  pub stored_mark : (i : ℕ) → i < n → get_or (stored r at n value pointer).shadow.marks (at + i) shadow.Unwritten ≡ mark_for pointer
  stored_mark i lt = filled_inside r.shadow.marks at n (mark_for pointer) (at + i) shadow.Unwritten in_marks (omega arith) (omega (arith, lt))

-- ---- a store of bytes

-- these bytes of a block are those of the number, with its mark
pub record SameBytes (w : World) (ys : List Byte) (n value : ℕ) (pointer : Bool) : Type 0 where
  pub long : length ys ≡ n
  pub fit : (off : ℕ) → off % n ≡ 0 → FitAt off ys
  pub each : (i : ℕ) → i < n → SameByte w (get_or ys i Unwritten) (mark_for pointer) (get_or (raw.bytes_of n value) i 0)

module _ (w : World) (m : Blocks) (f : Flat) (h : Holds w m f) (index off x n value : ℕ) (pointer : Bool) (ys : List Byte) (q : PointsTo w (suc index) off x) (wide : IsWide n)
    (same : SameBytes w ys n value pointer) where
  here : (b : Block) → slice_get m.store index ≡ Some b → Accessed f b q.place off n
      → Holds w (record m { store = slice_set m.store index (with_bytes b off ys) }) (with_region f q.place.name (stored (region f q.place.name) (16 * q.place.unit + off) n value pointer))
  here b at a =
      let name = q.place.name in
      let from = 16 * q.place.unit + off in
      let r = region f name in
      let s = stored r from n value pointer in
      let g = with_region f name s in
      let c : Changed f g name from n = changed f name s from n (stored_written r from n value pointer a.in_bytes a.in_marks) in
      written_holds w m f g h index b q.place off ys (same.fit off a.aligned) at a.live (lies w index off x q) (let l = same.long in let i = a.room in omega (arith, l, i)) (subst (Changed f g name from) (sym same.long) c)
      (λ i lt.
      let below : i < n = let l = same.long in omega (arith, l, lt) in
      let mark : mark_for pointer ≡ get_or (marks_in g name) (from + i) shadow.Unwritten = sym (ap (λ z. get_or z.shadow.marks (from + i) shadow.Unwritten) (region_same f name s) ∙ stored_mark r from n value pointer a.in_bytes a.in_marks i below) in
      let byte : get_or (raw.bytes_of n value) i 0 ≡ get_or (bytes_in g name) (from + i) 0 = sym (ap (λ z. get_or z.bytes (from + i) 0) (region_same f name s) ∙ stored_byte r from n value pointer a.in_bytes a.in_marks i below) in
      subst (λ z. SameByte w (get_or ys i Unwritten) z (get_or (bytes_in g name) (from + i) 0)) mark (subst (λ z. SameByte w (get_or ys i Unwritten) (mark_for pointer) z) byte (same.each i below)))

  by_test : (b : Block) → slice_get m.store index ≡ Some b → (t : Bool) → (is_accessible b off n && not (is_literal b.kind)) ≡ t
      → Kept (Holds w) (stored_in m (with_block m.store index (if t then Some (with_bytes b off ys) else None))) (flat_store f x n value pointer)
  by_test b at false e = tt
  by_test b at true e =
      let a : Accessed f b q.place off n = accessed w m f index off n b q.place h wide at (lies w index off x q) (and_parts (is_accessible b off n) (not (is_literal b.kind)) e).0 in
      let s = record m { store = slice_set m.store index (with_bytes b off ys) } in
      subst (λ z. Kept (Holds w) (Some s) (store_spot f z n value pointer)) (sym (spot_of_pointer w (suc index) off x q))
      (subst (λ z. Kept (Holds w) (Some s) (with_region_if f q.place.name (if z then Some (stored (region f q.place.name) (16 * q.place.unit + off) n value pointer) else None))) (sym a.fits) (here b at a))

  by_block : (o : Option Block) → slice_get m.store index ≡ o → Kept (Holds w) (stored_in m (with_block m.store index (saved_block o off n ys))) (flat_store f x n value pointer)
  by_block None at = tt
  by_block (Some b) at = by_test b at (is_accessible b off n && not (is_literal b.kind)) refl

  pub saved_inside : Kept (Holds w) (stored_in m (save_bytes m.store (Into (suc index) off) n ys)) (flat_store f x n value pointer)
  saved_inside = by_block (slice_get m.store index) refl

-- where so many bytes of a block can be written, as many of flat memory can; into a literal the blocks allow none
pub saved_alike : (w : World) (m : Blocks) (f : Flat) (p : Pointer) (x n value : ℕ) (pointer : Bool) (ys : List Byte) → Holds w m f → SamePointer w p x → IsWide n
    → SameBytes w ys n value pointer → Kept (Holds w) (stored_in m (save_bytes m.store p n ys)) (flat_store f x n value pointer)
saved_alike w m f Null x n value pointer ys h q wide same = tt
saved_alike w m f (Into zero off) x n value pointer ys h q wide same = tt
saved_alike w m f (Into (suc index) off) x n value pointer ys h q wide same = saved_inside w m f h index off x n value pointer ys q wide same

-- ---- bytes of numbers and of pointers

number_each : (w : World) (n v i : ℕ) → i < n → SameByte w (get_or (bytes_of n v) i Unwritten) NumberByte (get_or (raw.bytes_of n v) i 0)
number_each w zero v i lt = absurd (omega (arith, lt))
number_each w (suc n) v zero lt = (refl, refl, mod-lt v (omega arith))
number_each w (suc n) v (suc i) lt = number_each w n (v / 256) i (omega (arith, lt))

number_bytes : (w : World) (n v : ℕ) → SameBytes w (bytes_of n v) n v false
number_bytes w n v = record { long = cells.length-bytes_of n v; fit = λ off e. no_pieces_fit (bytes_of n v) off (numbers_have_none n v); each = λ i lt. number_each w n v i lt }

-- the pieces from the k-th on, where u is what is left of the pointer's number then
piece_each : (w : World) (p : Pointer) (v : ℕ) → SamePointer w p v → (n k u i : ℕ) → ((j : ℕ) → byte_at u j ≡ byte_at v (k + j)) → i < n
    → SameByte w (get_or (pieces p k n) i Unwritten) PieceByte (get_or (raw.bytes_of n u) i 0)
piece_each w p v q zero k u i shift lt = absurd (omega (arith, lt))
piece_each w p v q (suc n) k u zero shift lt =
    let e : k + 0 ≡ k = omega arith in
    (refl, v, q, shift 0 ∙ ap (byte_at v) e)
piece_each w p v q (suc n) k u (suc i) shift lt =
    piece_each w p v q n (suc k) (u / 256) i (λ j. let e : k + suc j ≡ suc k + j = omega arith in shift (suc j) ∙ ap (byte_at v) e) (omega (arith, lt))

length-pieces : (p : Pointer) (k n : ℕ) → length (pieces p k n) ≡ n
length-pieces p k zero = refl
length-pieces p k (suc n) = ap suc (length-pieces p (suc k) n)

pointer_bytes : (w : World) (p : Pointer) (v : ℕ) → SamePointer w p v → SameBytes w (pieces p 0 8) 8 v true
pointer_bytes w p v q = record {
  long = length-pieces p 0 8;
  fit = λ off e. pieces_fit p off e;
  each = λ i lt. piece_each w p v q 8 0 v i (λ j. let e : j ≡ 0 + j = omega arith in ap (byte_at v) e) lt;
}

-- ---- values

-- the type of registers that an integer type of annotated C is
abbrev pub type_of : CInt → MonType
type_of cint.I8 = I8
type_of cint.U8 = U8
type_of cint.I16 = I16
type_of cint.U16 = U16
type_of cint.I32 = I32
type_of cint.U32 = U32
type_of cint.I64 = I64
type_of cint.U64 = U64

-- a type has as many values
modulus_is : (k : CInt) → 256 ^ int_size k ≡ 2 ^ bit_count (type_of k)
modulus_is cint.I8 = refl
modulus_is cint.U8 = refl
modulus_is cint.I16 = refl
modulus_is cint.U16 = refl
modulus_is cint.I32 = refl
modulus_is cint.U32 = refl
modulus_is cint.I64 = refl
modulus_is cint.U64 = refl

bits_are : (k : CInt) (z : ℤ) → bits_of k z ≡ lowest_bits (type_of k) z
bits_are k (pos n) = ap (λ m. n % m) (modulus_is k)
bits_are k (negsuc n) = low (256 ^ int_size k) n ∙ ap (λ m. m - 1 - n % m) (modulus_is k)
  where
    low : (m n : ℕ) → m - suc (n % m) ≡ m - 1 - n % m
    low m n = omega arith

-- a store at a pointer's number
at_pointer : (w : World) (t : MonType) (p : Pointer) (b y : ℤ) (m : Blocks) (f : Flat) (ys : List Byte) → Same w (Points p) b → Holds w m f
    → SameBytes w ys (byte_count t) (lowest_bits t y) (is_pointer t) → Kept (Holds w) (stored_in m (save_bytes m.store p (byte_count t) ys)) (store_flat t b y f)
at_pointer w t p b y m f ys s h same =
    let x = s.0 in
    let number : pointer_in b ≡ x = ap pointer_in s.1 ∙ pointer_is w p x s.2 in
    subst (λ z. Kept (Holds w) (stored_in m (save_bytes m.store p (byte_count t) ys)) (flat_store f z (byte_count t) (lowest_bits t y) (is_pointer t))) (sym number)
    (saved_alike w m f p x (byte_count t) (lowest_bits t y) (is_pointer t) ys h s.2 (type_wide t) same)

number_at : (w : World) (t : MonType) (p : Pointer) (b z y : ℤ) (m : Blocks) (f : Flat) (v : ℕ) → is_pointer t ≡ false → v ≡ lowest_bits t z → Same w (Points p) b → z ≡ y → Holds w m f
    → Kept (Holds w) (stored_in m (save_bytes m.store p (byte_count t) (bytes_of (byte_count t) v))) (store_flat t b y f)
number_at w t p b z y m f v plain bits s e h =
    let value : v ≡ lowest_bits t y = bits ∙ ap (lowest_bits t) e in
    at_pointer w t p b y m f (bytes_of (byte_count t) v) s h
    (subst (λ u. SameBytes w (bytes_of (byte_count t) v) (byte_count t) u (is_pointer t)) value (subst (SameBytes w (bytes_of (byte_count t) v) (byte_count t) v) (sym plain) (number_bytes w (byte_count t) v)))

pointer_at : (w : World) (p q : Pointer) (b y : ℤ) (m : Blocks) (f : Flat) → Same w (Points p) b → Same w (Points q) y → Holds w m f
    → Kept (Holds w) (stored_in m (save_bytes m.store p 8 (pieces q 0 8))) (store_flat Ptr b y f)
pointer_at w p q b y m f s r h =
    let v = r.0 in
    let value : v ≡ lowest_bits Ptr y = sym (ap (lowest_bits Ptr) r.1 ∙ pointer_is w q v r.2) in
    at_pointer w Ptr p b y m f (pieces q 0 8) s h (subst (λ u. SameBytes w (pieces q 0 8) 8 u true) value (pointer_bytes w q v r.2))

-- ---- stores

stored_at : (w : World) (t : MonType) (p : Pointer) (x : Value) (b y : ℤ) (m : Blocks) (f : Flat) → Same w (Points p) b → Same w x y → Holds w m f
    → Kept (Holds w) (stored_in m (save_scalar (scalar_type t) m.store p x)) (store_flat t b y f)
stored_at w I8 p (Integer z) b y m f s r h = number_at w I8 p b z y m f (bits_of cint.I8 z) refl (bits_are cint.I8 z) s r h
stored_at w U8 p (Integer z) b y m f s r h = number_at w U8 p b z y m f (bits_of cint.U8 z) refl (bits_are cint.U8 z) s r h
stored_at w I16 p (Integer z) b y m f s r h = number_at w I16 p b z y m f (bits_of cint.I16 z) refl (bits_are cint.I16 z) s r h
stored_at w U16 p (Integer z) b y m f s r h = number_at w U16 p b z y m f (bits_of cint.U16 z) refl (bits_are cint.U16 z) s r h
stored_at w I32 p (Integer z) b y m f s r h = number_at w I32 p b z y m f (bits_of cint.I32 z) refl (bits_are cint.I32 z) s r h
stored_at w U32 p (Integer z) b y m f s r h = number_at w U32 p b z y m f (bits_of cint.U32 z) refl (bits_are cint.U32 z) s r h
stored_at w I64 p (Integer z) b y m f s r h = number_at w I64 p b z y m f (bits_of cint.I64 z) refl (bits_are cint.I64 z) s r h
stored_at w U64 p (Integer z) b y m f s r h = number_at w U64 p b z y m f (bits_of cint.U64 z) refl (bits_are cint.U64 z) s r h
stored_at w I128 p (Integer z) b y m f s r h = number_at w I128 p b z y m f (lowest_bits I128 z) refl refl s r h
stored_at w Ptr p (Points q) b y m f s r h = pointer_at w p q b y m f s r h
stored_at w t p x b y m f s r h = tt

-- the field `store`
pub store_alike : (w : World) (t : MonType) (a x : Value) (b y : ℤ) (m : Blocks) (f : Flat) → Same w a b → Same w x y → Holds w m f
    → Kept (Holds w) (store_value t a x m) (store_flat t b y f)
store_alike w t (Integer z) x b y m f s r h = tt
store_alike w t (Points p) x b y m f s r h = stored_at w t p x b y m f s r h
store_alike w t NoValue x b y m f s r h = tt
