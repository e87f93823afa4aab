-- The values of bytes that are read: those of the blocks are those of flat memory.
use Rattle.std.proofs.Common.{◌≡◌, ℕ, zero, suc, ◌+◌, ◌-◌, ◌*◌, ◌/◌, ◌%◌, ◌^◌, ◌<◌, ◌≤◌, ℤ, pos, negsuc, Bool, true, false, ◌&&◌, if◌then◌else◌, nat_eq, nat_le, nat_lt, List, [], ◌∷◌, length, Option, Some, None, option_map}
use Rattle.std.proofs.Common.{refl, sym, ap, ◌∙◌, subst, arith, pow-suc}
use Rattle.std.proofs.Math.Nat.{mod-eq_of_lt}
use Rattle.std.proofs.lemmas.Bool.{and_parts, eqb-true, leb-true, leb-false, lt-ltb, le-ltb}
use Rattle.c_syntax.specs.declared.types.CInt.{CInt}
use Rattle.c_syntax.specs.declared.types.CInt.TheVariants as cint
use Rattle.c_syntax.specs.Layouts.{int_size, IntegerType, PointerType}
use Rattle.c_model.specs.Integers.{value_of_bits}
use Rattle.c_model.specs.Memory as model
use Rattle.c_model.specs.Memory.{Pointer, Null, Into, Value, Integer, Points, NoValue, Byte, Unwritten, Number, Piece, LoosePiece, load_bytes, number_of, same_pointer, are_pieces, null_of, value_from}
use Rattle.raw_seg.specs.Bytes as raw
use Rattle.mon_syntax.specs.declared.tree.MonType.{MonType}
use Rattle.mon_syntax.specs.declared.tree.MonType.TheVariants.{I8, U8, I16, U16, I32, U32, I64, U64, I128, Ptr}
use Rattle.mon_syntax.specs.Arithmetic.{byte_count, wrap}
use Rattle.mon_syntax.specs.Flat.{Flat, flat_load}
use Rattle.mon_syntax.specs.FlatMemory.{pointer_in, load_flat}
use Rattle.mon_syntax.specs.BlockMemory.{Blocks, load_block}
use Rattle.mon_syntax.specs.Meaning.{◌>>=◌}
use Rattle.mon_syntax.specs.Following.{Kept, AllKept}
use Rattle.mon_syntax.specs.FlatRelation.{World, SamePointer, Same, byte_at, Holds}
use Rattle.mon_syntax.proofs.FlatAddresses.{one_number, pointer_is, pointer_below}
use Rattle.mon_syntax.proofs.FlatAccesses.{type_wide}
use Rattle.mon_syntax.proofs.FlatLoads.{ReadByte, ReadBytes, read_alike, SameNumber, number_read}
use Rattle.mon_syntax.proofs.FlatStores.{type_of}

-- ---- integers

-- two's complement, where h is the half of m
signed_value : (h m n : ℕ) (v : ℤ) → n < m → (nat_lt (n % m) h ≡ true → v ≡ pos (n % m)) → (nat_lt (n % m) h ≡ false → v ≡ negsuc (m - suc (n % m)))
    → (if nat_le h n then negsuc (m - suc n) else pos n) ≡ v
signed_value h m n v lt low high = by (nat_le h n) refl
  where
    same : n % m ≡ n
    same = mod-eq_of_lt lt

    by : (t : Bool) → nat_le h n ≡ t → (if t then negsuc (m - suc n) else pos n) ≡ v
    by true e =
        let le : h ≤ n = leb-true _ _ e in
        sym (high (le-ltb _ _ (omega (arith, le, same))) ∙ ap (λ i. negsuc (m - suc i)) same)
    by false e =
        let less : n < h = leb-false _ _ e in
        sym (low (lt-ltb _ _ (omega (arith, less, same))) ∙ ap pos same)

value_is : (k : CInt) (n : ℕ) → n < 256 ^ int_size k → value_of_bits k n ≡ wrap (type_of k) (pos n)
value_is cint.I8 n lt = signed_value 128 256 n (wrap I8 (pos n)) lt (λ e. rw e refl) (λ e. rw e refl)
value_is cint.U8 n lt = ap pos (sym (mod-eq_of_lt lt))
value_is cint.I16 n lt = signed_value 32768 65536 n (wrap I16 (pos n)) lt (λ e. rw e refl) (λ e. rw e refl)
value_is cint.U16 n lt = ap pos (sym (mod-eq_of_lt lt))
value_is cint.I32 n lt = signed_value 2147483648 4294967296 n (wrap I32 (pos n)) lt (λ e. rw e refl) (λ e. rw e refl)
value_is cint.U32 n lt = ap pos (sym (mod-eq_of_lt lt))
value_is cint.I64 n lt = signed_value 9223372036854775808 18446744073709551616 n (wrap I64 (pos n)) lt (λ e. rw e refl) (λ e. rw e refl)
value_is cint.U64 n lt = ap pos (sym (mod-eq_of_lt lt))

-- the number of bytes that are read
pub number_of_read : (w : World) (n : ℕ) (ys : List Byte) (v : ℕ) → ReadBytes w n ys v → Kept (SameNumber n) (number_of ys) (Some v)
number_of_read w n ys v r =
    subst (λ i. Kept (SameNumber i) (number_of ys) (Some v)) r.long (subst (λ i. Kept (SameNumber (length ys)) (number_of ys) (Some i)) (sym r.is) (number_read w ys r.bytes r.all))

integer_read : (w : World) (k : CInt) (ys : List Byte) (v : ℕ) → ReadBytes w (int_size k) ys v → Kept (Same w) (value_from (IntegerType k) ys) (Some (wrap (type_of k) (pos v)))
integer_read w k ys v r = by (number_of ys) (number_of_read w (int_size k) ys v r)
  where
    by : (o : Option ℕ) → Kept (SameNumber (int_size k)) o (Some v) → Kept (Same w) (option_map (λ n. Integer (value_of_bits k n)) o) (Some (wrap (type_of k) (pos v)))
    by None s = tt
    by (Some n) s = value_is k n s.1 ∙ ap (λ i. wrap (type_of k) (pos i)) s.0

wide_read : (w : World) (ys : List Byte) (v : ℕ) → ReadBytes w 16 ys v → Kept (Same w) (number_of ys >>= λ n. Some (Integer (wrap I128 (pos n)))) (Some (wrap I128 (pos v)))
wide_read w ys v r = by (number_of ys) (number_of_read w 16 ys v r)
  where
    by : (o : Option ℕ) → Kept (SameNumber 16) o (Some v) → Kept (Same w) (o >>= λ n. Some (Integer (wrap I128 (pos n)))) (Some (wrap I128 (pos v)))
    by None s = tt
    by (Some n) s = ap (λ i. wrap I128 (pos i)) s.0

-- ---- pointers

same_is : (p q : Pointer) → same_pointer p q ≡ true → p ≡ q
same_is Null Null e = refl
same_is Null (Into m j) e = absurd cc
same_is (Into n i) Null e = absurd cc
same_is (Into n i) (Into m j) e =
    let parts = and_parts (nat_eq n m) (nat_eq i j) e in
    ap (λ z. Into z i) (eqb-true n m parts.0) ∙ ap (Into m) (eqb-true i j parts.1)

-- pieces k, k + 1, .. of a pointer, where u is what is left of its number then
pieces_read : (w : World) (p : Pointer) (v : ℕ) → SamePointer w p v → (ys : List Byte) (xs : List ℕ) (k u : ℕ) → AllKept (ReadByte w) ys xs → are_pieces p k ys ≡ true
    → ((i : ℕ) → byte_at v (k + i) ≡ byte_at u i) → u < 256 ^ length ys → raw.number_of xs ≡ u
pieces_read w p v q [] [] k u r e shift lt = omega (arith, lt)
pieces_read w p v q [] (x ∷ xs) k u r e shift lt = absurd r
pieces_read w p v q (y ∷ ys) [] k u r e shift lt = absurd r
pieces_read w p v q (Unwritten ∷ ys) (x ∷ xs) k u r e shift lt = absurd cc
pieces_read w p v q (Number b ∷ ys) (x ∷ xs) k u r e shift lt = absurd cc
pieces_read w p v q (LoosePiece ∷ ys) (x ∷ xs) k u r e shift lt = absurd cc
pieces_read w p v q (Piece s j ∷ ys) (x ∷ xs) k u r e shift lt =
    let parts = and_parts (same_pointer p s && nat_eq j k) (are_pieces p (suc k) ys) e in
    let head = and_parts (same_pointer p s) (nat_eq j k) parts.0 in
    let byte = r.0.1 in
    let mine : SamePointer w p byte.1 = subst (λ z. SamePointer w z byte.1) (sym (same_is p s head.0)) byte.2 in
    let start : k ≡ k + 0 = omega arith in
    let first : x ≡ u % 256 = byte.3 ∙ ap (λ z. byte_at z j) (one_number w p byte.1 v mine q) ∙ ap (byte_at v) (eqb-true j k head.1 ∙ start) ∙ shift 0 in
    let power : 256 ^ suc (length ys) ≡ 256 ^ length ys * 256 = pow-suc 256 (length ys) in
    let less : u / 256 < 256 ^ length ys = omega (arith, lt, power) in
    let rest = pieces_read w p v q ys xs (suc k) (u / 256) r.1 parts.1 (λ i. let step : suc k + i ≡ k + suc i = omega arith in ap (byte_at v) step ∙ shift (suc i)) less in
    omega (arith, first, rest)

null_read : (w : World) (o : Option ℕ) (v : ℕ) → Kept (SameNumber 8) o (Some v) → Kept (Same w) (option_map Points (null_of o)) (Some (wrap Ptr (pos v)))
null_read w None v s = tt
null_read w (Some zero) v s = (0, ap (λ i. wrap Ptr (pos i)) (sym s.0), refl)
null_read w (Some (suc n)) v s = tt

-- the whole pointer, where its first byte's number is known
whole_read : (w : World) (p : Pointer) (u v : ℕ) (ys : List Byte) → SamePointer w p u → ReadBytes w 8 ys v → (t : Bool) → are_pieces p 0 ys ≡ t
    → Kept (Same w) (option_map Points (if t then Some p else None)) (Some (wrap Ptr (pos v)))
whole_read w p u v ys q r false e = tt
whole_read w p u v ys q r true e =
    let small = pointer_below w p u q in
    let long = r.long in
    let less : u < 256 ^ length ys = subst (λ n. u < 256 ^ n) (sym long) small in
    let same : v ≡ u = r.is ∙ pieces_read w p u q ys r.bytes 0 u r.all e (λ i. let start : 0 + i ≡ i = omega arith in ap (byte_at u) start) less in
    (u, ap (λ i. wrap Ptr (pos i)) same ∙ ap pos (mod-eq_of_lt small), q)

pointer_read : (w : World) (ys : List Byte) (v : ℕ) → ReadBytes w 8 ys v → Kept (Same w) (value_from PointerType ys) (Some (wrap Ptr (pos v)))
pointer_read w [] v r = tt
pointer_read w (Unwritten ∷ ys) v r = tt
pointer_read w (Number b ∷ ys) v r = null_read w (number_of (Number b ∷ ys)) v (number_of_read w 8 (Number b ∷ ys) v r)
pointer_read w (Piece p k ∷ ys) v r = first r.bytes r.all
  where
    first : (xs : List ℕ) → AllKept (ReadByte w) (Piece p k ∷ ys) xs → Kept (Same w) (value_from PointerType (Piece p k ∷ ys)) (Some (wrap Ptr (pos v)))
    first [] a = absurd a
    first (x ∷ xs) a = whole_read w p a.0.1.1 v (Piece p k ∷ ys) a.0.1.2 r (are_pieces p 0 (Piece p k ∷ ys)) refl
pointer_read w (LoosePiece ∷ ys) v r = tt

-- ---- loads

read_value : (w : World) (n : ℕ) (o : Option (List Byte)) (l : Option ℕ) (go : List Byte → Option Value) (back : ℕ → ℤ) → Kept (ReadBytes w n) o l
    → ((ys : List Byte) (v : ℕ) → ReadBytes w n ys v → Kept (Same w) (go ys) (Some (back v))) → Kept (Same w) (o >>= go) (option_map back l)
read_value w n None l go back k each = tt
read_value w n (Some ys) None go back k each = absurd k
read_value w n (Some ys) (Some v) go back k each = each ys v k

-- a load at a pointer's number
from_pointer : (w : World) (t : MonType) (p : Pointer) (b : ℤ) (m : Blocks) (f : Flat) (go : List Byte → Option Value) → Same w (Points p) b → Holds w m f
    → ((ys : List Byte) (v : ℕ) → ReadBytes w (byte_count t) ys v → Kept (Same w) (go ys) (Some (wrap t (pos v)))) → Kept (Same w) (load_bytes m.store p (byte_count t) >>= go) (load_flat t b f)
from_pointer w t p b m f go s h each =
    let number : pointer_in b ≡ s.0 = ap pointer_in s.1 ∙ pointer_is w p s.0 s.2 in
    subst (λ z. Kept (Same w) (load_bytes m.store p (byte_count t) >>= go) (option_map (λ n. wrap t (pos n)) (flat_load f z (byte_count t)))) (sym number)
    (read_value w (byte_count t) (load_bytes m.store p (byte_count t)) (flat_load f s.0 (byte_count t)) go (λ n. wrap t (pos n)) (read_alike w m f p s.0 (byte_count t) h s.2 (type_wide t)) each)

in_order : {A B C : Type 0} (o : Option A) (f : A → Option B) (g : B → Option C) → (o >>= λ a. f a >>= g) ≡ (o >>= f >>= g)
in_order None f g = refl
in_order (Some a) f g = refl

same_then : {A B : Type 0} (o : Option A) (f : A → Option B) → (o >>= f) ≡ (model.◌>>=◌ o f)
same_then None f = refl
same_then (Some a) f = refl

scalar_loaded : (w : World) (t : MonType) (p : Pointer) (b : ℤ) (m : Blocks) (f : Flat) (go : List Byte → Option Value) → Same w (Points p) b → Holds w m f
    → ((ys : List Byte) (v : ℕ) → ReadBytes w (byte_count t) ys v → Kept (Same w) (go ys) (Some (wrap t (pos v)))) → Kept (Same w) (model.◌>>=◌ (load_bytes m.store p (byte_count t)) go) (load_flat t b f)
scalar_loaded w t p b m f go s h each =
    subst (λ o. Kept (Same w) o (load_flat t b f)) (same_then (load_bytes m.store p (byte_count t)) go) (from_pointer w t p b m f go s h each)

loaded_at : (w : World) (t : MonType) (p : Pointer) (b : ℤ) (m : Blocks) (f : Flat) → Same w (Points p) b → Holds w m f → Kept (Same w) (load_block t (Points p) m) (load_flat t b f)
loaded_at w I8 p b m f s h = scalar_loaded w I8 p b m f (value_from (IntegerType cint.I8)) s h (integer_read w cint.I8)
loaded_at w U8 p b m f s h = scalar_loaded w U8 p b m f (value_from (IntegerType cint.U8)) s h (integer_read w cint.U8)
loaded_at w I16 p b m f s h = scalar_loaded w I16 p b m f (value_from (IntegerType cint.I16)) s h (integer_read w cint.I16)
loaded_at w U16 p b m f s h = scalar_loaded w U16 p b m f (value_from (IntegerType cint.U16)) s h (integer_read w cint.U16)
loaded_at w I32 p b m f s h = scalar_loaded w I32 p b m f (value_from (IntegerType cint.I32)) s h (integer_read w cint.I32)
loaded_at w U32 p b m f s h = scalar_loaded w U32 p b m f (value_from (IntegerType cint.U32)) s h (integer_read w cint.U32)
loaded_at w I64 p b m f s h = scalar_loaded w I64 p b m f (value_from (IntegerType cint.I64)) s h (integer_read w cint.I64)
loaded_at w U64 p b m f s h = scalar_loaded w U64 p b m f (value_from (IntegerType cint.U64)) s h (integer_read w cint.U64)
loaded_at w I128 p b m f s h =
    subst (λ o. Kept (Same w) o (load_flat I128 b f)) (in_order (load_bytes m.store p 16) number_of (λ n. Some (Integer (wrap I128 (pos n)))))
    (from_pointer w I128 p b m f (λ ys. number_of ys >>= λ n. Some (Integer (wrap I128 (pos n)))) s h (wide_read w))
loaded_at w Ptr p b m f s h = scalar_loaded w Ptr p b m f (value_from PointerType) s h (pointer_read w)

-- the field `load`
pub load_alike : (w : World) (t : MonType) (a : Value) (b : ℤ) (m : Blocks) (f : Flat) → Same w a b → Holds w m f → Kept (Same w) (load_block t a m) (load_flat t b f)
load_alike w t (Integer z) b m f s h = tt
load_alike w t (Points p) b m f s h = loaded_at w t p b m f s h
load_alike w t NoValue b m f s h = tt
