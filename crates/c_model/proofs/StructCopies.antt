-- A struct that is assigned has the bytes of each scalar of the other struct, with their kinds, and so the values.
use Rattle.std.proofs.Common.{◌≡◌, ℕ, zero, suc, ◌+◌, ◌-◌, ◌≤◌, ◌≢◌, Bool, true, false, if◌then◌else◌, nat_eq, nat_lt, map, List, [], ◌∷◌, length, take, drop, Option, Some, None, option_map, slice_get, refl, sym, ap, ◌∙◌, subst}
use Rattle.std.proofs.Common.{arith}
use Rattle.std.proofs.lemmas.List.{drop-take, take-take, drop-drop}
use Rattle.c_model.specs.Integers.{value_of_bits}
use Rattle.c_syntax.specs.Ctypes.{PlainType}
use Rattle.c_syntax.specs.Programs.{StructType}
use Rattle.c_syntax.specs.Layouts.{Scalar, IntegerType, PointerType, scalar_size, size_of, scalars_of}
use Rattle.c_model.specs.TypedPrograms.{AreLaidOut}
use Rattle.c_model.specs.Memory.{Pointer, Null, Into, Integer, Points, Byte, Unwritten, Number, Piece, LoosePiece, with_low_byte, number_of, pointer_of, value_from, loosened, copied, Store, is_accessible, bytes_in, load_bytes}
use Rattle.c_model.specs.Memory.{with_bytes}
use Rattle.c_model.specs.Memory.{save_bytes, shifted, ◌>>=◌, copy, copy_all}
use Rattle.c_model.specs.Laws.{AreWhole}
use Rattle.c_model.specs.HeapLaws.{StandInOrder, SameOrApart, TheSame, InOthers, TheFirstBefore, TheFirstBehind, sizes_of, IsCopied, IsOutside, InAnotherBlock, InFront, BehindIt}
use Rattle.c_model.proofs.Blocks.{slice_get-slice_set_same, whole_at, saved_parts, within_block, same_but_at, other_blocks-saved, load_bytes-saved, whole-copied, length-loaded, length-copied}
use Rattle.c_model.proofs.GrownStructs.{same_number, other_number}
use Rattle.c_model.proofs.ScalarOrder.{scalars_in_order}

-- ---- bytes that are copied hold what they held

loosened_number : (bytes : List Byte) → number_of (map loosened bytes) ≡ number_of bytes
loosened_number [] = refl
loosened_number (Unwritten ∷ bs) = refl
loosened_number (Number b ∷ bs) = ap (with_low_byte b) (loosened_number bs)
loosened_number (Piece p k ∷ bs) = refl
loosened_number (LoosePiece ∷ bs) = refl

copied_number : (bytes : List Byte) → number_of (copied bytes) ≡ number_of bytes
copied_number bytes = by (nat_lt (length bytes) 8)
  where
    by : (x : Bool) → number_of (if x then map loosened bytes else bytes) ≡ number_of bytes
    by true = loosened_number bytes
    by false = refl

-- all eight pieces of a pointer stay pieces
pub copied_eight : (bytes : List Byte) → length bytes ≡ 8 → copied bytes ≡ bytes
copied_eight bytes long = rw long refl

pub copied_value : (k : Scalar) (bytes : List Byte) → length bytes ≡ scalar_size k → value_from k (copied bytes) ≡ value_from k bytes
copied_value (IntegerType k) bytes long = ap (option_map (λ n. Integer (value_of_bits k n))) (copied_number bytes)
copied_value PointerType bytes long = ap (λ x. option_map Points (pointer_of x)) (copied_eight bytes long)

-- ---- bytes away from those that are written

-- so many bytes behind a first one, where lists agree up to some place or from some place on
before_same : (offset o m : ℕ) (xs ys : List Byte) → o + m ≤ offset → take offset xs ≡ take offset ys → take m (drop o xs) ≡ take m (drop o ys)
before_same offset o m xs ys l e =
    let part : (zs : List Byte) → take m (drop o zs) ≡ drop o (take (o + m) (take offset zs)) = λ zs. sym (drop-take o m zs) ∙ ap (drop o) (sym (take-take (o + m) offset zs l)) in
    part xs ∙ ap (λ zs. drop o (take (o + m) zs)) e ∙ sym (part ys)

behind_same : (end o : ℕ) (xs ys : List Byte) → end ≤ o → drop end xs ≡ drop end ys → drop o xs ≡ drop o ys
behind_same end o xs ys l e =
    let rest : end + (o - end) ≡ o = omega (arith, l) in
    let part : (zs : List Byte) → drop o zs ≡ drop (o - end) (drop end zs) = λ zs. ap (λ n. drop n zs) (sym rest) ∙ sym (drop-drop (o - end) end zs) in
    part xs ∙ ap (drop (o - end)) e ∙ sym (part ys)

-- m bytes at the second pointer are none of those from one offset to another behind the first
data IsAway (from to m : ℕ) : Pointer → Pointer → Type 0 where
  InAnother : (n k i j : ℕ) → k ≢ n → IsAway from to m (Into n i) (Into k j)
  EndsBefore : (n i j : ℕ) → j + m ≤ i + from → IsAway from to m (Into n i) (Into n j)
  BeginsBehind : (n i j : ℕ) → i + to ≤ j → IsAway from to m (Into n i) (Into n j)

-- a save leaves bytes as they are that are away from it
saved_away : (store saved : Store) (p r : Pointer) (c n m : ℕ) (bytes : List Byte) → AreWhole store → length bytes ≤ n → save_bytes store (shifted p c) n bytes ≡ Some saved → IsAway c (c + n) m p r
    → load_bytes saved r m ≡ load_bytes store r m
saved_away store saved _ _ c n m bytes w few e (InAnother k l i j other) = ap (λ o. bytes_in o j m) (other_blocks-saved store saved k (i + c) n bytes e l other)
saved_away store saved _ _ c n m bytes w few e (EndsBefore zero i j le) = absurd cc
saved_away store saved _ _ c n m bytes w few e (EndsBefore (suc k) i j le) =
    let s = saved_parts store saved k (i + c) n bytes e in
    let whole = whole_at store k s.b w s.found in
    let inside = within_block s.b (i + c) n s.accessible in
    let same = same_but_at s.b (i + c) n bytes few (omega (arith, whole, inside)) in
    ap (λ o. bytes_in o j m) (ap (λ x. slice_get x k) s.is ∙ slice_get-slice_set_same store k s.b _ s.found)
    ∙ ap (λ bs. if is_accessible s.b j m then Some bs else None) (before_same (i + c) j m (with_bytes s.b (i + c) bytes).bytes s.b.bytes le same.before)
    ∙ ap (λ o. bytes_in o j m) (sym s.found)
saved_away store saved _ _ c n m bytes w few e (BeginsBehind zero i j le) = absurd cc
saved_away store saved _ _ c n m bytes w few e (BeginsBehind (suc k) i j le) =
    let s = saved_parts store saved k (i + c) n bytes e in
    let whole = whole_at store k s.b w s.found in
    let inside = within_block s.b (i + c) n s.accessible in
    let same = same_but_at s.b (i + c) n bytes few (omega (arith, whole, inside)) in
    ap (λ o. bytes_in o j m) (ap (λ x. slice_get x k) s.is ∙ slice_get-slice_set_same store k s.b _ s.found)
    ∙ ap (λ bs. if is_accessible s.b j m then Some (take m bs) else None) (behind_same (i + c + n) j (with_bytes s.b (i + c) bytes).bytes s.b.bytes (omega (arith, le)) same.behind)
    ∙ ap (λ o. bytes_in o j m) (sym s.found)

-- ---- one copy

pub record Copied (store saved : Store) (p q : Pointer) (n : ℕ) : Type 0 where
  pub bytes : List Byte
  pub loaded : load_bytes store q n ≡ Some bytes
  pub saved_as : save_bytes store p n (copied bytes) ≡ Some saved

pub copied_parts : (store saved : Store) (p q : Pointer) (n : ℕ) → copy store p q n ≡ Some saved → Copied store saved p q n
copied_parts store saved p q n = by (load_bytes store q n) refl
  where
    by : (o : Option (List Byte)) → load_bytes store q n ≡ o → (o >>= λ bytes. save_bytes store p n (copied bytes)) ≡ Some saved → Copied store saved p q n
    by None l e = absurd cc
    by (Some bytes) l e = record { bytes = bytes; loaded = l; saved_as = e }

-- its bytes are there
copy_loads : (store saved : Store) (p q : Pointer) (n : ℕ) → AreWhole store → copy store p q n ≡ Some saved → load_bytes saved p n ≡ option_map copied (load_bytes store q n)
copy_loads store saved p q n w e =
    let c = copied_parts store saved p q n e in
    load_bytes-saved store saved p n (copied c.bytes) w (length-copied c.bytes ∙ length-loaded store q n c.bytes w c.loaded) c.saved_as ∙ sym (ap (option_map copied) c.loaded)

copy_away : (store saved : Store) (p q r : Pointer) (c n m : ℕ) → AreWhole store → copy store (shifted p c) (shifted q c) n ≡ Some saved → IsAway c (c + n) m p r → load_bytes saved r m ≡ load_bytes store r m
copy_away store saved p q r c n m w e a =
    let d = copied_parts store saved (shifted p c) (shifted q c) n e in
    saved_away store saved p r c n m (copied d.bytes) w (omega (arith, length-copied d.bytes, length-loaded store (shifted q c) n d.bytes w d.loaded)) d.saved_as a

-- ---- copies in order

-- what copies do, the first by the first
pub record First (store saved : Store) (p q : Pointer) (c : ℕ × ℕ) (cs : List (ℕ × ℕ)) : Type 0 where
  pub next : Store
  pub is : copy store (shifted p c.0) (shifted q c.0) c.1 ≡ Some next
  pub rest : copy_all next p q cs ≡ Some saved

pub first_copy : (store saved : Store) (p q : Pointer) (c : ℕ × ℕ) (cs : List (ℕ × ℕ)) → copy_all store p q (c ∷ cs) ≡ Some saved → First store saved p q c cs
first_copy store saved p q c cs = by (copy store (shifted p c.0) (shifted q c.0) c.1) refl
  where
    by : (o : Option Store) → copy store (shifted p c.0) (shifted q c.0) c.1 ≡ o → (o >>= λ next. copy_all next p q cs) ≡ Some saved → First store saved p q c cs
    by None l e = absurd cc
    by (Some next) l e = record { next = next; is = l; rest = e }

in_order_range : (cs : List (ℕ × Scalar)) (from to : ℕ) → StandInOrder from cs to → from ≤ to
in_order_range [] from to o = o
in_order_range (c ∷ cs) from to o = omega (arith, o.0, in_order_range cs (c.0 + scalar_size c.1) to o.1)

-- where a scalar of them lies
in_order_at : (cs : List (ℕ × Scalar)) (from to : ℕ) → StandInOrder from cs to → (n : ℕ) (c : ℕ × Scalar) → slice_get cs n ≡ Some c → (from ≤ c.0) × (c.0 + scalar_size c.1 ≤ to)
in_order_at [] from to o n c found = absurd cc
in_order_at (d ∷ cs) from to o zero c found =
    let same : d ≡ c = cc in
    subst (λ (x : ℕ × Scalar). (from ≤ x.0) × (x.0 + scalar_size x.1 ≤ to)) same (o.0, in_order_range cs (d.0 + scalar_size d.1) to o.1)
in_order_at (d ∷ cs) from to o (suc n) c found =
    let h = in_order_at cs (d.0 + scalar_size d.1) to o.1 n c found in
    (omega (arith, o.0, h.0), h.1)

-- away from a part is away from a part of it
narrower : (from to a b m : ℕ) (p r : Pointer) → IsAway from to m p r → from ≤ a → b ≤ to → IsAway a b m p r
narrower from to a b m _ _ (InAnother n k i j other) l h = InAnother n k i j other
narrower from to a b m _ _ (EndsBefore n i j le) l h = EndsBefore n i j (omega (arith, le, l))
narrower from to a b m _ _ (BeginsBehind n i j le) l h = BeginsBehind n i j (omega (arith, le, h))

-- copies leave bytes as they are that are away from all of them
copies_away : (cs : List (ℕ × Scalar)) (from to : ℕ) → StandInOrder from cs to → (store saved : Store) (p q r : Pointer) (m : ℕ) → AreWhole store → copy_all store p q (sizes_of cs) ≡ Some saved → IsAway from to m p r
    → load_bytes saved r m ≡ load_bytes store r m
copies_away [] from to o store saved p q r m w e a = let same : store ≡ saved = cc in ap (λ x. load_bytes x r m) (sym same)
copies_away (c ∷ cs) from to o store saved p q r m w e a =
    let f = first_copy store saved p q (c.0, scalar_size c.1) (sizes_of cs) e in
    let range = in_order_range cs (c.0 + scalar_size c.1) to o.1 in
    copies_away cs (c.0 + scalar_size c.1) to o.1 f.next saved p q r m (whole-copied store f.next (shifted p c.0) (shifted q c.0) (scalar_size c.1) w f.is) f.rest
    (narrower from to (c.0 + scalar_size c.1) to m p r a (omega (arith, o.0)) (omega arith))
    ∙ copy_away store f.next p q r c.0 (scalar_size c.1) m w f.is (narrower from to c.0 (c.0 + scalar_size c.1) m p r a o.0 range)

-- a later scalar of the source is away from an earlier one of the target
source_away : (size : ℕ) (p q : Pointer) → SameOrApart size p q → (store : Store) (a n b m : ℕ) (bytes : List Byte) → load_bytes store (shifted q a) n ≡ Some bytes → a + n ≤ b → b + m ≤ size → IsAway a (a + n) m p (shifted q b)
source_away size _ _ (TheSame Null) store a n b m bytes e l h = absurd cc
source_away size _ _ (TheSame (Into k i)) store a n b m bytes e l h = BeginsBehind k i (i + b) (omega (arith, l))
source_away size _ _ (InOthers k j i o other) store a n b m bytes e l h = InAnother k j i (o + b) (λ same. other (sym same))
source_away size _ _ (TheFirstBefore k i j le) store a n b m bytes e l h = BeginsBehind k i (j + b) (omega (arith, le, l, h))
source_away size _ _ (TheFirstBehind k i j le) store a n b m bytes e l h = EndsBefore k i (j + b) (omega (arith, le, l, h))

-- a scalar of the target is away from what is written behind it
target_away : (p : Pointer) (a n to : ℕ) (store saved : Store) (bytes : List Byte) → save_bytes store (shifted p a) n bytes ≡ Some saved → IsAway (a + n) to n p (shifted p a)
target_away Null a n to store saved bytes e = absurd cc
target_away (Into k i) a n to store saved bytes e = EndsBefore k i (i + a) (omega arith)

copied_bytes : (cs : List (ℕ × Scalar)) (from size : ℕ) → StandInOrder from cs size → (store saved : Store) (p q : Pointer) → SameOrApart size p q → AreWhole store → copy_all store p q (sizes_of cs) ≡ Some saved
    → (n : ℕ) (c : ℕ × Scalar) → slice_get cs n ≡ Some c → load_bytes saved (shifted p c.0) (scalar_size c.1) ≡ option_map copied (load_bytes store (shifted q c.0) (scalar_size c.1))
copied_bytes [] from size o store saved p q h w e n c found = absurd cc
copied_bytes (d ∷ cs) from size o store saved p q h w e zero c found =
    let same : d ≡ c = cc in
    let f = first_copy store saved p q (d.0, scalar_size d.1) (sizes_of cs) e in
    let parts = copied_parts store f.next (shifted p d.0) (shifted q d.0) (scalar_size d.1) f.is in
    let whole = whole-copied store f.next (shifted p d.0) (shifted q d.0) (scalar_size d.1) w f.is in
    subst (λ (x : ℕ × Scalar). load_bytes saved (shifted p x.0) (scalar_size x.1) ≡ option_map copied (load_bytes store (shifted q x.0) (scalar_size x.1))) same
    (copies_away cs (d.0 + scalar_size d.1) size o.1 f.next saved p q (shifted p d.0) (scalar_size d.1) whole f.rest (target_away p d.0 (scalar_size d.1) size store f.next (copied parts.bytes) parts.saved_as)
    ∙ copy_loads store f.next (shifted p d.0) (shifted q d.0) (scalar_size d.1) w f.is)
copied_bytes (d ∷ cs) from size o store saved p q h w e (suc n) c found =
    let f = first_copy store saved p q (d.0, scalar_size d.1) (sizes_of cs) e in
    let parts = copied_parts store f.next (shifted p d.0) (shifted q d.0) (scalar_size d.1) f.is in
    let whole = whole-copied store f.next (shifted p d.0) (shifted q d.0) (scalar_size d.1) w f.is in
    let range = in_order_at cs (d.0 + scalar_size d.1) size o.1 n c found in
    let away = source_away size p q h store d.0 (scalar_size d.1) c.0 (scalar_size c.1) parts.bytes parts.loaded range.0 range.1 in
    copied_bytes cs (d.0 + scalar_size d.1) size o.1 f.next saved p q h whole f.rest n c found
    ∙ ap (option_map copied) (copy_away store f.next p q (shifted q c.0) d.0 (scalar_size d.1) (scalar_size c.1) w f.is away)

-- a value is loaded as from where the bytes come from
copied_loads : (store saved : Store) (p q : Pointer) (k : Scalar) → AreWhole store → load_bytes saved p (scalar_size k) ≡ option_map copied (load_bytes store q (scalar_size k))
    → (load_bytes saved p (scalar_size k) >>= value_from k) ≡ (load_bytes store q (scalar_size k) >>= value_from k)
copied_loads store saved p q k w e = ap (λ o. o >>= value_from k) e ∙ by (load_bytes store q (scalar_size k)) refl
  where
    by : (o : Option (List Byte)) → load_bytes store q (scalar_size k) ≡ o → (option_map copied o >>= value_from k) ≡ (o >>= value_from k)
    by None l = refl
    by (Some bytes) l = copied_value k bytes (length-loaded store q (scalar_size k) bytes w l)

pub copies_in_order : (store saved : Store) (p q : Pointer) (cs : List (ℕ × Scalar)) (size : ℕ) → AreWhole store → StandInOrder 0 cs size → SameOrApart size p q → copy_all store p q (sizes_of cs) ≡ Some saved
    → (n : ℕ) (c : ℕ × Scalar) → slice_get cs n ≡ Some c → IsCopied store saved (shifted p c.0) (shifted q c.0) c.1
copies_in_order store saved p q cs size w o h e n c found =
    let bytes = copied_bytes cs 0 size o store saved p q h w e n c found in
    record { bytes = bytes; value = copied_loads store saved (shifted p c.0) (shifted q c.0) c.1 w bytes }

pub assigned_structs_are_copies : (structs : List StructType) → AreLaidOut structs structs → (t : PlainType) (store saved : Store) (p q : Pointer) → AreWhole store → SameOrApart (size_of structs t) p q
    → copy_all store p q (sizes_of (scalars_of structs t)) ≡ Some saved → (n : ℕ) (c : ℕ × Scalar) → slice_get (scalars_of structs t) n ≡ Some c → IsCopied store saved (shifted p c.0) (shifted q c.0) c.1
assigned_structs_are_copies structs laid t store saved p q w h e = copies_in_order store saved p q (scalars_of structs t) (size_of structs t) w (scalars_in_order structs laid t) h e

-- ---- the other bytes

outside_away : (n i m j : ℕ) (c : ℕ × Scalar) → IsOutside n i m j c → IsAway c.0 (c.0 + scalar_size c.1) 1 (Into n i) (Into m j)
outside_away n i m j c = by (nat_eq m n) refl
  where
    same_block : (m : ℕ) → m ≡ n → IsOutside n i m j c → IsAway c.0 (c.0 + scalar_size c.1) 1 (Into n i) (Into m j)
    same_block m same (InAnotherBlock other) = absurd (other same)
    same_block m same (InFront l) = subst (λ k. IsAway c.0 (c.0 + scalar_size c.1) 1 (Into n i) (Into k j)) (sym same) (EndsBefore n i j (omega (arith, l)))
    same_block m same (BehindIt l) = subst (λ k. IsAway c.0 (c.0 + scalar_size c.1) 1 (Into n i) (Into k j)) (sym same) (BeginsBehind n i j (omega (arith, l)))

    by : (b : Bool) → nat_eq m n ≡ b → IsOutside n i m j c → IsAway c.0 (c.0 + scalar_size c.1) 1 (Into n i) (Into m j)
    by true f o = same_block m (same_number m n f) o
    by false f o = InAnother n m i j (other_number m n f)

pub rest_is_kept : (cs : List (ℕ × Scalar)) (store saved : Store) (n i : ℕ) (q : Pointer) → AreWhole store → copy_all store (Into n i) q (sizes_of cs) ≡ Some saved
    → (m j : ℕ) → ((k : ℕ) (c : ℕ × Scalar) → slice_get cs k ≡ Some c → IsOutside n i m j c) → load_bytes saved (Into m j) 1 ≡ load_bytes store (Into m j) 1
rest_is_kept [] store saved n i q w e m j h = let same : store ≡ saved = cc in ap (λ x. load_bytes x (Into m j) 1) (sym same)
rest_is_kept (c ∷ cs) store saved n i q w e m j h =
    let f = first_copy store saved (Into n i) q (c.0, scalar_size c.1) (sizes_of cs) e in
    rest_is_kept cs f.next saved n i q (whole-copied store f.next (shifted (Into n i) c.0) (shifted q c.0) (scalar_size c.1) w f.is) f.rest m j (λ k d found. h (suc k) d found)
    ∙ copy_away store f.next (Into n i) q (Into m j) c.0 (scalar_size c.1) 1 w f.is (outside_away n i m j c (h 0 c refl))

pub assigned_structs_keep_the_rest : (structs : List StructType) (t : PlainType) (store saved : Store) (n i : ℕ) (q : Pointer) → AreWhole store → copy_all store (Into n i) q (sizes_of (scalars_of structs t)) ≡ Some saved
    → (m j : ℕ) → ((k : ℕ) (c : ℕ × Scalar) → slice_get (scalars_of structs t) k ≡ Some c → IsOutside n i m j c) → load_bytes saved (Into m j) 1 ≡ load_bytes store (Into m j) 1
assigned_structs_keep_the_rest structs t store saved n i q w e = rest_is_kept (scalars_of structs t) store saved n i q w e
