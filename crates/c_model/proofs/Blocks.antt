-- Saves and loads: what is saved is loaded again, and all else stands.
use Rattle.std.proofs.Common.{◌≡◌, ℕ, zero, suc, ◌+◌, ◌-◌, ◌≤◌, ◌≢◌, ℤ, Bool, true, false, not, ◌&&◌, if◌then◌else◌, nat_le, nat_lt, map, List, [], ◌∷◌, ◌++◌, length, take, drop, Option, Some, None, slice_get, slice_set, refl, sym, ap, ◌∙◌, subst}
use Rattle.std.proofs.Common.{arith, append_assoc}
use Rattle.std.proofs.lemmas.Bool.{leb-true}
use Rattle.std.proofs.lemmas.List.{take_at, length-take-le, length-append, length-drop, length-map, drop-drop, length-replicate}
use Rattle.std.proofs.Math.Seq.{drop-append_seam}
use Rattle.c_syntax.specs.declared.types.CInt.{CInt}
use Rattle.c_syntax.specs.declared.types.BlockKind.{BlockKind}
use Rattle.c_syntax.specs.Layouts.{int_size, Scalar, IntegerType, PointerType, scalar_size}
use Rattle.c_model.specs.Integers.{fits}
use Rattle.c_model.specs.Memory.{Pointer, Null, Into, Value, Integer, Points, Byte, Unwritten, Block, Store, block_at, new_block, bytes_from, loosened, copied, is_accessible, is_literal, bytes_in, load_bytes, load, with_bytes}
use Rattle.c_model.specs.Memory.{saved_block, with_block, save_bytes, save, shifted, ◌>>=◌, copy, copy_all, is_heap, freed_block, freed, kill_from}
use Rattle.c_model.specs.Laws.{AreWhole, SameButAt}
use Rattle.c_model.proofs.Cells.{value_from-bytes_from, pointer_from-pieces, length-integer_bytes, length-bytes_from}

-- ---- lists

pub slice_get-slice_set_same : {X : Type 0} (xs : List X) (k : ℕ) (x y : X) → slice_get xs k ≡ Some x → slice_get (slice_set xs k y) k ≡ Some y
slice_get-slice_set_same [] k x y e = absurd cc
slice_get-slice_set_same (z ∷ zs) zero x y e = refl
slice_get-slice_set_same (z ∷ zs) (suc k) x y e = slice_get-slice_set_same zs k x y e

pub slice_get-slice_set_other : {X : Type 0} (xs : List X) (k j : ℕ) (y : X) → j ≢ k → slice_get (slice_set xs k y) j ≡ slice_get xs j
slice_get-slice_set_other [] k j y d = refl
slice_get-slice_set_other (z ∷ zs) zero zero y d = absurd (d refl)
slice_get-slice_set_other (z ∷ zs) zero (suc j) y d = refl
slice_get-slice_set_other (z ∷ zs) (suc k) zero y d = refl
slice_get-slice_set_other (z ∷ zs) (suc k) (suc j) y d = slice_get-slice_set_other zs k j y (λ e. d (ap suc e))

-- a part in the middle of a list
mid_before : {X : Type 0} (offset : ℕ) (xs ys : List X) → offset ≤ length xs → take offset (take offset xs ++ ys) ≡ take offset xs
mid_before offset xs ys le = take_at (take offset xs) ys offset (length-take-le offset xs le)

mid_on : {X : Type 0} (offset : ℕ) (xs ys : List X) → offset ≤ length xs → drop offset (take offset xs ++ ys) ≡ ys
mid_on offset xs ys le =
    subst (λ n. drop n (take offset xs ++ ys) ≡ ys) (length-take-le offset xs le) (drop-append_seam (take offset xs) ys)

-- ---- whole blocks

pub whole_at : (store : Store) (k : ℕ) (b : Block) → AreWhole store → slice_get store k ≡ Some b → length b.bytes ≡ b.size
whole_at [] k b w e = absurd cc
whole_at (c ∷ cs) zero b w e = let same : c ≡ b = cc in subst (λ x. length x.bytes ≡ x.size) same w.0
whole_at (c ∷ cs) (suc k) b w e = whole_at cs k b w.1 e

whole_set : (store : Store) (k : ℕ) (b : Block) → AreWhole store → length b.bytes ≡ b.size → AreWhole (slice_set store k b)
whole_set [] k b w e = w
whole_set (c ∷ cs) zero b w e = (e, w.1)
whole_set (c ∷ cs) (suc k) b w e = (w.0, whole_set cs k b w.1 e)

-- ---- saves

-- what a save did
pub record Saved (store saved : Store) (k offset n : ℕ) (bytes : List Byte) : Type 0 where
  pub b : Block
  pub found : slice_get store k ≡ Some b
  pub accessible : is_accessible b offset n ≡ true
  pub is : saved ≡ slice_set store k (with_bytes b offset bytes)

pub saved_parts : (store saved : Store) (k offset n : ℕ) (bytes : List Byte) → save_bytes store (Into (suc k) offset) n bytes ≡ Some saved → Saved store saved k offset n bytes
saved_parts store saved k offset n bytes = of_block (slice_get store k) refl
  where
    by : (b : Block) → slice_get store k ≡ Some b → (x y : Bool) → is_accessible b offset n ≡ x → with_block store k (if x && y then Some (with_bytes b offset bytes) else None) ≡ Some saved → Saved store saved k offset n bytes
    by b found true true a e = record { b = b; found = found; accessible = a; is = cc }
    by b found true false a e = absurd cc
    by b found false y a e = absurd cc

    of_block : (o : Option Block) → slice_get store k ≡ o → with_block store k (saved_block o offset n bytes) ≡ Some saved → Saved store saved k offset n bytes
    of_block None found e = absurd cc
    of_block (Some b) found e = by b found (is_accessible b offset n) (not (is_literal b.kind)) refl e

both_true : (x y : Bool) → (x && y) ≡ true → (x ≡ true) × (y ≡ true)
both_true true y e = (refl, e)
both_true false y e = absurd cc

pub within_block : (b : Block) (offset n : ℕ) → is_accessible b offset n ≡ true → offset + n ≤ b.size
within_block b offset n a =
    let parts = both_true b.live _ a in
    leb-true _ _ (both_true (nat_le (offset + n) b.size) _ parts.1).0

bytes_in-with_bytes : (b : Block) (offset n : ℕ) (bytes : List Byte) → is_accessible b offset n ≡ true → offset ≤ length b.bytes → length bytes ≡ n → bytes_in (Some (with_bytes b offset bytes)) offset n ≡ Some bytes
bytes_in-with_bytes b offset n bytes a le e =
    rw a (rw (mid_on offset b.bytes (bytes ++ drop (offset + length bytes) b.bytes) le) (ap Some (take_at bytes (drop (offset + length bytes) b.bytes) n e)))

-- the bytes that are saved are loaded again
pub load_bytes-saved : (store saved : Store) (p : Pointer) (n : ℕ) (bytes : List Byte) → AreWhole store → length bytes ≡ n → save_bytes store p n bytes ≡ Some saved → load_bytes saved p n ≡ Some bytes
load_bytes-saved store saved Null n bytes w long e = absurd cc
load_bytes-saved store saved (Into zero offset) n bytes w long e = absurd cc
load_bytes-saved store saved (Into (suc k) offset) n bytes w long e =
    let s = saved_parts store saved k offset n bytes e in
    let whole = whole_at store k s.b w s.found in
    let inside = within_block s.b offset n s.accessible in
    let found : slice_get saved k ≡ Some (with_bytes s.b offset bytes) = ap (λ x. slice_get x k) s.is ∙ slice_get-slice_set_same store k s.b _ s.found in
    ap (λ o. bytes_in o offset n) found ∙ bytes_in-with_bytes s.b offset n bytes s.accessible (omega (arith, whole, inside)) long

pub load-saved : (store saved : Store) (p : Pointer) (k : CInt) (z : ℤ) → AreWhole store → fits k z ≡ true → save store p (IntegerType k) (Integer z) ≡ Some saved → load saved p (IntegerType k) ≡ Some (Integer z)
load-saved store saved p k z w f e =
    rw (load_bytes-saved store saved p (int_size k) _ w (length-integer_bytes k z) e) (value_from-bytes_from k z f)

pub load_pointer-saved : (store saved : Store) (p q : Pointer) → AreWhole store → save store p PointerType (Points q) ≡ Some saved → load saved p PointerType ≡ Some (Points q)
load_pointer-saved store saved p q w e =
    rw (load_bytes-saved store saved p 8 _ w refl e) (pointer_from-pieces q)

pub other_blocks-saved : (store saved : Store) (n offset size : ℕ) (bytes : List Byte) → save_bytes store (Into n offset) size bytes ≡ Some saved → (m : ℕ) → m ≢ n → block_at saved m ≡ block_at store m
other_blocks-saved store saved zero offset size bytes e m d = absurd cc
other_blocks-saved store saved (suc n) offset size bytes e zero d = refl
other_blocks-saved store saved (suc n) offset size bytes e (suc m) d =
    let s = saved_parts store saved n offset size bytes e in
    ap (λ x. slice_get x m) s.is ∙ slice_get-slice_set_other store n m (with_bytes s.b offset bytes) (λ q. d (ap suc q))

pub same_but_at : (b : Block) (offset n : ℕ) (bytes : List Byte) → length bytes ≤ n → offset + n ≤ length b.bytes → SameButAt offset n b (with_bytes b offset bytes)
same_but_at b offset n bytes few le = record {
  kind = refl;
  size_is = refl;
  live = refl;
  place = refl;
  before = mid_before offset b.bytes _ (omega (arith, le));
  behind = behind;
}
  where
    first : List Byte
    first = take offset b.bytes ++ bytes

    long : length first ≡ offset + length bytes
    long = length-append (take offset b.bytes) bytes ∙ ap (λ x. x + length bytes) (length-take-le offset b.bytes (omega (arith, le)))

    -- after the bytes that were written
    rest : drop (offset + length bytes) (take offset b.bytes ++ (bytes ++ drop (offset + length bytes) b.bytes)) ≡ drop (offset + length bytes) b.bytes
    rest = rw (sym (append_assoc (take offset b.bytes) bytes (drop (offset + length bytes) b.bytes))) (subst (λ x. drop x (first ++ drop (offset + length bytes) b.bytes) ≡ drop (offset + length bytes) b.bytes) long
        (drop-append_seam first (drop (offset + length bytes) b.bytes)))

    farther : (xs : List Byte) → drop (n - length bytes) (drop (offset + length bytes) xs) ≡ drop (offset + n) xs
    farther xs = drop-drop (n - length bytes) (offset + length bytes) xs ∙ (let e : offset + length bytes + (n - length bytes) ≡ offset + n = omega (arith, few) in ap (λ x. drop x xs) e)

    behind : drop (offset + n) (take offset b.bytes ++ (bytes ++ drop (offset + length bytes) b.bytes)) ≡ drop (offset + n) b.bytes
    behind = sym (farther _) ∙ ap (drop (n - length bytes)) rest ∙ farther b.bytes

pub other_bytes-saved : (store saved : Store) (n offset size : ℕ) (bytes : List Byte) → AreWhole store → length bytes ≤ size → save_bytes store (Into n offset) size bytes ≡ Some saved → (b written : Block) → block_at store n ≡ Some b
    → block_at saved n ≡ Some written → SameButAt offset size b written
other_bytes-saved store saved zero offset size bytes w few e b written found found' = absurd cc
other_bytes-saved store saved (suc n) offset size bytes w few e b written found found' =
    let s = saved_parts store saved n offset size bytes e in
    let whole = whole_at store n s.b w s.found in
    let inside = within_block s.b offset size s.accessible in
    let first : Some s.b ≡ Some b = sym s.found ∙ found in
    let second : Some (with_bytes s.b offset bytes) ≡ Some written = sym (ap (λ x. slice_get x n) s.is ∙ slice_get-slice_set_same store n s.b _ s.found) ∙ found' in
    let is_b : s.b ≡ b = cc in
    let is_written : with_bytes s.b offset bytes ≡ written = cc in
    subst (λ x. SameButAt offset size b x) is_written (subst (λ x. SameButAt offset size x (with_bytes s.b offset bytes)) is_b (same_but_at s.b offset size bytes few (omega (arith, whole, inside))))

pub length-with_bytes : (b : Block) (offset : ℕ) (bytes : List Byte) → offset + length bytes ≤ length b.bytes → length (with_bytes b offset bytes).bytes ≡ length b.bytes
length-with_bytes b offset bytes le =
    length-append (take offset b.bytes) (bytes ++ drop (offset + length bytes) b.bytes)
    ∙ (let a = length-take-le offset b.bytes (omega (arith, le)) in
    let m = length-append bytes (drop (offset + length bytes) b.bytes) in
    let d = length-drop (offset + length bytes) b.bytes in
    omega (arith, a, m, d, le))

pub whole-saved_bytes : (store saved : Store) (p : Pointer) (n : ℕ) (bytes : List Byte) → AreWhole store → length bytes ≤ n → save_bytes store p n bytes ≡ Some saved → AreWhole saved
whole-saved_bytes store saved Null n bytes w few e = absurd cc
whole-saved_bytes store saved (Into zero offset) n bytes w few e = absurd cc
whole-saved_bytes store saved (Into (suc k) offset) n bytes w few e =
    let s = saved_parts store saved k offset n bytes e in
    let whole = whole_at store k s.b w s.found in
    let inside = within_block s.b offset n s.accessible in
    subst AreWhole (sym s.is) (whole_set store k (with_bytes s.b offset bytes) w (length-with_bytes s.b offset bytes (omega (arith, whole, inside, few)) ∙ whole))

pub whole-saved : (store saved : Store) (p : Pointer) (k : Scalar) (v : Value) → AreWhole store → save store p k v ≡ Some saved → AreWhole saved
whole-saved store saved p k v w e = whole-saved_bytes store saved p (scalar_size k) (bytes_from k v) w (length-bytes_from k v) e

-- what is loaded has so many bytes
length-bytes_in : (o : Option Block) (offset n : ℕ) (bytes : List Byte) → ((b : Block) → o ≡ Some b → length b.bytes ≡ b.size) → bytes_in o offset n ≡ Some bytes → length bytes ≡ n
length-bytes_in None offset n bytes w e = absurd cc
length-bytes_in (Some b) offset n bytes w e = by (is_accessible b offset n) refl e
  where
    by : (x : Bool) → is_accessible b offset n ≡ x → (if x then Some (take n (drop offset b.bytes)) else None) ≡ Some bytes → length bytes ≡ n
    by true a q =
        let inside = within_block b offset n a in
        let is : take n (drop offset b.bytes) ≡ bytes = cc in
        sym (ap length is) ∙ length-take-le n (drop offset b.bytes) (omega (arith, w b refl, inside, length-drop offset b.bytes))
    by false a q = absurd cc

pub length-loaded : (store : Store) (p : Pointer) (n : ℕ) (bytes : List Byte) → AreWhole store → load_bytes store p n ≡ Some bytes → length bytes ≡ n
length-loaded store Null n bytes w e = absurd cc
length-loaded store (Into zero offset) n bytes w e = absurd cc
length-loaded store (Into (suc k) offset) n bytes w e = length-bytes_in (slice_get store k) offset n bytes (λ b found. whole_at store k b w found) e

pub length-copied : (bytes : List Byte) → length (copied bytes) ≡ length bytes
length-copied bytes = by (nat_lt (length bytes) 8)
  where
    by : (x : Bool) → length (if x then map loosened bytes else bytes) ≡ length bytes
    by true = length-map bytes loosened
    by false = refl

pub whole-copied : (store saved : Store) (p q : Pointer) (n : ℕ) → AreWhole store → copy store p q n ≡ Some saved → AreWhole saved
whole-copied store saved p q n w e = of_bytes (load_bytes store q n) refl e
  where
    of_bytes : (o : Option (List Byte)) → load_bytes store q n ≡ o → (o >>= λ bytes. save_bytes store p n (copied bytes)) ≡ Some saved → AreWhole saved
    of_bytes None l f = absurd cc
    of_bytes (Some bytes) l f = whole-saved_bytes store saved p n (copied bytes) w (omega (arith, length-copied bytes, length-loaded store q n bytes w l)) f

pub whole-copied_all : (store saved : Store) (p q : Pointer) (cs : List (ℕ × ℕ)) → AreWhole store → copy_all store p q cs ≡ Some saved → AreWhole saved
whole-copied_all store saved p q [] w e = let same : store ≡ saved = cc in subst AreWhole same w
whole-copied_all store saved p q (c ∷ cs) w e = of_store (copy store (shifted p c.0) (shifted q c.0) c.1) (λ next v f. whole-copied_all next saved p q cs v f) refl e
  where
    of_store : (o : Option Store) → ((next : Store) → AreWhole next → copy_all next p q cs ≡ Some saved → AreWhole saved) → copy store (shifted p c.0) (shifted q c.0) c.1 ≡ o → (o >>= λ next. copy_all next p q cs) ≡ Some saved → AreWhole saved
    of_store None go l f = absurd cc
    of_store (Some next) go l f = go next (whole-copied store next (shifted p c.0) (shifted q c.0) c.1 w l) f

-- ---- births and deaths

pub whole-append : (a b : Store) → AreWhole a → AreWhole b → AreWhole (a ++ b)
whole-append [] b w v = v
whole-append (c ∷ cs) b w v = (w.0, whole-append cs b w.1 v)

pub whole-new_block : (kind : BlockKind) (size : ℕ) → AreWhole (new_block kind size ∷ [])
whole-new_block kind size = (length-replicate size Unwritten, tt)

-- what `free` did to a block that it was given
pub record Freed (store after : Store) (k : ℕ) : Type 0 where
  pub b : Block
  pub found : slice_get store k ≡ Some b
  pub live : b.live ≡ true
  pub heap : is_heap b.kind ≡ true
  pub is : after ≡ slice_set store k (record b { live = false })

pub freed_parts : (store after : Store) (k : ℕ) → freed store (Into (suc k) 0) ≡ Some after → Freed store after k
freed_parts store after k = of_block (slice_get store k) refl
  where
    by : (b : Block) → slice_get store k ≡ Some b → (x y : Bool) → b.live ≡ x → is_heap b.kind ≡ y → with_block store k (if x && y then Some (record b { live = false }) else None) ≡ Some after → Freed store after k
    by b found true true l h e = record { b = b; found = found; live = l; heap = h; is = cc }
    by b found true false l h e = absurd cc
    by b found false y l h e = absurd cc

    of_block : (o : Option Block) → slice_get store k ≡ o → with_block store k (freed_block o) ≡ Some after → Freed store after k
    of_block None found e = absurd cc
    of_block (Some b) found e = by b found b.live (is_heap b.kind) refl refl e

pub whole-freed : (store after : Store) (p : Pointer) → AreWhole store → freed store p ≡ Some after → AreWhole after
whole-freed store after Null w e = let same : store ≡ after = cc in subst AreWhole same w
whole-freed store after (Into zero offset) w e = absurd cc
whole-freed store after (Into (suc k) zero) w e =
    let f = freed_parts store after k e in
    subst AreWhole (sym f.is) (whole_set store k (record f.b { live = false }) w (whole_at store k f.b w f.found))
whole-freed store after (Into (suc k) (suc offset)) w e = absurd cc

pub whole-kill_from : (n : ℕ) (store : Store) → AreWhole store → AreWhole (kill_from n store)
whole-kill_from n [] w = tt
whole-kill_from zero (b ∷ bs) w = (w.0, whole-kill_from zero bs w.1)
whole-kill_from (suc n) (b ∷ bs) w = (w.0, whole-kill_from n bs w.1)
