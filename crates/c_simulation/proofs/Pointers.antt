-- Pointers into blocks, and steps from them: a number of elements by which a pointer goes on in a small block, and its number of bytes, are values of i64.
use Rattle.std.proofs.Common.{◌≡◌, ℕ, zero, suc, ◌+◌, ◌-◌, ◌*◌, ◌^◌, ◌≤◌, ℤ, pos, negsuc, neg_ℤ, ◌+ℤ◌, ◌*ℤ◌, Bool, true, false, cond, if◌then◌else◌, ◌&&◌, not, nat_lt, nat_le, List, take, drop, Option, Some, None, refl, sym, ap, ◌∙◌, subst, arith}
use Rattle.std.proofs.lemmas.Bool.{lt-ltb, le-leb, leb-true}
use Rattle.std.proofs.lemmas.Bool.Decides.{nat_tests}
use Rattle.std.specs.Prelude.{slice_get}
use Rattle.c_syntax.specs.declared.types.CInt.TheVariants.{I64}
use Rattle.c_syntax.specs.Layouts.{Scalar, scalar_size}
use Rattle.c_model.specs.Integers.{fits, convert}
use Rattle.c_model.specs.Memory.{Pointer, Null, Into, Value, Byte, Block, Store, block_at, live_size, is_accessible, is_literal, bytes_in, load_bytes, load, value_from, copied}
use Rattle.c_model.specs.Memory.{copy, shifted, with_bytes, saved_block, with_block, save_bytes, moved, offset_in}
use Rattle.c_model.specs.Memory.{◌>>=◌ as bind}
use Rattle.c_model.proofs.Cells.{value_of_bits-bits_of}
use Rattle.c_model.proofs.StructCopies.{copied_parts}
use Rattle.c_model.proofs.TypedParts.{and_true}
use Rattle.c_simulation.specs.Standing.{IsSmall, Bounded, IsInside}
use Rattle.c_simulation.proofs.Bounds.{bounded_at}

-- ---- places in live blocks

-- null lies in no block
pub null_outside : (store : Store) → IsInside store Null → ⊥
null_outside store h = none h.block h.offset h.is
  where
    none : (n i : ℕ) → Null ≡ Into n i → ⊥
    none n i e = absurd cc

accessible_inside : (store : Store) (n i size : ℕ) (b : Block) → block_at store n ≡ Some b → is_accessible b i size ≡ true → IsInside store (Into n i)
accessible_inside store n i size b found a =
    let parts = and_true b.live _ a in
    let fits = leb-true _ _ (and_true (nat_le (i + size) b.size) _ parts.1).0 in
    record {
      block = n;
      offset = i;
      size = b.size;
      is = refl;
      live = ap live_size found ∙ (rw parts.0 refl);
      within = omega (arith, fits);
    }

-- what is read or written is inside
pub bytes_inside : (store : Store) (p : Pointer) (n : ℕ) (bytes : List Byte) → load_bytes store p n ≡ Some bytes → IsInside store p
bytes_inside store Null n bytes e = absurd cc
bytes_inside store (Into m i) n bytes e = of_block (block_at store m) refl e
  where
    of_block : (o : Option Block) → block_at store m ≡ o → bytes_in o i n ≡ Some bytes → IsInside store (Into m i)
    of_block None found f = absurd cc
    of_block (Some b) found f = by (is_accessible b i n) refl f
      where
        by : (t : Bool) → is_accessible b i n ≡ t → (if t then Some (take n (drop i b.bytes)) else None) ≡ Some bytes → IsInside store (Into m i)
        by true a g = accessible_inside store m i n b found a
        by false a g = absurd cc

pub loaded_inside : (store : Store) (p : Pointer) (k : Scalar) (v : Value) → load store p k ≡ Some v → IsInside store p
loaded_inside store p k v e = by (load_bytes store p (scalar_size k)) refl e
  where
    by : (o : Option (List Byte)) → load_bytes store p (scalar_size k) ≡ o → bind o (value_from k) ≡ Some v → IsInside store p
    by None f g = absurd cc
    by (Some bytes) f g = bytes_inside store p (scalar_size k) bytes f

pub saved_inside : (store saved : Store) (p : Pointer) (n : ℕ) (bytes : List Byte) → save_bytes store p n bytes ≡ Some saved → IsInside store p
saved_inside store saved Null n bytes e = absurd cc
saved_inside store saved (Into zero i) n bytes e = absurd cc
saved_inside store saved (Into (suc b) i) n bytes e = of_block (slice_get store b) refl e
  where
    of_block : (o : Option Block) → slice_get store b ≡ o → with_block store b (saved_block o i n bytes) ≡ Some saved → IsInside store (Into (suc b) i)
    of_block None found f = absurd cc
    of_block (Some c) found f = by (is_accessible c i n) (not (is_literal c.kind)) refl f
      where
        by : (x y : Bool) → is_accessible c i n ≡ x → with_block store b (if x && y then Some (with_bytes c i bytes) else None) ≡ Some saved → IsInside store (Into (suc b) i)
        by true y a g = accessible_inside store (suc b) i n c found a
        by false y a g = absurd cc

-- both ends of a copy are
pub copied_inside : (store saved : Store) (p q : Pointer) (n : ℕ) → copy store p q n ≡ Some saved → IsInside store p × IsInside store q
copied_inside store saved p q n e =
    let c = copied_parts store saved p q n e in
    (saved_inside store saved p n (copied c.bytes) c.saved_as, bytes_inside store q n c.bytes c.loaded)

pub shifted_twice : (p : Pointer) (d c : ℕ) → shifted (shifted p d) c ≡ shifted p (d + c)
shifted_twice Null d c = refl
shifted_twice (Into m i) d c = let same : (i + d) + c ≡ i + (d + c) = omega arith in ap (Into m) same

-- a pointer that is moved forward to a place inside
pub moved_inside : (store : Store) (n i d : ℕ) → IsInside store (Into n (i + d)) → moved store (Into n i) (pos d) ≡ Some (Into n (i + d))
moved_inside store n i d h =
    let same : Into n (i + d) ≡ Into h.block h.offset = h.is in
    let block : n ≡ h.block = cc in
    let offset : i + d ≡ h.offset = cc in
    let found : live_size (block_at store n) ≡ Some h.size = subst (λ b. live_size (block_at store b) ≡ Some h.size) (sym block) h.live in
    let le : i + d ≤ h.size = omega (arith, h.within, offset) in
    rw found (rw (le-leb (i + d) h.size le) refl)

-- what is before a place inside is inside
pub before_inside : (store : Store) (n i d : ℕ) → IsInside store (Into n (i + d)) → IsInside store (Into n i)
before_inside store n i d h =
    let same : Into n (i + d) ≡ Into h.block h.offset = h.is in
    let block : n ≡ h.block = cc in
    let offset : i + d ≡ h.offset = cc in
    record { block = n; offset = i; size = h.size; is = refl; live = subst (λ b. live_size (block_at store b) ≡ Some h.size) (sym block) h.live; within = omega (arith, h.within, offset) }

-- where a pointer is moved to is inside
pub inside_moved : (store : Store) (p q : Pointer) (d : ℤ) → moved store p d ≡ Some q → IsInside store q
inside_moved store Null q d e = absurd cc
inside_moved store (Into n i) q d e = by (pos i +ℤ d) (live_size (block_at store n)) refl e
  where
    by : (z : ℤ) (o : Option ℕ) → live_size (block_at store n) ≡ o → offset_in n z o ≡ Some q → IsInside store q
    by (negsuc j) o found f = absurd cc
    by (pos j) None found f = absurd cc
    by (pos j) (Some size) found f = decided (nat_le j size) refl f
      where
        decided : (t : Bool) → nat_le j size ≡ t → (if t then Some (Into n j) else None) ≡ Some q → IsInside store q
        decided true le g =
            let is : Into n j ≡ q = cc in
            record { block = n; offset = j; size = size; is = sym is; live = found; within = leb-true j size le }
        decided false le g = absurd cc

-- a pointer that isn't moved
pub unmoved : (store : Store) (p q : Pointer) → moved store p (pos 0) ≡ Some q → q ≡ p
unmoved store Null q e = absurd cc
unmoved store (Into n i) q e = by (live_size (block_at store n)) e
  where
    by : (o : Option ℕ) → offset_in n (pos i +ℤ pos 0) o ≡ Some q → q ≡ Into n i
    by None f = absurd cc
    by (Some size) f = decided (nat_le (i + 0) size) f
      where
        decided : (t : Bool) → (if t then Some (Into n (i + 0)) else None) ≡ Some q → q ≡ Into n i
        decided true g = let is : Into n (i + 0) ≡ q = cc in let none : i + 0 ≡ i = omega arith in sym is ∙ ap (Into n) none
        decided false g = absurd cc

-- each live block is small
abbrev pub AreSmall : Store → Type 0
AreSmall store = (n size : ℕ) → live_size (block_at store n) ≡ Some size → size ≤ 2 ^ 32

pub bounded_live : (store : Store) → Bounded store → AreSmall store
bounded_live store h zero size e = absurd cc
bounded_live store h (suc k) size e = by (slice_get store k) refl e
  where
    by : (o : Option Block) → slice_get store k ≡ o → live_size o ≡ Some size → size ≤ 2 ^ 32
    by None f g = absurd cc
    by (Some b) f g = decided b.live g
      where
        decided : (t : Bool) → (if t then Some b.size else None) ≡ Some size → size ≤ 2 ^ 32
        decided true g = let same : b.size ≡ size = cc in omega (arith, same, (bounded_at store k b h f).small)
        decided false g = absurd cc

-- a place inside a small block
pub inside_small : (store : Store) (p : Pointer) → AreSmall store → IsInside store p → IsSmall p
inside_small store p small h = subst IsSmall (sym h.is) (omega (arith, h.within, small h.block h.size h.live))

-- ---- products of a number of elements and their size

stays : (z : ℤ) → fits I64 z ≡ true → convert I64 z ≡ z
stays z f = value_of_bits-bits_of I64 z f

product_stays : (z : ℤ) (unit : ℕ) → fits I64 z ≡ true → fits I64 (z *ℤ pos unit) ≡ true → convert I64 (convert I64 z *ℤ pos unit) ≡ z *ℤ pos unit
product_stays z unit f g = ap (λ w. convert I64 (w *ℤ pos unit)) (stays z f) ∙ stays (z *ℤ pos unit) g

no_bytes : (z : ℤ) → z *ℤ pos 0 ≡ pos 0
no_bytes (pos a) = ap pos (omega arith)
no_bytes (negsuc a) = let none : suc a * 0 ≡ 0 = omega arith in ap (λ n. neg_ℤ (pos n)) none

pub positive_fits : (a : ℕ) → a ≤ 2 ^ 32 → fits I64 (pos a) ≡ true
positive_fits a le = lt-ltb a (2 ^ 63) (omega arith)

pub negative_fits : (a : ℕ) → a ≤ 2 ^ 32 → fits I64 (negsuc a) ≡ true
negative_fits a le = lt-ltb a (2 ^ 63) (omega arith)

times : (a u : ℕ) → a * suc u ≡ a + a * u
times a u = omega arith

-- a sum that is no less than 0
sum_back : (i m j : ℕ) → pos i +ℤ negsuc m ≡ pos j → suc m ≤ i
sum_back i m j e = by (nat_lt i (suc m)) refl e
  where
    by : (t : Bool) → nat_lt i (suc m) ≡ t → cond t (negsuc (suc m - suc i)) (pos (i - suc m)) ≡ pos j → suc m ≤ i
    by true l f = absurd cc
    by false l f = grind (arith, nat_tests, l)

pub within_i64 : (i unit j : ℕ) (z : ℤ) → i ≤ 2 ^ 32 → j ≤ 2 ^ 32 → pos i +ℤ (z *ℤ pos unit) ≡ pos j → convert I64 (convert I64 z *ℤ pos unit) ≡ z *ℤ pos unit
within_i64 i zero j z li lj e = ap (convert I64) (no_bytes (convert I64 z)) ∙ sym (no_bytes z)
within_i64 i (suc u) j (pos a) li lj e =
    let sum : i + a * suc u ≡ j = cc in
    let t = times a u in
    product_stays (pos a) (suc u) (positive_fits a (omega (arith, sum, t, lj))) (positive_fits (a * suc u) (omega (arith, sum, lj)))
within_i64 i (suc u) j (negsuc a) li lj e =
    let m : suc a * suc u ≡ suc (u + a * suc u) = omega arith in
    let product : negsuc a *ℤ pos (suc u) ≡ negsuc (u + a * suc u) = ap (λ n. neg_ℤ (pos n)) m in
    let back : suc (u + a * suc u) ≤ i = sum_back i (u + a * suc u) j (ap (λ w. pos i +ℤ w) (sym product) ∙ e) in
    let t = times a u in
    product_stays (negsuc a) (suc u) (negative_fits a (omega (arith, back, t, li))) (ap (fits I64) product ∙ negative_fits (u + a * suc u) (omega (arith, back, li)))

-- where a pointer was moved by so many bytes
pub record Landed (store : Store) (i : ℕ) (d : ℤ) : Type 0 where
  pub to : ℕ
  pub small : to ≤ 2 ^ 32
  pub sum : pos i +ℤ d ≡ pos to

pub landed : (store : Store) (n i : ℕ) (d : ℤ) (q : Pointer) → AreSmall store → moved store (Into n i) d ≡ Some q → Landed store i d
landed store n i d q small e = by (pos i +ℤ d) (live_size (block_at store n)) refl refl e
  where
    by : (w : ℤ) (o : Option ℕ) → pos i +ℤ d ≡ w → live_size (block_at store n) ≡ o → offset_in n w o ≡ Some q → Landed store i d
    by (negsuc j) o sum found f = absurd cc
    by (pos j) None sum found f = absurd cc
    by (pos j) (Some size) sum found f = decided (nat_le j size) refl f
      where
        decided : (t : Bool) → nat_le j size ≡ t → (if t then Some (Into n j) else None) ≡ Some q → Landed store i d
        decided true le g = record { to = j; small = omega (arith, leb-true j size le, small n size found); sum = sum }
        decided false le g = absurd cc

pub steps_fit : (store : Store) (n i unit : ℕ) (z : ℤ) (q : Pointer) → AreSmall store → i ≤ 2 ^ 32 → moved store (Into n i) (z *ℤ pos unit) ≡ Some q → convert I64 (convert I64 z *ℤ pos unit) ≡ z *ℤ pos unit
steps_fit store n i unit z q small li e =
    let l = landed store n i (z *ℤ pos unit) q small e in
    within_i64 i unit l.to z li l.small l.sum

-- that of a literal, which is its block's first byte
pub small_literal : (o : Option ℕ) → IsSmall (elim o [ None ↦ Null | Some k ↦ Into k 0 ])
small_literal None = tt
small_literal (Some k) = omega arith
