-- Births on the heap are new blocks, what is freed is dead, and dead blocks have no use.
use Rattle.std.proofs.Common.{◌≡◌, ℕ, zero, suc, ◌+◌, ◌<◌, ◌≤◌, ◌≢◌, ℤ, pos, negsuc, ◌+ℤ◌, Bool, true, false, ◌&&◌, cond, if◌then◌else◌, nat_le, nat_eq, List, [], ◌∷◌, ◌++◌, length, replicate, Option, Some, None, slice_get, slice_set, refl}
use Rattle.std.proofs.Common.{ap, ◌∙◌}
use Rattle.std.proofs.Common.{subst, arith}
use Rattle.std.proofs.lemmas.Bool.{leb-true, lt-leb}
use Rattle.std.proofs.lemmas.Bool.Decides.{nat_tests}
use Rattle.std.proofs.lemmas.List.{length-replicate}
use Rattle.c_syntax.specs.declared.types.BlockKind.TheVariants.{Heap}
use Rattle.c_syntax.specs.declared.types.Segment.TheVariants as segment
use Rattle.c_syntax.specs.Layouts.{Scalar, scalar_size}
use Rattle.c_model.specs.Memory.{Pointer, Null, Into, Value, Points, Byte, bytes_from, Block, Store, block_at, is_accessible, save, saved_block, with_block, offset_in, live_size, apart, distance, equal_pointers, is_usable}
use Rattle.c_model.specs.Memory.{same_pointer, tested_value}
use Rattle.c_model.specs.Memory.{standard_sizes, greatest_number, units, Room, At, NoRoom, heap_room, heap_block, freed}
use Rattle.c_model.specs.State.{State, Normal, Stop, Over, Full, heap_birth, allocate, give}
use Rattle.c_model.specs.HeapLaws.{IsBorn, IsFreed, HasNoUse}
use Rattle.c_model.proofs.Blocks.{slice_get-slice_set_same, slice_get-slice_set_other, freed_parts}
use Rattle.c_model.proofs.HeapPlaces.{kind_of_heap, heap_place-too_many}

-- ---- lists

pub get_last : {X : Type 0} (xs : List X) (x : X) → slice_get (xs ++ x ∷ []) (length xs) ≡ Some x
get_last [] x = refl
get_last (y ∷ ys) x = get_last ys x

pub get_before : {X : Type 0} (xs : List X) (x y : X) (k : ℕ) → slice_get xs k ≡ Some y → slice_get (xs ++ x ∷ []) k ≡ Some y
get_before [] x y k e = absurd cc
get_before (z ∷ zs) x y zero e = e
get_before (z ∷ zs) x y (suc k) e = get_before zs x y k e

pub get_others : {X : Type 0} (xs : List X) (x : X) (k : ℕ) → k ≢ length xs → slice_get (xs ++ x ∷ []) k ≡ slice_get xs k
get_others [] x zero d = absurd (d refl)
get_others [] x (suc k) d = refl
get_others (z ∷ zs) x zero d = refl
get_others (z ∷ zs) x (suc k) d = get_others zs x k (λ e. d (ap suc e))

pub get_none : {X : Type 0} (xs : List X) (k : ℕ) → length xs ≤ k → slice_get xs k ≡ None
get_none [] k l = refl
get_none (z ∷ zs) zero l = absurd (omega (arith, l))
get_none (z ∷ zs) (suc k) l = get_none zs k (omega (arith, l))

-- ---- births

pub block_at-youngest : (store : Store) (b : Block) → block_at (store ++ b ∷ []) (length store + 1) ≡ Some b
block_at-youngest store b = let next : length store + 1 ≡ suc (length store) = omega arith in rw next (get_last store b)

pub block_at-others : (store : Store) (b : Block) (m : ℕ) → m ≢ length store + 1 → block_at (store ++ b ∷ []) m ≡ block_at store m
block_at-others store b zero d = refl
block_at-others store b (suc m) d = get_others store b m (λ e. d (let next : suc m ≡ length store + 1 = omega (arith, e) in next))

pub block_at-new : (store : Store) → block_at store (length store + 1) ≡ None
block_at-new store = let next : length store + 1 ≡ suc (length store) = omega arith in rw next (get_none store (length store) (omega arith))

born_at : (n : ℕ) (byte : Byte) (s : State) (place : ℕ) → heap_room standard_sizes s.store n ≡ At place → IsBorn s (record s { store = s.store ++ heap_block place (replicate n byte) ∷ [] }) (length s.store + 1) n byte
born_at n byte s place e = record {
  block = heap_block place (replicate n byte);
  found = block_at-youngest s.store (heap_block place (replicate n byte));
  kind = refl;
  size = length-replicate n byte;
  live = refl;
  bytes = refl;
  place = e;
  new = block_at-new s.store;
  others = block_at-others s.store (heap_block place (replicate n byte));
}

same_number : (n m i j : ℕ) → Points (Into n i) ≡ Points (Into m j) → n ≡ m
same_number n m i j e = cc

at_start : (n m i j : ℕ) → Points (Into n i) ≡ Points (Into m j) → j ≡ i
at_start n m i j e = cc

born_in : (n : ℕ) (byte : Byte) (s t : State) (number offset : ℕ) (room : Room) → heap_room standard_sizes s.store n ≡ room → heap_birth room (replicate n byte) s ≡ Normal (Points (Into number offset)) t → (offset ≡ 0) × IsBorn s t number n byte
born_in n byte s t number offset (NoRoom full) e h = absurd cc
born_in n byte s t number offset (At place) e h =
    let is_value : Points (Into (length s.store + 1) 0) ≡ Points (Into number offset) = cc in
    let is_state : record s { store = s.store ++ heap_block place (replicate n byte) ∷ [] } ≡ t = cc in
    (at_start _ _ _ _ is_value, subst (λ m. IsBorn s t m n byte) (same_number _ _ _ _ is_value) (subst (λ u. IsBorn s u (length s.store + 1) n byte) is_state (born_at n byte s place e)))

pub allocated_blocks_are_new : (n : ℕ) (byte : Byte) (s t : State) (number offset : ℕ) → allocate n byte s ≡ Normal (Points (Into number offset)) t → (offset ≡ 0) × IsBorn s t number n byte
allocated_blocks_are_new n byte s t number offset = by (nat_eq n 0)
  where
    by : (b : Bool) → cond b (give (Points Null)) (λ u. heap_birth (heap_room standard_sizes u.store n) (replicate n byte) u) s ≡ Normal (Points (Into number offset)) t → (offset ≡ 0) × IsBorn s t number n byte
    by true h = absurd cc
    by false h = born_in n byte s t number offset (heap_room standard_sizes s.store n) refl h

-- a block of some bytes is born where there is room
pub born_where_room : (n : ℕ) (byte : Byte) (s : State) (place : ℕ) → nat_eq n 0 ≡ false → heap_room standard_sizes s.store n ≡ At place
    → allocate n byte s ≡ Normal (Points (Into (length s.store + 1) 0)) (record s { store = s.store ++ heap_block place (replicate n byte) ∷ [] })
born_where_room n byte s place some e =
    ap (λ b. cond b (give (Points Null)) (λ u. heap_birth (heap_room standard_sizes u.store n) (replicate n byte) u) s) some ∙ ap (λ room. heap_birth room (replicate n byte) s) e

-- what is larger than the heap has no room there
pub too_large_is_full : (n : ℕ) (byte : Byte) (s : State) → length s.store < greatest_number → nat_le 16777216 n ≡ true → allocate n byte s ≡ Stop (Over (Full segment.Heap)) s
too_large_is_full n byte s few large = by (nat_eq n 0) refl
  where
    many : 1048576 < units n
    many = omega (arith, leb-true 16777216 n large)

    full : heap_room standard_sizes s.store n ≡ NoRoom segment.Heap
    full = rw (lt-leb greatest_number (length s.store) few) (rw (heap_place-too_many 1048576 s.store (units n) many) refl)

    by : (b : Bool) → nat_eq n 0 ≡ b → cond b (give (Points Null)) (λ u. heap_birth (heap_room standard_sizes u.store n) (replicate n byte) u) s ≡ Stop (Over (Full segment.Heap)) s
    by true asked = let none : n ≡ 0 = grind (arith, nat_tests) in absurd (omega (arith, leb-true 16777216 n large, none))
    by false asked = ap (λ room. heap_birth room (replicate n byte) s) full

pub no_bytes_give_null : (byte : Byte) (s : State) → allocate 0 byte s ≡ Normal (Points Null) s
no_bytes_give_null byte s = refl

-- ---- what is freed

pub freed_blocks_die : (store after : Store) (number offset : ℕ) → freed store (Into number offset) ≡ Some after → (offset ≡ 0) × IsFreed store after number
freed_blocks_die store after zero offset e = absurd cc
freed_blocks_die store after (suc k) (suc offset) e = absurd cc
freed_blocks_die store after (suc k) zero e =
    let f = freed_parts store after k e in (
      refl,
      record {
        block = f.b;
        found = f.found;
        was_live = f.live;
        kind = kind_of_heap f.b.kind f.heap;
        dead = record f.b { live = false };
        after_is = ap (λ x. slice_get x k) f.is ∙ slice_get-slice_set_same store k f.b _ f.found;
        died = record { kind = refl; size = refl; place = refl; bytes = refl; live = refl };
        others = others (record f.b { live = false }) f.is;
      },
    )
  where
    others : (b : Block) → after ≡ slice_set store k b → (m : ℕ) → m ≢ suc k → block_at after m ≡ block_at store m
    others b is zero d = refl
    others b is (suc m) d = ap (λ x. slice_get x m) is ∙ slice_get-slice_set_other store k m b (λ q. d (ap suc q))

pub live_blocks_can_be_freed : (store : Store) (number : ℕ) (b : Block) → block_at store number ≡ Some b → b.live ≡ true → b.kind ≡ Heap → (after : Store) × (freed store (Into number 0) ≡ Some after)
live_blocks_can_be_freed store zero b found live heap = absurd cc
live_blocks_can_be_freed store (suc k) b found live heap = (slice_set store k (record b { live = false }), rw found (rw live (rw heap refl)))

-- ---- dead blocks

no_access : (b : Block) → b.live ≡ false → (offset n : ℕ) → is_accessible b offset n ≡ false
no_access b d offset n = rw d refl

no_save : (store : Store) (k : ℕ) (b : Block) → b.live ≡ false → (offset n : ℕ) (bytes : List Byte) → with_block store k (saved_block (Some b) offset n bytes) ≡ None
no_save store k b d offset n bytes = rw (no_access b d offset n) refl

no_offset : (n : ℕ) (z : ℤ) → offset_in n z None ≡ None
no_offset n (pos i) = refl
no_offset n (negsuc i) = refl

no_distance : (store : Store) (n i : ℕ) (q : Pointer) → live_size (block_at store n) ≡ None → distance store (Into n i) q ≡ None
no_distance store n i Null e = refl
no_distance store n i (Into m j) e = rw e refl

no_apart : (size : Option ℕ) (same : Bool) (i j : ℕ) → (same ≡ true → size ≡ None) → apart size same i j ≡ None
no_apart None same i j h = refl
no_apart (Some size) true i j h = absurd (let none : Some size ≡ None = h refl in cc)
no_apart (Some size) false i j h = refl

no_distance_to : (store : Store) (n i : ℕ) (q : Pointer) → live_size (block_at store n) ≡ None → distance store q (Into n i) ≡ None
no_distance_to store n i Null e = refl
no_distance_to store n i (Into m j) e =
    no_apart (live_size (block_at store m)) (nat_eq m n) j i (λ f. let same : m ≡ n = grind (arith, nat_tests) in ap (λ k. live_size (block_at store k)) same ∙ e)

is_unusable : (store : Store) (n i : ℕ) → live_size (block_at store n) ≡ None → is_usable store (Into n i) ≡ false
is_unusable store n i e = ap (λ (o : Option ℕ). elim o [ None ↦ false | Some size ↦ true ]) e

no_equality_to : (store : Store) (p q : Pointer) → is_usable store p ≡ false → equal_pointers store q p ≡ None
no_equality_to store p q e = by (is_usable store q) (is_usable store p) e
  where
    by : (x y : Bool) → y ≡ false → (if x && y then Some (same_pointer q p) else None) ≡ None
    by true true f = absurd cc
    by true false f = refl
    by false y f = refl

no_test : (store : Store) (p : Pointer) → is_usable store p ≡ false → tested_value store (Points p) ≡ None
no_test store p e = rw e refl

no_equality : (store : Store) (p q : Pointer) → is_usable store p ≡ false → equal_pointers store p q ≡ None
no_equality store p q e = rw e refl

no_size : (b : Block) → b.live ≡ false → live_size (Some b) ≡ None
no_size b d = rw d refl

no_free : (store : Store) (number : ℕ) (b : Block) → block_at store number ≡ Some b → b.live ≡ false → (i : ℕ) → freed store (Into number i) ≡ None
no_free store zero b found d i = refl
no_free store (suc k) b found d zero = rw found (rw d refl)
no_free store (suc k) b found d (suc i) = refl

not_saved : (store : Store) (number : ℕ) (b : Block) → block_at store number ≡ Some b → b.live ≡ false → (i : ℕ) (k : Scalar) (v : Value) → save store (Into number i) k v ≡ None
not_saved store zero b found d i k v = refl
not_saved store (suc n) b found d i k v = ap (λ o. with_block store n (saved_block o i (scalar_size k) (bytes_from k v))) found ∙ no_save store n b d i (scalar_size k) (bytes_from k v)

pub dead_blocks_have_no_use : (store : Store) (number : ℕ) (b : Block) → block_at store number ≡ Some b → b.live ≡ false → HasNoUse store number
dead_blocks_have_no_use store number b found d =
    let size : live_size (block_at store number) ≡ None = ap live_size found ∙ no_size b d in
    record {
      loads = λ i k. rw found (rw (no_access b d i (scalar_size k)) refl);
      saves = not_saved store number b found d;
      moves = λ i z. ap (offset_in number (pos i +ℤ z)) size ∙ no_offset number (pos i +ℤ z);
      distances = λ i q. (no_distance store number i q size, no_distance_to store number i q size);
      equals = λ i q. (no_equality store (Into number i) q (is_unusable store number i size), no_equality_to store (Into number i) q (is_unusable store number i size));
      tests = λ i. no_test store (Into number i) (is_unusable store number i size);
      frees = no_free store number b found d;
    }
