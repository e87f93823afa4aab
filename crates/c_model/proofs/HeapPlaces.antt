-- The place of a heap block is the least that fits, and there is none exactly where the heap is full.
use Rattle.std.proofs.Common.{◌≡◌, ℕ, zero, suc, ◌+◌, ◌/◌, ◌<◌, ◌≤◌, Bool, true, false, not, ◌&&◌, ◌||◌, if◌then◌else◌, nat_le, [], ◌∷◌, length, Option, Some, None, slice_get, refl, sym, ap, ◌∙◌, subst, arith}
use Rattle.std.proofs.lemmas.Bool.{leb-true, leb-false, le-leb, lt-leb}
use Rattle.c_syntax.specs.declared.types.BlockKind.{BlockKind}
use Rattle.c_syntax.specs.declared.types.BlockKind.TheVariants.{Global, Literal, Stack, Heap}
use Rattle.c_syntax.specs.declared.types.Segment.TheVariants as segment
use Rattle.c_model.specs.Memory.{Block, Store, block_at, Sizes, greatest_number, units, is_heap, is_apart, is_free, first_passing, heap_place, At, NoRoom, room_at, heap_room}
use Rattle.c_model.specs.HeapLaws.{AreApart, Before, Behind, IsPlace}

-- ---- the least number that passes

pub least-passes : (passes : ℕ → Bool) (k u v : ℕ) → first_passing passes k u ≡ Some v → passes v ≡ true
least-passes passes zero u v e = absurd cc
least-passes passes (suc k) u v e = by (least-passes passes k (suc u) v) (passes u) refl e
  where
    by : (first_passing passes k (suc u) ≡ Some v → passes v ≡ true) → (t : Bool) → passes u ≡ t → (if t then Some u else first_passing passes k (suc u)) ≡ Some v → passes v ≡ true
    by rest true p h = let same : u ≡ v = cc in subst (λ x. passes x ≡ true) same p
    by rest false p h = rest h

-- none before it passes
pub least-first : (passes : ℕ → Bool) (k u v : ℕ) → first_passing passes k u ≡ Some v → (w : ℕ) → u ≤ w → w < v → passes w ≡ false
least-first passes zero u v e w l m = absurd cc
least-first passes (suc k) u v e w l m = by (λ h x. least-first passes k (suc u) v h w x m) (passes u) refl e
  where
    by : (first_passing passes k (suc u) ≡ Some v → suc u ≤ w → passes w ≡ false) → (t : Bool) → passes u ≡ t → (if t then Some u else first_passing passes k (suc u)) ≡ Some v → passes w ≡ false
    by rest true p h = let same : u ≡ v = cc in absurd (omega (arith, same, l, m))
    by rest false p h = from_next (nat_le (suc u) w) refl
      where
        from_next : (t : Bool) → nat_le (suc u) w ≡ t → passes w ≡ false
        from_next true f = rest h (leb-true _ _ f)
        from_next false f = let same : u ≡ w = omega (arith, l, leb-false _ _ f) in subst (λ x. passes x ≡ false) same p

-- none of them passes where there is none
pub least-none : (passes : ℕ → Bool) (k u : ℕ) → first_passing passes k u ≡ None → (w : ℕ) → u ≤ w → w < u + k → passes w ≡ false
least-none passes zero u e w l m = absurd (omega (arith, l, m))
least-none passes (suc k) u e w l m = by (λ h x. least-none passes k (suc u) h w x (omega (arith, m))) (passes u) refl e
  where
    by : (first_passing passes k (suc u) ≡ None → suc u ≤ w → passes w ≡ false) → (t : Bool) → passes u ≡ t → (if t then Some u else first_passing passes k (suc u)) ≡ None → passes w ≡ false
    by rest true p h = absurd cc
    by rest false p h = from_next (nat_le (suc u) w) refl
      where
        from_next : (t : Bool) → nat_le (suc u) w ≡ t → passes w ≡ false
        from_next true f = rest h (leb-true _ _ f)
        from_next false f = let same : u ≡ w = omega (arith, l, leb-false _ _ f) in subst (λ x. passes x ≡ false) same p

-- there is none where none passes
pub least-absent : (passes : ℕ → Bool) (k u : ℕ) → ((w : ℕ) → u ≤ w → passes w ≡ false) → first_passing passes k u ≡ None
least-absent passes zero u h = refl
least-absent passes (suc k) u h = rw (h u (omega arith)) (least-absent passes k (suc u) (λ w l. h w (omega (arith, l))))

-- it is the first that passes
pub least-found : (passes : ℕ → Bool) (k u v : ℕ) → u ≤ v → v < u + k → passes v ≡ true → ((w : ℕ) → u ≤ w → w < v → passes w ≡ false) → first_passing passes k u ≡ Some v
least-found passes zero u v l m e h = absurd (omega (arith, l, m))
least-found passes (suc k) u v l m e h = by (nat_le (suc u) v) refl (λ n. least-found passes k (suc u) v n (omega (arith, m)) e (λ w a b. h w (omega (arith, a)) b))
  where
    by : (t : Bool) → nat_le (suc u) v ≡ t → (suc u ≤ v → first_passing passes k (suc u) ≡ Some v) → (if passes u then Some u else first_passing passes k (suc u)) ≡ Some v
    by true f rest = let n : suc u ≤ v = leb-true _ _ f in rw (h u (omega arith) n) (rest n)
    by false f rest = let same : v ≡ u = omega (arith, l, leb-false _ _ f) in rw (subst (λ x. passes x ≡ true) same e) (ap Some (sym same))

-- ---- units

is_heap-true : (k : BlockKind) → is_heap k ≡ true → k ≡ Heap
is_heap-true Global e = absurd cc
is_heap-true Literal e = absurd cc
is_heap-true Stack e = absurd cc
is_heap-true Heap e = refl

pub kind_of_heap : (k : BlockKind) → is_heap k ≡ true → k ≡ Heap
kind_of_heap = is_heap-true

both : (x y : Bool) → x ≡ true → y ≡ true → (x && y) ≡ true
both x y e f = rw e f

parts : (x y : Bool) → (x && y) ≡ true → (x ≡ true) × (y ≡ true)
parts true y e = (refl, e)
parts false y e = absurd cc

apart_is : (unit count : ℕ) (b : Block) → is_apart unit count b ≡ true → AreApart unit count b.place (units b.size)
apart_is unit count b = by (nat_le (b.place + units b.size) unit) (nat_le (unit + count) b.place) refl refl
  where
    by : (x y : Bool) → nat_le (b.place + units b.size) unit ≡ x → nat_le (unit + count) b.place ≡ y → (x || y) ≡ true → AreApart unit count b.place (units b.size)
    by true y e f h = Behind (leb-true _ _ e)
    by false true e f h = Before (leb-true _ _ f)
    by false false e f h = absurd cc

is_apart-of : (unit count : ℕ) (b : Block) → AreApart unit count b.place (units b.size) → is_apart unit count b ≡ true
is_apart-of unit count b (Behind l) = rw (le-leb _ _ l) refl
is_apart-of unit count b (Before l) = by (nat_le (b.place + units b.size) unit) (nat_le (unit + count) b.place) (le-leb _ _ l)
  where
    by : (x y : Bool) → y ≡ true → (x || y) ≡ true
    by true y e = refl
    by false y e = e

-- units are free where they meet no live block of the heap
pub free_apart : (store : Store) (unit count : ℕ) → is_free store unit count ≡ true → (k : ℕ) (b : Block) → slice_get store k ≡ Some b → b.live ≡ true → b.kind ≡ Heap
    → AreApart unit count b.place (units b.size)
free_apart [] unit count e k b found live heap = absurd cc
free_apart (c ∷ cs) unit count e zero b found live heap =
    let p = parts (not (c.live && is_heap c.kind) || is_apart unit count c) (is_free cs unit count) e in
    let same : c ≡ b = cc in
    apart_is unit count b (by b.live (is_heap b.kind) (is_apart unit count b) live (ap is_heap heap) (subst (λ (x : Block). (not (x.live && is_heap x.kind) || is_apart unit count x) ≡ true) same p.0))
  where
    by : (x y z : Bool) → x ≡ true → y ≡ true → (not (x && y) || z) ≡ true → z ≡ true
    by true true z e f h = h
    by true false z e f h = absurd cc
    by false y z e f h = absurd cc
free_apart (c ∷ cs) unit count e (suc k) b found live heap =
    free_apart cs unit count (parts (not (c.live && is_heap c.kind) || is_apart unit count c) (is_free cs unit count) e).1 k b found live heap

pub apart_free : (store : Store) (unit count : ℕ) → ((k : ℕ) (b : Block) → slice_get store k ≡ Some b → b.live ≡ true → b.kind ≡ Heap → AreApart unit count b.place (units b.size))
    → is_free store unit count ≡ true
apart_free [] unit count h = refl
apart_free (c ∷ cs) unit count h = both _ _ (by c.live (is_heap c.kind) refl refl) (apart_free cs unit count (λ k b found. h (suc k) b found))
  where
    by : (x y : Bool) → c.live ≡ x → is_heap c.kind ≡ y → (not (x && y) || is_apart unit count c) ≡ true
    by true true e f = is_apart-of unit count c (h 0 c refl e (is_heap-true c.kind f))
    by true false e f = refl
    by false y e f = refl

-- ---- places

-- the test that a place passes
abbrev pub fits_at : ℕ → Store → ℕ → ℕ → Bool
fits_at length store count u = nat_le (u + count) length && is_free store u count

pub heap_place-passes : (length : ℕ) (store : Store) (count v : ℕ) → heap_place length store count ≡ Some v → fits_at length store count v ≡ true
unfolding heap_place
heap_place-passes length store count v e = least-passes (fits_at length store count) (suc length) 0 v e

pub heap_place-first : (length : ℕ) (store : Store) (count v : ℕ) → heap_place length store count ≡ Some v → (w : ℕ) → w < v → fits_at length store count w ≡ false
unfolding heap_place
heap_place-first length store count v e w l = least-first (fits_at length store count) (suc length) 0 v e w (omega arith) l

pub heap_place-none : (length : ℕ) (store : Store) (count : ℕ) → heap_place length store count ≡ None → (w : ℕ) → fits_at length store count w ≡ false
unfolding heap_place
heap_place-none length store count e w = by (nat_le w length) refl
  where
    by : (t : Bool) → nat_le w length ≡ t → fits_at length store count w ≡ false
    by true f = least-none (fits_at length store count) (suc length) 0 e w (omega arith) (omega (arith, leb-true _ _ f))
    by false f = rw (lt-leb (w + count) length (omega (arith, leb-false _ _ f))) refl

-- more units than the heap has find no place
pub heap_place-too_many : (length : ℕ) (store : Store) (count : ℕ) → length < count → heap_place length store count ≡ None
unfolding heap_place
heap_place-too_many length store count l = least-absent (fits_at length store count) (suc length) 0 (λ w m. rw (lt-leb (w + count) length (omega (arith, l))) refl)

pub heap_place-at : (length : ℕ) (store : Store) (count v : ℕ) → v ≤ length → fits_at length store count v ≡ true → ((w : ℕ) → w < v → fits_at length store count w ≡ false) → heap_place length store count ≡ Some v
unfolding heap_place
heap_place-at length store count v l e h = least-found (fits_at length store count) (suc length) 0 v (omega arith) (omega (arith, l)) e (λ w _ m. h w m)

pub heap_place-zero : (length : ℕ) (store : Store) (count : ℕ) → fits_at length store count 0 ≡ true → heap_place length store count ≡ Some 0
heap_place-zero length store count e = heap_place-at length store count 0 (omega arith) e (λ w m. absurd (omega (arith, m)))

place_is : (length : ℕ) (store : Store) (size u : ℕ) → fits_at length store (units size) u ≡ true → IsPlace length store size u
place_is length store size u e =
    let p = parts (nat_le (u + units size) length) (is_free store u (units size)) e in
    record { inside = leb-true _ _ p.0; apart = of_block p.1 }
  where
    of_block : is_free store u (units size) ≡ true → (n : ℕ) (b : Block) → block_at store n ≡ Some b → b.live ≡ true → b.kind ≡ Heap → AreApart u (units size) b.place (units b.size)
    of_block f zero b found live heap = absurd cc
    of_block f (suc k) b found live heap = free_apart store u (units size) f k b found live heap

place_fits : (length : ℕ) (store : Store) (size u : ℕ) → IsPlace length store size u → fits_at length store (units size) u ≡ true
place_fits length store size u i = both _ _ (le-leb _ _ i.inside) (apart_free store u (units size) (λ k b found live heap. i.apart (suc k) b found live heap))

clash : (t : Bool) → t ≡ true → t ≡ false → ⊥
clash true e f = absurd cc
clash false e f = absurd cc

-- ---- rooms

-- what a room says: numbers are left, and the place is the one of the units
record HasPlace (sizes : Sizes) (store : Store) (size place : ℕ) : Type 0 where
  found : heap_place (sizes.heap / 16) store (units size) ≡ Some place

room_place : (sizes : Sizes) (store : Store) (size place : ℕ) → heap_room sizes store size ≡ At place → HasPlace sizes store size place
room_place sizes store size place = by (nat_le greatest_number (length store)) (heap_place (sizes.heap / 16) store (units size)) refl
  where
    by : (t : Bool) (o : Option ℕ) → heap_place (sizes.heap / 16) store (units size) ≡ o → (if t then NoRoom segment.Numbers else room_at o) ≡ At place → HasPlace sizes store size place
    by true o e h = absurd cc
    by false None e h = absurd cc
    by false (Some v) e h = let same : v ≡ place = cc in record { found = e ∙ ap Some same }

pub heap_places_fit : (sizes : Sizes) (store : Store) (size place : ℕ) → heap_room sizes store size ≡ At place → IsPlace (sizes.heap / 16) store size place
heap_places_fit sizes store size place e =
    place_is (sizes.heap / 16) store size place (heap_place-passes (sizes.heap / 16) store (units size) place (room_place sizes store size place e).found)

pub heap_places_are_least : (sizes : Sizes) (store : Store) (size place other : ℕ) → heap_room sizes store size ≡ At place → other < place → IsPlace (sizes.heap / 16) store size other → ⊥
heap_places_are_least sizes store size place other e l i =
    clash (fits_at (sizes.heap / 16) store (units size) other) (place_fits (sizes.heap / 16) store size other i)
    (heap_place-first (sizes.heap / 16) store (units size) place (room_place sizes store size place e).found other l)

pub full_heaps_have_no_place : (sizes : Sizes) (store : Store) (size other : ℕ) → heap_room sizes store size ≡ NoRoom segment.Heap → IsPlace (sizes.heap / 16) store size other → ⊥
full_heaps_have_no_place sizes store size other e i = by (nat_le greatest_number (length store)) (heap_place (sizes.heap / 16) store (units size)) refl e
  where
    by : (t : Bool) (o : Option ℕ) → heap_place (sizes.heap / 16) store (units size) ≡ o → (if t then NoRoom segment.Numbers else room_at o) ≡ NoRoom segment.Heap → ⊥
    by true o f h = absurd cc
    by false None f h =
        clash (fits_at (sizes.heap / 16) store (units size) other) (place_fits (sizes.heap / 16) store size other i) (heap_place-none (sizes.heap / 16) store (units size) f other)
    by false (Some v) f h = absurd cc

pub heaps_with_no_place_are_full : (sizes : Sizes) (store : Store) (size : ℕ) → length store < greatest_number → ((other : ℕ) → IsPlace (sizes.heap / 16) store size other → ⊥) → heap_room sizes store size ≡ NoRoom segment.Heap
heaps_with_no_place_are_full sizes store size few none = rw (lt-leb greatest_number (length store) few) (by (heap_place (sizes.heap / 16) store (units size)) refl)
  where
    by : (o : Option ℕ) → heap_place (sizes.heap / 16) store (units size) ≡ o → room_at o ≡ NoRoom segment.Heap
    by None e = refl
    by (Some v) e = absurd (none v (place_is (sizes.heap / 16) store size v (heap_place-passes (sizes.heap / 16) store (units size) v e)))

pub numbers_come_first : (sizes : Sizes) (store : Store) (size : ℕ) → greatest_number ≤ length store → heap_room sizes store size ≡ NoRoom segment.Numbers
numbers_come_first sizes store size many = rw (le-leb greatest_number (length store) many) refl
