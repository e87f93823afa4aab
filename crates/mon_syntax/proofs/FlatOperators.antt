-- Operators on pointers over blocks and over flat memory.
use Rattle.std.proofs.Common.{◌≡◌, ◌≢◌, ℕ, zero, suc, ◌+◌, ◌*◌, ◌^◌, ◌<◌, ◌≤◌, ◌⊎◌, inl, inr, ℤ, pos, negsuc, ◌+ℤ◌, ◌-ℤ◌, Bool, true, false, not, ◌&&◌, if◌then◌else◌, nat_eq, nat_le, nat_lt, int_lt, int_le}
use Rattle.std.proofs.Common.{Option, Some, None, option_map, slice_get, refl, sym, ap, ap₂, ◌∙◌, subst, arith}
use Rattle.std.proofs.Math.Nat.{mod-eq_of_lt}
use Rattle.std.proofs.lemmas.Bool.{cases_eq, leb-true, eqb-true, eq-eqb, ne_eqb}
use Rattle.std.proofs.lemmas.Int.{ints}
use Rattle.c_model.specs.Integers.{truth}
use Rattle.c_model.specs.Memory.{Pointer, Null, Into, Value, Integer, Points, Block, Store, block_at, live_size, offset_in, moved, apart, distance, is_usable, same_pointer, equal_pointers}
use Rattle.mon_syntax.specs.declared.tree.MonOp.{MonOp}
use Rattle.mon_syntax.specs.declared.tree.MonOp.TheVariants.{Add, Sub, Eq, Ne, Lt, Le, Gt, Ge}
use Rattle.mon_syntax.specs.declared.tree.MonType.TheVariants.{U32}
use Rattle.mon_syntax.specs.Arithmetic.{lowest_bits}
use Rattle.mon_syntax.specs.Flat.{Flat, start_of, number_in}
use Rattle.mon_syntax.specs.FlatMemory.{pointer_in, address_in, farther, two_pointers, pointed_flat}
use Rattle.mon_syntax.specs.BlockMemory.{Blocks, two_blocks, pointed_block}
use Rattle.mon_syntax.specs.Following.{Kept}
use Rattle.mon_syntax.specs.FlatRelation.{most_bytes, Place, World, PointsTo, SamePointer, Same, head_of, Holds}
use Rattle.mon_syntax.proofs.FlatLists.{head_at}
use Rattle.mon_syntax.proofs.FlatPointers.{address_fits, number_is, address_is}
use Rattle.mon_syntax.proofs.FlatAddresses.{pointer_is, one_place, into_is_some, lies}

-- ---- sums

-- so many bytes farther in the same block
farther_is : (number base i j x : ℕ) (d : ℤ) → number_in x ≡ number → address_in x ≡ base + i → pos i +ℤ d ≡ pos j → base + j < 4294967296 → farther x d ≡ number * 2 ^ 32 + (base + j)
farther_is number base i j x d high low sum lt =
    let moved_by : pos (base + i) +ℤ d ≡ pos (base + j) = omega (arith, ints, sum) in
    let address : lowest_bits U32 (pos (address_in x) +ℤ d) ≡ base + j = ap (λ a. lowest_bits U32 (pos a +ℤ d)) low ∙ ap (lowest_bits U32) moved_by ∙ mod-eq_of_lt lt in
    ap₂ (λ y z. y * 2 ^ 32 + z) high address

module _ (w : World) (m : Blocks) (f : Flat) (h : Holds w m f) (index i x : ℕ) (q : PointsTo w (suc index) i x) (d : ℤ) where
  -- the pointer to another offset of the block
  at_other : (j : ℕ) → pos i +ℤ d ≡ pos j → j ≤ q.place.size → PointsTo w (suc index) j (farther x d)
  at_other j sum le =
      let within = q.within in
      let room : 16 * q.place.unit + j < most_bytes q.place.name = omega (arith, within, le) in
      let end = address_fits q.place.name (16 * q.place.unit + j) room in
      let low : address_in x ≡ start_of q.place.name + 16 * q.place.unit + i = let a = address_is w (suc index) i x q in omega (arith, a) in
      let is = farther_is (suc index) (start_of q.place.name + 16 * q.place.unit) i j x d (number_is w (suc index) i x q) low sum (omega (arith, end)) in
      record {
        index = q.index;
        place = q.place;
        is_number = q.is_number;
        there = q.there;
        small = q.small;
        inside = le;
        within = q.within;
        is = omega (arith, is);
      }

  by_room : (b : Block) → slice_get m.store index ≡ Some b → b.live ≡ true → (j : ℕ) → pos i +ℤ d ≡ pos j → (t : Bool) → nat_le j b.size ≡ t
      → Kept (Same w) (option_map Points (if t then Some (Into (suc index) j) else None)) (Some (pos (farther x d)))
  by_room b at live j sum false e = tt
  by_room b at live j sum true e =
      let le : j ≤ b.size = leb-true _ _ e in
      let size = (h.laid.lain index (head_of b) q.place (head_at m.store index b at) (lies w index i x q) live).size in
      (farther x d, refl, at_other j sum (omega (arith, le, size)))

  by_sum : (b : Block) → slice_get m.store index ≡ Some b → b.live ≡ true → (z : ℤ) → pos i +ℤ d ≡ z → Kept (Same w) (option_map Points (offset_in (suc index) z (Some b.size))) (Some (pos (farther x d)))
  by_sum b at live (negsuc j) sum = tt
  by_sum b at live (pos j) sum = by_room b at live j sum (nat_le j b.size) refl

  no_size : (z : ℤ) → Kept (Same w) (option_map Points (offset_in (suc index) z None)) (Some (pos (farther x d)))
  no_size (negsuc j) = tt
  no_size (pos j) = tt

  by_live : (b : Block) → slice_get m.store index ≡ Some b → (t : Bool) → b.live ≡ t → Kept (Same w) (option_map Points (offset_in (suc index) (pos i +ℤ d) (if t then Some b.size else None))) (Some (pos (farther x d)))
  by_live b at false e = no_size (pos i +ℤ d)
  by_live b at true e = by_sum b at e (pos i +ℤ d) refl

  by_block : (o : Option Block) → slice_get m.store index ≡ o → Kept (Same w) (option_map Points (offset_in (suc index) (pos i +ℤ d) (live_size o))) (Some (pos (farther x d)))
  by_block None at = no_size (pos i +ℤ d)
  by_block (Some b) at = by_live b at b.live refl

  moved_inside : Kept (Same w) (option_map Points (moved m.store (Into (suc index) i) d)) (Some (pos (farther x d)))
  moved_inside = by_block (slice_get m.store index) refl

sum_at : (w : World) (m : Blocks) (f : Flat) (p : Pointer) (x : ℕ) (d : ℤ) → Holds w m f → SamePointer w p x → Kept (Same w) (option_map Points (moved m.store p d)) (Some (pos (farther x d)))
sum_at w m f Null x d h q = tt
sum_at w m f (Into zero i) x d h q = let e = q.is_number in absurd (omega (arith, e))
sum_at w m f (Into (suc index) i) x d h q = moved_inside w m f h index i x q d

-- ---- differences

-- the distance, where there is one, is that of the addresses
distance_is : (w : World) (store : Store) (p q : Pointer) (x y : ℕ) (d : ℤ) → SamePointer w p x → SamePointer w q y → distance store p q ≡ Some d → d ≡ pos (address_in x) -ℤ pos (address_in y)
distance_is w store Null q x y d a b e = absurd cc
distance_is w store (Into n i) Null x y d a b e = absurd cc
distance_is w store (Into n i) (Into m j) x y d a b e = by_size (live_size (block_at store n)) e
  where
    in_one : n ≡ m → pos i -ℤ pos j ≡ pos (address_in x) -ℤ pos (address_in y)
    in_one same =
        let there : PointsTo w n j y = subst (λ z. PointsTo w z j y) (sym same) b in
        let place : a.place ≡ there.place = one_place w n i j x y a there in
        let first = address_is w n i x a in
        let second : address_in y ≡ start_of a.place.name + (16 * a.place.unit + j) = subst (λ (z : Place). address_in y ≡ start_of z.name + (16 * z.unit + j)) (sym place) (address_is w n j y there) in
        omega (arith, ints, first, second)

    by_test : (t : Bool) → nat_eq n m ≡ t → (if t then Some (pos i -ℤ pos j) else None) ≡ Some d → d ≡ pos (address_in x) -ℤ pos (address_in y)
    by_test false t is = absurd cc
    by_test true t is = let same : pos i -ℤ pos j ≡ d = cc in sym same ∙ in_one (eqb-true n m t)

    by_size : (o : Option ℕ) → apart o (nat_eq n m) i j ≡ Some d → d ≡ pos (address_in x) -ℤ pos (address_in y)
    by_size None is = absurd cc
    by_size (Some size) is = by_test (nat_eq n m) refl is

by_distance : (w : World) (store : Store) (p q : Pointer) (x y : ℕ) (go : ℤ → ℤ) (v : ℤ) → SamePointer w p x → SamePointer w q y → go (pos (address_in x) -ℤ pos (address_in y)) ≡ v
    → Kept (Same w) (option_map (λ d. Integer (go d)) (distance store p q)) (Some v)
by_distance w store p q x y go v a b e = by (distance store p q) refl
  where
    by : (o : Option ℤ) → distance store p q ≡ o → Kept (Same w) (option_map (λ d. Integer (go d)) o) (Some v)
    by None is = tt
    by (Some d) is = ap go (distance_is w store p q x y d a b is) ∙ e

difference_lt : (a b : ℕ) → int_lt (pos a -ℤ pos b) (pos 0) ≡ nat_lt a b
difference_lt a b = grind (arith, ints)

difference_le : (a b : ℕ) → int_le (pos a -ℤ pos b) (pos 0) ≡ nat_le a b
difference_le a b = grind (arith, ints)

difference_gt : (a b : ℕ) → int_lt (pos 0) (pos a -ℤ pos b) ≡ nat_lt b a
difference_gt a b = grind (arith, ints)

difference_ge : (a b : ℕ) → int_le (pos 0) (pos a -ℤ pos b) ≡ nat_le b a
difference_ge a b = grind (arith, ints)

-- ---- equality

-- two numbers are equal where the pointers are
same_numbers : (w : World) (p q : Pointer) (x y : ℕ) → SamePointer w p x → SamePointer w q y → same_pointer p q ≡ nat_eq x y
same_numbers w Null Null x y a b = sym (eq-eqb x y (a ∙ sym b))
same_numbers w Null (Into m j) x y a b = sym (ne_eqb x y (λ e. into_is_some w m j y b (sym e ∙ a)))
same_numbers w (Into n i) Null x y a b = sym (ne_eqb x y (λ e. into_is_some w n i x a (e ∙ b)))
same_numbers w (Into n i) (Into m j) x y a b = by (cases_eq n m) (cases_eq i j)
  where
    numbers : x ≡ y → n ≡ m
    numbers e = sym (number_is w n i x a) ∙ ap number_in e ∙ number_is w m j y b

    place : n ≡ m → (a.place ≡ b.place)
    place e =
        let there : PointsTo w n j y = subst (λ z. PointsTo w z j y) (sym e) b in
        one_place w n i j x y a there

    offsets : n ≡ m → x ≡ y → i ≡ j
    offsets e same =
        let first = address_is w n i x a in
        let second = address_is w m j y b in
        omega (arith, first, second, ap address_in same, ap (λ (z : Place). start_of z.name + 16 * z.unit) (place e))

    by : (n ≡ m) ⊎ (n ≢ m) → (i ≡ j) ⊎ (i ≢ j) → (nat_eq n m && nat_eq i j) ≡ nat_eq x y
    by (inr ne) o = ap (λ t. t && nat_eq i j) (ne_eqb n m ne) ∙ sym (ne_eqb x y (λ e. ne (numbers e)))
    by (inl e) (inr ne) = ap (λ t. t && nat_eq i j) (eq-eqb n m e) ∙ ne_eqb i j ne ∙ sym (ne_eqb x y (λ same. ne (offsets e same)))
    by (inl e) (inl is) =
        let first = a.is in
        let second = b.is in
        let same : x ≡ y = first ∙ ap₂ (λ k z. k * 2 ^ 32 + z) e (ap (λ (z : Place). start_of z.name + (16 * z.unit + i)) (place e) ∙ ap (λ k. start_of b.place.name + (16 * b.place.unit + k)) is) ∙ sym second in
        ap (λ t. t && nat_eq i j) (eq-eqb n m e) ∙ eq-eqb i j is ∙ sym (eq-eqb x y same)

by_equality : (w : World) (store : Store) (p q : Pointer) (x y : ℕ) (go : Bool → ℤ) → SamePointer w p x → SamePointer w q y
    → Kept (Same w) (option_map (λ same. Integer (go same)) (equal_pointers store p q)) (Some (go (nat_eq x y)))
by_equality w store p q x y go a b = by (is_usable store p && is_usable store q)
  where
    by : (t : Bool) → Kept (Same w) (option_map (λ same. Integer (go same)) (if t then Some (same_pointer p q) else None)) (Some (go (nat_eq x y)))
    by false = tt
    by true = ap go (same_numbers w p q x y a b)

-- ---- operators

two_alike : (w : World) (op : MonOp) (m : Blocks) (p q : Pointer) (x y : ℕ) → SamePointer w p x → SamePointer w q y → Kept (Same w) (two_blocks op m.store p q) (two_pointers op x y)
two_alike w Sub m p q x y a b = by_distance w m.store p q x y (λ d. d) (pos (address_in x) -ℤ pos (address_in y)) a b refl
two_alike w Eq m p q x y a b = by_equality w m.store p q x y truth a b
two_alike w Ne m p q x y a b = by_equality w m.store p q x y (λ same. truth (not same)) a b
two_alike w Lt m p q x y a b = by_distance w m.store p q x y (λ d. truth (int_lt d (pos 0))) (truth (nat_lt (address_in x) (address_in y))) a b (ap truth (difference_lt (address_in x) (address_in y)))
two_alike w Le m p q x y a b = by_distance w m.store p q x y (λ d. truth (int_le d (pos 0))) (truth (nat_le (address_in x) (address_in y))) a b (ap truth (difference_le (address_in x) (address_in y)))
two_alike w Gt m p q x y a b = by_distance w m.store p q x y (λ d. truth (int_lt (pos 0) d)) (truth (nat_lt (address_in y) (address_in x))) a b (ap truth (difference_gt (address_in x) (address_in y)))
two_alike w Ge m p q x y a b = by_distance w m.store p q x y (λ d. truth (int_le (pos 0) d)) (truth (nat_le (address_in y) (address_in x))) a b (ap truth (difference_ge (address_in x) (address_in y)))
two_alike w op m p q x y a b = tt

from_numbers : (w : World) (op : MonOp) (m : Blocks) (p q : Pointer) (b y : ℤ) → Same w (Points p) b → Same w (Points q) y → Kept (Same w) (two_blocks op m.store p q) (two_pointers op (pointer_in b) (pointer_in y))
from_numbers w op m p q b y s r =
    subst (λ z. Kept (Same w) (two_blocks op m.store p q) (two_pointers op z (pointer_in y))) (sym (ap pointer_in s.1 ∙ pointer_is w p s.0 s.2))
    (subst (λ z. Kept (Same w) (two_blocks op m.store p q) (two_pointers op s.0 z)) (sym (ap pointer_in r.1 ∙ pointer_is w q r.0 r.2)) (two_alike w op m p q s.0 r.0 s.2 r.2))

-- two pointers of which the first isn't moved
pointers_alike : (w : World) (op : MonOp) (p q : Pointer) (b y : ℤ) (m : Blocks) (f : Flat) → Same w (Points p) b → Same w (Points q) y → Kept (Same w) (pointed_block op (Points p) (Points q) m) (pointed_flat op b y f)
pointers_alike w Sub p q b y m f s r = from_numbers w Sub m p q b y s r
pointers_alike w Eq p q b y m f s r = from_numbers w Eq m p q b y s r
pointers_alike w Ne p q b y m f s r = from_numbers w Ne m p q b y s r
pointers_alike w Lt p q b y m f s r = from_numbers w Lt m p q b y s r
pointers_alike w Le p q b y m f s r = from_numbers w Le m p q b y s r
pointers_alike w Gt p q b y m f s r = from_numbers w Gt m p q b y s r
pointers_alike w Ge p q b y m f s r = from_numbers w Ge m p q b y s r
pointers_alike w op p q b y m f s r = tt

sum_alike : (w : World) (p : Pointer) (d b y : ℤ) (m : Blocks) (f : Flat) → Same w (Points p) b → d ≡ y → Holds w m f → Kept (Same w) (pointed_block Add (Points p) (Integer d) m) (pointed_flat Add b y f)
sum_alike w p d b y m f s e h =
    subst (λ z. Kept (Same w) (option_map Points (moved m.store p d)) (Some (pos (farther z y)))) (sym (ap pointer_in s.1 ∙ pointer_is w p s.0 s.2))
    (subst (λ z. Kept (Same w) (option_map Points (moved m.store p d)) (Some (pos (farther s.0 z)))) e (sum_at w m f p s.0 d h s.2))

-- the field `pointed`
pub pointed_alike : (w : World) (op : MonOp) (a x : Value) (b y : ℤ) (m : Blocks) (f : Flat) → Same w a b → Same w x y → Holds w m f → Kept (Same w) (pointed_block op a x m) (pointed_flat op b y f)
pointed_alike w Add (Points p) (Integer d) b y m f s r h = sum_alike w p d b y m f s r h
pointed_alike w op (Points p) (Points q) b y m f s r h = pointers_alike w op p q b y m f s r
pointed_alike w op a x b y m f s r h = tt
