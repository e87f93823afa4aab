-- The heap's placer has the blocks whose records stand in the heap's units.
use Rattle.std.proofs.Common.{◌≡◌, ◌≢◌, ℕ, zero, suc, ◌+◌, ◌*◌, ◌/◌, ◌%◌, ◌<◌, ◌≤◌, ◌⊎◌, inl, inr, ⊎_elim, List, [], length, get_or, replicate, Option, Some, None, Bool, true, false, ◌&&◌, refl, sym, ap, ◌∙◌, subst, arith, leb-true, le-leb}
use Rattle.std.specs.Prelude.{nat_le, if◌then◌else◌, Contains}
use Rattle.std.proofs.lemmas.Bool.{cases_lt, cases_eq}
use Rattle.std.proofs.lemmas.List.{get_or_past, length-replicate, get_or-replicate}
use Rattle.std.proofs.lemmas.List.Elements.{All-contains, All-contains_itself}
use Rattle.std.proofs.lemmas.Option.{none-some, same_Some}
use Rattle.seg_heap.specs.Placement.{Live, Heap, AreApart, IsLeastPlace, end_of, rounded_size, with_block, without_block}
use Rattle.seg_heap.specs.Placement.{IsFree as FitsAt}
use Rattle.seg_heap.proofs.Members.{with_block_has, with_block_keeps, with_block_only, without_block_keeps, without_block_only}
use Rattle.shadow_segments.specs.declared.BlockNote.{BlockNote}
use Rattle.shadow_segments.specs.Shadow.{IsWhole, IsFree, first_unit, end_unit, units, filled}
use Rattle.shadow_segments.proofs.Kept.{whole_marked, whole_cleared}
use Rattle.shadow_segments.proofs.Lists.{length-filled, filled_inside, filled_outside}
use Rattle.c_model.specs.Memory.{first_passing}
use Rattle.mon_syntax.specs.Flat.{is_none, are_free, heap_place}
use Rattle.flat_mem.specs.Placed.{IsNoted, IsPlaced}

-- ---- free places

-- a place that is clear of the placer's blocks has no records
pub clear_notes : (h : Heap) (ns : List (Option BlockNote)) (size place : ℕ) → IsPlaced h ns → FitsAt h size place → (v : ℕ) → place / 16 ≤ v → v < place / 16 + units size → get_or ns v None ≡ None
clear_notes h ns size place p free v lo hi = go (get_or ns v None) refl
  where
    go : (o : Option BlockNote) → get_or ns v None ≡ o → o ≡ None
    go None e = refl
    go (Some n) e =
        let w = p.whole v n e in
        let clear = All-contains (λ block. (place + rounded_size size ≤ block.place) ⊎ (end_of block ≤ place)) h.live (record { place = n.base; length = n.length }) free.clear (p.only v n e) in
        absurd (⊎_elim (λ before. omega (arith, before, free.aligned, w.aligned, w.from, w.below, lo, hi)) (λ after. omega (arith, after, free.aligned, w.aligned, w.from, w.below, lo, hi)) clear)

-- and a place without records is clear of them
pub notes_clear : (h : Heap) (ns : List (Option BlockNote)) (size u : ℕ) → IsPlaced h ns → u + units size ≤ length ns → ((v : ℕ) → u ≤ v → v < u + units size → get_or ns v None ≡ None) → FitsAt h size (16 * u)
notes_clear h ns size u p room none = record {
  aligned = omega arith;
  clear = λ k d lt. clear_of (get_or h.live k d) (All-contains_itself h.live k d lt);
  within = omega (arith, room, p.size);
}
  where
    clear_of : (b : Live) → Contains h.live b → (16 * u + rounded_size size ≤ b.place) ⊎ (end_of b ≤ 16 * u)
    clear_of b c = go (cases_lt b.place (16 * u + rounded_size size)) (cases_lt (16 * u) (end_of b)) (cases_lt (b.place / 16) u)
      where
        aligned : b.place % 16 ≡ 0
        aligned = All-contains (λ block. block.place % 16 ≡ 0) h.live b p.apart.aligned c

        both : (v : ℕ) → b.place / 16 ≤ v → v < b.place / 16 + units b.length → u ≤ v → v < u + units size → ⊥
        both v lo hi from to = let noted = p.listed b c v lo hi in none-some noted.note (sym (none v from to) ∙ noted.there)

        go : (b.place < 16 * u + rounded_size size) ⊎ (16 * u + rounded_size size ≤ b.place) → (16 * u < end_of b) ⊎ (end_of b ≤ 16 * u) → (b.place / 16 < u) ⊎ (u ≤ b.place / 16) → (16 * u + rounded_size size ≤ b.place) ⊎ (end_of b ≤ 16 * u)
        go (inr before) y z = inl before
        go (inl x) (inr after) z = inr after
        go (inl x) (inl y) (inl lower) = absurd (both u (omega (arith, lower)) (omega (arith, y, aligned)) (omega arith) (omega arith))
        go (inl x) (inl y) (inr upper) = absurd (both (b.place / 16) (omega arith) (omega arith) upper (omega (arith, x, aligned)))

-- ---- the least place

and_true : (a b : Bool) → (a && b) ≡ true → (a ≡ true) × (b ≡ true)
and_true true b e = (refl, e)
and_true false b e = absurd (cc e)

both_true : (a b : Bool) → a ≡ true → b ≡ true → (a && b) ≡ true
both_true true b e f = f
both_true false b e f = e

is_false : (b : Bool) → (b ≡ true → ⊥) → b ≡ false
is_false true h = absurd (h refl)
is_false false h = refl

none_is : (o : Option BlockNote) → is_none o ≡ true → o ≡ None
none_is None e = refl
none_is (Some n) e = absurd (cc e)

pub free_each : (ns : List (Option BlockNote)) (u c : ℕ) → are_free ns u c ≡ true → (v : ℕ) → u ≤ v → v < u + c → get_or ns v None ≡ None
free_each ns u zero e v lo hi = absurd (omega (arith, lo, hi))
free_each ns u (suc c) e v lo hi =
    let parts = and_true (is_none (get_or ns u None)) (are_free ns (suc u) c) e in
    go parts (cases_eq v u) (λ after. free_each ns (suc u) c parts.1 v after (omega (arith, hi)))
  where
    go : (is_none (get_or ns u None) ≡ true) × (are_free ns (suc u) c ≡ true) → (v ≡ u) ⊎ (v ≢ u) → (suc u ≤ v → get_or ns v None ≡ None) → get_or ns v None ≡ None
    go parts (inl same) rest = ap (λ i. get_or ns i None) same ∙ none_is (get_or ns u None) parts.0
    go parts (inr other) rest = rest (grind (arith, other, lo))

pub each_free : (ns : List (Option BlockNote)) (u c : ℕ) → ((v : ℕ) → u ≤ v → v < u + c → get_or ns v None ≡ None) → are_free ns u c ≡ true
each_free ns u zero each = refl
each_free ns u (suc c) each =
    both_true (is_none (get_or ns u None)) (are_free ns (suc u) c) (ap is_none (each u (omega arith) (omega arith))) (each_free ns (suc u) c (λ v lo hi. each v (omega (arith, lo)) (omega (arith, hi))))

least_is : (passes : ℕ → Bool) (k u v : ℕ) → u ≤ v → v < u + k → passes v ≡ true → ((i : ℕ) → i < v → passes i ≡ false) → first_passing passes k u ≡ Some v
least_is passes zero u v le lt holds never = absurd (omega (arith, le, lt))
least_is passes (suc k) u v le lt holds never = go (cases_eq u v) (λ after. least_is passes k (suc u) v after (omega (arith, lt)) holds never)
  where
    go : (u ≡ v) ⊎ (u ≢ v) → (suc u ≤ v → first_passing passes k (suc u) ≡ Some v) → first_passing passes (suc k) u ≡ Some v
    go (inl e) rest = ap (λ z. if z then Some u else first_passing passes k (suc u)) (ap passes e ∙ holds) ∙ ap Some e
    go (inr ne) rest =
        let before : u < v = grind (arith, ne, le) in
        ap (λ z. if z then Some u else first_passing passes k (suc u)) (never u before) ∙ rest before

least_none : (passes : ℕ → Bool) (k u : ℕ) → ((i : ℕ) → passes i ≡ false) → first_passing passes k u ≡ None
least_none passes zero u never = refl
least_none passes (suc k) u never = ap (λ z. if z then Some u else first_passing passes k (suc u)) (never u) ∙ least_none passes k (suc u) never

module _ (h : Heap) (ns : List (Option BlockNote)) (p : IsPlaced h ns) (size : ℕ) where
  abbrev passes : ℕ → Bool
  passes u = nat_le (u + units size) (length ns) && are_free ns u (units size)

  passes_then : (u : ℕ) → passes u ≡ true → FitsAt h size (16 * u)
  passes_then u e =
      let parts = and_true (nat_le (u + units size) (length ns)) (are_free ns u (units size)) e in
      notes_clear h ns size u p (leb-true _ _ parts.0) (free_each ns u (units size) parts.1)

  -- what the placer gives is the least place by the records
  pub place_found : (place : ℕ) → IsLeastPlace h size place → heap_place ns (units size) ≡ Some (place / 16)
  place_found place first =
      let free = first.free in
      let e : place ≡ 16 * (place / 16) = omega (arith, free.aligned) in
      let room : place / 16 + units size ≤ length ns = omega (arith, free.within, p.size, e) in
      least_is passes (suc (length ns)) 0 (place / 16) (omega arith) (omega (arith, room))
      (both_true (nat_le (place / 16 + units size) (length ns)) (are_free ns (place / 16) (units size)) (le-leb _ _ room) (each_free ns (place / 16) (units size) (clear_notes h ns size place p free)))
      (λ i lt. is_false (passes i) (λ t. let le = first.least (16 * i) (passes_then i t) in omega (arith, le, lt, e)))

  -- and it gives none where there is none
  pub place_full : ((place : ℕ) → FitsAt h size place → ⊥) → heap_place ns (units size) ≡ None
  place_full never = least_none passes (suc (length ns)) 0 (λ i. is_false (passes i) (λ t. never (16 * i) (passes_then i t)))

-- a block that is longer than the heap has no place
pub place_past : (ns : List (Option BlockNote)) (c : ℕ) → length ns < c → heap_place ns c ≡ None
place_past ns c long =
    least_none (λ u. nat_le (u + c) (length ns) && are_free ns u c) (suc (length ns)) 0
    (λ i. is_false (nat_le (i + c) (length ns) && are_free ns i c) (λ t. let le = leb-true _ _ (and_true (nat_le (i + c) (length ns)) (are_free ns i c) t).0 in omega (arith, le, long)))

-- ---- births and deaths

pub free_note : (h : Heap) (ns : List (Option BlockNote)) (n : BlockNote) → IsPlaced h ns → FitsAt h n.length n.base → 0 < n.number → IsFree ns n
free_note h ns n p free some = record {
  aligned = free.aligned;
  number = some;
  inside = omega (arith, free.within, free.aligned, p.size);
  free = clear_notes h ns n.length n.base p free;
}

pub placed_born : (h q : Heap) (ns : List (Option BlockNote)) (n : BlockNote) → IsPlaced h ns → IsFree ns n → q ≡ with_block h n.base n.length → AreApart q → IsPlaced q (filled ns (first_unit n) (units n.length) (Some n))
placed_born h q ns n p free is apart = record {
  size = length-filled ns (first_unit n) (units n.length) (Some n) ∙ p.size ∙ sym (ap (λ z. z.units) is);
  apart = apart;
  whole = whole_marked ns n p.whole free;
  listed = λ b c v lo hi. listed b (with_block_only h n.base n.length b (subst (λ z. Contains z.live b) is c)) v lo hi;
  only = λ u m at. subst (λ z. Contains z.live (record { place = m.base; length = m.length })) (sym is) (only u m at (cases_lt u (first_unit n)) (cases_lt u (end_unit n)));
}
  where
    new : List (Option BlockNote)
    new = filled ns (first_unit n) (units n.length) (Some n)

    listed : (b : Live) → (b ≡ record { place = n.base; length = n.length }) ⊎ Contains h.live b → (v : ℕ) → b.place / 16 ≤ v → v < b.place / 16 + units b.length → IsNoted new v b
    listed b (inl same) v lo hi =
        let from : first_unit n ≤ v = subst (λ z. z.place / 16 ≤ v) same lo in
        let to : v < end_unit n = subst (λ z. v < z.place / 16 + units z.length) same hi in
        record { note = n; there = filled_inside ns (first_unit n) (units n.length) (Some n) v None free.inside from to; base = sym (ap (λ z. z.place) same) }
    listed b (inr old) v lo hi =
        let noted = p.listed b old v lo hi in
        record { note = noted.note; there = stays noted.note noted.there (cases_lt v (first_unit n)) (cases_lt v (end_unit n)); base = noted.base }
      where
        stays : (m : BlockNote) → get_or ns v None ≡ Some m → (v < first_unit n) ⊎ (first_unit n ≤ v) → (v < end_unit n) ⊎ (end_unit n ≤ v) → get_or new v None ≡ Some m
        stays m e (inl below) y = filled_outside ns (first_unit n) (units n.length) (Some n) v None (inl below) ∙ e
        stays m e (inr x) (inr above) = filled_outside ns (first_unit n) (units n.length) (Some n) v None (inr above) ∙ e
        stays m e (inr x) (inl y) = absurd (none-some m (sym (free.free v x y) ∙ e))

    old : (u : ℕ) (m : BlockNote) → get_or ns u None ≡ Some m → Contains (with_block h n.base n.length).live (record { place = m.base; length = m.length })
    old u m e = with_block_keeps h n.base n.length (record { place = m.base; length = m.length }) (p.only u m e) apart_of
      where
        apart_of : m.base ≢ n.base
        apart_of same =
            let w = p.whole u m e in
            none-some m (sym (free.free (first_unit n) (omega arith) (omega arith)) ∙ w.all (first_unit n) (omega (arith, same)) (omega (arith, same)))

    only : (u : ℕ) (m : BlockNote) → get_or new u None ≡ Some m → (u < first_unit n) ⊎ (first_unit n ≤ u) → (u < end_unit n) ⊎ (end_unit n ≤ u) → Contains (with_block h n.base n.length).live (record { place = m.base; length = m.length })
    only u m at (inr x) (inl y) =
        let same : n ≡ m = same_Some n m (sym (filled_inside ns (first_unit n) (units n.length) (Some n) u None free.inside x y) ∙ at) in
        subst (λ z. Contains (with_block h n.base n.length).live (record { place = z.base; length = z.length })) same (with_block_has h n.base n.length)
    only u m at (inl below) y = old u m (sym (filled_outside ns (first_unit n) (units n.length) (Some n) u None (inl below)) ∙ at)
    only u m at (inr x) (inr above) = old u m (sym (filled_outside ns (first_unit n) (units n.length) (Some n) u None (inr above)) ∙ at)

pub placed_died : (h q : Heap) (ns : List (Option BlockNote)) (n : BlockNote) (at : ℕ) → IsPlaced h ns → get_or ns at None ≡ Some n → q ≡ without_block h n.base → AreApart q → IsPlaced q (filled ns (first_unit n) (units n.length) None)
placed_died h q ns n at p there is apart = record {
  size = length-filled ns (first_unit n) (units n.length) None ∙ p.size ∙ sym (ap (λ z. z.units) is);
  apart = apart;
  whole = whole_cleared ns n at p.whole there;
  listed = λ b c v lo hi. listed b (without_block_only h n.base b (subst (λ z. Contains z.live b) is c)) v lo hi;
  only = λ u m e. subst (λ z. Contains z.live (record { place = m.base; length = m.length })) (sym is) (only u m e (cases_lt u (first_unit n)) (cases_lt u (end_unit n)));
}
  where
    new : List (Option BlockNote)
    new = filled ns (first_unit n) (units n.length) None

    mine : IsWhole ns at n
    mine = p.whole at n there

    listed : (b : Live) → Contains h.live b × (b.place ≢ n.base) → (v : ℕ) → b.place / 16 ≤ v → v < b.place / 16 + units b.length → IsNoted new v b
    listed b kept v lo hi =
        let noted = p.listed b kept.0 v lo hi in
        record { note = noted.note; there = stays noted.note noted.base noted.there (cases_lt v (first_unit n)) (cases_lt v (end_unit n)); base = noted.base }
      where
        stays : (m : BlockNote) → m.base ≡ b.place → get_or ns v None ≡ Some m → (v < first_unit n) ⊎ (first_unit n ≤ v) → (v < end_unit n) ⊎ (end_unit n ≤ v) → get_or new v None ≡ Some m
        stays m base e (inl below) y = filled_outside ns (first_unit n) (units n.length) None v None (inl below) ∙ e
        stays m base e (inr x) (inr above) = filled_outside ns (first_unit n) (units n.length) None v None (inr above) ∙ e
        stays m base e (inr x) (inl y) =
            let same : n ≡ m = same_Some n m (sym (mine.all v x y) ∙ e) in
            absurd (kept.1 (sym base ∙ ap (λ z. z.base) (sym same)))

    old : (u : ℕ) (m : BlockNote) → get_or ns u None ≡ Some m → (u < first_unit n) ⊎ (end_unit n ≤ u) → Contains (without_block h n.base).live (record { place = m.base; length = m.length })
    old u m e out = without_block_keeps h n.base (record { place = m.base; length = m.length }) (p.only u m e) apart_of
      where
        apart_of : m.base ≢ n.base
        apart_of same =
            let w = p.whole u m e in
            let one : n ≡ m = same_Some n m (sym (mine.all (first_unit n) (omega arith) (omega arith)) ∙ w.all (first_unit n) (omega (arith, same)) (omega (arith, same))) in
            let from : first_unit n ≤ u = subst (λ z. first_unit z ≤ u) (sym one) w.from in
            let to : u < end_unit n = subst (λ z. u < end_unit z) (sym one) w.below in
            ⊎_elim (λ b. omega (arith, b, from)) (λ a. omega (arith, a, to)) out

    only : (u : ℕ) (m : BlockNote) → get_or new u None ≡ Some m → (u < first_unit n) ⊎ (first_unit n ≤ u) → (u < end_unit n) ⊎ (end_unit n ≤ u) → Contains (without_block h n.base).live (record { place = m.base; length = m.length })
    only u m e (inr x) (inl y) = absurd (none-some m (sym (filled_inside ns (first_unit n) (units n.length) None u None mine.inside x y) ∙ e))
    only u m e (inl below) y = old u m (sym (filled_outside ns (first_unit n) (units n.length) None u None (inl below)) ∙ e) (inl below)
    only u m e (inr x) (inr above) = old u m (sym (filled_outside ns (first_unit n) (units n.length) None u None (inr above)) ∙ e) (inr above)

-- nothing is placed in an empty heap
pub placed_none : (h : Heap) (ns : List (Option BlockNote)) (len : ℕ) → len % 16 ≡ 0 → h.units ≡ len / 16 → h.live ≡ [] → ns ≡ replicate (len / 16) None → IsPlaced h ns
placed_none h ns len even units_are none is = record {
  size = ap length is ∙ length-replicate {A = Option BlockNote} (len / 16) None ∙ sym units_are;
  apart = record {
    apart = λ i j d lt room. absurd (omega (arith, room, empty));
    aligned = λ i d room. absurd (omega (arith, room, empty));
    within = λ i d room. absurd (omega (arith, room, empty));
  };
  whole = λ u n at. absurd (none-some n (sym (no_note u) ∙ at));
  listed = λ b c. absurd (nothing b (subst (λ l. Contains l b) none c));
  only = λ u n at. absurd (none-some n (sym (no_note u) ∙ at));
}
  where
    empty : length h.live ≡ 0
    empty = ap length none

    nothing : (b : Live) → Contains [] b → ⊥
    nothing b c = omega (arith, c.1)

    no_note : (u : ℕ) → get_or ns u None ≡ None
    no_note u = ap (λ l. get_or l u None) is ∙ go (cases_lt u (len / 16))
      where
        go : (u < len / 16) ⊎ (len / 16 ≤ u) → get_or (replicate {A = Option BlockNote} (len / 16) None) u None ≡ None
        go (inl b) = get_or-replicate {A = Option BlockNote} (len / 16) u None None b
        go (inr a) = get_or_past {X = Option BlockNote} (replicate (len / 16) None) u None (omega (arith, a, length-replicate {A = Option BlockNote} (len / 16) None))
