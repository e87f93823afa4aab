-- The least place on the heap is the same by its live blocks and by the records of its units.
use Rattle.std.proofs.Common.{◌≡◌, ℕ, zero, suc, ◌+◌, ◌-◌, ◌/◌, ◌<◌, ◌≤◌, ◌⊎◌, inl, inr, ⊎_elim, Bool, true, false, not, ◌&&◌, ◌||◌, nat_le, if◌then◌else◌}
use Rattle.std.proofs.Common.{List, [], ◌∷◌, length, Option, Some, None, get_or, slice_get, refl, sym, ap, ap₂, ◌∙◌, arith}
use Rattle.std.proofs.lemmas.Bool.{false≢true, cases_lt, leb-true, le-leb, and_parts, and_from}
use Rattle.std.proofs.lemmas.Option.{none-some, same_Some, slice_get_within}
use Rattle.c_syntax.specs.declared.types.BlockKind.{BlockKind}
use Rattle.c_syntax.specs.declared.types.BlockKind.TheVariants as kind
use Rattle.c_model.specs.Limits.{heap_bytes}
use Rattle.c_model.specs.Memory.{Block, Store, is_heap, is_apart, is_free, first_passing, units, heap_place}
use Rattle.shadow_segments.specs.declared.BlockNote.{BlockNote}
use Rattle.mon_syntax.specs.declared.spot.RegionName.TheVariants.{Heap}
use Rattle.mon_syntax.specs.Flat.{Flat, is_none, are_free}
use Rattle.mon_syntax.specs.Flat as flat
use Rattle.mon_syntax.specs.BlockMemory.{Blocks}
use Rattle.mon_syntax.specs.FlatRelation.{region_of, Place, World, head_of, heads, notes_in, Lain, Holds}
use Rattle.mon_syntax.proofs.FlatLists.{head_at, block_of_head, length-heads}

-- ---- the least number

pub least_same : (p q : ℕ → Bool) (k u : ℕ) → ((v : ℕ) → p v ≡ q v) → first_passing p k u ≡ first_passing q k u
least_same p q zero u same = refl
least_same p q (suc k) u same =
    ap (λ z. if z then Some u else first_passing p k (suc u)) (same u) ∙ ap (λ z. if q u then Some u else z) (least_same p q k (suc u) same)

pub least_passes : (p : ℕ → Bool) (k u v : ℕ) → first_passing p k u ≡ Some v → p v ≡ true
least_passes p zero u v e = absurd (none-some v e)
least_passes p (suc k) u v e = by (p u) refl e (λ f. least_passes p k (suc u) v f)
  where
    by : (t : Bool) → p u ≡ t → (if t then Some u else first_passing p k (suc u)) ≡ Some v → (first_passing p k (suc u) ≡ Some v → p v ≡ true) → p v ≡ true
    by true is f later = ap p (sym (same_Some u v f)) ∙ is
    by false is f later = later f

-- ---- kinds

pub kind_of_heap : (k : BlockKind) → region_of k ≡ Heap → is_heap k ≡ true
kind_of_heap kind.Global e = absurd cc
kind_of_heap kind.Literal e = absurd cc
kind_of_heap kind.Stack e = absurd cc
kind_of_heap kind.Heap e = refl

pub heap_of_kind : (k : BlockKind) → is_heap k ≡ true → region_of k ≡ Heap
heap_of_kind kind.Global e = absurd (false≢true e)
heap_of_kind kind.Literal e = absurd (false≢true e)
heap_of_kind kind.Stack e = absurd (false≢true e)
heap_of_kind kind.Heap e = refl

-- ---- free units, by the store

or_cases : (s t : Bool) → (s || t) ≡ true → (s ≡ true) ⊎ (t ≡ true)
or_cases true t e = inl refl
or_cases false t e = inr e

or_left : (s t : Bool) → s ≡ true → (s || t) ≡ true
or_left true t e = refl
or_left false t e = absurd (false≢true e)

or_right : (s t : Bool) → t ≡ true → (s || t) ≡ true
or_right true t e = refl
or_right false t e = e

pub apart_is : (b : Block) (u c : ℕ) → is_apart u c b ≡ true → (b.place + units b.size ≤ u) ⊎ (u + c ≤ b.place)
apart_is b u c e = ⊎_elim (λ t. inl (leb-true _ _ t)) (λ t. inr (leb-true _ _ t)) (or_cases _ _ e)

is_apart_where : (b : Block) (u c : ℕ) → (b.place + units b.size ≤ u) ⊎ (u + c ≤ b.place) → is_apart u c b ≡ true
is_apart_where b u c (inl le) = or_left _ _ (le-leb _ _ le)
is_apart_where b u c (inr le) = or_right (nat_le (b.place + units b.size) u) _ (le-leb _ _ le)

-- a live block of the heap
abbrev pub IsOnHeap : Block → Type 0
IsOnHeap b = (b.live && is_heap b.kind) ≡ true

pub apart_from : (s : Store) (u c i : ℕ) (b : Block) → is_free s u c ≡ true → slice_get s i ≡ Some b → IsOnHeap b → is_apart u c b ≡ true
apart_from [] u c i b e at on = absurd (none-some b at)
apart_from (x ∷ s) u c zero b e at on =
    let first : (not (b.live && is_heap b.kind) || is_apart u c b) ≡ true =
    ap (λ z. not (z.live && is_heap z.kind) || is_apart u c z) (sym (same_Some x b at)) ∙ (and_parts (not (x.live && is_heap x.kind) || is_apart u c x) (is_free s u c) e).0 in
    sym (ap (λ t. not t || is_apart u c b) on) ∙ first
apart_from (x ∷ s) u c (suc i) b e at on = apart_from s u c i b (and_parts (not (x.live && is_heap x.kind) || is_apart u c x) (is_free s u c) e).1 at on

free_from : (s : Store) (u c : ℕ) → ((i : ℕ) (b : Block) → slice_get s i ≡ Some b → IsOnHeap b → is_apart u c b ≡ true) → is_free s u c ≡ true
free_from [] u c all = refl
free_from (x ∷ s) u c all =
    and_from (not (x.live && is_heap x.kind) || is_apart u c x) (is_free s u c) (by (x.live && is_heap x.kind) refl) (free_from s u c (λ i b at. all (suc i) b at))
  where
    by : (t : Bool) → (x.live && is_heap x.kind) ≡ t → (not t || is_apart u c x) ≡ true
    by true e = all 0 x refl e
    by false e = refl

-- ---- free units, by their records

none_at : (ns : List (Option BlockNote)) (u c i : ℕ) → are_free ns u c ≡ true → i < c → is_none (get_or ns (u + i) None) ≡ true
none_at ns u zero i e lt = absurd (omega (arith, lt))
none_at ns u (suc c) zero e lt =
    let same : u + 0 ≡ u = omega arith in
    ap (λ y. is_none (get_or ns y None)) same ∙ (and_parts (is_none (get_or ns u None)) (are_free ns (suc u) c) e).0
none_at ns u (suc c) (suc i) e lt =
    let same : u + suc i ≡ suc u + i = omega arith in
    ap (λ y. is_none (get_or ns y None)) same ∙ none_at ns (suc u) c i (and_parts (is_none (get_or ns u None)) (are_free ns (suc u) c) e).1 (omega (arith, lt))

none_from : (ns : List (Option BlockNote)) (u c : ℕ) → ((v : ℕ) → u ≤ v → v < u + c → is_none (get_or ns v None) ≡ true) → are_free ns u c ≡ true
none_from ns u zero all = refl
none_from ns u (suc c) all =
    and_from (is_none (get_or ns u None)) (are_free ns (suc u) c) (all u (omega arith) (omega arith)) (none_from ns (suc u) c (λ v from below. all v (omega (arith, from)) (omega (arith, below))))

-- ---- both

one_truth : (s t : Bool) → (s ≡ true → t ≡ true) → (t ≡ true → s ≡ true) → s ≡ t
one_truth true t f g = sym (f refl)
one_truth false true f g = g refl
one_truth false false f g = refl

has_place : (w : World) (b : ℕ) → b < length w → (p : Place) × (slice_get w b ≡ Some p)
has_place [] b lt = absurd (omega (arith, lt))
has_place (x ∷ w) zero lt = (x, refl)
has_place (x ∷ w) (suc b) lt = has_place w b (omega (arith, lt))

module _ (w : World) (m : Blocks) (f : Flat) (h : Holds w m f) where
  -- a unit with a record is a unit of a live block
  none_here : (u c v : ℕ) → is_free m.store u c ≡ true → u ≤ v → v < u + c → (o : Option BlockNote) → get_or (notes_in f Heap) v None ≡ o → is_none o ≡ true
  none_here u c v e from below None at = refl
  none_here u c v e from below (Some n) at =
      let o = h.laid.only Heap v n at in
      let k = block_of_head m.store o.index o.head o.there in
      let lain : Lain o.place o.head f = h.laid.lain o.index o.head o.place o.there o.lies o.live in
      let heap : is_heap o.head.kind ≡ true = kind_of_heap o.head.kind (sym lain.name ∙ o.which) in
      let on : IsOnHeap k.0 = ap (λ z. z.live && is_heap z.kind) k.2 ∙ and_from o.head.live (is_heap o.head.kind) o.live heap in
      let part = apart_is k.0 u c (apart_from m.store u c o.index k.0 e k.1 on) in
      let placed = lain.placed heap in
      let size = lain.size in
      let place : k.0.place ≡ o.head.place = ap (λ z. z.place) k.2 in
      let long : k.0.size ≡ o.head.size = ap (λ z. z.size) k.2 in
      let first = o.from in
      let last = o.below in
      absurd (⊎_elim (λ d. omega (arith, d, from, last, placed, size, place, long)) (λ d. omega (arith, d, below, first, placed, place)) part)

  -- a live block has records
  apart_here : (u c i : ℕ) (b : Block) → 0 < c → are_free (notes_in f Heap) u c ≡ true → slice_get m.store i ≡ Some b → IsOnHeap b → is_apart u c b ≡ true
  apart_here u c i b some e at on =
      is_apart_where b u c (⊎_elim (λ lt. ⊎_elim (λ less. absurd (meet lt less)) (λ le. inl le) (cases_lt u (b.place + units b.size))) (λ le. inr le) (cases_lt b.place (u + c)))
    where
      both : (b.live ≡ true) × (is_heap b.kind ≡ true)
      both = and_parts b.live (is_heap b.kind) on

      head_there : slice_get (heads m.store) i ≡ Some (head_of b)
      head_there = head_at m.store i b at

      place : (p : Place) × (slice_get w i ≡ Some p)
      place = has_place w i (let lt = slice_get_within m.store i b at in let count = h.laid.count in let long = length-heads m.store in omega (arith, lt, count, long))

      lain : Lain place.0 (head_of b) f
      lain = h.laid.lain i (head_of b) place.0 head_there place.1 both.0

      -- a unit of both
      in_both : (v j k : ℕ) → v ≡ place.0.unit + j → j < units place.0.size → v ≡ u + k → k < c → ⊥
      in_both v j k is lt theirs less =
          let note = h.laid.noted i (head_of b) place.0 head_there place.1 both.0 j lt in
          let name : Heap ≡ place.0.name = sym (lain.name ∙ heap_of_kind b.kind both.1) in
          let there = ap₂ (λ y z. get_or (notes_in f y) z None) name is ∙ note in
          let none = ap (λ z. is_none (get_or (notes_in f Heap) z None)) theirs ∙ none_at (notes_in f Heap) u c k e less in
          false≢true (sym (ap is_none there) ∙ none)

      meet : b.place < u + c → u < b.place + units b.size → ⊥
      meet lt less =
          let unit = lain.placed both.1 in
          let size = lain.size in
          ⊎_elim (λ before. in_both b.place 0 (b.place - u) (omega (arith, unit)) (omega arith) (omega (arith, before)) (omega (arith, before, lt)))
          (λ from. in_both u (u - b.place) 0 (omega (arith, unit, from)) (omega (arith, from, less, size)) (omega arith) some) (cases_lt u b.place)

  pub free_same : (u c : ℕ) → 0 < c → is_free m.store u c ≡ are_free (notes_in f Heap) u c
  free_same u c some =
      one_truth (is_free m.store u c) (are_free (notes_in f Heap) u c) (λ e. none_from (notes_in f Heap) u c (λ v from below. none_here u c v e from below (get_or (notes_in f Heap) v None) refl))
      (λ e. free_from m.store u c (λ i b at on. apart_here u c i b some e at on))

-- ---- places

pub place_is : (long : ℕ) (s : Store) (c : ℕ) → heap_place long s c ≡ first_passing (λ u. nat_le (u + c) long && is_free s u c) (suc long) 0
unfolding heap_place
place_is long s c = refl

pub place_same : (w : World) (m : Blocks) (f : Flat) (c : ℕ) → Holds w m f → 0 < c → heap_place (heap_bytes / 16) m.store c ≡ flat.heap_place (notes_in f Heap) c
place_same w m f c h some =
    let long = length (notes_in f Heap) in
    ap (λ z. heap_place z m.store c) (sym h.heap) ∙ place_is long m.store c
    ∙ least_same (λ u. nat_le (u + c) long && is_free m.store u c) (λ u. nat_le (u + c) long && are_free (notes_in f Heap) u c) (suc long) 0 (λ u. ap (λ z. nat_le (u + c) long && z) (free_same w m f h u c some))

-- a place that is found is free, and ends within the heap
pub record IsRoom (s : Store) (long u c : ℕ) : Type 0 where
  pub inside : u + c ≤ long
  pub free : is_free s u c ≡ true

pub place_found : (s : Store) (long c u : ℕ) → heap_place long s c ≡ Some u → IsRoom s long u c
place_found s long c u e =
    let both = and_parts (nat_le (u + c) long) (is_free s u c) (least_passes (λ v. nat_le (v + c) long && is_free s v c) (suc long) 0 u (sym (place_is long s c) ∙ e)) in
    record { inside = leb-true _ _ both.0; free = both.1 }
