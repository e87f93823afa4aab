-- The memories in which a run begins: nothing, and then globals and literals, one after another.
use Rattle.std.proofs.Common.{◌≡◌, ℕ, zero, suc, ◌+◌, ◌*◌, ◌/◌, ◌<◌, ◌≤◌, ◌⊎◌, inl, inr, pos, true, false, List, [], ◌∷◌, ◌++◌, length, map, replicate, Option, Some, None, get_or, slice_get, refl, sym, ap, ◌∙◌, subst, arith}
use Rattle.std.proofs.Common.{length-append}
use Rattle.std.specs.List.{AllByRecursion}
use Rattle.std.proofs.lemmas.Bool.{false≢true}
use Rattle.std.proofs.lemmas.List.{append-nil, append_assoc, length-replicate}
use Rattle.std.proofs.lemmas.Option.{none-some}
use Rattle.c_syntax.specs.declared.types.BlockKind.{BlockKind}
use Rattle.c_model.specs.Limits.{globals_bytes}
use Rattle.c_model.specs.Memory.{Into, Points, is_stack, is_heap, rounded}
use Rattle.shadow_segments.specs.declared.BlockNote.{BlockNote}
use Rattle.shadow_segments.specs.Shadow.{Unwritten}
use Rattle.shadow_segments.specs.Shadow.{units as units_of}
use Rattle.mon_syntax.specs.declared.spot.RegionName.{RegionName}
use Rattle.mon_syntax.specs.declared.spot.RegionName.TheVariants.{Globals, Stack, Heap}
use Rattle.mon_syntax.specs.Trees.{PlainContent, Zeros, Literal, MonitoredGlobal}
use Rattle.mon_syntax.specs.Globals.{kind_of_content, size_of_content, first_bytes, globals_taken}
use Rattle.mon_syntax.specs.Valid.{IsContent, AreGlobals}
use Rattle.mon_syntax.specs.Regions.{empty_region}
use Rattle.mon_syntax.specs.Flat.{Flat, flat_empty, flat_begin, pointer_to}
use Rattle.mon_syntax.specs.BlockMemory.{Blocks, number_bytes, content_block, block_of_global, blocks_start, over_blocks}
use Rattle.mon_syntax.specs.BlockMemory as block
use Rattle.mon_syntax.specs.FlatMemory.{begun, begun_with, flat_nothing, flat_start, over_flat}
use Rattle.mon_syntax.specs.FlatMemory as flat
use Rattle.mon_syntax.specs.Following.{AllKept}
use Rattle.mon_syntax.specs.FlatLaws.{StartsAlike}
use Rattle.mon_syntax.specs.FlatRelation.{region_of, most_bytes, Place, World, Later, PointsTo, Same, Head, head_of, heads, Owner, notes_in, marks_in, bytes_in, Holds}
use Rattle.mon_syntax.proofs.FlatLists.{get_last, heads_append, length-heads}
use Rattle.mon_syntax.proofs.FlatWorlds.{later_refl, later_trans, same_later}
use Rattle.mon_syntax.proofs.FlatTogether.{none_together, numbers_have_none}
use Rattle.mon_syntax.proofs.FlatBirths.{MayBeBorn, IsBorn, place_for, head_for, long_stays, old_place, new_place, new_pointer, born}
use Rattle.mon_syntax.proofs.FlatGlobals.{length-number_bytes, begun_born, begun_held}

no_note : (k u : ℕ) (t : BlockNote) → get_or (replicate k None) u None ≡ Some t → ⊥
no_note zero u t e = none-some t e
no_note (suc k) zero t e = none-some t e
no_note (suc k) (suc u) t e = no_note k u t e

abbrev nothing : Blocks
nothing = record { store = []; frames = 0 }

-- whole units, so many
record AreUnits (size units : ℕ) (name : RegionName) : Type 0 where
  whole : size ≡ 16 * units
  small : size ≤ most_bytes name

module _ (g s h most : ℕ) (gu su hu : ℕ) (ag : AreUnits g gu Globals) (as' : AreUnits s su Stack) (ah : AreUnits h hu Heap) where
  abbrev empty : Flat
  empty = flat_empty g s h most

  units_in : (size u : ℕ) (name : RegionName) → AreUnits size u name → length (empty_region size).shadow.notes ≡ u
  units_in size u name a = length-replicate (size / 16) None ∙ omega (arith, a.whole)

  long : (size u : ℕ) (name : RegionName) → AreUnits size u name → size ≡ 16 * length (empty_region size).shadow.notes
  long size u name a = a.whole ∙ ap (λ z. 16 * z) (sym (units_in size u name a))

  sized : (name : RegionName) → length (bytes_in empty name) ≡ 16 * length (notes_in empty name)
  sized Globals = length-replicate g 0 ∙ long g gu Globals ag
  sized Stack = length-replicate s 0 ∙ long s su Stack as'
  sized Heap = length-replicate h 0 ∙ long h hu Heap ah

  marked : (name : RegionName) → length (marks_in empty name) ≡ 16 * length (notes_in empty name)
  marked Globals = length-replicate g Unwritten ∙ long g gu Globals ag
  marked Stack = length-replicate s Unwritten ∙ long s su Stack as'
  marked Heap = length-replicate h Unwritten ∙ long h hu Heap ah

  small : (name : RegionName) → 16 * length (notes_in empty name) ≤ most_bytes name
  small Globals = subst (λ z. z ≤ most_bytes Globals) (long g gu Globals ag) ag.small
  small Stack = subst (λ z. z ≤ most_bytes Stack) (long s su Stack as') as'.small
  small Heap = subst (λ z. z ≤ most_bytes Heap) (long h hu Heap ah) ah.small

  only : (name : RegionName) (u : ℕ) (n : BlockNote) → get_or (notes_in empty name) u None ≡ Some n → Owner [] [] name u n
  only Globals u n e = absurd (no_note (g / 16) u n e)
  only Stack u n e = absurd (no_note (s / 16) u n e)
  only Heap u n e = absurd (no_note (h / 16) u n e)

  empty_holds : most ≡ 65536 → gu ≡ 65536 → su ≡ 65536 → hu ≡ 1048576 → Holds [] nothing empty
  empty_holds em eg es eh = record {
    frames = refl;
    most = em;
    globals = units_in g gu Globals ag ∙ eg;
    stack = units_in s su Stack as' ∙ es;
    heap = units_in h hu Heap ah ∙ eh;
    laid = record {
      count = refl;
      births = refl;
      numbers = omega arith;
      top = refl;
      sized = sized;
      marked = marked;
      small = small;
      lain = λ b i p at pl live. absurd (none-some i at);
      tight = λ b i p at pl live. absurd (none-some i at);
      noted = λ b i p at pl live j lj. absurd (none-some i at);
      only = only;
      apart = λ a b i j p q ne x y il jl xp yq. absurd (none-some i x);
    };
    held = λ b k p at pl live. absurd (none-some k at);
    together = λ b k at. absurd (none-some k at);
  }

nothing_holds : Holds [] nothing flat_nothing
nothing_holds =
    empty_holds 1048576 1048576 16777216 65536 65536 65536 1048576 (record { whole = refl; small = omega arith }) (record { whole = refl; small = omega arith }) (record { whole = refl; small = omega arith })
    refl refl refl refl

-- ---- one more global

-- so many units are placed, and all live blocks of the region lie in them
record HasPlaced (w : World) (m : Blocks) (f : Flat) (u : ℕ) : Type 0 where
  holds : Holds w m f
  placed : f.placed ≡ 16 * u
  few : length m.store ≤ u
  units : length (notes_in f Globals) ≡ 65536
  under : (b : ℕ) (h : Head) (p : Place) → slice_get (heads m.store) b ≡ Some h → slice_get w b ≡ Some p → h.live ≡ true → p.name ≡ Globals → p.unit + units_of p.size ≤ u

module _ (w : World) (m : Blocks) (f : Flat) (u : ℕ) (h : HasPlaced w m f u) (c : PlainContent) (is : IsContent c) (room : f.placed + rounded (size_of_content c) ≤ 1048576) where
  abbrev k : BlockKind
  k = kind_of_content c

  abbrev n : ℕ
  n = size_of_content c

  abbrev place : Place
  place = place_for k u n

  abbrev grown : World
  grown = w ++ place ∷ []

  abbrev next : Flat
  next = flat_begin f k n (first_bytes c)

  abbrev more : Blocks
  more = record m { store = m.store ++ content_block c ∷ [] }

  global_region : (d : PlainContent) → region_of (kind_of_content d) ≡ Globals
  global_region (Zeros i) = refl
  global_region (Literal bs) = refl

  not_on_stack : (d : PlainContent) → is_stack (kind_of_content d) ≡ false
  not_on_stack (Zeros i) = refl
  not_on_stack (Literal bs) = refl

  not_on_heap : (d : PlainContent) → is_heap (kind_of_content d) ≡ false
  not_on_heap (Zeros i) = refl
  not_on_heap (Literal bs) = refl

  first_fits : (d : PlainContent) → length (first_bytes d) ≤ size_of_content d
  first_fits (Zeros i) = omega arith
  first_fits (Literal bs) = omega arith

  first_small : (d : PlainContent) → IsContent d → AllByRecursion (λ b. b < 256) (first_bytes d)
  first_small (Zeros i) all = tt
  first_small (Literal bs) all = all

  room_there : u + units_of n ≤ 65536
  room_there = let placed = h.placed in omega (arith, placed, room)

  in_bytes : 16 * u + 16 * units_of n ≤ length (bytes_in f Globals)
  in_bytes = let sized = h.holds.laid.sized Globals in let long = h.units in let there = room_there in omega (arith, sized, long, there)

  in_marks : 16 * u + 16 * units_of n ≤ length (marks_in f Globals)
  in_marks = let marked = h.holds.laid.marked Globals in let long = h.units in let there = room_there in omega (arith, marked, long, there)

  may : MayBeBorn w (heads m.store) f k u n 0
  may = record {
    number = let few = h.few in let long = length-heads m.store in let there = room_there in omega (arith, few, long, there);
    room = subst (λ z. u + units_of n ≤ length (notes_in f z)) (sym (global_region c)) (let long = h.units in let there = room_there in omega (arith, long, there));
    alone = λ b i p at pl live name. inl (h.under b i p at pl live (name ∙ global_region c));
    on_top = λ on. absurd (false≢true (sym (not_on_stack c) ∙ on));
    placed = λ on. absurd (false≢true (sym (not_on_heap c) ∙ on));
  }

  content_born : IsBorn f next k u n
  content_born = begun_born f k u n (first_bytes c) (global_region c) h.placed (first_fits c) in_bytes in_marks

  content_head : head_of (content_block c) ≡ head_for k n 0
  content_head = ap (λ z. record { kind = k; size = z; live = true; place = 0 }) (length-number_bytes (first_bytes c) n (first_fits c))

  content_pointer : (number at : ℕ) → number ≡ length m.store + 1 → at ≡ f.placed → Same grown (Points (Into number 0)) (pos (pointer_to (f.births + 1) Globals at))
  content_pointer number at e a = (
    pointer_to (f.births + 1) Globals at,
    refl,
    subst (λ z. PointsTo grown number 0 (pointer_to (f.births + 1) z at)) (global_region c)
        (new_pointer w (heads m.store) f next k u n 0 h.holds.laid may content_born number at (let long = length-heads m.store in omega (arith, long, e)) (a ∙ h.placed)),
  )

  under_after : (b : ℕ) (i : Head) (p : Place) → (slice_get (heads m.store) b ≡ Some i) ⊎ ((b ≡ length (heads m.store)) × (i ≡ head_of (content_block c))) → slice_get grown b ≡ Some p
      → i.live ≡ true → p.name ≡ Globals → p.unit + units_of p.size ≤ u + units_of n
  under_after b i p (inl at) pl live name =
      let le = h.under b i p at (old_place w (heads m.store) f next k u n 0 h.holds.laid may content_born b i p at pl) live name in
      omega (arith, le)
  under_after b i p (inr e) pl live name =
      let same = new_place w (heads m.store) f next k u n 0 h.holds.laid may content_born b p e.0 pl in
      subst (λ z. z.unit + units_of z.size ≤ u + units_of n) (sym same) (omega arith)

  content_placed : HasPlaced grown more next (u + units_of n)
  content_placed = record {
    holds = born w m f next k u n 0 h.holds may content_born (content_block c) content_head (begun_held grown f k u n (first_bytes c) (global_region c) h.placed (first_fits c) (first_small c is) in_bytes in_marks)
        (none_together (number_bytes n (first_bytes c)) (numbers_have_none n (first_bytes c)));
    placed = let placed = h.placed in omega (arith, placed);
    few = let few = h.few in let long = length-append m.store (content_block c ∷ []) in omega (arith, few, long);
    units = subst (λ z. length (notes_in next z) ≡ length (notes_in f z)) (global_region c) (long_stays w (heads m.store) f next k u n 0 h.holds.laid may content_born (region_of k)) ∙ h.units;
    under = λ b i p at pl live name. under_after b i p (get_last (heads m.store) (head_of (content_block c)) b i (ap (λ z. slice_get z b) (sym (heads_append m.store (content_block c))) ∙ at)) pl live name;
  }

-- ---- all of them

-- where all globals of a list were born, with the pointers to their starts, of which the first has this number
record Ends (w : World) (m : Blocks) (f : Flat) (number : ℕ) (gs : List MonitoredGlobal) : Type 0 where
  world : World
  later : Later w world
  holds : Holds world (record m { store = m.store ++ map block_of_global gs }) (begun f gs)
  starts : AllKept (Same world) (block.pointers_from number gs) (flat.pointers_from (f.births + 1) f.placed gs)

all_begun : (w : World) (m : Blocks) (f : Flat) (u : ℕ) → HasPlaced w m f u → (before : List (List ℕ)) (gs : List MonitoredGlobal) → AreGlobals before gs
    → f.placed + globals_taken gs ≤ 1048576 → (number : ℕ) → number ≡ length m.store + 1 → Ends w m f number gs
all_begun w m f u h before [] are room number e = record {
  world = w;
  later = later_refl w;
  holds = subst (λ s. Holds w (record m { store = s }) f) (sym (append-nil m.store)) h.holds;
  starts = tt;
}
all_begun w m f u h before (g ∷ gs) are room number e =
    let fits : f.placed + rounded (size_of_content g.content) ≤ 1048576 = omega (arith, room) in
    let v = grown w m f u h g.content are.2 fits in
    let long = length-append m.store (content_block g.content ∷ []) in
    let placed = content_placed w m f u h g.content are.2 fits in
    let rest = all_begun v (more w m f u h g.content are.2 fits) (begun_with f g) (u + units_of (size_of_content g.content)) placed (g.name ∷ before) gs are.3
    (omega (arith, room)) (suc number) (omega (arith, e, long)) in
    record {
      world = rest.world;
      later = later_trans w v rest.world (record { more = place w m f u h g.content are.2 fits ∷ []; is = refl }) rest.later;
      holds = subst (λ s. Holds rest.world (record m { store = s }) (begun f (g ∷ gs))) (append_assoc m.store (content_block g.content ∷ []) (map block_of_global gs)) rest.holds;
      starts = (same_later v rest.world (Points (Into number 0)) _ rest.later (content_pointer w m f u h g.content are.2 fits number f.placed e refl), rest.starts);
    }

nothing_placed : HasPlaced [] nothing flat_nothing 0
nothing_placed = record {
  holds = nothing_holds;
  placed = refl;
  few = omega arith;
  units = length-replicate {A = Option BlockNote} 65536 None;
  under = λ b h p at pl live name. absurd (none-some h at);
}

pub both_start : (gs : List MonitoredGlobal) → AreGlobals [] gs → globals_taken gs ≤ globals_bytes → StartsAlike gs
both_start gs are room =
    let within : globals_taken gs ≤ 1048576 = room in
    let ends = all_begun [] nothing flat_nothing 0 nothing_placed [] gs are (omega (arith, within)) 1 refl in
    record { world = ends.world; holds = ends.holds; starts = ends.starts }
