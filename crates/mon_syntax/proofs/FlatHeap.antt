-- The calls of the runtime that begin and end the life of heap blocks: flat memory goes on to stand for the blocks.
use Rattle.std.proofs.Common.{◌≡◌, ◌≢◌, ℕ, zero, suc, ◌+◌, ◌-◌, ◌*◌, ◌/◌, ◌%◌, ◌^◌, ◌<◌, ◌≤◌, inl, inr, ⊎_elim, ℤ, pos, Bool, true, false, ◌&&◌, nat_eq, nat_le, if◌then◌else◌}
use Rattle.std.proofs.Common.{List, [], ◌∷◌, ◌++◌, length, replicate, Option, Some, None, get_or, slice_get, slice_set, refl, sym, ap, ap₂, ◌∙◌, subst, arith}
use Rattle.std.proofs.lemmas.List.{length-replicate, get_or-replicate}
use Rattle.std.proofs.lemmas.Bool.{false≢true, eq-eqb, ne_eqb, leb-false, and_from, and_parts}
use Rattle.c_syntax.specs.declared.types.BlockKind.{BlockKind}
use Rattle.c_syntax.specs.declared.types.BlockKind.TheVariants as kind
use Rattle.c_syntax.specs.declared.types.Segment.TheVariants as segment
use Rattle.c_model.specs.Limits.{heap_bytes}
use Rattle.c_model.specs.Memory.{Pointer, Null, Into, Value, Integer, Points, NoValue, Byte, Unwritten, Number, Block, is_stack, is_heap, greatest_number, units, heap_place, room_at, NoRoom}
use Rattle.c_model.specs.Memory.{heap_block, with_block, freed_block, freed}
use Rattle.shadow_segments.specs.declared.BlockNote.{BlockNote}
use Rattle.shadow_segments.specs.Shadow as shadow
use Rattle.mon_syntax.specs.declared.spot.RegionName.{RegionName}
use Rattle.mon_syntax.specs.declared.spot.RegionName.TheVariants.{Globals, Stack, Heap}
use Rattle.mon_syntax.specs.declared.spot.Spot.TheVariants.{In}
use Rattle.mon_syntax.specs.declared.tree.MonType.TheVariants.{U64}
use Rattle.mon_syntax.specs.declared.tree.MemoryCall.TheVariants as call
use Rattle.mon_syntax.specs.Arithmetic.{lowest_bits}
use Rattle.mon_syntax.specs.Memory.{Reply, Gives, IsFull}
use Rattle.mon_syntax.specs.Regions.{Region, with_birth, filled_with}
use Rattle.mon_syntax.specs.Questions.{live_at}
use Rattle.mon_syntax.specs.Flat.{Flat, Answer, region, pointer_to, born, dead, zeroed, zeroed_block, flat_malloc, free_by, free_spot, flat_free}
use Rattle.mon_syntax.specs.Flat as flat
use Rattle.mon_syntax.specs.BlockMemory.{Blocks, heap_birth, allocate, malloc_block, calloc_block, becomes, free_block}
use Rattle.mon_syntax.specs.FlatMemory.{pointer_in, valued, changed, act_on_flat}
use Rattle.mon_syntax.specs.Following.{AllKept}
use Rattle.mon_syntax.specs.FlatRelation.{Place, World, PointsTo, SamePointer, Same, SameByte, Head, head_of, heads, is_on_stack, note_of, notes_in, marks_in, bytes_in, Lain, Holds}
use Rattle.mon_syntax.proofs.FlatLists.{head_at, block_of_head, length-heads}
use Rattle.mon_syntax.proofs.FlatWorlds.{later_refl}
use Rattle.mon_syntax.proofs.FlatTogether.{HaveNone, none_together, unwritten_have_none, zeros_have_none}
use Rattle.mon_syntax.proofs.FlatFrames.{Answers}
use Rattle.mon_syntax.proofs.FlatPointers.{number_is, address_is, spot_of_pointer, note_live}
use Rattle.mon_syntax.proofs.FlatAddresses.{pointer_is, into_is_some, index_is, lies}
use Rattle.mon_syntax.proofs.FlatBirths as birth
use Rattle.mon_syntax.proofs.FlatBirths.{MayBeBorn, IsBorn, place_for, new_pointer}
use Rattle.mon_syntax.proofs.FlatRegions.{new_note, BornIn, is_born, born_in, unwritten_born, notes_died}
use Rattle.mon_syntax.proofs.FlatGlobals.{begun_in, begun_byte, begun_mark}
use Rattle.mon_syntax.proofs.FlatDeaths.{HasDied, died}
use Rattle.mon_syntax.proofs.FlatYoungest.{off_stays_tight}
use Rattle.mon_syntax.proofs.FlatPlaces.{kind_of_heap, heap_of_kind, apart_is, apart_from, IsRoom, place_found, place_same}

-- ---- births at a place that was found

module _ (w : World) (m : Blocks) (f : Flat) (u n : ℕ) (h : Holds w m f) (number : length m.store < greatest_number) (room : IsRoom m.store (length (notes_in f Heap)) u (units n)) where
  abbrev place : Place
  place = place_for kind.Heap u n

  abbrev note : BlockNote
  note = new_note f kind.Heap u n

  -- the memory with this heap
  abbrev grown : Region → Flat
  grown r = record f { heap = r; births = f.births + 1 }

  may : MayBeBorn w (heads m.store) f kind.Heap u n u
  may = record {
    number = let long = length-heads m.store in omega (arith, long, number);
    room = room.inside;
    alone = λ b i p at pl live name.
        let o : Lain p i f = h.laid.lain b i p at pl live in
        let k = block_of_head m.store b i at in
        let heap = kind_of_heap i.kind (sym o.name ∙ name) in
        let on = ap (λ z. z.live && is_heap z.kind) k.2 ∙ and_from i.live (is_heap i.kind) live heap in
        let placed = o.placed heap in
        let size = o.size in
        let its_place : k.0.place ≡ i.place = ap (λ z. z.place) k.2 in
        let its_size : k.0.size ≡ i.size = ap (λ z. z.size) k.2 in
        ⊎_elim (λ d. inl (omega (arith, d, placed, size, its_place, its_size))) (λ d. inr (omega (arith, d, placed, its_place))) (apart_is k.0 u (units n) (apart_from m.store u (units n) b k.0 room.free k.1 on));
    on_top = λ no. absurd (false≢true no);
    placed = λ t. refl;
  }

  others : (r : Region) (name : RegionName) → Heap ≢ name → region (grown r) name ≡ region f name
  others r Globals ne = refl
  others r Stack ne = refl
  others r Heap ne = absurd (ne refl)

  heap_born : (r : Region) → BornIn f.heap r note u → IsBorn f (grown r) kind.Heap u n
  heap_born r here = is_born f (grown r) kind.Heap u n refl refl refl (omega arith) here (others r)

  its_pointer : (r : Region) → BornIn f.heap r note u → PointsTo (w ++ place ∷ []) (length m.store + 1) 0 (pointer_to (f.births + 1) Heap (16 * u))
  its_pointer r here =
      new_pointer w (heads m.store) f (grown r) kind.Heap u n u h.laid may (heap_born r here) (length m.store + 1) (16 * u) (let long = length-heads m.store in omega (arith, long)) refl

  in_bytes : 16 * u + 16 * units n ≤ length (bytes_in f Heap)
  in_bytes = let sized = h.laid.sized Heap in let inside = room.inside in omega (arith, sized, inside)

  in_marks : 16 * u + 16 * units n ≤ length (marks_in f Heap)
  in_marks = let marked = h.laid.marked Heap in let inside = room.inside in omega (arith, marked, inside)

  -- a block of one byte, so many times, is born whose bytes are there
  block_born : (r : Region) (byte : Byte) → HaveNone (replicate n byte) → BornIn f.heap r note u
      → ((i : ℕ) → i < n → SameByte (w ++ place ∷ []) byte (get_or r.shadow.marks (16 * u + i) shadow.Unwritten) (get_or r.bytes (16 * u + i) 0))
      → Answers w (Gives (Points (Into (length m.store + 1) 0)) (record m { store = m.store ++ heap_block u (replicate n byte) ∷ [] })) (Gives (pos (pointer_to (f.births + 1) Heap (16 * u))) (grown r))
  block_born r byte none here each = (
    w ++ place ∷ [],
    record { more = place ∷ []; is = refl },
    (pointer_to (f.births + 1) Heap (16 * u), refl, its_pointer r here),
    birth.born w m f (grown r) kind.Heap u n u h may (heap_born r here) (heap_block u (replicate n byte)) (ap (λ z. record { kind = kind.Heap; size = z; live = true; place = u }) (length-replicate n byte)) (record {
      size = refl;
      bytes = λ i lt.
          let below : i < n = let long = length-replicate n byte in omega (arith, lt, long) in
          subst (λ z. SameByte (w ++ place ∷ []) z (get_or r.shadow.marks (16 * u + i) shadow.Unwritten) (get_or r.bytes (16 * u + i) 0)) (sym (get_or-replicate n i byte Unwritten below)) (each i below);
    }) (none_together (replicate n byte) none),
  )

  -- none of its bytes is written
  pub unwritten_block : Answers w (Gives (Points (Into (length m.store + 1) 0)) (record m { store = m.store ++ heap_block u (replicate n Unwritten) ∷ [] }))
      (valued (Gives (pointer_to (f.births + 1) Heap (16 * u)) (born f Heap kind.Heap (16 * u) n)))
  unwritten_block =
      block_born (with_birth f.heap note) Unwritten (unwritten_have_none n) (born_in f.heap note u refl) (λ i lt. unwritten_born f.heap note u refl i in_marks (omega (arith, lt)))

  -- all of them are 0
  zeros_block : Answers w (Gives (Points (Into (length m.store + 1) 0)) (record m { store = m.store ++ heap_block u (replicate n (Number 0)) ∷ [] }))
      (valued (Gives (pointer_to (f.births + 1) Heap (16 * u)) (zeroed (born f Heap kind.Heap (16 * u) n) (16 * u) n)))
  zeros_block =
      block_born (filled_with (with_birth f.heap note) (16 * u) n []) (Number 0) (zeros_have_none n) (begun_in f.heap note u n [] refl refl (omega arith) in_bytes in_marks)
      (λ i lt. (begun_mark f.heap note u n [] refl refl (omega arith) in_bytes in_marks i lt, begun_byte f.heap note u n [] refl refl (omega arith) in_bytes in_marks i lt, omega arith))

  -- where the zeros are put
  zeros_at : pointer_to (f.births + 1) Heap (16 * u) % 2 ^ 32 - 2147483648 ≡ 16 * u
  zeros_at =
      let here = born_in f.heap note u refl in
      let address = address_is (w ++ place ∷ []) (length m.store + 1) 0 (pointer_to (f.births + 1) Heap (16 * u)) (its_pointer (with_birth f.heap note) here) in
      omega (arith, address)

  zeroed_is : zeroed_block (Gives (pointer_to (f.births + 1) Heap (16 * u)) (born f Heap kind.Heap (16 * u) n)) n
      ≡ Gives (pointer_to (f.births + 1) Heap (16 * u)) (zeroed (born f Heap kind.Heap (16 * u) n) (16 * u) n)
  zeroed_is =
      let p = pointer_to (f.births + 1) Heap (16 * u) in
      let g = born f Heap kind.Heap (16 * u) n in
      let some : nat_eq p 0 ≡ false = ne_eqb p 0 (λ e. omega (arith, e)) in
      ap (λ t. Gives p (if t then g else zeroed g (p % 2 ^ 32 - 2147483648) n)) some ∙ ap (λ z. Gives p (zeroed g z n)) zeros_at

  pub zeroed_block_born : Answers w (Gives (Points (Into (length m.store + 1) 0)) (record m { store = m.store ++ heap_block u (replicate n (Number 0)) ∷ [] }))
      (valued (zeroed_block (Gives (pointer_to (f.births + 1) Heap (16 * u)) (born f Heap kind.Heap (16 * u) n)) n))
  zeroed_block_born =
      subst (λ z. Answers w (Gives (Points (Into (length m.store + 1) 0)) (record m { store = m.store ++ heap_block u (replicate n (Number 0)) ∷ [] })) (valued z)) (sym zeroed_is) zeros_block

-- ---- what each side answers, where no number is left (t), and where a place is found

abbrev block_answer : Blocks → List Byte → Bool → Option ℕ → Reply Blocks Value
block_answer m bytes t o = heap_birth (if t then NoRoom segment.Numbers else room_at o) bytes m

abbrev flat_answer : Flat → ℕ → Bool → Option ℕ → Answer ℕ
flat_answer f n t o = if t then IsFull segment.Numbers else flat.heap_birth f n o

module _ (w : World) (m : Blocks) (f : Flat) (n : ℕ) (h : Holds w m f) where
  births_are : f.births ≡ length m.store
  births_are = h.laid.births ∙ length-heads m.store

  room_found : (u : ℕ) → heap_place (heap_bytes / 16) m.store (units n) ≡ Some u → IsRoom m.store (length (notes_in f Heap)) u (units n)
  room_found u e = place_found m.store (length (notes_in f Heap)) (units n) u (ap (λ z. heap_place z m.store (units n)) h.heap ∙ e)

  malloc_by : (t : Bool) (o : Option ℕ) → nat_le greatest_number (length m.store) ≡ t → heap_place (heap_bytes / 16) m.store (units n) ≡ o
      → Answers w (block_answer m (replicate n Unwritten) t o) (valued (flat_answer f n t o))
  malloc_by true o et eo = refl
  malloc_by false None et eo = refl
  malloc_by false (Some u) et eo = unwritten_block w m f u n h (leb-false _ _ et) (room_found u eo)

  calloc_by : (t : Bool) (o : Option ℕ) → nat_le greatest_number (length m.store) ≡ t → heap_place (heap_bytes / 16) m.store (units n) ≡ o
      → Answers w (block_answer m (replicate n (Number 0)) t o) (valued (zeroed_block (flat_answer f n t o) n))
  calloc_by true o et eo = refl
  calloc_by false None et eo = refl
  calloc_by false (Some u) et eo = zeroed_block_born w m f u n h (leb-false _ _ et) (room_found u eo)

  answer_is : flat_answer f n (nat_le greatest_number (length m.store)) (heap_place (heap_bytes / 16) m.store (units n)) ≡ flat.heap_block f n
  answer_is = ap₂ (λ births o. flat_answer f n (nat_le greatest_number births) o) (sym births_are) (place_same w m f (units n) h (omega arith))

  no_bytes : Answers w (Gives (Points Null) m) (Gives (pos 0) f)
  no_bytes = (w, later_refl w, (0, refl, refl), h)

  malloc_here : Answers w (allocate n Unwritten m) (valued (flat_malloc f n))
  malloc_here = by (nat_eq n 0)
    where
      by : (t : Bool)
          → Answers w (if t then Gives (Points Null) m else block_answer m (replicate n Unwritten) (nat_le greatest_number (length m.store)) (heap_place (heap_bytes / 16) m.store (units n)))
          (valued (if t then Gives 0 f else flat.heap_block f n))
      by true = no_bytes
      by false =
          subst (λ z. Answers w (block_answer m (replicate n Unwritten) (nat_le greatest_number (length m.store)) (heap_place (heap_bytes / 16) m.store (units n))) (valued z)) answer_is
          (malloc_by _ _ refl refl)

  calloc_here : Answers w (allocate n (Number 0) m) (valued (zeroed_block (flat_malloc f n) n))
  calloc_here = by (nat_eq n 0)
    where
      by : (t : Bool)
          → Answers w (if t then Gives (Points Null) m else block_answer m (replicate n (Number 0)) (nat_le greatest_number (length m.store)) (heap_place (heap_bytes / 16) m.store (units n)))
          (valued (zeroed_block (if t then Gives 0 f else flat.heap_block f n) n))
      by true = no_bytes
      by false =
          subst (λ z. Answers w (block_answer m (replicate n (Number 0)) (nat_le greatest_number (length m.store)) (heap_place (heap_bytes / 16) m.store (units n))) (valued (zeroed_block z n))) answer_is
          (calloc_by _ _ refl refl)

pub malloc_alike : (w : World) (xs : List Value) (ys : List ℤ) (m : Blocks) (f : Flat) → AllKept (Same w) xs ys → Holds w m f
    → Answers w (malloc_block xs m) (act_on_flat call.Malloc ys f)
malloc_alike w [] ys m f k h = tt
malloc_alike w (Points p ∷ xs) ys m f k h = tt
malloc_alike w (NoValue ∷ xs) ys m f k h = tt
malloc_alike w (Integer z ∷ x ∷ xs) ys m f k h = tt
malloc_alike w (Integer z ∷ []) [] m f k h = absurd k
malloc_alike w (Integer z ∷ []) (y ∷ v ∷ ys) m f k h = absurd k.1
malloc_alike w (Integer z ∷ []) (y ∷ []) m f k h =
    subst (λ i. Answers w (malloc_block (Integer z ∷ []) m) (act_on_flat call.Malloc (i ∷ []) f)) k.0 (malloc_here w m f (lowest_bits U64 z) h)

pub calloc_alike : (w : World) (xs : List Value) (ys : List ℤ) (m : Blocks) (f : Flat) → AllKept (Same w) xs ys → Holds w m f
    → Answers w (calloc_block xs m) (act_on_flat call.Calloc ys f)
calloc_alike w (Integer a ∷ Integer b ∷ []) (y ∷ z ∷ []) m f k h =
    subst (λ i. Answers w (calloc_block (Integer a ∷ Integer b ∷ []) m) (act_on_flat call.Calloc (i ∷ z ∷ []) f)) k.0
    (subst (λ i. Answers w (calloc_block (Integer a ∷ Integer b ∷ []) m) (act_on_flat call.Calloc (a ∷ i ∷ []) f)) k.1.0 (calloc_here w m f (lowest_bits U64 a * lowest_bits U64 b) h))
calloc_alike w (Integer a ∷ Integer b ∷ []) [] m f k h = absurd k
calloc_alike w (Integer a ∷ Integer b ∷ []) (y ∷ []) m f k h = absurd k.1
calloc_alike w (Integer a ∷ Integer b ∷ []) (y ∷ z ∷ v ∷ ys) m f k h = absurd k.1.1
calloc_alike w xs ys m f k h = tt

-- ---- deaths

not_on_stack : (k : BlockKind) → is_heap k ≡ true → is_stack k ≡ false
not_on_stack kind.Global e = refl
not_on_stack kind.Literal e = refl
not_on_stack kind.Stack e = absurd (false≢true e)
not_on_stack kind.Heap e = refl

-- a pointer to the start of a live block of the heap
module _ (w : World) (m : Blocks) (f : Flat) (index x : ℕ) (h : Holds w m f) (q : PointsTo w (suc index) 0 x) (b : Block) (at : slice_get m.store index ≡ Some b) (on : (b.live && is_heap b.kind) ≡ true) where
  abbrev head : Head
  head = head_of b

  abbrev its_note : BlockNote
  its_note = note_of q.index head q.place

  abbrev after : Flat
  after = dead f Heap its_note

  both : (b.live ≡ true) × (is_heap b.kind ≡ true)
  both = and_parts b.live (is_heap b.kind) on

  same : q.index ≡ index
  same = index_is w index 0 x q

  its_place : slice_get w index ≡ Some q.place
  its_place = lies w index 0 x q

  head_there : slice_get (heads m.store) index ≡ Some head
  head_there = head_at m.store index b at

  lain : Lain q.place head f
  lain = h.laid.lain index head q.place head_there its_place both.0

  name_is : q.place.name ≡ Heap
  name_is = lain.name ∙ heap_of_kind b.kind both.1

  there : live_at f.heap (16 * q.place.unit + 0) (suc index) ≡ Some its_note
  there =
      subst (λ z. live_at (region f z) (16 * q.place.unit + 0) (suc index) ≡ Some its_note) name_is
      (note_live w (suc index) 0 x q (heads m.store) f h.laid head (subst (λ z. slice_get (heads m.store) z ≡ Some head) (sym same) head_there) both.0)

  spot_is : free_spot f (suc index) (In q.place.name (16 * q.place.unit + 0)) ≡ free_by f (16 * q.place.unit + 0) (live_at f.heap (16 * q.place.unit + 0) (suc index))
  spot_is = ap (λ z. free_spot f (suc index) (In z (16 * q.place.unit + 0))) name_is

  freed_flat : flat_free f (pointer_in (pos x)) ≡ Some after
  freed_flat =
      ap (flat_free f) (pointer_is w (Into (suc index) 0) x q)
      ∙ ap (λ t. if t then Some f else free_spot f (flat.number_in x) (flat.spot_of x)) (ne_eqb x 0 (into_is_some w (suc index) 0 x q))
      ∙ ap₂ (free_spot f) (number_is w (suc index) 0 x q) (spot_of_pointer w (suc index) 0 x q)
      ∙ spot_is ∙ ap (free_by f (16 * q.place.unit + 0)) there
      ∙ ap (λ t. if t then Some after else None) (eq-eqb its_note.base (16 * q.place.unit + 0) (omega arith))

  has_died : HasDied f after Heap q.place.unit q.place.size
  has_died = record {
    frames = refl;
    most_frames = refl;
    births = refl;
    notes = notes_died f.heap its_note q.place.unit refl;
    other_notes = others_stay;
    bytes = bytes;
    marks = marks;
  }
    where
      others_stay : (name : RegionName) → Heap ≢ name → notes_in after name ≡ notes_in f name
      others_stay Globals ne = refl
      others_stay Stack ne = refl
      others_stay Heap ne = absurd (ne refl)

      bytes : (name : RegionName) → bytes_in after name ≡ bytes_in f name
      bytes Globals = refl
      bytes Stack = refl
      bytes Heap = refl

      marks : (name : RegionName) → marks_in after name ≡ marks_in f name
      marks Globals = refl
      marks Stack = refl
      marks Heap = refl

  off_stack : is_on_stack head ≡ false
  off_stack = ap (λ z. z && is_stack b.kind) both.0 ∙ not_on_stack b.kind both.1

  holds_after : Holds w (record m { store = slice_set m.store index (record b { live = false }) }) after
  holds_after =
      died w m f after h index b q.place at both.0 its_place (subst (λ z. HasDied f after z q.place.unit q.place.size) (sym name_is) has_died)
      (off_stays_tight (heads m.store) index head after.top head_there off_stack h.laid.top)

  pub death_alike : Answers w (Gives (Integer (pos 0)) (record m { store = slice_set m.store index (record b { live = false }) })) (changed (flat_free f (pointer_in (pos x))))
  death_alike =
      subst (λ z. Answers w (Gives (Integer (pos 0)) (record m { store = slice_set m.store index (record b { live = false }) })) (changed z)) (sym freed_flat) (w, later_refl w, refl, holds_after)

free_at : (w : World) (m : Blocks) (f : Flat) (index x : ℕ) → Holds w m f → PointsTo w (suc index) 0 x → (o : Option Block) → slice_get m.store index ≡ o
    → Answers w (becomes m (with_block m.store index (freed_block o))) (changed (flat_free f (pointer_in (pos x))))
free_at w m f index x h q None at = tt
free_at w m f index x h q (Some b) at = by (b.live && is_heap b.kind) refl
  where
    by : (t : Bool) → (b.live && is_heap b.kind) ≡ t
        → Answers w (becomes m (with_block m.store index (if t then Some (record b { live = false }) else None))) (changed (flat_free f (pointer_in (pos x))))
    by false e = tt
    by true e = death_alike w m f index x h q b at e

free_pointer : (w : World) (m : Blocks) (f : Flat) (p : Pointer) (x : ℕ) → Holds w m f → SamePointer w p x → Answers w (becomes m (freed m.store p)) (changed (flat_free f (pointer_in (pos x))))
free_pointer w m f Null x h q = subst (λ z. Answers w (becomes m (Some m.store)) (changed (flat_free f (pointer_in (pos z))))) (sym q) (w, later_refl w, refl, h)
free_pointer w m f (Into zero off) x h q = tt
free_pointer w m f (Into (suc index) (suc off)) x h q = tt
free_pointer w m f (Into (suc index) zero) x h q = free_at w m f index x h q (slice_get m.store index) refl

pub free_alike : (w : World) (xs : List Value) (ys : List ℤ) (m : Blocks) (f : Flat) → AllKept (Same w) xs ys → Holds w m f
    → Answers w (free_block xs m) (act_on_flat call.Free ys f)
free_alike w [] ys m f k h = tt
free_alike w (Integer z ∷ xs) ys m f k h = tt
free_alike w (NoValue ∷ xs) ys m f k h = tt
free_alike w (Points p ∷ x ∷ xs) ys m f k h = tt
free_alike w (Points p ∷ []) [] m f k h = absurd k
free_alike w (Points p ∷ []) (y ∷ v ∷ ys) m f k h = absurd k.1
free_alike w (Points p ∷ []) (y ∷ []) m f k h =
    subst (λ z. Answers w (free_block (Points p ∷ []) m) (changed (flat_free f (pointer_in z)))) (sym k.0.1) (free_pointer w m f p k.0.0 h k.0.2)
