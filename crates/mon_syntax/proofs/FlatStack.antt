-- The calls of the runtime that begin and end the life of stack blocks: flat memory goes on to stand for the blocks.
use Rattle.std.proofs.Common.{◌≡◌, ◌≢◌, ℕ, zero, suc, ◌+◌, ◌*◌, ◌<◌, ◌≤◌, inl, ℤ, pos, Bool, true, false, ◌&&◌, nat_eq, nat_lt, nat_le, if◌then◌else◌, List, [], ◌∷◌, ◌++◌, length, replicate}
use Rattle.std.proofs.Common.{Some, None, take, get_or, slice_get, refl, sym, ap, ap₂, ◌∙◌, subst, arith}
use Rattle.std.proofs.lemmas.List.{length-replicate, get_or-replicate}
use Rattle.std.proofs.lemmas.Bool.{false≢true, eq-eqb, leb-false, ltb-false, and_from, and_parts}
use Rattle.c_syntax.specs.declared.types.BlockKind.{BlockKind}
use Rattle.c_syntax.specs.declared.types.BlockKind.TheVariants as kind
use Rattle.c_syntax.specs.declared.types.Segment.TheVariants as segment
use Rattle.c_model.specs.Limits.{stack_bytes}
use Rattle.c_model.specs.Memory.{Null, Into, Value, Integer, Points, NoValue, Unwritten, Block, new_block, is_stack, greatest_number, rounded, stack_taken}
use Rattle.shadow_segments.specs.declared.BlockNote.{BlockNote}
use Rattle.shadow_segments.specs.Shadow as shadow
use Rattle.shadow_segments.specs.Shadow.{units}
use Rattle.mon_syntax.specs.declared.spot.RegionName.{RegionName}
use Rattle.mon_syntax.specs.declared.spot.RegionName.TheVariants.{Globals, Stack, Heap}
use Rattle.mon_syntax.specs.declared.spot.Spot.TheVariants.{In}
use Rattle.mon_syntax.specs.declared.tree.MonType.TheVariants.{U64}
use Rattle.mon_syntax.specs.declared.tree.MemoryCall.TheVariants as call
use Rattle.mon_syntax.specs.Arithmetic.{lowest_bits}
use Rattle.mon_syntax.specs.Memory.{Reply, Gives, IsFull, Faults}
use Rattle.mon_syntax.specs.Regions.{with_birth}
use Rattle.mon_syntax.specs.Questions.{live_at}
use Rattle.mon_syntax.specs.Flat.{Flat, region, pointer_to, note_for, born, dead, flat_store_block, delete_by, delete_spot, flat_delete_block}
use Rattle.mon_syntax.specs.BlockMemory.{Blocks, stack_block, birth_of, store_block, youngest, is_index, dead_at, delete_block}
use Rattle.mon_syntax.specs.FlatMemory.{pointer_in, valued, changed, act_on_flat}
use Rattle.mon_syntax.specs.Following.{AllKept}
use Rattle.mon_syntax.specs.FlatRelation.{region_of, Place, World, PointsTo, Same, SameByte, Head, head_of, heads, is_on_stack, units_taken, note_of, notes_in, marks_in, bytes_in, Lain, Held, Holds}
use Rattle.mon_syntax.proofs.FlatLists.{head_at, block_of_head, length-heads}
use Rattle.mon_syntax.proofs.FlatWorlds.{later_refl}
use Rattle.mon_syntax.proofs.FlatTogether.{none_together, unwritten_have_none}
use Rattle.mon_syntax.proofs.FlatFrames.{Answers}
use Rattle.mon_syntax.proofs.FlatPointers.{number_is, spot_of_pointer, note_live}
use Rattle.mon_syntax.proofs.FlatAddresses.{pointer_is, index_is, lies}
use Rattle.mon_syntax.proofs.FlatBirths as birth
use Rattle.mon_syntax.proofs.FlatBirths.{MayBeBorn, IsBorn, place_for, new_pointer}
use Rattle.mon_syntax.proofs.FlatRegions.{new_note, BornIn, is_born, born_in, unwritten_born, notes_died}
use Rattle.mon_syntax.proofs.FlatDeaths.{HasDied, died}
use Rattle.mon_syntax.proofs.FlatYoungest.{IsYoungest, is_youngest, taken-heads, taken-under, taken-youngest, stays_tight}

-- ---- births

module _ (w : World) (m : Blocks) (f : Flat) (n : ℕ) (h : Holds w m f) (number : length m.store < greatest_number) (room : f.top + rounded n ≤ length f.stack.bytes) where
  -- the unit at the top
  abbrev unit : ℕ
  unit = units_taken (heads m.store)

  abbrev at_top : Place
  at_top = place_for kind.Stack unit n

  abbrev grown : Flat
  grown = record (born f Stack kind.Stack f.top n) { top = f.top + rounded n }

  top_is : f.top ≡ 16 * unit
  top_is = h.laid.top

  room_there : unit + units n ≤ length (notes_in f Stack)
  room_there = let sized = h.laid.sized Stack in omega (arith, sized, room, top_is)

  kind_of_stack : (k : BlockKind) → region_of k ≡ Stack → is_stack k ≡ true
  kind_of_stack kind.Global e = absurd cc
  kind_of_stack kind.Literal e = absurd cc
  kind_of_stack kind.Stack e = refl
  kind_of_stack kind.Heap e = absurd cc

  may : MayBeBorn w (heads m.store) f kind.Stack unit n 0
  may = record {
    number = let long = length-heads m.store in omega (arith, long, number);
    room = room_there;
    alone = λ b i p at pl live name.
        let o = h.laid.lain b i p at pl live in
        let on = and_from i.live (is_stack i.kind) live (kind_of_stack i.kind (sym o.name ∙ name)) in
        let tight = h.laid.tight b i p at pl on in
        let under = taken-under (heads m.store) b i at on in
        let size = o.size in
        inl (omega (arith, tight, under, size));
    on_top = λ t. refl;
    placed = λ no. absurd (false≢true no);
  }

  note_is : note_for f kind.Stack f.top n ≡ new_note f kind.Stack unit n
  note_is = ap (λ z. record { base = z; length = n; number = f.births + 1; kind = kind.Stack }) top_is

  here : BornIn f.stack grown.stack (new_note f kind.Stack unit n) unit
  here = subst (λ z. BornIn f.stack (with_birth f.stack z) (new_note f kind.Stack unit n) unit) (sym note_is) (born_in f.stack (new_note f kind.Stack unit n) unit refl)

  others : (name : RegionName) → Stack ≢ name → region grown name ≡ region f name
  others Globals ne = refl
  others Stack ne = absurd (ne refl)
  others Heap ne = refl

  stack_born : IsBorn f grown kind.Stack unit n
  stack_born = is_born f grown kind.Stack unit n refl refl refl refl here others

  -- none of its bytes is written
  unwritten : Held (w ++ at_top ∷ []) at_top (new_block kind.Stack n) grown
  unwritten = record {
    size = length-replicate n Unwritten;
    bytes = λ i lt.
        subst (λ z. SameByte (w ++ at_top ∷ []) z (get_or (marks_in grown Stack) (16 * unit + i) shadow.Unwritten) (get_or (bytes_in grown Stack) (16 * unit + i) 0)) (sym (get_or-replicate n i Unwritten Unwritten lt))
        (subst (λ z. get_or (with_birth f.stack z).shadow.marks (16 * unit + i) shadow.Unwritten ≡ shadow.Unwritten) (sym note_is)
        (unwritten_born f.stack (new_note f kind.Stack unit n) unit refl i (let marked = h.laid.marked Stack in omega (arith, marked, room_there)) (omega (arith, lt))));
  }

  pub stack_birth : Answers w (Gives (Points (Into (length m.store + 1) 0)) (record m { store = m.store ++ new_block kind.Stack n ∷ [] })) (Gives (pos (pointer_to (f.births + 1) Stack f.top)) grown)
  stack_birth = (
    w ++ at_top ∷ [],
    record { more = at_top ∷ []; is = refl },
    (pointer_to (f.births + 1) Stack f.top, refl, new_pointer w (heads m.store) f grown kind.Stack unit n 0 h.laid may stack_born (length m.store + 1) f.top (let long = length-heads m.store in omega (arith, long)) top_is),
    birth.born w m f grown kind.Stack unit n 0 h may stack_born (new_block kind.Stack n) refl unwritten (none_together (replicate n Unwritten) (unwritten_have_none n)),
  )

-- what each side answers, where no number is left (t), or no room (u)
abbrev block_answer : Blocks → ℕ → Bool → Bool → Reply Blocks Value
block_answer m n t u = stack_block (if t then Some segment.Numbers else (if u then Some segment.Stack else None)) n m

abbrev flat_answer : Flat → ℕ → Bool → Bool → Reply Flat ℤ
flat_answer f n t u =
    valued (if t then IsFull segment.Numbers
    else (if u then IsFull segment.Stack else Gives (pointer_to (f.births + 1) Stack f.top) (record (born f Stack kind.Stack f.top n) { top = f.top + rounded n })))

-- both are full at once
module _ (w : World) (m : Blocks) (f : Flat) (n : ℕ) (h : Holds w m f) where
  births_are : f.births ≡ length m.store
  births_are = h.laid.births ∙ length-heads m.store

  taken_is : stack_taken m.store ≡ f.top
  taken_is = taken-heads m.store ∙ sym h.laid.top

  size_is : length f.stack.bytes ≡ 1048576
  size_is = h.laid.sized Stack ∙ ap (λ z. 16 * z) h.stack

  answers_by : (t u : Bool) → nat_le greatest_number (length m.store) ≡ t → nat_lt stack_bytes (stack_taken m.store + rounded n) ≡ u
      → Answers w (block_answer m n t u) (flat_answer f n t u)
  answers_by true u et eu = refl
  answers_by false true et eu = refl
  answers_by false false et eu =
      let number : length m.store < greatest_number = leb-false _ _ et in
      let fits : stack_taken m.store + rounded n ≤ 1048576 = ltb-false _ _ eu in
      let size = size_is in
      let taken = taken_is in
      stack_birth w m f n h number (omega (arith, fits, size, taken))

  pub birth_alike : Answers w (birth_of n m) (valued (flat_store_block f n))
  birth_alike =
      subst (λ z. Answers w (birth_of n m) (flat_answer f n (nat_le greatest_number z) (nat_lt (length f.stack.bytes) (f.top + rounded n)))) (sym births_are)
      (subst (λ z. Answers w (birth_of n m) (flat_answer f n (nat_le greatest_number (length m.store)) z)) (ap₂ (λ size taken. nat_lt size (taken + rounded n)) (sym size_is) taken_is)
      (answers_by _ _ refl refl))

pub store_block_alike : (w : World) (xs : List Value) (ys : List ℤ) (m : Blocks) (f : Flat) → AllKept (Same w) xs ys → Holds w m f
    → Answers w (store_block xs m) (act_on_flat call.StoreBlock ys f)
store_block_alike w [] ys m f k h = tt
store_block_alike w (Points p ∷ xs) ys m f k h = tt
store_block_alike w (NoValue ∷ xs) ys m f k h = tt
store_block_alike w (Integer z ∷ x ∷ xs) ys m f k h = tt
store_block_alike w (Integer z ∷ []) [] m f k h = absurd k
store_block_alike w (Integer z ∷ []) (y ∷ v ∷ ys) m f k h = absurd k.1
store_block_alike w (Integer z ∷ []) (y ∷ []) m f k h =
    subst (λ i. Answers w (store_block (Integer z ∷ []) m) (act_on_flat call.StoreBlock (i ∷ []) f)) k.0 (birth_alike w m f (lowest_bits U64 z) h)

-- ---- deaths

stack_of_kind : (k : BlockKind) → is_stack k ≡ true → region_of k ≡ Stack
stack_of_kind kind.Global e = absurd cc
stack_of_kind kind.Literal e = absurd cc
stack_of_kind kind.Stack e = refl
stack_of_kind kind.Heap e = absurd cc

-- a pointer to the start of the youngest block of the stack
module _ (w : World) (m : Blocks) (f : Flat) (index x : ℕ) (h : Holds w m f) (q : PointsTo w (suc index) 0 x) (y : IsYoungest m.store index) where
  abbrev block : Block
  block = y.block

  abbrev head : Head
  head = head_of y.block

  abbrev note : BlockNote
  note = note_of q.index head q.place

  abbrev after : Flat
  after = record (dead f Stack note) { top = note.base }

  same : q.index ≡ index
  same = index_is w index 0 x q

  its_place : slice_get w index ≡ Some q.place
  its_place = lies w index 0 x q

  head_there : slice_get (heads m.store) index ≡ Some head
  head_there = head_at m.store index block y.there

  live : block.live ≡ true
  live = (and_parts block.live (is_stack block.kind) y.live).0

  lain : Lain q.place head f
  lain = h.laid.lain index head q.place head_there its_place live

  name_is : q.place.name ≡ Stack
  name_is = lain.name ∙ stack_of_kind block.kind (and_parts block.live (is_stack block.kind) y.live).1

  last : (a : ℕ) (i : Head) → slice_get (heads m.store) a ≡ Some i → is_on_stack i ≡ true → a ≤ index
  last a i at on = let c = block_of_head m.store a i at in y.last a c.0 c.1 (ap is_on_stack c.2 ∙ on)

  unit_is : q.place.unit ≡ units_taken (take index (heads m.store))
  unit_is = h.laid.tight index head q.place head_there its_place y.live

  end_is : note.base + rounded note.length ≡ f.top
  end_is =
      let taken = taken-youngest (heads m.store) index head head_there y.live last in
      let size = lain.size in
      let top = h.laid.top in
      let unit = unit_is in
      omega (arith, taken, size, top, unit)

  there : live_at f.stack (16 * q.place.unit + 0) (suc index) ≡ Some note
  there =
      subst (λ z. live_at (region f z) (16 * q.place.unit + 0) (suc index) ≡ Some note) name_is
      (note_live w (suc index) 0 x q (heads m.store) f h.laid head (subst (λ z. slice_get (heads m.store) z ≡ Some head) (sym same) head_there) live)

  delete_there : delete_spot f (suc index) (In q.place.name (16 * q.place.unit + 0)) ≡ delete_by f (16 * q.place.unit + 0) (live_at f.stack (16 * q.place.unit + 0) (suc index))
  delete_there = ap (λ z. delete_spot f (suc index) (In z (16 * q.place.unit + 0))) name_is

  test : (nat_eq note.base (16 * q.place.unit + 0) && nat_eq (note.base + rounded note.length) f.top) ≡ true
  test = and_from _ _ (eq-eqb note.base (16 * q.place.unit + 0) (omega arith)) (eq-eqb (note.base + rounded note.length) f.top end_is)

  deleted : flat_delete_block f (pointer_in (pos x)) ≡ Some after
  deleted =
      ap (flat_delete_block f) (pointer_is w (Into (suc index) 0) x q)
      ∙ ap₂ (delete_spot f) (number_is w (suc index) 0 x q) (spot_of_pointer w (suc index) 0 x q)
      ∙ delete_there ∙ ap (delete_by f (16 * q.place.unit + 0)) there ∙ ap (λ t. if t then Some after else None) test

  has_died : HasDied f after Stack q.place.unit q.place.size
  has_died = record {
    frames = refl;
    most_frames = refl;
    births = refl;
    notes = notes_died f.stack note q.place.unit refl;
    other_notes = others;
    bytes = bytes;
    marks = marks;
  }
    where
      others : (name : RegionName) → Stack ≢ name → notes_in after name ≡ notes_in f name
      others Globals ne = refl
      others Stack ne = absurd (ne refl)
      others Heap ne = refl

      bytes : (name : RegionName) → bytes_in after name ≡ bytes_in f name
      bytes Globals = refl
      bytes Stack = refl
      bytes Heap = refl

      marks : (name : RegionName) → marks_in after name ≡ marks_in f name
      marks Globals = refl
      marks Stack = refl
      marks Heap = refl

  holds_after : Holds w (record m { store = dead_at index (slice_get m.store index) m.store }) after
  holds_after =
      subst (λ z. Holds w (record m { store = dead_at index z m.store }) after) (sym y.there)
      (died w m f after h index block q.place y.there live its_place (subst (λ z. HasDied f after z q.place.unit q.place.size) (sym name_is) has_died) (stays_tight (heads m.store) index head after.top head_there last (ap (λ z. 16 * z) unit_is)))

  death_alike : Answers w (Gives (Integer (pos 0)) (record m { store = dead_at index (slice_get m.store index) m.store })) (changed (flat_delete_block f (pointer_in (pos x))))
  death_alike =
      subst (λ z. Answers w (Gives (Integer (pos 0)) (record m { store = dead_at index (slice_get m.store index) m.store })) (changed z)) (sym deleted) (w, later_refl w, refl, holds_after)

pub delete_block_alike : (w : World) (xs : List Value) (ys : List ℤ) (m : Blocks) (f : Flat) → AllKept (Same w) xs ys → Holds w m f
    → Answers w (delete_block xs m) (act_on_flat call.DeleteBlock ys f)
delete_block_alike w [] ys m f k h = tt
delete_block_alike w (Integer z ∷ xs) ys m f k h = tt
delete_block_alike w (NoValue ∷ xs) ys m f k h = tt
delete_block_alike w (Points Null ∷ xs) ys m f k h = tt
delete_block_alike w (Points (Into zero offset) ∷ xs) ys m f k h = tt
delete_block_alike w (Points (Into (suc i) (suc offset)) ∷ xs) ys m f k h = tt
delete_block_alike w (Points (Into (suc i) zero) ∷ x ∷ xs) ys m f k h = tt
delete_block_alike w (Points (Into (suc i) zero) ∷ []) [] m f k h = absurd k
delete_block_alike w (Points (Into (suc i) zero) ∷ []) (y ∷ z ∷ ys) m f k h = absurd k.1
delete_block_alike w (Points (Into (suc i) zero) ∷ []) (y ∷ []) m f k h = by (is_index i (youngest m.store)) refl
  where
    by : (t : Bool) → is_index i (youngest m.store) ≡ t
        → Answers w (if t then Gives (Integer (pos 0)) (record m { store = dead_at i (slice_get m.store i) m.store }) else Faults) (changed (flat_delete_block f (pointer_in y)))
    by false e = tt
    by true e =
        subst (λ z. Answers w (Gives (Integer (pos 0)) (record m { store = dead_at i (slice_get m.store i) m.store })) (changed (flat_delete_block f (pointer_in z)))) (sym k.0.1)
        (death_alike w m f i k.0.0 h k.0.2 (is_youngest m.store i e))
