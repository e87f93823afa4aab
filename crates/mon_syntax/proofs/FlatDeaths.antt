-- The death of any live block: flat memory goes on to stand for the blocks.
use Rattle.std.proofs.Common.{◌≡◌, ◌≢◌, ℕ, ◌+◌, ◌*◌, ◌<◌, ◌≤◌, ◌⊎◌, inl, inr, ⊎_elim, true, false, List, length, Some, None, take, set, get_or, slice_get, sym, ap, ◌∙◌, subst, arith}
use Rattle.std.proofs.lemmas.List.{length-set}
use Rattle.std.proofs.lemmas.Option.{none-some, same_Some}
use Rattle.std.proofs.lemmas.Bool.{false≢true, and_parts}
use Rattle.c_model.specs.Memory.{Unwritten, Block, is_stack}
use Rattle.c_model.specs.Together.{AreTogether}
use Rattle.shadow_segments.specs.declared.BlockNote.{BlockNote}
use Rattle.shadow_segments.specs.Shadow as shadow
use Rattle.shadow_segments.specs.Shadow.{units, filled}
use Rattle.mon_syntax.specs.declared.spot.RegionName.{RegionName}
use Rattle.mon_syntax.specs.declared.spot.RegionName.TheVariants.{Globals, Stack, Heap}
use Rattle.mon_syntax.specs.Flat.{Flat}
use Rattle.mon_syntax.specs.BlockMemory.{Blocks}
use Rattle.mon_syntax.specs.FlatRelation.{most_bytes, Place, World, SameByte, Head, head_of, heads, is_on_stack, units_taken, notes_in, marks_in, bytes_in, Owner, Laid, Held, Holds}
use Rattle.mon_syntax.proofs.FlatLists.{get_other, get_after_set, head_at, heads_set}
use Rattle.mon_syntax.proofs.FlatNotes.{Elsewhere, where_is, apart_units, units_stay, note_elsewhere, note_here}

abbrev pub dead_head : Head → Head
dead_head h = record { kind = h.kind; size = h.size; live = false; place = h.place }

abbrev pub dead_block : Block → Block
dead_block k = record k { live = false }

-- the memory after the death: these units have no record, and all else stays
pub record HasDied (f g : Flat) (name : RegionName) (u n : ℕ) : Type 0 where
  pub frames : g.frames ≡ f.frames
  pub most_frames : g.most_frames ≡ f.most_frames
  pub births : g.births ≡ f.births
  pub notes : notes_in g name ≡ filled (notes_in f name) u (units n) None
  pub other_notes : (other : RegionName) → name ≢ other → notes_in g other ≡ notes_in f other
  pub bytes : (other : RegionName) → bytes_in g other ≡ bytes_in f other
  pub marks : (other : RegionName) → marks_in g other ≡ marks_in f other

-- the top after it is what live stack blocks still take, and each of them has as much before it as it had
pub record StaysTight (hs : List Head) (index : ℕ) (h : Head) (top : ℕ) : Type 0 where
  pub top_is : top ≡ 16 * units_taken (set hs index (dead_head h))
  pub before : (a : ℕ) (i : Head) → slice_get hs a ≡ Some i → is_on_stack i ≡ true → a ≢ index
      → units_taken (take a (set hs index (dead_head h))) ≡ units_taken (take a hs)

-- what lives after the death lived before, and is another block
lived : (hs : List Head) (index a : ℕ) (h i : Head) → slice_get hs index ≡ Some h → slice_get (set hs index (dead_head h)) a ≡ Some i → i.live ≡ true
    → (slice_get hs a ≡ Some i) × (a ≢ index)
lived hs index a h i at e live =
    ⊎_elim (λ t. absurd (false≢true (ap (λ q. q.live) (sym t.1) ∙ live))) (λ t. (t.1, t.0)) (get_after_set hs index a h (dead_head h) i at e)

-- ---- all but the bytes

module _ (w : World) (hs : List Head) (f g : Flat) (l : Laid w hs f) (index : ℕ) (h : Head) (p : Place) (at : slice_get hs index ≡ Some h) (live : h.live ≡ true)
    (pl : slice_get w index ≡ Some p) (is : HasDied f g p.name p.unit p.size) (tight : StaysTight hs index h g.top) where
  abbrev left : List Head
  left = set hs index (dead_head h)

  pub long_stays : (name : RegionName) → length (notes_in g name) ≡ length (notes_in f name)
  long_stays name = units_stay f g p.name p.unit (units p.size) None is.notes is.other_notes name

  old_note : (name : RegionName) (v : ℕ) → Elsewhere p.name p.unit (units p.size) name v → get_or (notes_in g name) v None ≡ get_or (notes_in f name) v None
  old_note name v out = note_elsewhere f g p.name p.unit (units p.size) None is.notes is.other_notes name v out

  no_note : (v : ℕ) → p.unit ≤ v → v < p.unit + units p.size → get_or (notes_in g p.name) v None ≡ None
  no_note v from below = note_here f g p.name p.unit (units p.size) None is.notes is.other_notes v (l.lain index h p at pl live).inside from below

  only_after : (name : RegionName) (v : ℕ) (m : BlockNote) → get_or (notes_in g name) v None ≡ Some m
      → Elsewhere p.name p.unit (units p.size) name v ⊎ ((p.name ≡ name) × ((p.unit ≤ v) × (v < p.unit + units p.size))) → Owner w left name v m
  only_after name v m e (inr c) = absurd (none-some m (sym (no_note v c.1.0 c.1.1) ∙ ap (λ z. get_or (notes_in g z) v None) c.0 ∙ e))
  only_after name v m e (inl c) =
      let o = l.only name v m (sym (old_note name v c) ∙ e) in
      let other : o.index ≢ index = λ z.
      let place = same_Some o.place p (sym o.lies ∙ ap (slice_get w) z ∙ pl) in
      let from : p.unit ≤ v = subst (λ q. q.unit ≤ v) place o.from in
      let below : v < p.unit + units p.size = subst (λ q. v < q.unit + units q.size) place o.below in
      let same : p.name ≡ name = ap (λ q. q.name) (sym place) ∙ o.which in
      ⊎_elim (λ d. d same) (λ d. ⊎_elim (λ x. omega (arith, x, from)) (λ x. omega (arith, x, below)) d) c in
      record {
        index = o.index;
        head = o.head;
        place = o.place;
        there = get_other hs index o.index o.head (dead_head h) o.there other;
        lies = o.lies;
        live = o.live;
        note = o.note;
        which = o.which;
        from = o.from;
        below = o.below;
      }

  pub laid_died : Laid w left g
  laid_died = record {
    count = l.count ∙ sym (length-set hs index (dead_head h));
    births = is.births ∙ l.births ∙ sym (length-set hs index (dead_head h));
    numbers = let same = length-set hs index (dead_head h) in omega (arith, same, l.numbers);
    top = tight.top_is;
    sized = λ name. ap length (is.bytes name) ∙ l.sized name ∙ ap (λ z. 16 * z) (sym (long_stays name));
    marked = λ name. ap length (is.marks name) ∙ l.marked name ∙ ap (λ z. 16 * z) (sym (long_stays name));
    small = λ name. subst (λ z. 16 * z ≤ most_bytes name) (sym (long_stays name)) (l.small name);
    lain = λ a i q x y il.
        let r = lived hs index a h i at x il in
        let o = l.lain a i q r.0 y il in
        record { size = o.size; name = o.name; inside = subst (λ z. q.unit + units q.size ≤ z) (sym (long_stays q.name)) o.inside; placed = o.placed };
    tight = λ a i q x y on. let r = lived hs index a h i at x (and_parts i.live (is_stack i.kind) on).0 in l.tight a i q r.0 y on ∙ sym (tight.before a i r.0 on r.1);
    noted = λ a i q x y il j lt.
        let r = lived hs index a h i at x il in
        old_note q.name (q.unit + j) (apart_units q p j (l.apart a index i h q p r.1 r.0 at il live y pl) lt) ∙ l.noted a i q r.0 y il j lt;
    only = λ name v m e. only_after name v m e (where_is p.name name p.unit (units p.size) v);
    apart = λ a b i j q r ne x y il jl xq yr.
        let u = lived hs index a h i at x il in
        let v = lived hs index b h j at y jl in
        l.apart a b i j q r ne u.0 v.0 il jl xq yr;
  }

-- ---- the bytes

module _ (w : World) (m : Blocks) (f g : Flat) (h : Holds w m f) (index : ℕ) (k : Block) (p : Place) (at : slice_get m.store index ≡ Some k) (live : k.live ≡ true)
    (pl : slice_get w index ≡ Some p) (is : HasDied f g p.name p.unit p.size) (tight : StaysTight (heads m.store) index (head_of k) g.top) where
  held_still : (a : ℕ) (c : Block) (q : Place) → Held w q c f → Held w q c g
  held_still a c q o = record {
    size = o.size;
    bytes = λ i lt.
        subst (λ z. SameByte w (get_or c.bytes i Unwritten) (get_or z (16 * q.unit + i) shadow.Unwritten) (get_or (bytes_in g q.name) (16 * q.unit + i) 0)) (sym (is.marks q.name))
        (subst (λ z. SameByte w (get_or c.bytes i Unwritten) (get_or (marks_in f q.name) (16 * q.unit + i) shadow.Unwritten) (get_or z (16 * q.unit + i) 0)) (sym (is.bytes q.name)) (o.bytes i lt));
  }

  held_after : (a : ℕ) (c : Block) (q : Place) → ((a ≡ index) × (c ≡ dead_block k)) ⊎ ((a ≢ index) × (slice_get m.store a ≡ Some c)) → slice_get w a ≡ Some q → c.live ≡ true
      → Held w q c g
  held_after a c q (inl t) aq cl = absurd (false≢true (ap (λ z. z.live) (sym t.1) ∙ cl))
  held_after a c q (inr t) aq cl = held_still a c q (h.held a c q t.1 aq cl)

  pub died : Holds w (record m { store = set m.store index (dead_block k) }) g
  died = record {
    frames = h.frames ∙ sym is.frames;
    most = is.most_frames ∙ h.most;
    globals = long_stays w (heads m.store) f g h.laid index (head_of k) p (head_at m.store index k at) live pl is tight Globals ∙ h.globals;
    stack = long_stays w (heads m.store) f g h.laid index (head_of k) p (head_at m.store index k at) live pl is tight Stack ∙ h.stack;
    heap = long_stays w (heads m.store) f g h.laid index (head_of k) p (head_at m.store index k at) live pl is tight Heap ∙ h.heap;
    laid = subst (λ z. Laid w z g) (sym (heads_set m.store index (dead_block k))) (laid_died w (heads m.store) f g h.laid index (head_of k) p (head_at m.store index k at) live pl is tight);
    held = λ a c q e aq cl. held_after a c q (get_after_set m.store index a k (dead_block k) c at e) aq cl;
    together = λ a c e.
        ⊎_elim (λ t. subst (λ (z : Block). (length z.bytes ≡ z.size) × AreTogether z.bytes) (sym t.1) (h.together index k at)) (λ t. h.together a c t.1) (get_after_set m.store index a k (dead_block k) c at e);
  }
