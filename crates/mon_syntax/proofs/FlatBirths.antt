-- A birth in any region, of any kind: flat memory goes on to stand for the blocks.
use Rattle.std.proofs.Common.{◌≡◌, ◌≢◌, ℕ, suc, ◌+◌, ◌*◌, ◌<◌, ◌≤◌, ◌⊎◌, inl, inr, ⊎_elim, Bool, true, false, if◌then◌else◌, List, [], ◌∷◌, ◌++◌, length, Some, None, take, get_or}
use Rattle.std.proofs.Common.{slice_get, refl, sym, ap, ap₂, ◌∙◌, subst, arith, length-append}
use Rattle.std.proofs.lemmas.List.{take-append-le, take_at}
use Rattle.std.proofs.lemmas.Option.{same_Some, slice_get_within}
use Rattle.c_syntax.specs.declared.types.BlockKind.{BlockKind}
use Rattle.c_model.specs.Memory.{Unwritten, Block, is_stack, is_heap, greatest_number, rounded}
use Rattle.c_model.specs.Together.{AreTogether}
use Rattle.shadow_segments.specs.declared.BlockNote.{BlockNote}
use Rattle.shadow_segments.specs.Shadow as shadow
use Rattle.shadow_segments.specs.Shadow.{units, filled}
use Rattle.mon_syntax.specs.declared.spot.RegionName.{RegionName}
use Rattle.mon_syntax.specs.declared.spot.RegionName.TheVariants.{Globals, Stack, Heap}
use Rattle.mon_syntax.specs.Flat.{Flat, pointer_to}
use Rattle.mon_syntax.specs.BlockMemory.{Blocks}
use Rattle.mon_syntax.specs.FlatRelation.{region_of, most_bytes, Place, World, Later, PointsTo, SameByte, Head, head_of, heads, is_on_stack, units_taken, note_of, notes_in, marks_in, bytes_in, Apart, Lain, Owner, Laid, Held, Holds}
use Rattle.mon_syntax.proofs.FlatLists.{get_front, get_end, get_last, head_at, heads_append, length-heads, same_region}
use Rattle.mon_syntax.proofs.FlatNotes.{Elsewhere, where_is, apart_units, apart_bytes, units_stay, note_elsewhere, note_here}
use Rattle.mon_syntax.proofs.FlatWorlds.{byte_later}

-- ---- what a birth is

abbrev pub place_for : BlockKind → ℕ → ℕ → Place
place_for k u n = record { name = region_of k; unit = u; size = n }

abbrev pub head_for : BlockKind → ℕ → ℕ → Head
head_for k n stands = record { kind = k; size = n; live = true; place = stands }

-- a block of a kind and a size may be born at a unit: there is a number and room for it, it meets no live block, on the stack it stands at the top,
-- and on the heap where it says
pub record MayBeBorn (w : World) (hs : List Head) (f : Flat) (k : BlockKind) (u n stands : ℕ) : Type 0 where
  pub number : length hs < greatest_number
  pub room : u + units n ≤ length (notes_in f (region_of k))
  pub alone : (b : ℕ) (h : Head) (p : Place) → slice_get hs b ≡ Some h → slice_get w b ≡ Some p → h.live ≡ true → p.name ≡ region_of k
      → (p.unit + units p.size ≤ u) ⊎ (u + units n ≤ p.unit)
  pub on_top : is_stack k ≡ true → u ≡ units_taken hs
  pub placed : is_heap k ≡ true → u ≡ stands

-- the memory after the birth: its units have the record, and all other units and their bytes stay
pub record IsBorn (f g : Flat) (k : BlockKind) (u n : ℕ) : Type 0 where
  pub frames : g.frames ≡ f.frames
  pub most_frames : g.most_frames ≡ f.most_frames
  pub births : g.births ≡ f.births + 1
  pub top : g.top ≡ f.top + (if is_stack k then rounded n else 0)
  pub notes : notes_in g (region_of k) ≡ filled (notes_in f (region_of k)) u (units n) (Some (record { base = 16 * u; length = n; number = f.births + 1; kind = k }))
  pub other_notes : (name : RegionName) → region_of k ≢ name → notes_in g name ≡ notes_in f name
  pub bytes_long : (name : RegionName) → length (bytes_in g name) ≡ length (bytes_in f name)
  pub marks_long : (name : RegionName) → length (marks_in g name) ≡ length (marks_in f name)
  pub bytes : (name : RegionName) (i : ℕ) → Elsewhere (region_of k) (16 * u) (16 * units n) name i → get_or (bytes_in g name) i 0 ≡ get_or (bytes_in f name) i 0
  pub marks : (name : RegionName) (i : ℕ) → Elsewhere (region_of k) (16 * u) (16 * units n) name i
      → get_or (marks_in g name) i shadow.Unwritten ≡ get_or (marks_in f name) i shadow.Unwritten

-- ---- what is taken

pub taken-last : (hs : List Head) (h : Head) → units_taken (hs ++ h ∷ []) ≡ units_taken hs + (if is_on_stack h then units h.size else 0)
taken-last [] h = omega arith
taken-last (x ∷ hs) h = let e = taken-last hs h in omega (arith, e)

top_after : (t : Bool) (a b n : ℕ) → a ≡ 16 * b → a + (if t then rounded n else 0) ≡ 16 * (b + (if t then units n else 0))
top_after true a b n e = omega (arith, e)
top_after false a b n e = omega (arith, e)

turned : (p q : Place) → Apart p q → Apart q p
turned p q (inl ne) = inl (λ e. ne (sym e))
turned p q (inr (inl a)) = inr (inr a)
turned p q (inr (inr a)) = inr (inl a)

-- ---- all but the bytes

module _ (w : World) (hs : List Head) (f g : Flat) (k : BlockKind) (u n stands : ℕ) (l : Laid w hs f) (may : MayBeBorn w hs f k u n stands) (is : IsBorn f g k u n) where
  abbrev place : Place
  place = place_for k u n

  abbrev head : Head
  head = head_for k n stands

  abbrev grown : World
  grown = w ++ place ∷ []

  abbrev note : BlockNote
  note = record { base = 16 * u; length = n; number = f.births + 1; kind = k }

  -- a block of before, or the new one
  abbrev Was : ℕ → Head → Type 0
  Was b h = (slice_get hs b ≡ Some h) ⊎ ((b ≡ length hs) × (h ≡ head))

  pub long_stays : (name : RegionName) → length (notes_in g name) ≡ length (notes_in f name)
  long_stays name = units_stay f g (region_of k) u (units n) (Some note) is.notes is.other_notes name

  old_note : (name : RegionName) (v : ℕ) → Elsewhere (region_of k) u (units n) name v → get_or (notes_in g name) v None ≡ get_or (notes_in f name) v None
  old_note name v out = note_elsewhere f g (region_of k) u (units n) (Some note) is.notes is.other_notes name v out

  its_note : (v : ℕ) → u ≤ v → v < u + units n → get_or (notes_in g (region_of k)) v None ≡ Some note
  its_note v from below = note_here f g (region_of k) u (units n) (Some note) is.notes is.other_notes v may.room from below

  pub old_place : (b : ℕ) (h : Head) (p : Place) → slice_get hs b ≡ Some h → slice_get grown b ≡ Some p → slice_get w b ≡ Some p
  old_place b h p at pl =
      let lt = slice_get_within hs b h at in
      ⊎_elim (λ t. t) (λ t. let e = t.0 in absurd (omega (arith, lt, e, l.count))) (get_last w place b p pl)

  pub new_place : (b : ℕ) (p : Place) → b ≡ length hs → slice_get grown b ≡ Some p → p ≡ place
  new_place b p e pl = ⊎_elim (λ t. let lt = slice_get_within w b p t in absurd (omega (arith, lt, e, l.count))) (λ t. t.1) (get_last w place b p pl)

  pub apart_new : (b : ℕ) (h : Head) (p : Place) → slice_get hs b ≡ Some h → slice_get w b ≡ Some p → h.live ≡ true → Apart p place
  apart_new b h p at pl live = ⊎_elim (λ e. inr (may.alone b h p at pl live e)) (λ ne. inl ne) (same_region p.name (region_of k))

  lain_after : (b : ℕ) (h : Head) (p : Place) → Was b h → slice_get grown b ≡ Some p → h.live ≡ true → Lain p h g
  lain_after b h p (inl at) pl live =
      let o = l.lain b h p at (old_place b h p at pl) live in
      record { size = o.size; name = o.name; inside = subst (λ z. p.unit + units p.size ≤ z) (sym (long_stays p.name)) o.inside; placed = o.placed }
  lain_after b h p (inr e) pl live =
      subst (λ z. Lain z h g) (sym (new_place b p e.0 pl)) (subst (λ z. Lain place z g) (sym e.1) (record { size = refl; name = refl; inside = subst (λ z. u + units n ≤ z) (sym (long_stays (region_of k))) may.room; placed = may.placed }))

  tight_after : (b : ℕ) (h : Head) (p : Place) → Was b h → slice_get grown b ≡ Some p → is_on_stack h ≡ true → p.unit ≡ units_taken (take b (hs ++ head ∷ []))
  tight_after b h p (inl at) pl live =
      let lt = slice_get_within hs b h at in
      l.tight b h p at (old_place b h p at pl) live ∙ ap units_taken (sym (take-append-le b hs (head ∷ []) (omega (arith, lt))))
  tight_after b h p (inr e) pl live =
      ap (λ z. z.unit) (new_place b p e.0 pl) ∙ may.on_top (sym (ap is_on_stack e.1) ∙ live) ∙ ap units_taken (sym (take_at hs (head ∷ []) b (sym e.0)))

  note_is : note ≡ note_of (length hs) head place
  note_is = let number : f.births + 1 ≡ suc (length hs) = omega (arith, l.births) in ap (λ z. record { base = 16 * u; length = n; number = z; kind = k }) number

  noted_after : (b : ℕ) (h : Head) (p : Place) → Was b h → slice_get grown b ≡ Some p → h.live ≡ true → (i : ℕ) → i < units p.size
      → get_or (notes_in g p.name) (p.unit + i) None ≡ Some (note_of b h p)
  noted_after b h p (inl at) pl live i lt =
      let q = old_place b h p at pl in
      old_note p.name (p.unit + i) (apart_units p place i (apart_new b h p at q live) lt) ∙ l.noted b h p at q live i lt
  noted_after b h p (inr e) pl live i lt =
      let q = new_place b p e.0 pl in
      let less : i < units n = subst (λ z. i < units z.size) q lt in
      subst (λ z. get_or (notes_in g z.name) (z.unit + i) None ≡ Some (note_of b h z)) (sym q)
      (its_note (u + i) (omega arith) (omega (arith, less)) ∙ ap Some (note_is ∙ ap₂ (λ y z. note_of y z place) (sym e.0) (sym e.1)))

  only_after : (name : RegionName) (v : ℕ) (m : BlockNote) → get_or (notes_in g name) v None ≡ Some m
      → Elsewhere (region_of k) u (units n) name v ⊎ ((region_of k ≡ name) × ((u ≤ v) × (v < u + units n))) → Owner grown (hs ++ head ∷ []) name v m
  only_after name v m e (inl c) =
      let o = l.only name v m (sym (old_note name v c) ∙ e) in
      record {
        index = o.index;
        head = o.head;
        place = o.place;
        there = get_front hs (head ∷ []) o.index o.head o.there;
        lies = get_front w (place ∷ []) o.index o.place o.lies;
        live = o.live;
        note = o.note;
        which = o.which;
        from = o.from;
        below = o.below;
      }
  only_after name v m e (inr c) =
      let here = sym (its_note v c.1.0 c.1.1) ∙ ap (λ z. get_or (notes_in g z) v None) c.0 ∙ e in
      record {
        index = length hs;
        head = head;
        place = place;
        there = get_end hs head;
        lies = subst (λ z. slice_get grown z ≡ Some place) l.count (get_end w place);
        live = refl;
        note = sym (same_Some note m here) ∙ note_is;
        which = c.0;
        from = c.1.0;
        below = c.1.1;
      }

  apart_after : (a b : ℕ) (h i : Head) (p q : Place) → a ≢ b → Was a h → Was b i → h.live ≡ true → i.live ≡ true
      → slice_get grown a ≡ Some p → slice_get grown b ≡ Some q → Apart p q
  apart_after a b h i p q ne (inl x) (inl y) hl il ap' bq = l.apart a b h i p q ne x y hl il (old_place a h p x ap') (old_place b i q y bq)
  apart_after a b h i p q ne (inl x) (inr y) hl il ap' bq =
      subst (λ z. Apart p z) (sym (new_place b q y.0 bq)) (apart_new a h p x (old_place a h p x ap') hl)
  apart_after a b h i p q ne (inr x) (inl y) hl il ap' bq =
      subst (λ z. Apart z q) (sym (new_place a p x.0 ap')) (turned q place (apart_new b i q y (old_place b i q y bq) il))
  apart_after a b h i p q ne (inr x) (inr y) hl il ap' bq = absurd (ne (x.0 ∙ sym y.0))

  pub laid_born : Laid grown (hs ++ head ∷ []) g
  laid_born = record {
    count = let a = length-append w (place ∷ []) in let b = length-append hs (head ∷ []) in omega (arith, a, b, l.count);
    births = let b = length-append hs (head ∷ []) in omega (arith, b, l.births, is.births);
    numbers = let b = length-append hs (head ∷ []) in omega (arith, b, may.number);
    top = is.top ∙ top_after (is_stack k) f.top (units_taken hs) n l.top ∙ ap (λ z. 16 * z) (sym (taken-last hs head));
    sized = λ name. is.bytes_long name ∙ l.sized name ∙ ap (λ z. 16 * z) (sym (long_stays name));
    marked = λ name. is.marks_long name ∙ l.marked name ∙ ap (λ z. 16 * z) (sym (long_stays name));
    small = λ name. subst (λ z. 16 * z ≤ most_bytes name) (sym (long_stays name)) (l.small name);
    lain = λ b h p at pl live. lain_after b h p (get_last hs head b h at) pl live;
    tight = λ b h p at pl live. tight_after b h p (get_last hs head b h at) pl live;
    noted = λ b h p at pl live. noted_after b h p (get_last hs head b h at) pl live;
    only = λ name v m e. only_after name v m e (where_is (region_of k) name u (units n) v);
    apart = λ a b h i p q ne x y hl il ap' bq. apart_after a b h i p q ne (get_last hs head a h x) (get_last hs head b i y) hl il ap' bq;
  }

  -- the pointer to the start of the new block
  pub new_pointer : (number at : ℕ) → number ≡ length hs + 1 → at ≡ 16 * u → PointsTo grown number 0 (pointer_to (f.births + 1) (region_of k) at)
  new_pointer number at e a = record {
    index = length hs;
    place = place;
    is_number = omega (arith, e);
    there = subst (λ z. slice_get grown z ≡ Some place) l.count (get_end w place);
    small = omega (arith, e, may.number);
    inside = omega arith;
    within = let most = l.small (region_of k) in omega (arith, most, may.room);
    is = let b = l.births in omega (arith, b, e, a);
  }

-- ---- the bytes

module _ (w : World) (m : Blocks) (f g : Flat) (k : BlockKind) (u n stands : ℕ) (h : Holds w m f) (may : MayBeBorn w (heads m.store) f k u n stands) (is : IsBorn f g k u n) where
  abbrev place_new : Place
  place_new = place_for k u n

  abbrev world_new : World
  world_new = w ++ place_new ∷ []

  later : Later w world_new
  later = record { more = place_new ∷ []; is = refl }

  held_before : (b : ℕ) (c : Block) (p : Place) → slice_get m.store b ≡ Some c → slice_get w b ≡ Some p → c.live ≡ true → Held world_new p c g
  held_before b c p at pl live =
      let hd = head_at m.store b c at in
      let o = h.held b c p at pl live in
      let lain = (h.laid.lain b (head_of c) p hd pl live).size in
      let part = apart_new w (heads m.store) f g k u n stands h.laid may is b (head_of c) p hd pl live in
      record {
        size = o.size;
        bytes = λ i lt.
            let out = apart_bytes p place_new i part (omega (arith, lt, lain)) in
            subst (λ z. SameByte world_new (get_or c.bytes i Unwritten) z (get_or (bytes_in g p.name) (16 * p.unit + i) 0)) (sym (is.marks p.name (16 * p.unit + i) out))
            (subst (λ z. SameByte world_new (get_or c.bytes i Unwritten) (get_or (marks_in f p.name) (16 * p.unit + i) shadow.Unwritten) z) (sym (is.bytes p.name (16 * p.unit + i) out))
            (byte_later w world_new (get_or c.bytes i Unwritten) _ _ later (o.bytes i lt)));
      }

  held_after : (new : Block) → Held world_new place_new new g → (b : ℕ) (c : Block) (p : Place) → (slice_get m.store b ≡ Some c) ⊎ ((b ≡ length m.store) × (c ≡ new))
      → slice_get world_new b ≡ Some p → c.live ≡ true → Held world_new p c g
  held_after new own b c p (inl at) pl live =
      held_before b c p at (old_place w (heads m.store) f g k u n stands h.laid may is b (head_of c) p (head_at m.store b c at) pl) live
  held_after new own b c p (inr e) pl live =
      subst (λ z. Held world_new z c g) (sym (new_place w (heads m.store) f g k u n stands h.laid may is b p (e.0 ∙ sym (length-heads m.store)) pl))
      (subst (λ z. Held world_new place_new z g) (sym e.1) own)

  -- a block is born whose bytes are there
  pub born : (new : Block) → head_of new ≡ head_for k n stands → Held world_new place_new new g → AreTogether new.bytes → Holds world_new (record m { store = m.store ++ new ∷ [] }) g
  born new same own together = record {
    frames = h.frames ∙ sym is.frames;
    most = is.most_frames ∙ h.most;
    globals = long_stays w (heads m.store) f g k u n stands h.laid may is Globals ∙ h.globals;
    stack = long_stays w (heads m.store) f g k u n stands h.laid may is Stack ∙ h.stack;
    heap = long_stays w (heads m.store) f g k u n stands h.laid may is Heap ∙ h.heap;
    laid = subst (λ z. Laid world_new z g) (sym (heads_append m.store new ∙ ap (λ z. heads m.store ++ z ∷ []) same)) (laid_born w (heads m.store) f g k u n stands h.laid may is);
    held = λ b c p at pl live. held_after new own b c p (get_last m.store new b c at) pl live;
    together = λ b c at. ⊎_elim (λ t. h.together b c t) (λ t. subst (λ (z : Block). (length z.bytes ≡ z.size) × AreTogether z.bytes) (sym t.1) (own.size, together)) (get_last m.store new b c at);
  }
