-- Some bytes of one live block are written: flat memory goes on to stand for the blocks.
use Rattle.std.proofs.Common.{◌≡◌, ◌≢◌, ℕ, ◌+◌, ◌*◌, ◌-◌, ◌<◌, ◌≤◌, ◌⊎◌, inl, inr, ⊎_elim, true, List, length, Some, None, get_or, slice_get, slice_set, refl, sym, ap, ◌∙◌, subst, arith}
use Rattle.std.proofs.lemmas.Option.{same_Some}
use Rattle.std.proofs.lemmas.Bool.{cases_lt}
use Rattle.c_model.specs.Memory.{Byte, Unwritten, Block, with_bytes}
use Rattle.c_model.specs.Together.{AreTogether, FitAt}
use Rattle.c_model.proofs.Together.{together_written}
use Rattle.shadow_segments.specs.Shadow as shadow
use Rattle.shadow_segments.specs.Shadow.{units}
use Rattle.mon_syntax.specs.declared.spot.RegionName.{RegionName}
use Rattle.mon_syntax.specs.declared.spot.RegionName.TheVariants.{Globals, Stack, Heap}
use Rattle.mon_syntax.specs.Regions.{Region}
use Rattle.mon_syntax.specs.Flat.{Flat, region, with_region}
use Rattle.mon_syntax.specs.BlockMemory.{Blocks}
use Rattle.mon_syntax.specs.FlatRelation.{most_bytes, Place, World, SameByte, Head, head_of, heads, notes_in, marks_in, bytes_in, Apart, Lain, Laid, Held, Holds}
use Rattle.mon_syntax.proofs.FlatLists.{get_after_set, head_at, heads_stay, same_region}
use Rattle.mon_syntax.proofs.FlatEntries.{length-replaced, replaced_inside, replaced_outside}

-- ---- what is written, of a region and of the memory

abbrev pub Outside : ℕ → ℕ → ℕ → Type 0
Outside at n i = (i < at) ⊎ (at + n ≤ i)

-- all of a region stays but so many bytes, with their marks, from a place on
pub record Written (r s : Region) (at n : ℕ) : Type 0 where
  pub notes : s.shadow.notes ≡ r.shadow.notes
  pub bytes_long : length s.bytes ≡ length r.bytes
  pub marks_long : length s.shadow.marks ≡ length r.shadow.marks
  pub bytes : (i : ℕ) → Outside at n i → get_or s.bytes i 0 ≡ get_or r.bytes i 0
  pub marks : (i : ℕ) → Outside at n i → get_or s.shadow.marks i shadow.Unwritten ≡ get_or r.shadow.marks i shadow.Unwritten

-- all of the memory stays but so many bytes of one region
pub record Changed (f g : Flat) (name : RegionName) (at n : ℕ) : Type 0 where
  pub frames : g.frames ≡ f.frames
  pub most_frames : g.most_frames ≡ f.most_frames
  pub births : g.births ≡ f.births
  pub top : g.top ≡ f.top
  pub notes : (other : RegionName) → notes_in g other ≡ notes_in f other
  pub bytes_long : (other : RegionName) → length (bytes_in g other) ≡ length (bytes_in f other)
  pub marks_long : (other : RegionName) → length (marks_in g other) ≡ length (marks_in f other)
  pub bytes : (other : RegionName) (i : ℕ) → (name ≢ other) ⊎ Outside at n i → get_or (bytes_in g other) i 0 ≡ get_or (bytes_in f other) i 0
  pub marks : (other : RegionName) (i : ℕ) → (name ≢ other) ⊎ Outside at n i
      → get_or (marks_in g other) i shadow.Unwritten ≡ get_or (marks_in f other) i shadow.Unwritten

-- ---- regions of a memory with another region

pub region_same : (f : Flat) (name : RegionName) (s : Region) → region (with_region f name s) name ≡ s
region_same f Globals s = refl
region_same f Stack s = refl
region_same f Heap s = refl

pub region_other : (f : Flat) (name other : RegionName) (s : Region) → name ≢ other → region (with_region f name s) other ≡ region f other
region_other f Globals Globals s ne = absurd (ne refl)
region_other f Globals Stack s ne = refl
region_other f Globals Heap s ne = refl
region_other f Stack Globals s ne = refl
region_other f Stack Stack s ne = absurd (ne refl)
region_other f Stack Heap s ne = refl
region_other f Heap Globals s ne = refl
region_other f Heap Stack s ne = refl
region_other f Heap Heap s ne = absurd (ne refl)

-- what holds of the new region and of each old one holds of each
pub region_any : (Q : RegionName → Region → Type 0) (f : Flat) (name : RegionName) (s : Region) → Q name s
    → ((other : RegionName) → name ≢ other → Q other (region f other)) → (other : RegionName) → Q other (region (with_region f name s) other)
region_any Q f name s new old other =
    ⊎_elim (λ e. subst (λ z. Q z (region (with_region f name s) z)) e (subst (Q name) (sym (region_same f name s)) new))
    (λ ne. subst (Q other) (sym (region_other f name other s ne)) (old other ne)) (same_region name other)

changed_at : (f : Flat) (name : RegionName) (s : Region)
    → ((with_region f name s).frames ≡ f.frames) × ((with_region f name s).most_frames ≡ f.most_frames) × ((with_region f name s).births ≡ f.births) × ((with_region f name s).top ≡ f.top)
changed_at f Globals s = (refl, refl, refl, refl)
changed_at f Stack s = (refl, refl, refl, refl)
changed_at f Heap s = (refl, refl, refl, refl)

pub changed : (f : Flat) (name : RegionName) (s : Region) (at n : ℕ) → Written (region f name) s at n → Changed f (with_region f name s) name at n
changed f name s at n w = record {
  frames = (changed_at f name s).0;
  most_frames = (changed_at f name s).1;
  births = (changed_at f name s).2;
  top = (changed_at f name s).3;
  notes = region_any (λ g r. r.shadow.notes ≡ notes_in f g) f name s w.notes (λ g ne. refl);
  bytes_long = region_any (λ g r. length r.bytes ≡ length (bytes_in f g)) f name s w.bytes_long (λ g ne. refl);
  marks_long = region_any (λ g r. length r.shadow.marks ≡ length (marks_in f g)) f name s w.marks_long (λ g ne. refl);
  bytes = λ other i o. region_any (λ g r. ((name ≢ g) ⊎ Outside at n i) → get_or r.bytes i 0 ≡ get_or (bytes_in f g) i 0) f name s
      (λ out. ⊎_elim (λ ne. absurd (ne refl)) (λ away. w.bytes i away) out) (λ g ne out. refl) other o;
  marks = λ other i o. region_any (λ g r. ((name ≢ g) ⊎ Outside at n i) → get_or r.shadow.marks i shadow.Unwritten ≡ get_or (marks_in f g) i shadow.Unwritten) f name s
      (λ out. ⊎_elim (λ ne. absurd (ne refl)) (λ away. w.marks i away) out) (λ g ne out. refl) other o;
}

-- ---- all but the bytes stays

pub laid_stays : (w : World) (hs : List Head) (f g : Flat) (name : RegionName) (at n : ℕ) → Changed f g name at n → Laid w hs f → Laid w hs g
laid_stays w hs f g name at n c l = record {
  count = l.count;
  births = c.births ∙ l.births;
  numbers = l.numbers;
  top = c.top ∙ l.top;
  sized = λ r. c.bytes_long r ∙ l.sized r ∙ ap (λ z. 16 * length z) (sym (c.notes r));
  marked = λ r. c.marks_long r ∙ l.marked r ∙ ap (λ z. 16 * length z) (sym (c.notes r));
  small = λ r. subst (λ z. 16 * length z ≤ most_bytes r) (sym (c.notes r)) (l.small r);
  lain = λ b h p at pl live.
      let o = l.lain b h p at pl live in
      record { size = o.size; name = o.name; inside = subst (λ z. p.unit + units p.size ≤ length z) (sym (c.notes p.name)) o.inside; placed = o.placed };
  tight = l.tight;
  noted = λ b h p at pl live i lt. ap (λ z. get_or z (p.unit + i) None) (c.notes p.name) ∙ l.noted b h p at pl live i lt;
  only = λ r u x e. l.only r u x (ap (λ z. get_or z u None) (sym (c.notes r)) ∙ e);
  apart = l.apart;
}

-- ---- the bytes of blocks

-- bytes of blocks that lie apart are different bytes: byte j of the second is none of those from `off` on of the first
apart_bytes : (p q : Place) (off n j : ℕ) → Apart p q → off + n ≤ p.size → j < q.size → (p.name ≢ q.name) ⊎ Outside (16 * p.unit + off) n (16 * q.unit + j)
apart_bytes p q off n j (inl ne) le lt = inl ne
apart_bytes p q off n j (inr (inl d)) le lt = inr (inr (omega (arith, d, le, lt)))
apart_bytes p q off n j (inr (inr d)) le lt = inr (inl (omega (arith, d, le, lt)))

-- the block with this index lives at its place, and these bytes of it are written
module _ (w : World) (m : Blocks) (f g : Flat) (h : Holds w m f) (index : ℕ) (b : Block) (p : Place) (off : ℕ) (ys : List Byte) (fit : FitAt off ys)
    (at : slice_get m.store index ≡ Some b) (live : b.live ≡ true) (pl : slice_get w index ≡ Some p) (room : off + length ys ≤ b.size)
    (c : Changed f g p.name (16 * p.unit + off) (length ys))
    (here : (i : ℕ) → i < length ys
    → SameByte w (get_or ys i Unwritten) (get_or (marks_in g p.name) (16 * p.unit + off + i) shadow.Unwritten) (get_or (bytes_in g p.name) (16 * p.unit + off + i) 0)) where
  lain : Lain p (head_of b) f
  lain = h.laid.lain index (head_of b) p (head_at m.store index b at) pl live

  was_held : Held w p b f
  was_held = h.held index b p at pl live

  room_in_bytes : off + length ys ≤ length b.bytes
  room_in_bytes = let l = was_held.size in omega (arith, l, room)

  -- a byte that isn't written
  stays : (q : Place) (y : Byte) (j : ℕ) → (p.name ≢ q.name) ⊎ Outside (16 * p.unit + off) (length ys) (16 * q.unit + j)
      → SameByte w y (get_or (marks_in f q.name) (16 * q.unit + j) shadow.Unwritten) (get_or (bytes_in f q.name) (16 * q.unit + j) 0)
      → SameByte w y (get_or (marks_in g q.name) (16 * q.unit + j) shadow.Unwritten) (get_or (bytes_in g q.name) (16 * q.unit + j) 0)
  stays q y j out s =
      subst (λ z. SameByte w y z (get_or (bytes_in g q.name) (16 * q.unit + j) 0)) (sym (c.marks q.name (16 * q.unit + j) out))
      (subst (λ z. SameByte w y (get_or (marks_in f q.name) (16 * q.unit + j) shadow.Unwritten) z) (sym (c.bytes q.name (16 * q.unit + j) out)) s)

  -- a byte of the block
  byte : (i : ℕ) → i < b.size → (i < off) ⊎ (off ≤ i) → (i < off + length ys) ⊎ (off + length ys ≤ i)
      → SameByte w (get_or (with_bytes b off ys).bytes i Unwritten) (get_or (marks_in g p.name) (16 * p.unit + i) shadow.Unwritten) (get_or (bytes_in g p.name) (16 * p.unit + i) 0)
  byte i lt (inl before) o =
      subst (λ z. SameByte w z (get_or (marks_in g p.name) (16 * p.unit + i) shadow.Unwritten) (get_or (bytes_in g p.name) (16 * p.unit + i) 0)) (sym (replaced_outside b.bytes off ys room_in_bytes i Unwritten (inl before)))
      (stays p (get_or b.bytes i Unwritten) i (inr (inl (omega (arith, before)))) (was_held.bytes i lt))
  byte i lt (inr from) (inr behind) =
      subst (λ z. SameByte w z (get_or (marks_in g p.name) (16 * p.unit + i) shadow.Unwritten) (get_or (bytes_in g p.name) (16 * p.unit + i) 0)) (sym (replaced_outside b.bytes off ys room_in_bytes i Unwritten (inr behind)))
      (stays p (get_or b.bytes i Unwritten) i (inr (inr (omega (arith, behind)))) (was_held.bytes i lt))
  byte i lt (inr from) (inl below) =
      let j : ℕ = i - off in
      let is : off + j ≡ i = omega (arith, from) in
      let less : j < length ys = omega (arith, from, below) in
      let place : 16 * p.unit + off + j ≡ 16 * p.unit + i = omega (arith, from) in
      let same : get_or ys j Unwritten ≡ get_or (with_bytes b off ys).bytes i Unwritten = sym (ap (λ z. get_or (with_bytes b off ys).bytes z Unwritten) (sym is) ∙ replaced_inside b.bytes off ys room_in_bytes j Unwritten less) in
      subst (λ z. SameByte w z (get_or (marks_in g p.name) (16 * p.unit + i) shadow.Unwritten) (get_or (bytes_in g p.name) (16 * p.unit + i) 0)) same
      (subst (λ z. SameByte w (get_or ys j Unwritten) (get_or (marks_in g p.name) z shadow.Unwritten) (get_or (bytes_in g p.name) z 0)) place (here j less))

  held_after : (a : ℕ) (l : Block) (q : Place) → ((a ≡ index) × (l ≡ with_bytes b off ys)) ⊎ ((a ≢ index) × (slice_get m.store a ≡ Some l)) → slice_get w a ≡ Some q → l.live ≡ true → Held w q l g
  held_after a l q (inl t) aq ll =
      subst (λ z. Held w z l g) (sym (same_Some q p (sym aq ∙ ap (slice_get w) t.0 ∙ pl)))
      (subst (λ z. Held w p z g) (sym t.1) (record {
        size = length-replaced b.bytes off ys room_in_bytes ∙ was_held.size;
        bytes = λ i lt. byte i lt (cases_lt i off) (cases_lt i (off + length ys));
      }))
  held_after a l q (inr t) aq ll =
      let o = h.held a l q t.1 aq ll in
      let size = (h.laid.lain a (head_of l) q (head_at m.store a l t.1) aq ll).size in
      let part = h.laid.apart index a (head_of b) (head_of l) p q (λ z. t.0 (sym z)) (head_at m.store index b at) (head_at m.store a l t.1) live ll pl aq in
      let mine = lain.size in
      record {
        size = o.size;
        bytes = λ i lt. stays q (get_or l.bytes i Unwritten) i (apart_bytes p q off (length ys) i part (omega (arith, mine, room)) (omega (arith, size, lt))) (o.bytes i lt);
      }

  together_after : (length (with_bytes b off ys).bytes ≡ b.size) × AreTogether (with_bytes b off ys).bytes
  together_after = (length-replaced b.bytes off ys room_in_bytes ∙ was_held.size, together_written b.bytes ys off (h.together index b at).1 fit room_in_bytes)

  pub written_holds : Holds w (record m { store = slice_set m.store index (with_bytes b off ys) }) g
  written_holds = record {
    frames = h.frames ∙ sym c.frames;
    most = c.most_frames ∙ h.most;
    globals = ap length (c.notes Globals) ∙ h.globals;
    stack = ap length (c.notes Stack) ∙ h.stack;
    heap = ap length (c.notes Heap) ∙ h.heap;
    laid = subst (λ z. Laid w z g) (sym (heads_stay m.store index b (with_bytes b off ys) at refl)) (laid_stays w (heads m.store) f g p.name (16 * p.unit + off) (length ys) c h.laid);
    held = λ a l q al aq ll. held_after a l q (get_after_set m.store index a b (with_bytes b off ys) l at al) aq ll;
    together = λ a l al.
        ⊎_elim (λ t. subst (λ (z : Block). (length z.bytes ≡ z.size) × AreTogether z.bytes) (sym t.1) together_after) (λ t. h.together a l t.1) (get_after_set m.store index a b (with_bytes b off ys) l at al);
  }
