-- Copies over blocks and over flat memory.
use Rattle.std.proofs.Common.{◌≡◌, ℕ, zero, suc, ◌+◌, ◌*◌, ◌<◌, ◌≤◌, inl, inr, ⊎_elim, ℤ, pos, Bool, true, false, not, ◌&&◌, nat_lt, if◌then◌else◌, List, [], ◌∷◌, length, map, take, drop, Option, Some, None, get_or}
use Rattle.std.proofs.Common.{slice_get, slice_set, refl, sym, ap, ap₂, ◌∙◌, subst, arith}
use Rattle.std.proofs.lemmas.Bool.{and_parts, and_from}
use Rattle.std.proofs.lemmas.List.{length-map, get_or-map}
use Rattle.c_model.specs.Memory.{Pointer, Null, Into, Value, Integer, Points, Byte, Unwritten, Number, Piece, LoosePiece, Block, is_accessible, is_literal, with_bytes, bytes_in, saved_block}
use Rattle.c_model.specs.Memory.{with_block, save_bytes, loosened, copied, copy, ◌>>=◌}
use Rattle.c_model.specs.Together.{FitAt}
use Rattle.c_model.proofs.Together.{copy_fits}
use Rattle.shadow_segments.specs.Shadow as shadow
use Rattle.shadow_segments.specs.Shadow.{Mark, PieceByte, LooseByte, taken_from}
use Rattle.shadow_segments.proofs.CopiedMarks.{length-put_from, put_outside, put_inside}
use Rattle.raw_seg.specs.Bytes as raw
use Rattle.mon_syntax.specs.declared.spot.Spot.TheVariants.{In}
use Rattle.mon_syntax.specs.declared.tree.CopySize.{CopySize}
use Rattle.mon_syntax.specs.declared.tree.CopySize.TheVariants.{One, Two, Four, Eight}
use Rattle.mon_syntax.specs.declared.tree.MemoryCall.TheVariants as call
use Rattle.mon_syntax.specs.Arithmetic.{copy_bytes}
use Rattle.mon_syntax.specs.Memory.{Reply, Gives}
use Rattle.mon_syntax.specs.Regions.{Region, fits_at, with_copy}
use Rattle.mon_syntax.specs.Flat.{Flat, region, with_region, with_region_if, copy_spots, flat_copy}
use Rattle.mon_syntax.specs.BlockMemory.{Blocks, becomes, copy_block}
use Rattle.mon_syntax.specs.FlatMemory.{pointer_in, changed, act_on_flat}
use Rattle.mon_syntax.specs.Following.{AllKept}
use Rattle.mon_syntax.specs.FlatRelation as relation
use Rattle.mon_syntax.specs.FlatRelation.{World, PointsTo, SamePointer, Same, SameByte, marks_in, Held, Holds}
use Rattle.mon_syntax.proofs.FlatEntries.{length-replaced, replaced_inside, replaced_outside}
use Rattle.mon_syntax.proofs.FlatWritten as written
use Rattle.mon_syntax.proofs.FlatWritten.{Written, Changed, region_same, written_holds}
use Rattle.mon_syntax.proofs.FlatWorlds.{later_refl}
use Rattle.mon_syntax.proofs.FlatFrames.{Answers}
use Rattle.mon_syntax.proofs.FlatPointers.{spot_of_pointer}
use Rattle.mon_syntax.proofs.FlatAddresses.{lies, pointer_is}
use Rattle.mon_syntax.proofs.FlatLoads.{length-part, part_at}
use Rattle.mon_syntax.proofs.FlatAccesses.{IsWide, Accessed, accessed}

copy_wide : (a : CopySize) → IsWide (copy_bytes a)
copy_wide One u off e = omega arith
copy_wide Two u off e = omega (arith, e)
copy_wide Four u off e = omega (arith, e)
copy_wide Eight u off e = omega (arith, e)

copy_few : (a : CopySize) → copy_bytes a ≤ 8
copy_few One = omega arith
copy_few Two = omega arith
copy_few Four = omega arith
copy_few Eight = omega arith

-- ---- bytes that are copied

-- a byte becomes loose where its mark does
byte_loosened : (w : World) (y : Byte) (mark : Mark) (x n : ℕ) → SameByte w y mark x → SameByte w (if nat_lt n 8 then loosened y else y) (shadow.loosened n mark) x
byte_loosened w Unwritten mark x n s = by (nat_lt n 8)
  where
    by : (t : Bool) → SameByte w (if t then Unwritten else Unwritten) (shadow.loosened n mark) x
    by true = ap (shadow.loosened n) s
    by false = ap (shadow.loosened n) s
byte_loosened w (Number b) mark x n s = by (nat_lt n 8)
  where
    by : (t : Bool) → SameByte w (if t then Number b else Number b) (shadow.loosened n mark) x
    by true = (ap (shadow.loosened n) s.0, s.1, s.2)
    by false = (ap (shadow.loosened n) s.0, s.1, s.2)
byte_loosened w (Piece p k) mark x n s = subst (λ z. SameByte w (if nat_lt n 8 then LoosePiece else Piece p k) (shadow.loosened n z) x) (sym s.0) (by (nat_lt n 8))
  where
    by : (t : Bool) → SameByte w (if t then LoosePiece else Piece p k) (if t then LooseByte else PieceByte) x
    by true = refl
    by false = (refl, s.1, s.2, s.3)
byte_loosened w LoosePiece mark x n s = by (nat_lt n 8)
  where
    by : (t : Bool) → SameByte w (if t then LoosePiece else LoosePiece) (shadow.loosened n mark) x
    by true = ap (shadow.loosened n) s
    by false = ap (shadow.loosened n) s

length-copied : (ys : List Byte) → length (copied ys) ≡ length ys
length-copied ys = by (nat_lt (length ys) 8)
  where
    by : (t : Bool) → length (if t then map loosened ys else ys) ≡ length ys
    by true = length-map ys loosened
    by false = refl

copied_at : (ys : List Byte) (i : ℕ) → i < length ys → get_or (copied ys) i Unwritten ≡ (if nat_lt (length ys) 8 then loosened (get_or ys i Unwritten) else get_or ys i Unwritten)
copied_at ys i lt = by (nat_lt (length ys) 8)
  where
    by : (t : Bool) → get_or (if t then map loosened ys else ys) i Unwritten ≡ (if t then loosened (get_or ys i Unwritten) else get_or ys i Unwritten)
    by true = get_or-map loosened ys i Unwritten Unwritten lt
    by false = refl

-- ---- a region after a copy

module _ (r : Region) (at n : ℕ) (bytes : List ℕ) (marks : ℕ → Mark) (long : length bytes ≡ n) (in_bytes : at + n ≤ length r.bytes) (in_marks : at + n ≤ length r.shadow.marks) where
  room : at + length bytes ≤ length r.bytes
  room = omega (arith, long, in_bytes)

  copy_written : Written r (with_copy r at n bytes marks) at n
  copy_written = record {
    notes = refl;
    bytes_long = length-replaced r.bytes at bytes room;
    marks_long = length-put_from r.shadow.marks at marks n;
    bytes = λ i o. replaced_outside r.bytes at bytes room i 0 (⊎_elim (λ b. inl b) (λ a. inr (omega (arith, a, long))) o);
    marks = λ i o. put_outside r.shadow.marks at marks n i shadow.Unwritten o;
  }

  copy_byte : (i : ℕ) → i < n → get_or (with_copy r at n bytes marks).bytes (at + i) 0 ≡ get_or bytes i 0
  copy_byte i lt = replaced_inside r.bytes at bytes room i 0 (omega (arith, long, lt))

  copy_mark : (i : ℕ) → i < n → get_or (with_copy r at n bytes marks).shadow.marks (at + i) shadow.Unwritten ≡ marks i
  copy_mark i lt = put_inside r.shadow.marks at marks n i (at + i) shadow.Unwritten in_marks lt refl

-- ---- the copy

-- from an offset in one block to an offset in another, which may be the same one
module _ (w : World) (m : Blocks) (f : Flat) (h : Holds w m f) (n index off x source from y : ℕ) (wide : IsWide n) (few : n ≤ 8) (q : PointsTo w (suc index) off x) (r : PointsTo w (suc source) from y)
    (c : Block) (there : slice_get m.store source ≡ Some c) (read : Accessed f c r.place from n) where
  abbrev first : ℕ
  first = 16 * r.place.unit + from

  abbrev bytes : List ℕ
  bytes = raw.bytes_at (relation.bytes_in f r.place.name) first n

  abbrev marks : ℕ → Mark
  marks = taken_from (marks_in f r.place.name) first n

  abbrev taken : List Byte
  taken = take n (drop from c.bytes)

  abbrev to : ℕ
  to = 16 * q.place.unit + off

  abbrev written_region : Region
  written_region = with_copy (region f q.place.name) to n bytes marks

  abbrev after : Flat
  after = with_region f q.place.name written_region

  source_held : Held w r.place c f
  source_held = h.held source c r.place there (lies w source from y r) read.live

  length-bytes : length bytes ≡ n
  length-bytes = length-part (relation.bytes_in f r.place.name) first n read.in_bytes

  length-taken : length taken ≡ n
  length-taken = length-part c.bytes from n (let room = read.room in let size = source_held.size in omega (arith, room, size))

  length-put : length (copied taken) ≡ n
  length-put = length-copied taken ∙ length-taken

  -- a byte that is put, with its mark
  byte_same : (i : ℕ) → i < n → SameByte w (get_or (copied taken) i Unwritten) (marks i) (get_or bytes i 0)
  byte_same i lt =
      let place : 16 * r.place.unit + (from + i) ≡ first + i = omega arith in
      let byte = get_or c.bytes (from + i) Unwritten in
      let held : SameByte w byte (get_or (marks_in f r.place.name) (first + i) shadow.Unwritten) (get_or (relation.bytes_in f r.place.name) (first + i) 0) =
      subst (λ z. SameByte w byte (get_or (marks_in f r.place.name) z shadow.Unwritten) (get_or (relation.bytes_in f r.place.name) z 0)) place
      (source_held.bytes (from + i) (let room = read.room in omega (arith, room, lt))) in
      let put : get_or (copied taken) i Unwritten ≡ (if nat_lt n 8 then loosened byte else byte) =
      copied_at taken i (omega (arith, lt, length-taken)) ∙ ap₂ (λ k z. if nat_lt k 8 then loosened z else z) length-taken (part_at c.bytes from n i Unwritten lt) in
      subst (λ z. SameByte w z (marks i) (get_or bytes i 0)) (sym put)
      (subst (λ z. SameByte w (if nat_lt n 8 then loosened byte else byte) (marks i) z) (sym (part_at (relation.bytes_in f r.place.name) first n i 0 lt))
      (byte_loosened w byte (get_or (marks_in f r.place.name) (first + i) shadow.Unwritten) (get_or (relation.bytes_in f r.place.name) (first + i) 0) n held))

  copied_fit : (b : Block) → Accessed f b q.place off n → FitAt off (copied taken)
  copied_fit b a = copy_fits c.bytes from off n (h.together source c there).1 (let room = read.room in let size = source_held.size in omega (arith, room, size)) few read.aligned a.aligned

  copy_holds : (b : Block) → slice_get m.store index ≡ Some b → Accessed f b q.place off n → Holds w (record m { store = slice_set m.store index (with_bytes b off (copied taken)) }) after
  copy_holds b at a =
      let name = q.place.name in
      let change : Changed f after name to n = written.changed f name written_region to n (copy_written (region f name) to n bytes marks length-bytes a.in_bytes a.in_marks) in
      written_holds w m f after h index b q.place off (copied taken) (copied_fit b a) at a.live (lies w index off x q) (let l = length-put in let i = a.room in omega (arith, l, i)) (subst (Changed f after name to) (sym length-put) change)
      (λ i lt.
      let below : i < n = let l = length-put in omega (arith, l, lt) in
      let mark : marks i ≡ get_or (marks_in after name) (to + i) shadow.Unwritten =
      sym (ap (λ z. get_or z.shadow.marks (to + i) shadow.Unwritten) (region_same f name written_region) ∙ copy_mark (region f name) to n bytes marks length-bytes a.in_bytes a.in_marks i below) in
      let byte : get_or bytes i 0 ≡ get_or (relation.bytes_in after name) (to + i) 0 =
      sym (ap (λ z. get_or z.bytes (to + i) 0) (region_same f name written_region) ∙ copy_byte (region f name) to n bytes marks length-bytes a.in_bytes a.in_marks i below) in
      subst (λ z. SameByte w (get_or (copied taken) i Unwritten) z (get_or (relation.bytes_in after name) (to + i) 0)) mark (subst (λ z. SameByte w (get_or (copied taken) i Unwritten) (marks i) z) byte (byte_same i below)))

  copy_by : (b : Block) → slice_get m.store index ≡ Some b → (t : Bool) → (is_accessible b off n && not (is_literal b.kind)) ≡ t
      → Answers w (becomes m (with_block m.store index (if t then Some (with_bytes b off (copied taken)) else None))) (changed (flat_copy f x y n))
  copy_by b at false e = tt
  copy_by b at true e =
      let a : Accessed f b q.place off n = accessed w m f index off n b q.place h wide at (lies w index off x q) (and_parts (is_accessible b off n) (not (is_literal b.kind)) e).0 in
      let s = record m { store = slice_set m.store index (with_bytes b off (copied taken)) } in
      let both : (fits_at (region f r.place.name) first n && fits_at (region f q.place.name) to n) ≡ true = and_from _ _ read.fits a.fits in
      let spots : flat_copy f x y n ≡ copy_spots f (In q.place.name to) (In r.place.name first) n = ap₂ (λ u v. copy_spots f u v n) (spot_of_pointer w (suc index) off x q) (spot_of_pointer w (suc source) from y r) in
      let put : flat_copy f x y n ≡ Some after = spots ∙ ap (λ z. with_region_if f q.place.name (if z then Some written_region else None)) both in
      subst (λ z. Answers w (Gives (Integer (pos 0)) s) (changed z)) (sym put) (w, later_refl w, refl, copy_holds b at a)

  copy_to : (o : Option Block) → slice_get m.store index ≡ o → Answers w (becomes m (with_block m.store index (saved_block o off n (copied taken)))) (changed (flat_copy f x y n))
  copy_to None at = tt
  copy_to (Some b) at = copy_by b at (is_accessible b off n && not (is_literal b.kind)) refl

  pub copied_inside : Answers w (becomes m (save_bytes m.store (Into (suc index) off) n (copied taken))) (changed (flat_copy f x y n))
  copied_inside = copy_to (slice_get m.store index) refl

-- the bytes can be read; the target may be any pointer
copied_bytes : (w : World) (m : Blocks) (f : Flat) (p : Pointer) (n x source from y : ℕ) → Holds w m f → IsWide n → n ≤ 8 → SamePointer w p x → (r : PointsTo w (suc source) from y)
    → (c : Block) → slice_get m.store source ≡ Some c → Accessed f c r.place from n → Answers w (becomes m (save_bytes m.store p n (copied (take n (drop from c.bytes))))) (changed (flat_copy f x y n))
copied_bytes w m f Null n x source from y h wide few q r c there a = tt
copied_bytes w m f (Into zero off) n x source from y h wide few q r c there a = tt
copied_bytes w m f (Into (suc index) off) n x source from y h wide few q r c there a = copied_inside w m f h n index off x source from y wide few q r c there a

-- what is copied where so many bytes are read
abbrev put_at : Blocks → Pointer → ℕ → Option (List Byte) → Reply Blocks Value
put_at m p n o = becomes m (o >>= λ bytes. save_bytes m.store p n (copied bytes))

module _ (w : World) (m : Blocks) (f : Flat) (p : Pointer) (n x source from y : ℕ) (h : Holds w m f) (wide : IsWide n) (few : n ≤ 8) (q : SamePointer w p x) (r : PointsTo w (suc source) from y) where
  copy_from_by : (c : Block) → slice_get m.store source ≡ Some c → (t : Bool) → is_accessible c from n ≡ t
      → Answers w (put_at m p n (if t then Some (take n (drop from c.bytes)) else None)) (changed (flat_copy f x y n))
  copy_from_by c at false e = tt
  copy_from_by c at true e = copied_bytes w m f p n x source from y h wide few q r c at (accessed w m f source from n c r.place h wide at (lies w source from y r) e)

  copy_from : (o : Option Block) → slice_get m.store source ≡ o → Answers w (put_at m p n (bytes_in o from n)) (changed (flat_copy f x y n))
  copy_from None at = tt
  copy_from (Some c) at = copy_from_by c at (is_accessible c from n) refl

-- where blocks copy so many bytes, flat memory does
copied_alike : (w : World) (m : Blocks) (f : Flat) (p q : Pointer) (n x y : ℕ) → Holds w m f → IsWide n → n ≤ 8 → SamePointer w p x → SamePointer w q y
    → Answers w (becomes m (copy m.store p q n)) (changed (flat_copy f x y n))
copied_alike w m f p Null n x y h wide few s r = tt
copied_alike w m f p (Into zero from) n x y h wide few s r = tt
copied_alike w m f p (Into (suc source) from) n x y h wide few s r = copy_from w m f p n x source from y h wide few s r (slice_get m.store source) refl

pub copy_alike : (w : World) (a : CopySize) (xs : List Value) (ys : List ℤ) (m : Blocks) (f : Flat) → AllKept (Same w) xs ys → Holds w m f
    → Answers w (copy_block a xs m) (act_on_flat (call.Copy a) ys f)
copy_alike w a (Points p ∷ Points q ∷ []) (y ∷ z ∷ []) m f k h =
    subst (λ i. Answers w (becomes m (copy m.store p q (copy_bytes a))) (changed (flat_copy f i (pointer_in z) (copy_bytes a)))) (sym (ap pointer_in k.0.1 ∙ pointer_is w p k.0.0 k.0.2))
    (subst (λ i. Answers w (becomes m (copy m.store p q (copy_bytes a))) (changed (flat_copy f k.0.0 i (copy_bytes a)))) (sym (ap pointer_in k.1.0.1 ∙ pointer_is w q k.1.0.0 k.1.0.2))
    (copied_alike w m f p q (copy_bytes a) k.0.0 k.1.0.0 h (copy_wide a) (copy_few a) k.0.2 k.1.0.2))
copy_alike w a (Points p ∷ Points q ∷ []) [] m f k h = absurd k
copy_alike w a (Points p ∷ Points q ∷ []) (y ∷ []) m f k h = absurd k.1
copy_alike w a (Points p ∷ Points q ∷ []) (y ∷ z ∷ v ∷ ys) m f k h = absurd k.1.1
copy_alike w a xs ys m f k h = tt
