-- A range of bytes at an offset from a pointer is found alike over blocks and over flat memory, for live and for dead pointers.
use Rattle.std.proofs.Common.{◌≡◌, ℕ, suc, ◌+◌, ◌-◌, ◌*◌, ◌%◌, ◌<◌, ◌≤◌, ◌⊎◌, inl, inr, ℤ, pos, negsuc, ◌+ℤ◌, Bool, true, false, ◌&&◌, if◌then◌else◌, nat_eq, nat_le}
use Rattle.std.proofs.Common.{List, [], ◌∷◌, length, take, drop, Option, Some, None, get_or, slice_get, refl, sym, ap, ap₂, ◌∙◌, arith}
use Rattle.std.proofs.lemmas.Bool.{cases_lt, le-leb, lt-leb, leb-true, eqb-true, and_parts}
use Rattle.std.proofs.lemmas.Int.{ints}
use Rattle.c_model.specs.Memory.{Byte, Unwritten, Number, Piece, LoosePiece, Block}
use Rattle.shadow_segments.specs.Shadow as shadow
use Rattle.shadow_segments.specs.Shadow.{Mark, is_number, is_piece, is_written, all_in}
use Rattle.mon_syntax.specs.BlockMemory.{Blocks}
use Rattle.c_model.specs.MemoryQuestions.{from_start, part, part_in, is_written_byte, is_number_byte, is_piece_byte, all_bytes}
use Rattle.mon_syntax.specs.Flat.{Flat, region}
use Rattle.mon_syntax.specs.Questions.{moved, if_range, range_by, live_at}
use Rattle.mon_syntax.specs.FlatRelation.{Place, World, PointsTo, SameByte, head_of, note_of, marks_in, Held, Holds}
use Rattle.mon_syntax.proofs.FlatAddresses.{lies}
use Rattle.mon_syntax.proofs.FlatLoads.{length-part, part_at}
use Rattle.mon_syntax.proofs.FlatFinds.{Found, Gone, There, found}

-- ---- offsets

-- an offset from an offset: it is none below the block's start
pub start_moved : (off : ℕ) (o : ℤ) → from_start (pos off +ℤ o) ≡ moved off o
start_moved off (pos d) =
    let same : off + d ≡ off + d - 0 = omega arith in
    ap Some same ∙ sym (ap (λ t. if t then Some (off + d - 0) else None) (le-leb 0 (off + d) (omega arith)))
start_moved off (negsuc d) = by (cases_lt off (suc d))
  where
    by : (off < suc d) ⊎ (suc d ≤ off) → from_start (pos off +ℤ negsuc d) ≡ moved off (negsuc d)
    by (inl lt) =
        let is : pos off +ℤ negsuc d ≡ negsuc (d - off) = omega (arith, ints, lt) in
        ap from_start is ∙ sym (ap (λ t. if t then Some (off + 0 - suc d) else None) (lt-leb (suc d) (off + 0) (omega (arith, lt))))
    by (inr le) =
        let is : pos off +ℤ negsuc d ≡ pos (off - suc d) = omega (arith, ints, le) in
        let same : off - suc d ≡ off + 0 - suc d = omega arith in
        ap from_start is ∙ ap Some same ∙ sym (ap (λ t. if t then Some (off + 0 - suc d) else None) (le-leb (suc d) (off + 0) (omega (arith, le))))

-- ---- ranges

-- a range at an offset from a pointer: neither memory has it, or both have it at one place of a live block
pub data Both (w : World) (m : Blocks) (f : Flat) (index off n a : ℕ) (o : ℤ) (p : Place) : Type 0 where
  Neither : part_in (slice_get m.store index) (moved off o) n a ≡ None
      → range_by (16 * p.unit + off) o n a (live_at (region f p.name) (16 * p.unit + off) (suc index)) ≡ None → Both w m f index off n a o p
  Together : (b : Block) (j : ℕ) → slice_get m.store index ≡ Some b → b.live ≡ true → j + n ≤ b.size → j % a ≡ 0 → p.size ≡ b.size → Held w p b f
      → live_at (region f p.name) (16 * p.unit + off) (suc index) ≡ Some (note_of index (head_of b) p)
      → part_in (slice_get m.store index) (moved off o) n a ≡ Some (part b j)
      → range_by (16 * p.unit + off) o n a (Some (note_of index (head_of b) p)) ≡ Some (16 * p.unit + j) → Both w m f index off n a o p

gone : (b : Block) (n a : ℕ) (o : Option ℕ) → b.live ≡ false → part_in (Some b) o n a ≡ None
gone b n a None e = refl
gone b n a (Some j) e = ap (λ t. if t && (nat_le (j + n) b.size && nat_eq (j % a) 0) then Some (part b j) else None) e

module _ (w : World) (m : Blocks) (f : Flat) (index off n a : ℕ) (o : ℤ) (p : Place) (h : Holds w m f) (pl : slice_get w index ≡ Some p) where
  here : (b : Block) → range_by (16 * p.unit + off) o n a (Some (note_of index (head_of b) p)) ≡ if_range (note_of index (head_of b) p) n a (moved off o)
  here b =
      let back : 16 * p.unit + off - 16 * p.unit ≡ off = omega arith in
      ap (λ i. if_range (note_of index (head_of b) p) n a (moved i o)) back

  in_block : (b : Block) → slice_get m.store index ≡ Some b → b.live ≡ true → p.size ≡ b.size
      → live_at (region f p.name) (16 * p.unit + off) (suc index) ≡ Some (note_of index (head_of b) p) → (i : Option ℕ) → moved off o ≡ i → Both w m f index off n a o p
  in_block b at live size note None e =
      Neither (ap₂ (λ z y. part_in z y n a) at e)
      (ap (range_by (16 * p.unit + off) o n a) note ∙ here b ∙ ap (if_range (note_of index (head_of b) p) n a) e)
  in_block b at live size note (Some j) e = by (nat_le (j + n) b.size && nat_eq (j % a) 0) refl
    where
      first : part_in (slice_get m.store index) (moved off o) n a ≡ (if nat_le (j + n) b.size && nat_eq (j % a) 0 then Some (part b j) else None)
      first = ap₂ (λ z y. part_in z y n a) at e ∙ ap (λ t. if t && (nat_le (j + n) b.size && nat_eq (j % a) 0) then Some (part b j) else None) live

      second : range_by (16 * p.unit + off) o n a (Some (note_of index (head_of b) p)) ≡ (if nat_le (j + n) b.size && nat_eq (j % a) 0 then Some (16 * p.unit + j) else None)
      second = here b ∙ ap (if_range (note_of index (head_of b) p) n a) e ∙ ap (λ s. if nat_le (j + n) s && nat_eq (j % a) 0 then Some (16 * p.unit + j) else None) size

      by : (t : Bool) → (nat_le (j + n) b.size && nat_eq (j % a) 0) ≡ t → Both w m f index off n a o p
      by false t = Neither (first ∙ ap (λ u. if u then Some (part b j) else None) t)
          (ap (range_by (16 * p.unit + off) o n a) note ∙ second ∙ ap (λ u. if u then Some (16 * p.unit + j) else None) t)
      by true t =
          let parts = and_parts (nat_le (j + n) b.size) (nat_eq (j % a) 0) t in
          Together b j at live (leb-true _ _ parts.0) (eqb-true _ _ parts.1) size (h.held index b p at pl live) note
          (first ∙ ap (λ u. if u then Some (part b j) else None) t) (second ∙ ap (λ u. if u then Some (16 * p.unit + j) else None) t)

  by_finding : Found w m f index off p → Both w m f index off n a o p
  by_finding (Gone b at dead none) =
      Neither (ap (λ z. part_in z (moved off o) n a) at ∙ gone b n a (moved off o) dead) (ap (range_by (16 * p.unit + off) o n a) none)
  by_finding (There b at live size name note) = in_block b at live size note (moved off o) refl

pub both : (w : World) (m : Blocks) (f : Flat) (index off n a x : ℕ) (o : ℤ) → Holds w m f → (q : PointsTo w (suc index) off x) → Both w m f index off n a o q.place
both w m f index off n a x o h q = by_finding w m f index off n a o q.place h (lies w index off x q) (found w m f index off x h q)

-- ---- bytes of a range

-- a test of bytes that says what a test of marks says
abbrev pub AskedAlike : (Byte → Bool) → (Mark → Bool) → Type 0
AskedAlike test mark = (w : World) (y : Byte) (m : Mark) (x : ℕ) → SameByte w y m x → test y ≡ mark m

pub number_alike : AskedAlike is_number_byte is_number
number_alike w Unwritten m x s = ap is_number (sym s)
number_alike w (Number n) m x s = ap is_number (sym s.0)
number_alike w (Piece p k) m x s = ap is_number (sym s.0)
number_alike w LoosePiece m x s = ap is_number (sym s)

pub piece_alike : AskedAlike is_piece_byte is_piece
piece_alike w Unwritten m x s = ap is_piece (sym s)
piece_alike w (Number n) m x s = ap is_piece (sym s.0)
piece_alike w (Piece p k) m x s = ap is_piece (sym s.0)
piece_alike w LoosePiece m x s = ap is_piece (sym s)

pub written_alike : AskedAlike is_written_byte is_written
written_alike w Unwritten m x s = ap is_written (sym s)
written_alike w (Number n) m x s = ap is_written (sym s.0)
written_alike w (Piece p k) m x s = ap is_written (sym s.0)
written_alike w LoosePiece m x s = ap is_written (sym s)

all_tested : (test : Byte → Bool) (mark : Mark → Bool) (ys : List Byte) (ms : List Mark) (from : ℕ)
    → ((i : ℕ) → i < length ys → test (get_or ys i Unwritten) ≡ mark (get_or ms (from + i) shadow.Unwritten)) → all_bytes test ys ≡ all_in mark ms from (length ys)
all_tested test mark [] ms from each = refl
all_tested test mark (y ∷ ys) ms from each =
    let start : from + 0 ≡ from = omega arith in
    ap₂ (λ s t. s && t) (each 0 (omega arith) ∙ ap (λ j. mark (get_or ms j shadow.Unwritten)) start) (all_tested test mark ys ms (suc from) (λ i lt.
    let step : from + suc i ≡ suc from + i = omega arith in
    each (suc i) (omega (arith, lt)) ∙ ap (λ j. mark (get_or ms j shadow.Unwritten)) step))

-- the bytes of a range in a live block pass a test just if their marks do
pub range_tested : (test : Byte → Bool) (mark : Mark → Bool) → AskedAlike test mark → (w : World) (p : Place) (b : Block) (f : Flat) (j n : ℕ) → Held w p b f → j + n ≤ b.size
    → all_bytes test (take n (drop j b.bytes)) ≡ all_in mark (marks_in f p.name) (16 * p.unit + j) n
range_tested test mark alike w p b f j n h room =
    let stored = h.size in
    let ys = take n (drop j b.bytes) in
    let long : length ys ≡ n = length-part b.bytes j n (omega (arith, room, stored)) in
    all_tested test mark ys (marks_in f p.name) (16 * p.unit + j) (λ i lt.
    let below : i < n = omega (arith, long, lt) in
    let place : 16 * p.unit + (j + i) ≡ 16 * p.unit + j + i = omega arith in
    ap test (part_at b.bytes j n i Unwritten below)
    ∙ alike w (get_or b.bytes (j + i) Unwritten) (get_or (marks_in f p.name) (16 * p.unit + (j + i)) shadow.Unwritten) _ (h.bytes (j + i) (omega (arith, below, room)))
    ∙ ap (λ z. mark (get_or (marks_in f p.name) z shadow.Unwritten)) place)
    ∙ ap (all_in mark (marks_in f p.name) (16 * p.unit + j)) long
