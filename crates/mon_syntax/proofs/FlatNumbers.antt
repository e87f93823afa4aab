-- The question whether bytes hold a number is answered alike over blocks and over flat memory, for live and for dead pointers.
use Rattle.std.proofs.Common.{◌≡◌, ℕ, zero, suc, ◌+◌, ◌-◌, ◌*◌, ◌%◌, ◌<◌, ◌≤◌, ◌⊎◌, inl, inr, ℤ, pos, negsuc, ◌+ℤ◌, Bool, true, false, ◌&&◌, if◌then◌else◌, nat_eq, nat_le}
use Rattle.std.proofs.Common.{List, [], ◌∷◌, length, take, drop, Option, Some, None, option_map, get_or, slice_get, refl, sym, ap, ap₂, ◌∙◌, arith}
use Rattle.std.proofs.lemmas.Bool.{cases_lt, le-leb, lt-leb, leb-true, and_parts}
use Rattle.std.proofs.lemmas.Int.{ints}
use Rattle.c_model.specs.Integers.{truth}
use Rattle.c_model.specs.Memory.{Pointer, Null, Into, Value, Integer, Points, Byte, Unwritten, Number, Piece, LoosePiece, Block, bytes_in, load_bytes, is_accessible, number_of, with_low_byte}
use Rattle.shadow_segments.specs.Shadow as shadow
use Rattle.shadow_segments.specs.Shadow.{Mark, is_number, all_in}
use Rattle.mon_syntax.specs.declared.tree.AccessSize.{AccessSize}
use Rattle.mon_syntax.specs.declared.tree.MemoryCall.TheVariants as call
use Rattle.mon_syntax.specs.Arithmetic.{access_bytes}
use Rattle.mon_syntax.specs.Questions.{moved, if_range, range_by, asked_at, region_number}
use Rattle.mon_syntax.specs.Flat.{Flat, region, ask, number_in, flat_number}
use Rattle.mon_syntax.specs.FlatMemory.{pointer_in, act_on_flat}
use Rattle.mon_syntax.specs.BlockMemory.{Blocks, at_offset, is_some, holds_number, act_on_blocks}
use Rattle.mon_syntax.specs.Meaning.{◌>>=◌}
use Rattle.mon_syntax.specs.Following.{AllKept, Replied}
use Rattle.mon_syntax.specs.FlatRelation.{Place, World, Later, PointsTo, SamePointer, Same, SameByte, head_of, note_of, marks_in, Held, Holds}
use Rattle.mon_syntax.proofs.FlatWorlds.{later_refl}
use Rattle.mon_syntax.proofs.FlatPointers.{spot_of_pointer, number_is}
use Rattle.mon_syntax.proofs.FlatAddresses.{lies, pointer_is}
use Rattle.mon_syntax.proofs.FlatLoads.{length-part, part_at}
use Rattle.mon_syntax.proofs.FlatFinds.{Found, Gone, There, found}

-- ---- bytes

abbrev is_number_byte : Byte → Bool
is_number_byte Unwritten = false
is_number_byte (Number n) = true
is_number_byte (Piece p k) = false
is_number_byte LoosePiece = false

byte_is_number : (w : World) (y : Byte) (mark : Mark) (x : ℕ) → SameByte w y mark x → is_number_byte y ≡ is_number mark
byte_is_number w Unwritten mark x s = ap is_number (sym s)
byte_is_number w (Number n) mark x s = ap is_number (sym s.0)
byte_is_number w (Piece p k) mark x s = ap is_number (sym s.0)
byte_is_number w LoosePiece mark x s = ap is_number (sym s)

low_is_some : (b : ℕ) (o : Option ℕ) → is_some (with_low_byte b o) ≡ is_some o
low_is_some b None = refl
low_is_some b (Some n) = refl

-- bytes hold a number where each mark is that of one
are_numbers : (ys : List Byte) (ms : List Mark) (from : ℕ) → ((i : ℕ) → i < length ys → is_number_byte (get_or ys i Unwritten) ≡ is_number (get_or ms (from + i) shadow.Unwritten))
    → is_some (number_of ys) ≡ all_in is_number ms from (length ys)
are_numbers [] ms from each = refl
are_numbers (y ∷ ys) ms from each =
    let start : from + 0 ≡ from = omega arith in
    let head = each 0 (omega arith) ∙ ap (λ j. is_number (get_or ms j shadow.Unwritten)) start in
    by y head (are_numbers ys ms (suc from) (λ i lt.
    let step : from + suc i ≡ suc from + i = omega arith in
    each (suc i) (omega (arith, lt)) ∙ ap (λ j. is_number (get_or ms j shadow.Unwritten)) step))
  where
    by : (y : Byte) → is_number_byte y ≡ is_number (get_or ms from shadow.Unwritten) → is_some (number_of ys) ≡ all_in is_number ms (suc from) (length ys)
        → is_some (number_of (y ∷ ys)) ≡ (is_number (get_or ms from shadow.Unwritten) && all_in is_number ms (suc from) (length ys))
    by Unwritten e rest = ap (λ t. t && all_in is_number ms (suc from) (length ys)) e
    by (Number b) e rest = low_is_some b (number_of ys) ∙ rest ∙ ap (λ t. t && all_in is_number ms (suc from) (length ys)) e
    by (Piece p k) e rest = ap (λ t. t && all_in is_number ms (suc from) (length ys)) e
    by LoosePiece e rest = ap (λ t. t && all_in is_number ms (suc from) (length ys)) e

-- ---- places

-- an offset from an offset: it is none below the block's start
offset_moved : (number off : ℕ) (o : ℤ) → at_offset number (pos off +ℤ o) ≡ option_map (Into number) (moved off o)
offset_moved number off (pos d) =
    let same : off + d ≡ off + d - 0 = omega arith in
    ap (λ j. Some (Into number j)) same ∙ sym (ap (λ t. option_map (Into number) (if t then Some (off + d - 0) else None)) (le-leb 0 (off + d) (omega arith)))
offset_moved number off (negsuc d) = by (cases_lt off (suc d))
  where
    by : (off < suc d) ⊎ (suc d ≤ off) → at_offset number (pos off +ℤ negsuc d) ≡ option_map (Into number) (moved off (negsuc d))
    by (inl lt) =
        let is : pos off +ℤ negsuc d ≡ negsuc (d - off) = omega (arith, ints, lt) in
        ap (at_offset number) is ∙ sym (ap (λ t. option_map (Into number) (if t then Some (off + 0 - suc d) else None)) (lt-leb (suc d) (off + 0) (omega (arith, lt))))
    by (inr le) =
        let is : pos off +ℤ negsuc d ≡ pos (off - suc d) = omega (arith, ints, le) in
        let same : off - suc d ≡ off + 0 - suc d = omega arith in
        ap (at_offset number) is ∙ ap (λ j. Some (Into number j)) same ∙ sym (ap (λ t. option_map (Into number) (if t then Some (off + 0 - suc d) else None)) (le-leb (suc d) (off + 0) (omega (arith, le))))

-- ---- the answer

-- at a place in a live block
module _ (w : World) (m : Blocks) (f : Flat) (index width : ℕ) (b : Block) (p : Place) (at : slice_get m.store index ≡ Some b) (live : b.live ≡ true) (size : p.size ≡ b.size) (h : Held w p b f) where
  all_numbers : (j : ℕ) → is_accessible b j width ≡ true → is_some (number_of (take width (drop j b.bytes))) ≡ all_in is_number (marks_in f p.name) (16 * p.unit + j) width
  all_numbers j e =
      let parts = and_parts (nat_le (j + width) b.size) (nat_eq (j % width) 0) (and_parts b.live (nat_le (j + width) b.size && nat_eq (j % width) 0) e).1 in
      let room : j + width ≤ b.size = leb-true _ _ parts.0 in
      let stored = h.size in
      let ys = take width (drop j b.bytes) in
      let long : length ys ≡ width = length-part b.bytes j width (omega (arith, room, stored)) in
      are_numbers ys (marks_in f p.name) (16 * p.unit + j) (λ i lt.
      let below : i < width = omega (arith, long, lt) in
      let place : 16 * p.unit + (j + i) ≡ 16 * p.unit + j + i = omega arith in
      ap is_number_byte (part_at b.bytes j width i Unwritten below)
      ∙ byte_is_number w (get_or b.bytes (j + i) Unwritten) (get_or (marks_in f p.name) (16 * p.unit + (j + i)) shadow.Unwritten) _ (h.bytes (j + i) (omega (arith, below, room)))
      ∙ ap (λ z. is_number (get_or (marks_in f p.name) z shadow.Unwritten)) place)
      ∙ ap (all_in is_number (marks_in f p.name) (16 * p.unit + j)) long

  live_answer : (o : Option ℕ) → is_some (option_map (Into (suc index)) o >>= λ q. load_bytes m.store q width >>= number_of)
      ≡ asked_at is_number (marks_in f p.name) width (if_range (note_of index (head_of b) p) width width o)
  live_answer None = refl
  live_answer (Some j) = ap (λ z. is_some (bytes_in z j width >>= number_of)) at ∙ by (is_accessible b j width) refl ∙ ap (λ t. asked_at is_number (marks_in f p.name) width (if t then Some (16 * p.unit + j) else None)) test
    where
      test : is_accessible b j width ≡ (nat_le (j + width) p.size && nat_eq (j % width) 0)
      test = ap (λ t. t && (nat_le (j + width) b.size && nat_eq (j % width) 0)) live ∙ ap (λ n. nat_le (j + width) n && nat_eq (j % width) 0) (sym size)

      by : (t : Bool) → is_accessible b j width ≡ t → is_some ((if t then Some (take width (drop j b.bytes)) else None) >>= number_of) ≡ asked_at is_number (marks_in f p.name) width (if t then Some (16 * p.unit + j) else None)
      by false e = refl
      by true e = all_numbers j e

-- in a dead block
dead_answer : (m : Blocks) (index width : ℕ) (b : Block) → slice_get m.store index ≡ Some b → b.live ≡ false → (o : Option ℕ)
    → is_some (option_map (Into (suc index)) o >>= λ q. load_bytes m.store q width >>= number_of) ≡ false
dead_answer m index width b at dead None = refl
dead_answer m index width b at dead (Some j) =
    ap (λ z. is_some (bytes_in z j width >>= number_of)) at ∙ ap (λ t. is_some ((if t && (nat_le (j + width) b.size && nat_eq (j % width) 0) then Some (take width (drop j b.bytes)) else None) >>= number_of)) dead

number_found : (w : World) (m : Blocks) (f : Flat) (index off width : ℕ) (o : ℤ) (p : Place) → slice_get w index ≡ Some p → Holds w m f → Found w m f index off p
    → is_some (option_map (Into (suc index)) (moved off o) >>= λ q. load_bytes m.store q width >>= number_of) ≡ region_number (region f p.name) (16 * p.unit + off) (suc index) o width
number_found w m f index off width o p pl h (Gone b at dead none) =
    dead_answer m index width b at dead (moved off o) ∙ sym (ap (λ z. asked_at is_number (marks_in f p.name) width (range_by (16 * p.unit + off) o width width z)) none)
number_found w m f index off width o p pl h (There b at live size name note) =
    let back : off ≡ 16 * p.unit + off - 16 * p.unit = omega arith in
    live_answer w m f index width b p at live size (h.held index b p at pl live) (moved off o)
    ∙ ap (λ i. asked_at is_number (marks_in f p.name) width (if_range (note_of index (head_of b) p) width width (moved i o))) back
    ∙ sym (ap (λ z. asked_at is_number (marks_in f p.name) width (range_by (16 * p.unit + off) o width width z)) note)

number_into : (w : World) (m : Blocks) (f : Flat) (index off x width : ℕ) (o : ℤ) → Holds w m f → PointsTo w (suc index) off x → holds_number m.store (Into (suc index) off) o width ≡ flat_number f x o width
number_into w m f index off x width o h q =
    ap (λ z. is_some (z >>= λ p. load_bytes m.store p width >>= number_of)) (offset_moved (suc index) off o)
    ∙ number_found w m f index off width o q.place (lies w index off x q) h (found w m f index off x h q)
    ∙ sym (ap (λ z. ask f z false (λ r at. region_number r at (number_in x) o width)) (spot_of_pointer w (suc index) off x q) ∙ ap (λ z. region_number (region f q.place.name) (16 * q.place.unit + off) z o width) (number_is w (suc index) off x q))

same_answer : (w : World) (m : Blocks) (f : Flat) (p : Pointer) (x width : ℕ) (o : ℤ) → Holds w m f → SamePointer w p x → holds_number m.store p o width ≡ flat_number f x o width
same_answer w m f Null x width o h q = sym (ap (λ z. flat_number f z o width) q)
same_answer w m f (Into zero off) x width o h q = let e = q.is_number in absurd (omega (arith, e))
same_answer w m f (Into (suc index) off) x width o h q = number_into w m f index off x width o h q

-- ---- the field `act` at `Number`

asked : (w : World) (a : AccessSize) (p : Pointer) (b o i : ℤ) (m : Blocks) (f : Flat) → Same w (Points p) b → o ≡ i → Holds w m f
    → truth (holds_number m.store p o (access_bytes a)) ≡ truth (flat_number f (pointer_in b) i (access_bytes a))
asked w a p b o i m f s e h =
    ap truth (same_answer w m f p s.0 (access_bytes a) o h s.2
    ∙ ap₂ (λ y z. flat_number f y z (access_bytes a)) (sym (ap pointer_in s.1 ∙ pointer_is w p s.0 s.2)) e)

pub number_alike : (w : World) (a : AccessSize) (xs : List Value) (ys : List ℤ) (m : Blocks) (f : Flat) → AllKept (Same w) xs ys → Holds w m f
    → Replied World Later Same Holds w (act_on_blocks (call.Number a) xs m) (act_on_flat (call.Number a) ys f)
number_alike w a (Points p ∷ Integer o ∷ []) (b ∷ i ∷ []) m f k h = (w, later_refl w, asked w a p b o i m f k.0 k.1.0 h, h)
number_alike w a (Points p ∷ Integer o ∷ []) [] m f k h = absurd k
number_alike w a (Points p ∷ Integer o ∷ []) (b ∷ []) m f k h = absurd k.1
number_alike w a (Points p ∷ Integer o ∷ []) (b ∷ i ∷ j ∷ ys) m f k h = absurd k.1.1
number_alike w a xs ys m f k h = tt
