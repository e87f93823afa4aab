-- The birth of a global or a literal, with its first bytes and then zeros.
use Rattle.std.proofs.Common.{◌≡◌, ◌≢◌, ℕ, zero, suc, ◌+◌, ◌-◌, ◌*◌, ◌<◌, ◌≤◌, ◌⊎◌, inl, inr, ⊎_elim, List, [], ◌∷◌, length, map, replicate}
use Rattle.std.proofs.Common.{get_or, refl, sym, ap, ◌∙◌, subst, arith}
use Rattle.std.specs.List.{AllByRecursion}
use Rattle.std.proofs.lemmas.Bool.{cases_lt}
use Rattle.std.proofs.lemmas.List.{length-replicate, get_or-replicate, length-append, length-map, get_or_append_left, get_or-append_right, get_or-map, get_or_past}
use Rattle.c_syntax.specs.declared.types.BlockKind.{BlockKind}
use Rattle.c_syntax.specs.declared.types.BlockKind.TheVariants as kind
use Rattle.c_model.specs.Memory.{Unwritten, Number, block_of}
use Rattle.raw_seg.specs.Bytes.{with_bytes}
use Rattle.shadow_segments.specs.declared.BlockNote.{BlockNote}
use Rattle.shadow_segments.specs.Shadow as shadow
use Rattle.shadow_segments.specs.Shadow.{NumberByte, units}
use Rattle.shadow_segments.proofs.Lists.{length-filled, filled_inside, filled_outside}
use Rattle.mon_syntax.specs.declared.spot.RegionName.{RegionName}
use Rattle.mon_syntax.specs.declared.spot.RegionName.TheVariants.{Globals, Stack, Heap}
use Rattle.mon_syntax.specs.Regions.{Region, filled_with, with_birth}
use Rattle.mon_syntax.specs.Flat.{Flat, region, flat_begin}
use Rattle.mon_syntax.specs.BlockMemory.{number_bytes}
use Rattle.mon_syntax.specs.FlatRelation.{region_of, World, SameByte, Held, marks_in, bytes_in}
use Rattle.mon_syntax.proofs.FlatEntries.{length-replaced, replaced_inside, replaced_outside}
use Rattle.mon_syntax.proofs.FlatBirths.{IsBorn, place_for}
use Rattle.mon_syntax.proofs.FlatRegions.{new_note, BornIn, is_born, born_in}

-- ---- bytes

-- byte i of the first bytes and then zeros
abbrev byte_of : List ℕ → ℕ → ℕ
byte_of first i = get_or first i 0

below_256 : (first : List ℕ) (i : ℕ) → AllByRecursion (λ b. b < 256) first → byte_of first i < 256
below_256 [] i all = omega arith
below_256 (b ∷ first) zero all = all.0
below_256 (b ∷ first) (suc i) all = below_256 first i all.1

module _ (first : List ℕ) (n : ℕ) (fits : length first ≤ n) where
  pub length-number_bytes : length (number_bytes n first) ≡ n
  length-number_bytes =
      omega (arith, length-append (map Number first) (replicate (n - length first) (Number 0)), length-map first Number, length-replicate (n - length first) (Number 0), fits)

  number_byte : (i : ℕ) → i < n → get_or (number_bytes n first) i Unwritten ≡ Number (byte_of first i)
  number_byte i lt = by (cases_lt i (length first))
    where
      by : (i < length first) ⊎ (length first ≤ i) → get_or (number_bytes n first) i Unwritten ≡ Number (byte_of first i)
      by (inl below) =
          get_or_append_left (map Number first) (replicate (n - length first) (Number 0)) Unwritten i (omega (arith, below, length-map first Number))
          ∙ get_or-map Number first i 0 Unwritten below
      by (inr past) =
          get_or-append_right (map Number first) (replicate (n - length first) (Number 0)) (length first) i Unwritten (length-map first Number) past
          ∙ get_or-replicate (n - length first) (i - length first) (Number 0) Unwritten (omega (arith, lt, past))
          ∙ ap Number (sym (get_or_past first i 0 past))

-- ---- the region

-- a region in which a block with this record is born at a unit, and so many of its bytes are these first ones and then zeros
module _ (r : Region) (note : BlockNote) (u n : ℕ) (first : List ℕ) (size : note.length ≡ n) (base : note.base ≡ 16 * u) (fits : length first ≤ n)
    (room : 16 * u + 16 * units n ≤ length r.bytes) (room_marks : 16 * u + 16 * units n ≤ length r.shadow.marks) where
  abbrev begun_region : Region
  begun_region = filled_with (with_birth r note) (16 * u) n first

  abbrev zeros : List ℕ
  zeros = replicate n 0

  length-zeros : length zeros ≡ n
  length-zeros = length-replicate n 0

  abbrev zeroed : List ℕ
  zeroed = with_bytes r.bytes (16 * u) zeros

  zeros_fit : 16 * u + length zeros ≤ length r.bytes
  zeros_fit = omega (arith, length-zeros, room)

  length-zeroed : length zeroed ≡ length r.bytes
  length-zeroed = length-replaced r.bytes (16 * u) zeros zeros_fit

  first_fit : 16 * u + length first ≤ length zeroed
  first_fit = let long = length-zeroed in omega (arith, long, room, fits)

  birth : BornIn r (with_birth r note) note u
  birth = born_in r note u base

  bytes_outside : (i : ℕ) → (i < 16 * u) ⊎ (16 * u + 16 * units note.length ≤ i) → get_or begun_region.bytes i 0 ≡ get_or r.bytes i 0
  bytes_outside i out =
      let none = length-zeros in
      let past_first : (i < 16 * u) ⊎ (16 * u + length first ≤ i) = ⊎_elim (λ b. inl b) (λ a. inr (omega (arith, a, fits, size))) out in
      let past_zeros : (i < 16 * u) ⊎ (16 * u + length zeros ≤ i) = ⊎_elim (λ b. inl b) (λ a. inr (omega (arith, a, none, size))) out in
      replaced_outside zeroed (16 * u) first first_fit i 0 past_first ∙ replaced_outside r.bytes (16 * u) zeros zeros_fit i 0 past_zeros

  marks_outside : (i : ℕ) → (i < 16 * u) ⊎ (16 * u + 16 * units note.length ≤ i)
      → get_or begun_region.shadow.marks i shadow.Unwritten ≡ get_or r.shadow.marks i shadow.Unwritten
  marks_outside i out =
      let past : (i < 16 * u) ⊎ (16 * u + n ≤ i) = ⊎_elim (λ b. inl b) (λ a. inr (omega (arith, a, size))) out in
      filled_outside (with_birth r note).shadow.marks (16 * u) n NumberByte i shadow.Unwritten past ∙ birth.marks i out

  pub begun_in : BornIn r begun_region note u
  begun_in = record {
    notes = birth.notes;
    bytes_long = length-replaced zeroed (16 * u) first first_fit ∙ length-zeroed;
    marks_long = length-filled (with_birth r note).shadow.marks (16 * u) n NumberByte ∙ birth.marks_long;
    bytes = bytes_outside;
    marks = marks_outside;
  }

  pub begun_byte : (i : ℕ) → i < n → get_or begun_region.bytes (16 * u + i) 0 ≡ byte_of first i
  begun_byte i lt = by (cases_lt i (length first))
    where
      by : (i < length first) ⊎ (length first ≤ i) → get_or begun_region.bytes (16 * u + i) 0 ≡ byte_of first i
      by (inl below) = replaced_inside zeroed (16 * u) first first_fit i 0 below
      by (inr past) =
          replaced_outside zeroed (16 * u) first first_fit (16 * u + i) 0 (inr (omega (arith, past)))
          ∙ replaced_inside r.bytes (16 * u) zeros zeros_fit i 0 (omega (arith, lt, length-zeros))
          ∙ get_or-replicate n i 0 0 lt
          ∙ sym (get_or_past first i 0 past)

  pub begun_mark : (i : ℕ) → i < n → get_or begun_region.shadow.marks (16 * u + i) shadow.Unwritten ≡ NumberByte
  begun_mark i lt =
      let long = birth.marks_long in
      filled_inside (with_birth r note).shadow.marks (16 * u) n NumberByte (16 * u + i) shadow.Unwritten (omega (arith, long, room_marks)) (omega arith) (omega (arith, lt))

-- ---- the memory

module _ (f : Flat) (k : BlockKind) (u n : ℕ) (first : List ℕ) (placed : f.placed ≡ 16 * u) (fits : length first ≤ n)
    (room : 16 * u + 16 * units n ≤ length (bytes_in f Globals)) (room_marks : 16 * u + 16 * units n ≤ length (marks_in f Globals)) where
  abbrev begun_flat : Flat
  begun_flat = flat_begin f k n first

  region_is : begun_flat.globals ≡ begun_region f.globals (new_note f k u n) u n first refl refl fits room room_marks
  region_is = ap (λ z. filled_with (with_birth f.globals (record { base = z; length = n; number = f.births + 1; kind = k })) z n first) placed

  here : BornIn f.globals begun_flat.globals (new_note f k u n) u
  here = subst (λ z. BornIn f.globals z (new_note f k u n) u) (sym region_is) (begun_in f.globals (new_note f k u n) u n first refl refl fits room room_marks)

  others : (name : RegionName) → Globals ≢ name → region begun_flat name ≡ region f name
  others Globals ne = absurd (ne refl)
  others Stack ne = refl
  others Heap ne = refl

pub begun_born : (f : Flat) (k : BlockKind) (u n : ℕ) (first : List ℕ) → region_of k ≡ Globals → f.placed ≡ 16 * u → length first ≤ n
    → 16 * u + 16 * units n ≤ length (bytes_in f Globals) → 16 * u + 16 * units n ≤ length (marks_in f Globals) → IsBorn f (flat_begin f k n first) k u n
begun_born f kind.Global u n first e placed fits room room_marks =
    is_born f (flat_begin f kind.Global n first) kind.Global u n refl refl refl (omega arith) (here f kind.Global u n first placed fits room room_marks) (others f kind.Global u n first placed fits room room_marks)
begun_born f kind.Literal u n first e placed fits room room_marks =
    is_born f (flat_begin f kind.Literal n first) kind.Literal u n refl refl refl (omega arith) (here f kind.Literal u n first placed fits room room_marks) (others f kind.Literal u n first placed fits room room_marks)
begun_born f kind.Stack u n first e placed fits room room_marks = absurd cc
begun_born f kind.Heap u n first e placed fits room room_marks = absurd cc

pub begun_held : (w : World) (f : Flat) (k : BlockKind) (u n : ℕ) (first : List ℕ) → region_of k ≡ Globals → f.placed ≡ 16 * u → length first ≤ n → AllByRecursion (λ b. b < 256) first
    → 16 * u + 16 * units n ≤ length (bytes_in f Globals) → 16 * u + 16 * units n ≤ length (marks_in f Globals)
    → Held w (place_for k u n) (block_of k (number_bytes n first)) (flat_begin f k n first)
begun_held w f k u n first e placed fits all room room_marks = record {
  size = refl;
  bytes = λ i lt. subst (λ z. IsWritten (region (flat_begin f k n first) z) i) (sym e) (written i (omega (arith, lt, length-number_bytes first n fits)));
}
  where
    IsWritten : Region → ℕ → Type 0
    IsWritten r i = SameByte w (get_or (number_bytes n first) i Unwritten) (get_or r.shadow.marks (16 * u + i) shadow.Unwritten) (get_or r.bytes (16 * u + i) 0)

    new : Region
    new = begun_region f.globals (new_note f k u n) u n first refl refl fits room room_marks

    written : (i : ℕ) → i < n → IsWritten (flat_begin f k n first).globals i
    written i lt =
        subst (λ r. IsWritten r i) (sym (region_is f k u n first placed fits room room_marks))
        (subst (λ z. SameByte w z (get_or new.shadow.marks (16 * u + i) shadow.Unwritten) (get_or new.bytes (16 * u + i) 0)) (sym (number_byte first n fits i lt))
        (begun_mark f.globals (new_note f k u n) u n first refl refl fits room room_marks i lt, begun_byte f.globals (new_note f k u n) u n first refl refl fits room room_marks i lt, below_256 first i all))
