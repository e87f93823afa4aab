-- Ours: what is kept of each unit of 16 bytes and of each byte of a segment, so that questions about memory (ACSL 2.7) have their answers.
use Rattle.std.specs.Prelude.{◌≡◌, ℕ, zero, suc, ◌+◌, ◌-◌, ◌*◌, ◌/◌, ◌%◌, ◌<◌, ◌≤◌, List, length, get_or, set}
use Rattle.std.specs.Prelude.{Option, Some, None, nat_lt, if◌then◌else◌, Bool, true, false, ◌&&◌}
use Rattle.shadow_segments.specs.declared.BlockNote.{BlockNote}
use Rattle.shadow_segments.specs.declared.Asked.{Asked}
use Rattle.shadow_segments.specs.declared.Asked.TheVariants.{Written, Pieces, Plain, Number}

-- what is known of a byte: it isn't written, it is part of a number, it is a piece of a pointer, or it is a loose piece, which belongs to no pointer
pub data Mark : Type 0 where
  Unwritten NumberByte PieceByte LooseByte : Mark

-- a segment has so many bytes at most
abbrev pub longest_segment : ℕ
longest_segment = 268435456

pub record Shadowed : Type 0 where
  -- by unit of 16 bytes, the record of the block whose unit it is
  pub notes : List (Option BlockNote)
  -- by byte
  pub marks : List Mark

-- a block takes so many units: one past its last byte is still its own
abbrev pub units : ℕ → ℕ
units n = n / 16 + 1

abbrev pub first_unit : BlockNote → ℕ
first_unit n = n.base / 16

-- the first unit after a block's
abbrev pub end_unit : BlockNote → ℕ
end_unit n = first_unit n + units n.length

-- ---- lists

-- so many entries from a place on are changed, or are replaced by one
abbrev pub changed : {A : Type 0} → A → (A → A) → List A → ℕ → ℕ → List A
changed d f xs u zero = xs
changed d f xs u (suc k) = changed d f (set xs u (f (get_or xs u d))) (suc u) k

abbrev pub filled : {A : Type 0} → List A → ℕ → ℕ → A → List A
filled xs u zero y = xs
filled xs u (suc k) y = filled (set xs u y) (suc u) k y

-- so many entries from a place on are replaced, each by its order among them
abbrev pub put_from : {A : Type 0} → List A → ℕ → (ℕ → A) → ℕ → List A
put_from xs at f zero = xs
put_from xs at f (suc k) = put_from (set xs at (f 0)) (suc at) (λ i. f (suc i)) k

-- ---- births and deaths

-- a birth: the block's units have its record, and no byte of them is written
abbrev pub marked : Shadowed → BlockNote → Shadowed
marked s n = record {
  notes = filled s.notes (first_unit n) (units n.length) (Some n);
  marks = filled s.marks (16 * first_unit n) (16 * units n.length) Unwritten;
}

-- a death: the block's units have no record
abbrev pub cleared : Shadowed → BlockNote → Shadowed
cleared s n = record { notes = filled s.notes (first_unit n) (units n.length) None; marks = s.marks }

abbrev pub cleared_by : Shadowed → Option BlockNote → Shadowed
cleared_by s None = s
cleared_by s (Some n) = cleared s n

-- the death of the block at whose record an address in the segment leads
abbrev pub cleared_at : Shadowed → ℕ → Shadowed
cleared_at s base = cleared_by s (get_or s.notes (base / 16) None)

-- the record at a unit is that of a block which lies inside, holds this unit, and has its record at all of its units
pub record IsWhole (ns : List (Option BlockNote)) (u : ℕ) (n : BlockNote) : Type 0 where
  pub aligned : n.base % 16 ≡ 0
  pub from : first_unit n ≤ u
  pub below : u < end_unit n
  pub inside : end_unit n ≤ length ns
  pub all : (v : ℕ) → first_unit n ≤ v → v < end_unit n → get_or ns v None ≡ Some n

abbrev pub AreWhole : List (Option BlockNote) → Type 0
AreWhole ns = (u : ℕ) (n : BlockNote) → get_or ns u None ≡ Some n → IsWhole ns u n

-- a block may be born here: its units lie inside and have no record, and its number isn't 0
pub record IsFree (ns : List (Option BlockNote)) (n : BlockNote) : Type 0 where
  pub aligned : n.base % 16 ≡ 0
  pub number : 0 < n.number
  pub inside : end_unit n ≤ length ns
  pub free : (v : ℕ) → first_unit n ≤ v → v < end_unit n → get_or ns v None ≡ None

-- a live block begins here
pub record IsLiveBase (ns : List (Option BlockNote)) (base : ℕ) : Type 0 where
  pub note : BlockNote
  pub there : get_or ns (base / 16) None ≡ Some note
  pub base_is : note.base ≡ base

-- ---- marks

-- so many bytes from a place on have this mark
abbrev pub with_marks : Shadowed → ℕ → ℕ → Mark → Shadowed
with_marks s from n x = record { notes = s.notes; marks = filled s.marks from n x }

abbrev pub is_written : Mark → Bool
is_written Unwritten = false
is_written NumberByte = true
is_written PieceByte = true
is_written LooseByte = true

abbrev pub is_piece : Mark → Bool
is_piece Unwritten = false
is_piece NumberByte = false
is_piece PieceByte = true
is_piece LooseByte = false

-- it is no byte of a pointer
abbrev pub is_plain : Mark → Bool
is_plain Unwritten = true
is_plain NumberByte = true
is_plain PieceByte = false
is_plain LooseByte = false

abbrev pub is_number : Mark → Bool
is_number Unwritten = false
is_number NumberByte = true
is_number PieceByte = false
is_number LooseByte = false

abbrev pub test_of : Asked → Mark → Bool
test_of Written = is_written
test_of Pieces = is_piece
test_of Plain = is_plain
test_of Number = is_number

-- so many marks from a place on pass a test
abbrev pub all_in : (Mark → Bool) → List Mark → ℕ → ℕ → Bool
all_in test ms from zero = true
all_in test ms from (suc k) = test (get_or ms from Unwritten) && all_in test ms (suc from) k

-- the number of units that a range of bytes touches
abbrev pub touched : ℕ → ℕ → ℕ
touched from to = if nat_lt from to then (to - 1) / 16 + 1 - from / 16 else 0

-- ---- copies

-- what a mark becomes in a copy of so many bytes: with fewer than eight of them a piece comes without the others, and is loose
abbrev pub loosened : ℕ → Mark → Mark
loosened n Unwritten = Unwritten
loosened n NumberByte = NumberByte
loosened n PieceByte = if nat_lt n 8 then LooseByte else PieceByte
loosened n LooseByte = LooseByte

-- the marks that a copy of so many bytes takes from a place on
abbrev pub taken_from : List Mark → ℕ → ℕ → ℕ → Mark
taken_from ms from n i = loosened n (get_or ms (from + i) Unwritten)

-- the first k marks of a copy of n bytes are put
abbrev pub with_part : Shadowed → List Mark → ℕ → ℕ → ℕ → ℕ → Shadowed
with_part s ms from to n k = record { notes = s.notes; marks = put_from s.marks to (taken_from ms from n) k }

-- the marks of n bytes of a list are copied
abbrev pub with_copied : Shadowed → List Mark → ℕ → ℕ → ℕ → Shadowed
with_copied s ms from to n = with_part s ms from to n n
