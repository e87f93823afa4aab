-- Ours: a segment of flat memory: its bytes, with a record for each unit of 16 bytes and a mark for each byte.
use Rattle.std.specs.Prelude.{◌≡◌, ℕ, ◌+◌, ◌*◌, ◌/◌, ◌%◌, ◌≤◌, List, length, replicate, Option, Some, None, nat_eq, nat_le, if◌then◌else◌}
use Rattle.std.specs.Prelude.{Bool, true, false, ◌&&◌}
use Rattle.raw_seg.specs.Bytes.{number_of, bytes_of, bytes_at, with_bytes}
use Rattle.shadow_segments.specs.declared.BlockNote.{BlockNote}
use Rattle.shadow_segments.specs.Shadow.{Mark, Unwritten, NumberByte, PieceByte, Shadowed, longest_segment, with_marks, put_from, taken_from, marked, cleared}

pub record Region : Type 0 where
  pub bytes : List ℕ
  pub shadow : Shadowed

pub record IsRegion (r : Region) : Type 0 where
  pub bytes : length r.bytes ≡ 16 * length r.shadow.notes
  pub small : length r.bytes ≤ longest_segment

-- nothing lives in so many zeros
abbrev pub empty_region : ℕ → Region
empty_region len = record { bytes = replicate len 0; shadow = record { notes = replicate (len / 16) None; marks = replicate len Unwritten } }

-- ---- loads and stores

-- so many bytes lie here: inside, and aligned to their number
abbrev pub fits_at : Region → ℕ → ℕ → Bool
fits_at r at width = nat_eq (at % width) 0 && nat_le (at + width) (length r.bytes)

abbrev pub region_load : Region → ℕ → ℕ → Option ℕ
region_load r at width = if fits_at r at width then Some (number_of (bytes_at r.bytes at width)) else None

-- the mark of a stored pointer, or of a stored number
abbrev pub mark_for : Bool → Mark
mark_for true = PieceByte
mark_for false = NumberByte

-- a store with its mark
abbrev pub stored : Region → ℕ → ℕ → ℕ → Bool → Region
stored r at width value pointer = record {
  bytes = with_bytes r.bytes at (bytes_of width value);
  shadow = with_marks r.shadow at width (mark_for pointer);
}

abbrev pub region_store : Region → ℕ → ℕ → ℕ → Bool → Option Region
region_store r at width value pointer = if fits_at r at width then Some (stored r at width value pointer) else None

-- so many bytes are these first ones and then zeros, all written by numbers
abbrev pub filled_with : Region → ℕ → ℕ → List ℕ → Region
filled_with r at n bytes = record {
  bytes = with_bytes (with_bytes r.bytes at (replicate n 0)) at bytes;
  shadow = with_marks r.shadow at n NumberByte;
}

-- bytes with their marks, as a copy puts them
abbrev pub with_copy : Region → ℕ → ℕ → List ℕ → (ℕ → Mark) → Region
with_copy r at width bytes marks = record {
  bytes = with_bytes r.bytes at bytes;
  shadow = record { notes = r.shadow.notes; marks = put_from r.shadow.marks at marks width };
}

-- a copy from a region, which may be the same one
abbrev pub region_copy : Region → ℕ → Region → ℕ → ℕ → Option Region
region_copy r at other from width =
    if fits_at other from width && fits_at r at width
    then Some (with_copy r at width (bytes_at other.bytes from width) (taken_from other.shadow.marks from width))
    else None

-- ---- births and deaths

abbrev pub with_birth : Region → BlockNote → Region
with_birth r note = record { bytes = r.bytes; shadow = marked r.shadow note }

abbrev pub with_death : Region → BlockNote → Region
with_death r note = record { bytes = r.bytes; shadow = cleared r.shadow note }
