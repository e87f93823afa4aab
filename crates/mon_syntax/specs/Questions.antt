-- Ours, by ACSL 2.7: what a block's record and its bytes' marks answer to a question about an offset from a place of its segment.
use Rattle.std.specs.Prelude.{ℕ, suc, ◌+◌, ◌-◌, ◌/◌, ◌%◌, List, get_or, Option, Some, None, nat_eq, nat_le, if◌then◌else◌}
use Rattle.std.specs.Prelude.{Bool, true, false, ◌&&◌, ℤ, pos, negsuc}
use Rattle.c_model.specs.Memory.{is_literal}
use Rattle.raw_seg.specs.Bytes.{number_of, bytes_at}
use Rattle.shadow_segments.specs.declared.BlockNote.{BlockNote}
use Rattle.shadow_segments.specs.Shadow.{Mark, all_in, is_number, is_written, is_piece}
use Rattle.mon_syntax.specs.Regions.{Region}

-- how far an offset goes up, and how far down
abbrev pub plus : ℤ → ℕ
plus (pos n) = n
plus (negsuc n) = 0

abbrev pub minus : ℤ → ℕ
minus (pos n) = 0
minus (negsuc n) = suc n

-- ---- the block

-- the record, if it has this number
abbrev pub if_numbered : ℕ → Option BlockNote → Option BlockNote
if_numbered number None = None
if_numbered number (Some n) = if nat_eq n.number number then Some n else None

-- the record of the live block with this number whose units hold this place
abbrev pub live_at : Region → ℕ → ℕ → Option BlockNote
live_at r at number = if_numbered number (get_or r.shadow.notes (at / 16) None)

-- the record, if the block may be written
abbrev pub if_writable : Option BlockNote → Option BlockNote
if_writable None = None
if_writable (Some n) = if is_literal n.kind then None else Some n

-- ---- a range in it

-- the place that lies at an offset from another one, counted from the block's start
abbrev pub moved : ℕ → ℤ → Option ℕ
moved from o = if nat_le (minus o) (from + plus o) then Some (from + plus o - minus o) else None

-- where a range of this size begins in its segment, if it lies inside the block and is aligned in it
abbrev pub if_range : BlockNote → ℕ → ℕ → Option ℕ → Option ℕ
if_range n size align None = None
if_range n size align (Some from) = if nat_le (from + size) n.length && nat_eq (from % align) 0 then Some (n.base + from) else None

abbrev pub range_in : BlockNote → ℕ → ℤ → ℕ → ℕ → Option ℕ
range_in n at o size align = if_range n size align (moved (at - n.base) o)

abbrev pub range_by : ℕ → ℤ → ℕ → ℕ → Option BlockNote → Option ℕ
range_by at o size align None = None
range_by at o size align (Some n) = range_in n at o size align

-- ---- the questions

abbrev pub is_some : {A : Type 0} → Option A → Bool
is_some None = false
is_some (Some x) = true

-- so many marks from where a range begins pass a test
abbrev pub asked_at : (Mark → Bool) → List Mark → ℕ → Option ℕ → Bool
asked_at test ms size None = false
asked_at test ms size (Some from) = all_in test ms from size

-- `__e_acsl_valid`; no bytes are always valid
abbrev pub region_valid : Region → ℕ → ℕ → ℤ → ℕ → ℕ → Bool
region_valid r at number o size align = is_some (range_by at o size align (if_writable (live_at r at number)))

-- `__e_acsl_valid_read`
abbrev pub region_valid_read : Region → ℕ → ℕ → ℤ → ℕ → ℕ → Bool
region_valid_read r at number o size align = is_some (range_by at o size align (live_at r at number))

-- `__e_acsl_initialized`
abbrev pub region_initialized : Region → ℕ → ℕ → ℤ → ℕ → ℕ → Bool
region_initialized r at number o size align = asked_at is_written r.shadow.marks size (range_by at o size align (live_at r at number))

-- `__e_acsl_number`
abbrev pub region_number : Region → ℕ → ℕ → ℤ → ℕ → Bool
region_number r at number o width = asked_at is_number r.shadow.marks width (range_by at o width width (live_at r at number))

-- `__e_acsl_pointer`: the eight bytes of a pointer, or of the number 0
abbrev pub pointer_at : Region → Option ℕ → Bool
pointer_at r None = false
pointer_at r (Some from) =
    if all_in is_piece r.shadow.marks from 8 then true
    else all_in is_number r.shadow.marks from 8 && nat_eq (number_of (bytes_at r.bytes from 8)) 0

abbrev pub region_pointer : Region → ℕ → ℕ → ℤ → Bool
region_pointer r at number o = pointer_at r (range_by at o 8 8 (live_at r at number))

-- `__e_acsl_inside`: the record of the live block that the offset doesn't leave; one past its end is still inside
abbrev pub if_inside : ℕ → ℤ → Option BlockNote → Option BlockNote
if_inside at o None = None
if_inside at o (Some n) = if is_some (range_in n at o 0 1) then Some n else None

abbrev pub region_inside : Region → ℕ → ℕ → ℤ → Option BlockNote
region_inside r at number o = if_inside at o (live_at r at number)

-- `__e_acsl_offset`: the place's offset in its block; 0 if it isn't inside
abbrev pub offset_from : ℕ → Option ℕ → ℕ
offset_from base None = 0
offset_from base (Some place) = place - base

abbrev pub offset_by : ℕ → ℤ → Option BlockNote → ℕ
offset_by at o None = 0
offset_by at o (Some n) = offset_from n.base (range_in n at o 0 1)

abbrev pub region_offset : Region → ℕ → ℕ → ℤ → ℕ
region_offset r at number o = offset_by at o (live_at r at number)
