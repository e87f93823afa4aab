-- Births, deaths and what is filled in leave the length of a segment.
use Rattle.std.proofs.Common.{ℕ, ◌≡◌, ◌+◌, ◌≤◌, ◌∙◌, List, length, Option, Some, None, refl, arith}
use Rattle.std.specs.Prelude.{replicate}
use Rattle.std.proofs.lemmas.List.{length-replicate}
use Rattle.raw_seg.specs.Bytes.{with_bytes}
use Rattle.raw_seg.proofs.Numbers.{length-with_bytes}
use Rattle.shadow_segments.specs.declared.BlockNote.{BlockNote}
use Rattle.shadow_segments.specs.Shadow.{Shadowed, first_unit, units, marked, cleared_by}
use Rattle.shadow_segments.proofs.Lists.{length-filled}
use Rattle.mon_syntax.specs.Regions.{Region, IsRegion, filled_with}

pub length-marked : (s : Shadowed) (n : BlockNote) → length (marked s n).notes ≡ length s.notes
length-marked s n = length-filled s.notes (first_unit n) (units n.length) (Some n)

pub length-cleared : (s : Shadowed) (o : Option BlockNote) → length (cleared_by s o).notes ≡ length s.notes
length-cleared s None = refl
length-cleared s (Some n) = length-filled s.notes (first_unit n) (units n.length) None

pub region_kept : (bytes : List ℕ) (s t : Shadowed) → length t.notes ≡ length s.notes → IsRegion (record { bytes = bytes; shadow = s }) → IsRegion (record { bytes = bytes; shadow = t })
region_kept bytes s t same r =
    let whole = r.bytes in
    record { bytes = omega (arith, whole, same); small = r.small }

pub length-filled_with : (r : Region) (at n : ℕ) (bytes : List ℕ) → at + n ≤ length r.bytes → length bytes ≤ n → length (filled_with r at n bytes).bytes ≡ length r.bytes
length-filled_with r at n bytes room short =
    let zeros = replicate n 0 in
    let long : length zeros ≡ n = length-replicate {A = ℕ} n 0 in
    let once = length-with_bytes r.bytes at zeros (omega (arith, long, room)) in
    length-with_bytes (with_bytes r.bytes at zeros) at bytes (omega (arith, once, short, room)) ∙ once
