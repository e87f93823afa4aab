-- Stores of numbers, and those of which the bytes were written already.
use Rattle.std.proofs.Common.{rules, ◌≡◌, ℕ, ◌+◌, ◌%◌, ◌≤◌, List, length, Some, None, sym, ap, ◌∙◌, arith, eq-eqb}
use Rattle.std.specs.Prelude.{Bool, nat_le, if◌then◌else◌, true, false, ◌&&◌}
use Rattle.std.specs.Bool.{MatchBool, OnFalse}
use Rattle.std.proofs.lemmas.Bool.{le-leb}
use Rattle.std.proofs.lemmas.List.{places, same_lists}
use Rattle.raw_seg.specs.Bytes.{bytes_of, with_bytes}
use Rattle.raw_seg.proofs.Numbers.{length-bytes_of, length-with_bytes}
use Rattle.shadow_segments.specs.Shadow.{NumberByte, with_marks}
use Rattle.mon_syntax.specs.Regions.{Region, stored, region_store}

pub store_is : (r : Region) (at width value : ℕ) → at % width ≡ 0 → at + width ≤ length r.bytes → region_store r at width value false ≡ Some (stored r at width value false)
store_is r at width value aligned inside =
    ap (λ b. if b && nat_le (at + width) (length r.bytes) then Some (stored r at width value false) else None) (eq-eqb (at % width) 0 aligned)
    ∙ ap (λ b. if b then Some (stored r at width value false) else None) (le-leb (at + width) (length r.bytes) inside)

with_bytes_again : (bytes : List ℕ) (at : ℕ) (new : List ℕ) → at + length new ≤ length bytes → with_bytes (with_bytes bytes at new) at new ≡ with_bytes bytes at new
with_bytes_again bytes at new le = same_lists _ _ (search (rules, places)) (λ k d h. grind (arith, places))

pub store_begun : (r : Region) (at width value : ℕ) → at % width ≡ 0 → at + width ≤ length r.bytes
    → region_store (record { bytes = with_bytes r.bytes at (bytes_of width value); shadow = r.shadow }) at width value false ≡ region_store r at width value false
store_begun r at width value aligned inside =
    let new = bytes_of width value in
    let size = length-bytes_of width value in
    let room : at + length new ≤ length r.bytes = omega (arith, size, inside) in
    let long = length-with_bytes r.bytes at new room in
    store_is (record { bytes = with_bytes r.bytes at new; shadow = r.shadow }) at width value aligned (omega (arith, inside, long))
    ∙ ap (λ b. Some (record { bytes = b; shadow = with_marks r.shadow at width NumberByte })) (with_bytes_again r.bytes at new room)
    ∙ sym (store_is r at width value aligned inside)

-- where the bytes were written and no mark, all of the store is still to be done
pub store_left : (marked : Bool) (M : Type 0) (r q : Region) (at width value : ℕ) → at % width ≡ 0 → at + width ≤ length r.bytes → q.bytes ≡ with_bytes r.bytes at (bytes_of width value) → MatchBool marked M (q.shadow ≡ r.shadow)
    → OnFalse marked (region_store q at width value false ≡ region_store r at width value false)
store_left true M r q at width value aligned inside bytes shadow = cc
store_left false M r q at width value aligned inside bytes shadow =
    ap (λ b. region_store (record { bytes = b; shadow = q.shadow }) at width value false) bytes
    ∙ ap (λ s. region_store (record { bytes = with_bytes r.bytes at (bytes_of width value); shadow = s }) at width value false) shadow
    ∙ store_begun r at width value aligned inside
