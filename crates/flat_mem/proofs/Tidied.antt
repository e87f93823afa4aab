-- The stack stays tidy.
use Rattle.std.proofs.Common.{ℕ, ◌≡◌, ◌+◌, ◌*◌, ◌/◌, ◌%◌, ◌<◌, ◌≤◌, ◌⊎◌, inl, inr, length, get_or, replicate, Option, Some, None, refl, sym, ap, ◌∙◌, arith, subst}
use Rattle.std.proofs.lemmas.Bool.{cases_lt}
use Rattle.std.proofs.lemmas.List.{get_or-replicate, get_or_past, length-replicate}
use Rattle.shadow_segments.specs.declared.BlockNote.{BlockNote}
use Rattle.shadow_segments.specs.Shadow.{first_unit, units, marked, cleared, cleared_by}
use Rattle.shadow_segments.proofs.Lists.{filled_inside, filled_outside}
use Rattle.mon_syntax.specs.Regions.{Region, empty_region}
use Rattle.mon_syntax.specs.Flat.{Flat}
use Rattle.flat_mem.specs.Deaths.{IsYoungest, without}
use Rattle.flat_mem.specs.Tidy.{IsTidy}

-- a block is born at the top
pub tidy_born : (r q : Region) (top next : ℕ) (n : BlockNote) → IsTidy r top → n.base ≡ top → next ≡ top + 16 * units n.length → next ≤ length r.bytes
    → q ≡ record { bytes = r.bytes; shadow = marked r.shadow n } → IsTidy q next
tidy_born r q top next n tidy at size room is =
    subst (λ z. IsTidy z next) (sym is)
    (record {
      unit = omega (arith, tidy.unit, size);
      inside = room;
      free = λ u le.
          let past : first_unit n + units n.length ≤ u = omega (arith, tidy.unit, at, size, le) in
          let above : top / 16 ≤ u = omega (arith, size, le) in
          filled_outside r.shadow.notes (first_unit n) (units n.length) (Some n) u None (inr past) ∙ tidy.free u above;
    })

-- bytes and marks change
pub tidy_bytes : (r q : Region) (top : ℕ) → IsTidy r top → length q.bytes ≡ length r.bytes → q.shadow.notes ≡ r.shadow.notes → IsTidy q top
tidy_bytes r q top tidy long same = record {
  unit = tidy.unit;
  inside = omega (arith, tidy.inside, long);
  free = λ u le. ap (λ ns. get_or ns u None) same ∙ tidy.free u le;
}

-- the youngest dies
pub tidy_died : (r q : Region) (top : ℕ) (n : BlockNote) → IsTidy r top → n.base % 16 ≡ 0 → n.base + 16 * units n.length ≡ top
    → q ≡ record { bytes = r.bytes; shadow = cleared r.shadow n } → first_unit n + units n.length ≤ length r.shadow.notes → IsTidy q n.base
tidy_died r q top n tidy aligned end is room =
    subst (λ z. IsTidy z n.base) (sym is)
    (record {
      unit = aligned;
      inside = omega (arith, tidy.inside, end);
      free = λ u le. at u le (cases_lt u (first_unit n + units n.length));
    })
  where
    at : (u : ℕ) → n.base / 16 ≤ u → (u < first_unit n + units n.length) ⊎ (first_unit n + units n.length ≤ u) → get_or (cleared r.shadow n).notes u None ≡ None
    at u le (inl b) = filled_inside r.shadow.notes (first_unit n) (units n.length) None u None room le b
    at u le (inr a) = filled_outside r.shadow.notes (first_unit n) (units n.length) None u None (inr a) ∙ tidy.free u (omega (arith, tidy.unit, aligned, end, a))

pub tidy_deleted : (r q : Region) (f : Flat) (at : ℕ) → IsTidy r f.top → r ≡ f.stack → length r.bytes ≡ 16 * length r.shadow.notes → IsYoungest f at → q ≡ without r at → IsTidy q at
tidy_deleted r q f at tidy same long young is =
    let n = young.note in
    let there = ap (λ z. get_or z.shadow.notes (at / 16) None) same ∙ young.there in
    let gone : q ≡ record { bytes = r.bytes; shadow = cleared r.shadow n } = is ∙ ap (λ o. record { bytes = r.bytes; shadow = cleared_by r.shadow o }) there in
    let aligned : n.base % 16 ≡ 0 = omega (arith, tidy.unit, young.base_is, young.ends) in
    let room : first_unit n + units n.length ≤ length r.shadow.notes = omega (arith, tidy.unit, tidy.inside, long, young.base_is, young.ends) in
    subst (λ b. IsTidy q b) young.base_is (tidy_died r q f.top n tidy aligned (omega (arith, young.base_is, young.ends)) gone room)

-- nothing lives in an empty region
pub tidy_empty : (r : Region) (len : ℕ) → r ≡ empty_region len → IsTidy r 0
tidy_empty r len is =
    subst (λ z. IsTidy z 0) (sym is) (record { unit = refl; inside = omega arith; free = λ u le. none u (cases_lt u (len / 16)) })
  where
    none : (u : ℕ) → (u < len / 16) ⊎ (len / 16 ≤ u) → get_or (replicate {A = Option BlockNote} (len / 16) None) u None ≡ None
    none u (inl lt) = get_or-replicate {A = Option BlockNote} (len / 16) u None None lt
    none u (inr ge) = get_or_past {X = Option BlockNote} (replicate (len / 16) None) u None (omega (arith, ge, length-replicate {A = Option BlockNote} (len / 16) None))
