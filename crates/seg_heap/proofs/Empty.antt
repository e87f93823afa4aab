-- What the placer of an empty segment keeps.
use Rattle.std.proofs.Common.{◌≡◌, ℕ, zero, suc, ◌+◌, ◌/◌, ◌<◌, ◌≤◌, ◌⊎◌, inl, inr, ⊎_elim, List, [], length, get_or, set, replicate, refl, ap, ◌∙◌, arith}
use Rattle.std.proofs.lemmas.Bool.{cases_lt, cases_eq}
use Rattle.std.proofs.lemmas.List.{get_or-replicate, get_or_past, length-replicate}
use Rattle.seg_heap.specs.Tiles.{blocks_from, Keeps}
use Rattle.seg_heap.proofs.Writes.{same, other, long, past}

empty_blocks : (unit n : ℕ) → blocks_from unit (replicate n 0) ≡ []
empty_blocks unit zero = refl
empty_blocks unit (suc n) = empty_blocks (suc unit) n

pub empty_heap : (units : ℕ) (starts : List ℕ) → starts ≡ replicate units 0 → blocks_from 0 starts ≡ []
empty_heap units starts is = ap (blocks_from 0) is ∙ empty_blocks 0 units

zeros : (n i : ℕ) → get_or {A = ℕ} (replicate n 0) i 0 ≡ 0
zeros n i = ⊎_elim (λ lt. get_or-replicate {A = ℕ} n i 0 0 lt) (λ ge. get_or_past {X = ℕ} (replicate n 0) i 0 (let e = length-replicate {A = ℕ} n 0 in omega (arith, e, ge))) (cases_lt i n)

pub kept_empty : (units : ℕ) (starts before gaps gaps1 : List ℕ) → units ≤ 16777216 → starts ≡ replicate units 0 → before ≡ replicate units 0 → units ≤ length gaps → gaps ≡ replicate (length gaps) 0 → gaps1 ≡ set gaps 0 units
    → Keeps units starts before gaps1
kept_empty units starts before gaps gaps1 small starts_are before_are room gaps_are is = record {
  small = small;
  each_start = ap length starts_are ∙ length-replicate {A = ℕ} units 0;
  each_before = ap length before_are ∙ length-replicate {A = ℕ} units 0;
  each_gap = (let e : length gaps1 ≡ length gaps = ap length is ∙ long gaps 0 units in omega (arith, e, room));
  tiles = record {
    kind = λ u lt. absurd (let e = none u in omega (arith, e, lt));
    within = λ u lt. at u (cases_eq u 0) lt;
    apart = λ u t lt one. absurd (let e = none t in let f = no_gap t (λ z. omega (arith, z, lt)) in omega (arith, e, f, one));
    whole = λ u lt. record { start = 0; from = omega arith; to = (let e = whole in omega (arith, e, lt)) };
    widest = λ u one. wide u (cases_eq u 0) one;
  };
  ends = record {
    ends = λ u lt one. absurd (let e = none u in omega (arith, e, lt));
    all = λ u lt one. absurd (let e = none (u + get_or gaps1 u 0) in omega (arith, e, one));
  };
}
  where
    none : (u : ℕ) → get_or starts u 0 ≡ 0
    none u = ap (λ l. get_or l u 0) starts_are ∙ zeros units u

    whole : get_or gaps1 0 0 ≡ units
    whole = ap (λ l. get_or l 0 0) is ∙ ⊎_elim
        (λ lt. same gaps 0 0 units refl lt)
        (λ ge. (let e = past gaps 0 units ge in omega (arith, e, ge, room)))
        (cases_lt 0 (length gaps))

    no_gap : (u : ℕ) → (u ≡ 0 → ⊥) → get_or gaps1 u 0 ≡ 0
    no_gap u ne = ap (λ l. get_or l u 0) is ∙ other gaps 0 u units ne ∙ ap (λ l. get_or l u 0) gaps_are ∙ zeros (length gaps) u

    at : (u : ℕ) → (u ≡ 0) ⊎ (u ≡ 0 → ⊥) → 0 < (get_or starts u 0 + 15) / 16 + get_or gaps1 u 0 → u + (get_or starts u 0 + 15) / 16 + get_or gaps1 u 0 ≤ units
    at u (inl e) lt = let a = none u in let b = ap (λ z. get_or gaps1 z 0) e in let w = whole in omega (arith, a, b, w, e)
    at u (inr ne) lt = absurd (let a = none u in let b = no_gap u ne in omega (arith, a, b, lt))

    wide : (u : ℕ) → (u ≡ 0) ⊎ (u ≡ 0 → ⊥) → 0 < get_or gaps1 u 0 → get_or gaps1 (u + get_or gaps1 u 0) 0 ≡ 0
    wide u (inl e) one = no_gap (u + get_or gaps1 u 0) (λ z. omega (arith, z, one))
    wide u (inr ne) one = absurd (let b = no_gap u ne in omega (arith, b, one))
