-- Changes of the marks of a unit's bytes, by masks.
use Rattle.std.proofs.Common.{subst, ◌≡◌, ℕ, ◌+◌, ◌-◌, ◌*◌, ◌/◌, ◌^◌, ◌<◌, ◌≤◌, ◌⊎◌, inl, inr, ⊎_elim, min, max, bit_and, bit_or, refl, sym, ap, ◌∙◌, arith}
use Rattle.std.specs.Int.{bit_at, bit_not, w64}
use Rattle.std.proofs.lemmas.Nat.Bits.{bit_at_and, bit_at_or, bit_at_not, bit_at-lt, same_from_bits, bit_at_above}
use Rattle.std.proofs.lemmas.Bool.{cases_lt}
use Rattle.shadow_segments.specs.Shadow.{Mark, NumberByte, PieceByte}
use Rattle.shadow_segments.specs.Words.{mark_by, ones, HasMarks}
use Rattle.shadow_segments.proofs.WordBits.{bit_at_ones, bit_at_ones_out, bit_at_shift, high_ones, ones_small}

module _ (s low from to : ℕ) (is : low ≡ ones from to) (order : from ≤ to) (small : to ≤ 16) (fits : s < 2 ^ 64) where
  high_is : low * 65536 ≡ ones (16 + from) (16 + to)
  high_is = ap (λ m. m * 65536) is ∙ high_ones from to

  low_in : (i : ℕ) → from ≤ i → i < to → bit_at low i ≡ 1
  low_in i lo hi = ap (λ m. bit_at m i) is ∙ bit_at_ones from to i lo hi

  low_out : (i : ℕ) → (i < from) ⊎ (to ≤ i) → bit_at low i ≡ 0
  low_out i out = ap (λ m. bit_at m i) is ∙ bit_at_ones_out from to i out

  high_in : (i : ℕ) → 16 + from ≤ i → i < 16 + to → bit_at (low * 65536) i ≡ 1
  high_in i lo hi = ap (λ m. bit_at m i) high_is ∙ bit_at_ones (16 + from) (16 + to) i lo hi

  high_out : (i : ℕ) → (i < 16 + from) ⊎ (16 + to ≤ i) → bit_at (low * 65536) i ≡ 0
  high_out i out = ap (λ m. bit_at m i) high_is ∙ bit_at_ones_out (16 + from) (16 + to) i out

  -- a word by the bits of its marks and of its number
  marks_by_bits : (x : Mark) (w p new : ℕ) → mark_by w p ≡ x
      → ((i : ℕ) → from ≤ i → i < to → (bit_at new i ≡ w) × (bit_at new (16 + i) ≡ p))
      → ((i : ℕ) → i < 16 → (i < from) ⊎ (to ≤ i) → (bit_at new i ≡ bit_at s i) × (bit_at new (16 + i) ≡ bit_at s (16 + i)))
      → ((j : ℕ) → bit_at new (32 + j) ≡ bit_at s (32 + j))
      → HasMarks s new from to x
  marks_by_bits x w p new it inside outside above = record {
    number = same_from_bits (new / 2 ^ 32) (s / 2 ^ 32) (λ j. bit_at_shift new 32 j ∙ above j ∙ sym (bit_at_shift s 32 j));
    here = λ i lo hi. ap (λ b. mark_by b (bit_at new (16 + i))) (inside i lo hi).0 ∙ ap (mark_by w) (inside i lo hi).1 ∙ it;
    others = λ i lt out. ap (λ b. mark_by b (bit_at new (16 + i))) (outside i lt out).0 ∙ ap (mark_by (bit_at s i)) (outside i lt out).1;
  }

  numbers_bit : (j : ℕ) → j < 64 → bit_at (bit_and (bit_or s low) (bit_not w64 (low * 65536))) j ≡ min (max (bit_at s j) (bit_at low j)) (1 - bit_at (low * 65536) j)
  numbers_bit j lt = bit_at_and (bit_or s low) (bit_not w64 (low * 65536)) j ∙ ap (λ b. min b (bit_at (bit_not w64 (low * 65536)) j)) (bit_at_or s low j) ∙ ap (min (max (bit_at s j) (bit_at low j))) (bit_at_not w64 (low * 65536) j small_high lt)
    where
      small_high : low * 65536 < 2 ^ 64
      small_high = subst (λ m. m < 2 ^ 64) (sym high_is) (ones_small (16 + from) (16 + to) (omega (arith, small)))

  pub numbers_marks : HasMarks s (bit_and (bit_or s low) (bit_not w64 (low * 65536))) from to NumberByte
  numbers_marks =
      marks_by_bits NumberByte 1 0 (bit_and (bit_or s low) (bit_not w64 (low * 65536))) refl
      (λ i lo hi.
      let a = numbers_bit i (omega (arith, hi, small)) in
      let b = numbers_bit (16 + i) (omega (arith, hi, small)) in
      let la = low_in i lo hi in
      let ha = high_out i (inl (omega (arith, hi, small))) in
      let hb = high_in (16 + i) (omega (arith, lo)) (omega (arith, hi)) in
      let sa = bit_at-lt s i in
      (omega (arith, a, la, ha, sa), omega (arith, b, hb)))
      (λ i lt out.
      let a = numbers_bit i (omega (arith, lt)) in
      let b = numbers_bit (16 + i) (omega (arith, lt)) in
      let la = low_out i out in
      let lb = low_out (16 + i) (inr (omega (arith, small))) in
      let ha = high_out i (inl (omega (arith, lt))) in
      let hb = high_out (16 + i) (⊎_elim (λ x. inl (omega (arith, x))) (λ x. inr (omega (arith, x))) out) in
      let sa = bit_at-lt s i in
      let sb = bit_at-lt s (16 + i) in
      (omega (arith, a, la, ha, sa), omega (arith, b, lb, hb, sb)))
      (λ j. above j (cases_lt (32 + j) 64))
    where
      above : (j : ℕ) → (32 + j < 64) ⊎ (64 ≤ 32 + j) → bit_at (bit_and (bit_or s low) (bit_not w64 (low * 65536))) (32 + j) ≡ bit_at s (32 + j)
      above j (inl lt) =
          let a = numbers_bit (32 + j) lt in
          let la = low_out (32 + j) (inr (omega (arith, small))) in
          let ha = high_out (32 + j) (inr (omega (arith, small))) in
          let sa = bit_at-lt s (32 + j) in
          omega (arith, a, la, ha, sa)
      above j (inr le) =
          let a = bit_at_and (bit_or s low) (bit_not w64 (low * 65536)) (32 + j) in
          let b = bit_at_or s low (32 + j) in
          let la = low_out (32 + j) (inr (omega (arith, small))) in
          let none = bit_at_above s 64 (32 + j) fits le in
          omega (arith, a, b, la, none)

  pieces_bit : (j : ℕ) → bit_at (bit_or (bit_or s low) (low * 65536)) j ≡ max (max (bit_at s j) (bit_at low j)) (bit_at (low * 65536) j)
  pieces_bit j = bit_at_or (bit_or s low) (low * 65536) j ∙ ap (λ b. max b (bit_at (low * 65536) j)) (bit_at_or s low j)

  pub pieces_marks : HasMarks s (bit_or (bit_or s low) (low * 65536)) from to PieceByte
  pieces_marks =
      marks_by_bits PieceByte 1 1 (bit_or (bit_or s low) (low * 65536)) refl
      (λ i lo hi.
      let a = pieces_bit i in
      let b = pieces_bit (16 + i) in
      let la = low_in i lo hi in
      let lb = low_out (16 + i) (inr (omega (arith, small))) in
      let ha = high_out i (inl (omega (arith, hi, small))) in
      let hb = high_in (16 + i) (omega (arith, lo)) (omega (arith, hi)) in
      let sa = bit_at-lt s i in
      let sb = bit_at-lt s (16 + i) in
      (omega (arith, a, la, ha, sa), omega (arith, b, lb, hb, sb)))
      (λ i lt out.
      let a = pieces_bit i in
      let b = pieces_bit (16 + i) in
      let la = low_out i out in
      let lb = low_out (16 + i) (inr (omega (arith, small))) in
      let ha = high_out i (inl (omega (arith, lt))) in
      let hb = high_out (16 + i) (⊎_elim (λ x. inl (omega (arith, x))) (λ x. inr (omega (arith, x))) out) in
      (omega (arith, a, la, ha), omega (arith, b, lb, hb)))
      (λ j.
      let a = pieces_bit (32 + j) in
      let la = low_out (32 + j) (inr (omega (arith, small))) in
      let ha = high_out (32 + j) (inr (omega (arith, small))) in
      omega (arith, a, la, ha))
