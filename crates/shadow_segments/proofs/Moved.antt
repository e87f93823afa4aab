-- Marks that are moved from a word to another.
use Rattle.std.proofs.Common.{◌≡◌, ℕ, zero, suc, ◌+◌, ◌-◌, ◌*◌, ◌/◌, ◌%◌, ◌^◌, ◌<◌, ◌≤◌, ◌⊎◌, inl, inr, ⊎_elim, min, max, bit_and, bit_or, refl, sym, ap, ◌∙◌, arith, nat_lt, false, if◌then◌else◌, lt-ltb}
use Rattle.std.specs.Int.{bit_at, bit_not, w64}
use Rattle.std.proofs.Math.Pow.{pow_mono}
use Rattle.std.proofs.lemmas.Nat.{and_le_l, and_le_r}
use Rattle.std.proofs.lemmas.Nat.Bits.{bit_at_and, bit_at_or, bit_at_not, bit_at-lt, same_from_bits, bit_at_above}
use Rattle.std.proofs.lemmas.Bool.{cases_lt}
use Rattle.std.proofs.lemmas.Bool.Decides.{nat_tests}
use Rattle.shadow_segments.specs.Shadow.{PieceByte, LooseByte, loosened}
use Rattle.shadow_segments.specs.Words.{mark_by, mark_at, ones, HasTaken}
use Rattle.shadow_segments.proofs.WordBits.{bit_at_ones, bit_at_ones_out, bit_at_shift, high_ones, shl_below, shl_above, or_small}

loose_bits : (n w p : ℕ) → n < 8 → w < 2 → p < 2 → mark_by (min w (1 - p)) p ≡ loosened n (mark_by w p)
loose_bits n zero zero lt a b = let z : min 0 (1 - 0) ≡ 0 = omega arith in ap (λ w. mark_by w 0) z
loose_bits n zero (suc p) lt a b = let z : min 0 (1 - suc p) ≡ 0 = omega arith in ap (λ w. mark_by w (suc p)) z
loose_bits n (suc w) zero lt a b = let z : min (suc w) (1 - 0) ≡ 1 = omega (arith, a) in ap (λ w. mark_by w 0) z
loose_bits n (suc w) (suc p) lt a b =
    let z : min (suc w) (1 - suc p) ≡ 0 = omega arith in
    ap (λ w. mark_by w (suc p)) z ∙ ap (λ c. if c then LooseByte else PieceByte) (sym (lt-ltb n 8 lt))

kept_bits : (n w p : ℕ) → 8 ≤ n → mark_by w p ≡ loosened n (mark_by w p)
kept_bits n zero zero le = refl
kept_bits n zero (suc p) le = refl
kept_bits n (suc w) zero le = refl
kept_bits n (suc w) (suc p) le = let not_less : nat_lt n 8 ≡ false = grind (arith, nat_tests, le) in ap (λ c. if c then LooseByte else PieceByte) (sym not_less)

-- the marks that are taken: k of them, of a copy of n bytes
module _ (s low from n k : ℕ) (is : low ≡ ones 0 k) (room : from + k ≤ 16) where
  low_one : (i : ℕ) → i < k → bit_at low i ≡ 1
  low_one i lt = ap (λ m. bit_at m i) is ∙ bit_at_ones 0 k i (omega arith) lt

  low_none : (i : ℕ) → k ≤ i → bit_at low i ≡ 0
  low_none i le = ap (λ m. bit_at m i) is ∙ bit_at_ones_out 0 k i (inr le)

  field_bit : (b i : ℕ) → bit_at (bit_and (s / 2 ^ b) low) i ≡ min (bit_at s (b + i)) (bit_at low i)
  field_bit b i = bit_at_and (s / 2 ^ b) low i ∙ ap (λ z. min z (bit_at low i)) (bit_at_shift s b i)

  field_in : (b i : ℕ) → i < k → bit_at (bit_and (s / 2 ^ b) low) i ≡ bit_at s (b + i)
  field_in b i lt =
      let a = field_bit b i in
      let one = low_one i lt in
      let small = bit_at-lt s (b + i) in
      omega (arith, a, one, small)

  field_out : (b i : ℕ) → k ≤ i → bit_at (bit_and (s / 2 ^ b) low) i ≡ 0
  field_out b i le =
      let a = field_bit b i in
      let none = low_none i le in
      omega (arith, a, none)

  high_place : (i : ℕ) → bit_at s (16 + from + i) ≡ bit_at s (16 + (from + i))
  high_place i = let same : 16 + from + i ≡ 16 + (from + i) = omega arith in ap (bit_at s) same

  abbrev written_field : ℕ
  written_field = bit_and (s / 2 ^ from) low

  abbrev pointer_field : ℕ
  pointer_field = bit_and (s / 2 ^ (16 + from)) low

  pub kept_taken : 8 ≤ n → HasTaken s from n k (bit_and (s / 2 ^ from) low) (bit_and (s / 2 ^ (16 + from)) low)
  kept_taken le = record {
    marks = λ i lt.
        ap (λ w. mark_by w (bit_at pointer_field i)) (field_in from i lt)
        ∙ ap (mark_by (bit_at s (from + i))) (field_in (16 + from) i lt ∙ high_place i)
        ∙ kept_bits n (bit_at s (from + i)) (bit_at s (16 + (from + i))) le;
    none = λ i out. (field_out from i out, field_out (16 + from) i out);
  }

  low_small : low < 2 ^ 16
  low_small = let le : k ≤ 16 = omega (arith, room) in let m : 2 ^ k ≤ 2 ^ 16 = pow_mono le in omega (arith, is, m)

  pub field_small : (b : ℕ) → bit_and (s / 2 ^ b) low < 2 ^ 16
  field_small b = let le = and_le_r (s / 2 ^ b) low in omega (arith, le, low_small)

  pub loose_small : bit_and (bit_and (s / 2 ^ from) low) (bit_not w64 (bit_and (s / 2 ^ (16 + from)) low)) < 2 ^ 16
  loose_small = let le = and_le_l written_field (bit_not w64 pointer_field) in let b = field_small from in omega (arith, le, b)

  pointers_small : pointer_field < 2 ^ 64
  pointers_small = let b = field_small (16 + from) in omega (arith, b)

  loose_bit : (i : ℕ) → i < 64 → bit_at (bit_and written_field (bit_not w64 pointer_field)) i ≡ min (bit_at written_field i) (1 - bit_at pointer_field i)
  loose_bit i lt = bit_at_and written_field (bit_not w64 pointer_field) i ∙ ap (min (bit_at written_field i)) (bit_at_not w64 pointer_field i pointers_small lt)

  pub loose_taken : n < 8 → HasTaken s from n k (bit_and (bit_and (s / 2 ^ from) low) (bit_not w64 (bit_and (s / 2 ^ (16 + from)) low))) (bit_and (s / 2 ^ (16 + from)) low)
  loose_taken lt8 = record {
    marks = λ i lt.
        ap (λ w. mark_by w (bit_at pointer_field i)) (loose_bit i (omega (arith, lt, room)))
        ∙ ap (λ w. mark_by (min w (1 - bit_at pointer_field i)) (bit_at pointer_field i)) (field_in from i lt)
        ∙ ap (λ p. mark_by (min (bit_at s (from + i)) (1 - p)) p) (field_in (16 + from) i lt ∙ high_place i)
        ∙ loose_bits n (bit_at s (from + i)) (bit_at s (16 + (from + i))) lt8 (bit_at-lt s (from + i)) (bit_at-lt s (16 + (from + i)));
    none = λ i out. (outside i out, field_out (16 + from) i out);
  }
    where
      outside : (i : ℕ) → k ≤ i → bit_at (bit_and written_field (bit_not w64 pointer_field)) i ≡ 0
      outside i out =
          let a = bit_at_and written_field (bit_not w64 pointer_field) i in
          let none = field_out from i out in
          omega (arith, a, none)

-- the marks that are put at other bytes
module _ (t low to n written pointers : ℕ) (is : low ≡ ones to (to + n)) (room : to + n ≤ 16) (fits : t < 2 ^ 64) (sw : written < 2 ^ 16) (sp : pointers < 2 ^ 16)
    (none : (i : ℕ) → n ≤ i → (bit_at written i ≡ 0) × (bit_at pointers i ≡ 0)) where
  abbrev put_word : ℕ
  put_word = bit_or (bit_or (bit_and t (bit_not w64 (bit_or low (low * 65536)))) (written * 2 ^ to % 2 ^ 64)) (pointers * 2 ^ (16 + to) % 2 ^ 64)

  mask_bit : (j : ℕ) → bit_at (bit_or low (low * 65536)) j ≡ max (bit_at (ones to (to + n)) j) (bit_at (ones (16 + to) (16 + (to + n))) j)
  mask_bit j = bit_at_or low (low * 65536) j ∙ ap (λ m. max (bit_at m j) (bit_at (m * 65536) j)) is ∙ ap (λ m. max (bit_at (ones to (to + n)) j) (bit_at m j)) (high_ones to (to + n))

  mask_small : bit_or low (low * 65536) < 2 ^ 64
  mask_small = or_small (bit_or low (low * 65536)) (λ j le.
      let a = mask_bit j in
      let m1 = bit_at_ones_out to (to + n) j (inr (omega (arith, room, le))) in
      let m2 = bit_at_ones_out (16 + to) (16 + (to + n)) j (inr (omega (arith, room, le))) in
      omega (arith, a, m1, m2))

  put_bit : (j : ℕ) → bit_at put_word j ≡ max (max (bit_at (bit_and t (bit_not w64 (bit_or low (low * 65536)))) j) (bit_at (written * 2 ^ to % 2 ^ 64) j)) (bit_at (pointers * 2 ^ (16 + to) % 2 ^ 64) j)
  put_bit j =
      bit_at_or (bit_or (bit_and t (bit_not w64 (bit_or low (low * 65536)))) (written * 2 ^ to % 2 ^ 64)) (pointers * 2 ^ (16 + to) % 2 ^ 64) j
      ∙ ap (λ b. max b (bit_at (pointers * 2 ^ (16 + to) % 2 ^ 64) j)) (bit_at_or (bit_and t (bit_not w64 (bit_or low (low * 65536)))) (written * 2 ^ to % 2 ^ 64) j)

  written_at : (j : ℕ) → (j < to) ⊎ (to + n ≤ j) → bit_at (written * 2 ^ to % 2 ^ 64) j ≡ 0
  written_at j (inl b) = shl_below written to j sw (omega (arith, room)) b
  written_at j (inr a) = let at : j ≡ to + (j - to) = omega (arith, a) in shl_above written to (j - to) j sw (omega (arith, room)) at ∙ (none (j - to) (omega (arith, a))).0

  pointers_at : (j : ℕ) → (j < 16 + to) ⊎ (16 + (to + n) ≤ j) → bit_at (pointers * 2 ^ (16 + to) % 2 ^ 64) j ≡ 0
  pointers_at j (inl b) = shl_below pointers (16 + to) j sp (omega (arith, room)) b
  pointers_at j (inr a) = let at : j ≡ 16 + to + (j - (16 + to)) = omega (arith, a) in shl_above pointers (16 + to) (j - (16 + to)) j sp (omega (arith, room)) at ∙ (none (j - (16 + to)) (omega (arith, a))).1

  outside_bit : (j : ℕ) → (j < to) ⊎ (to + n ≤ j) → (j < 16 + to) ⊎ (16 + (to + n) ≤ j) → bit_at put_word j ≡ bit_at t j
  outside_bit j a b = go (cases_lt j 64)
    where
      go : (j < 64) ⊎ (64 ≤ j) → bit_at put_word j ≡ bit_at t j
      go (inl lt) =
          let whole = put_bit j in
          let w = written_at j a in
          let p = pointers_at j b in
          let mask = mask_bit j in
          let m1 = bit_at_ones_out to (to + n) j a in
          let m2 = bit_at_ones_out (16 + to) (16 + (to + n)) j b in
          let kept = bit_at_and t (bit_not w64 (bit_or low (low * 65536))) j ∙ ap (min (bit_at t j)) (bit_at_not w64 (bit_or low (low * 65536)) j mask_small lt) in
          let small = bit_at-lt t j in
          omega (arith, whole, w, p, mask, m1, m2, kept, small)
      go (inr le) =
          let whole = put_bit j in
          let w = written_at j a in
          let p = pointers_at j b in
          let kept = bit_at_and t (bit_not w64 (bit_or low (low * 65536))) j in
          let none_there = bit_at_above t 64 j fits le in
          omega (arith, whole, w, p, kept, none_there)

  pub put_marks : (i : ℕ) → i < n → mark_at put_word (to + i) ≡ mark_by (bit_at written i) (bit_at pointers i)
  put_marks i lt =
      let wbit : bit_at put_word (to + i) ≡ bit_at written i = first in
      let pbit : bit_at put_word (16 + (to + i)) ≡ bit_at pointers i = second in
      ap (λ b. mark_by b (bit_at put_word (16 + (to + i)))) wbit ∙ ap (mark_by (bit_at written i)) pbit
    where
      kept_none : (j : ℕ) → j < 64 → bit_at (bit_or low (low * 65536)) j ≡ 1 → bit_at (bit_and t (bit_not w64 (bit_or low (low * 65536)))) j ≡ 0
      kept_none j small one =
          let kept = bit_at_and t (bit_not w64 (bit_or low (low * 65536))) j ∙ ap (min (bit_at t j)) (bit_at_not w64 (bit_or low (low * 65536)) j mask_small small) in
          omega (arith, kept, one)

      first : bit_at put_word (to + i) ≡ bit_at written i
      first =
          let whole = put_bit (to + i) in
          let w = shl_above written to i (to + i) sw (omega (arith, room)) refl in
          let p = pointers_at (to + i) (inl (omega (arith, lt, room))) in
          let mask = mask_bit (to + i) in
          let m1 = bit_at_ones to (to + n) (to + i) (omega arith) (omega (arith, lt)) in
          let m2 = bit_at_ones_out (16 + to) (16 + (to + n)) (to + i) (inl (omega (arith, lt, room))) in
          let one : bit_at (bit_or low (low * 65536)) (to + i) ≡ 1 = omega (arith, mask, m1, m2) in
          let kept = kept_none (to + i) (omega (arith, lt, room)) one in
          omega (arith, whole, w, p, kept)

      second : bit_at put_word (16 + (to + i)) ≡ bit_at pointers i
      second =
          let whole = put_bit (16 + (to + i)) in
          let w = written_at (16 + (to + i)) (inr (omega (arith, room))) in
          let p = shl_above pointers (16 + to) i (16 + (to + i)) sp (omega (arith, room)) (omega arith) in
          let mask = mask_bit (16 + (to + i)) in
          let m1 = bit_at_ones_out to (to + n) (16 + (to + i)) (inr (omega (arith, room))) in
          let m2 = bit_at_ones (16 + to) (16 + (to + n)) (16 + (to + i)) (omega arith) (omega (arith, lt)) in
          let one : bit_at (bit_or low (low * 65536)) (16 + (to + i)) ≡ 1 = omega (arith, mask, m1, m2) in
          let kept = kept_none (16 + (to + i)) (omega (arith, lt, room)) one in
          omega (arith, whole, w, p, kept)

  pub put_others : (i : ℕ) → i < 16 → (i < to) ⊎ (to + n ≤ i) → mark_at put_word i ≡ mark_at t i
  put_others i lt out =
      ap (λ b. mark_by b (bit_at put_word (16 + i))) (outside_bit i out (inl (omega (arith, lt))))
      ∙ ap (mark_by (bit_at t i)) (outside_bit (16 + i) (inr (omega (arith, room))) (⊎_elim (λ b. inl (omega (arith, b))) (λ a. inr (omega (arith, a))) out))

  pub put_number : put_word / 2 ^ 32 ≡ t / 2 ^ 32
  put_number = same_from_bits (put_word / 2 ^ 32) (t / 2 ^ 32) (λ j. bit_at_shift put_word 32 j ∙ outside_bit (32 + j) (inr (omega (arith, room))) (inr (omega (arith, room))) ∙ sym (bit_at_shift t 32 j))
