-- Tests of the marks of a unit's bytes, by masks.
use Rattle.std.proofs.Common.{◌≡◌, ◌≢◌, ℕ, zero, suc, ◌+◌, ◌-◌, ◌*◌, ◌/◌, ◌^◌, ◌<◌, ◌≤◌, ◌⊎◌, inl, inr, min, max, bit_and, bit_or, refl, sym, ap, ◌∙◌, arith, Bool, true, false, ◌&&◌, nat_eq, eqb-true, eq-eqb}
use Rattle.std.specs.Int.{bit_at}
use Rattle.std.proofs.Math.Pow.{pow_mono}
use Rattle.std.proofs.lemmas.Nat.Bits.{bit_at_and, bit_at_or, bit_at-lt, same_from_bits, bit_at_cat_low, bit_at_cat_high}
use Rattle.std.proofs.lemmas.Bool.{cases_lt, cases_eq}
use Rattle.shadow_segments.specs.Shadow.{Mark, is_written, is_piece, is_plain, is_number}
use Rattle.shadow_segments.specs.Words.{mark_by, mark_at, ones, all_from}
use Rattle.shadow_segments.proofs.WordBits.{bit_at_ones, bit_at_ones_out, bit_at_shift, all_set_from, set_all_from, none_set_from, set_none_from}

and_both : (a b : Bool) → (a && b) ≡ true → (a ≡ true) × (b ≡ true)
and_both true b e = (refl, e)
and_both false b e = absurd (cc e)

same_bools : (b c : Bool) → (b ≡ true → c ≡ true) → (c ≡ true → b ≡ true) → b ≡ c
same_bools true c f g = sym (f refl)
same_bools false true f g = g refl
same_bools false false f g = refl

pub all_from_each : (test : Mark → Bool) (s from k : ℕ) → all_from test s from k ≡ true → (i : ℕ) → from ≤ i → i < from + k → test (mark_at s i) ≡ true
all_from_each test s from zero e i lo hi = absurd (omega (arith, lo, hi))
all_from_each test s from (suc k) e i lo hi = go (cases_eq i from) (λ after. all_from_each test s (suc from) k (and_both _ _ e).1 i after (omega (arith, hi)))
  where
    go : (i ≡ from) ⊎ (i ≢ from) → (suc from ≤ i → test (mark_at s i) ≡ true) → test (mark_at s i) ≡ true
    go (inl same) rest = ap (λ j. test (mark_at s j)) same ∙ (and_both _ _ e).0
    go (inr other) rest = rest (grind (arith, other, lo))

pub all_from_true : (test : Mark → Bool) (s from k : ℕ) → ((i : ℕ) → from ≤ i → i < from + k → test (mark_at s i) ≡ true) → all_from test s from k ≡ true
all_from_true test s from zero each = refl
all_from_true test s from (suc k) each =
    ap (λ b. b && all_from test s (suc from) k) (each from (omega arith) (omega arith)) ∙ all_from_true test s (suc from) k (λ i lo hi. each i (omega (arith, lo)) (omega (arith, hi)))

-- the two bits of a mark
written_bits : (w p : ℕ) → w < 2 → p < 2 → is_written (mark_by w p) ≡ true → max w p ≡ 1
written_bits zero zero a b e = absurd (cc e)
written_bits zero (suc p) a b e = omega (arith, a, b)
written_bits (suc w) p a b e = omega (arith, a, b)

bits_written : (w p : ℕ) → max w p ≡ 1 → is_written (mark_by w p) ≡ true
bits_written zero zero e = absurd (omega (arith, e))
bits_written zero (suc p) e = refl
bits_written (suc w) zero e = refl
bits_written (suc w) (suc p) e = refl

pieces_bits : (w p : ℕ) → w < 2 → p < 2 → is_piece (mark_by w p) ≡ true → min w p ≡ 1
pieces_bits zero zero a b e = absurd (cc e)
pieces_bits zero (suc p) a b e = absurd (cc e)
pieces_bits (suc w) zero a b e = absurd (cc e)
pieces_bits (suc w) (suc p) a b e = omega (arith, a, b)

bits_pieces : (w p : ℕ) → min w p ≡ 1 → is_piece (mark_by w p) ≡ true
bits_pieces zero p e = absurd (omega (arith, e))
bits_pieces (suc w) zero e = absurd (omega (arith, e))
bits_pieces (suc w) (suc p) e = refl

number_bits : (w p : ℕ) → w < 2 → is_number (mark_by w p) ≡ true → (w ≡ 1) × (p ≡ 0)
number_bits zero zero a e = absurd (cc e)
number_bits zero (suc p) a e = absurd (cc e)
number_bits (suc w) zero a e = (omega (arith, a), refl)
number_bits (suc w) (suc p) a e = absurd (cc e)

plain_bit : (w p : ℕ) → is_plain (mark_by w p) ≡ true → p ≡ 0
plain_bit zero zero e = refl
plain_bit (suc w) zero e = refl
plain_bit zero (suc p) e = absurd (cc e)
plain_bit (suc w) (suc p) e = absurd (cc e)

bit_plain : (w p : ℕ) → p ≡ 0 → is_plain (mark_by w p) ≡ true
bit_plain zero zero e = refl
bit_plain (suc w) zero e = refl
bit_plain zero (suc p) e = absurd (omega (arith, e))
bit_plain (suc w) (suc p) e = absurd (omega (arith, e))

-- the word is shifted and not the mask, so that for a width that is known the mask is a number
module _ (s low from k : ℕ) (is : low ≡ ones 0 k) where
  -- a test of marks by one bit each
  by_ones : (test : Mark → Bool) (x : ℕ) → ((i : ℕ) → bit_at x i ≡ 1 → test (mark_at s i) ≡ true) → ((i : ℕ) → test (mark_at s i) ≡ true → bit_at x i ≡ 1)
      → nat_eq (bit_and (x / 2 ^ from) low) low ≡ all_from test s from k
  by_ones test x then_passes then_set =
      ap (λ m. nat_eq (bit_and (x / 2 ^ from) m) m) is
      ∙ same_bools (nat_eq (bit_and (x / 2 ^ from) (ones 0 k)) (ones 0 k)) (all_from test s from k)
      (λ e. all_from_true test s from k (λ i lo hi. then_passes i (all_set_from x from k (eqb-true _ _ e) i lo hi)))
      (λ e. eq-eqb _ _ (set_all_from x from k (λ i lo hi. then_set i (all_from_each test s from k e i lo hi))))

  either_bit : (i : ℕ) → bit_at (bit_or s (s / 65536)) i ≡ max (bit_at s i) (bit_at s (16 + i))
  either_bit i = bit_at_or s (s / 65536) i ∙ ap (max (bit_at s i)) (bit_at_shift s 16 i)

  both_bits : (i : ℕ) → bit_at (bit_and s (s / 65536)) i ≡ min (bit_at s i) (bit_at s (16 + i))
  both_bits i = bit_at_and s (s / 65536) i ∙ ap (min (bit_at s i)) (bit_at_shift s 16 i)

  pub written_test : nat_eq (bit_and (bit_or s (s / 65536) / 2 ^ from) low) low ≡ all_from is_written s from k
  written_test =
      by_ones is_written (bit_or s (s / 65536))
      (λ i one. bits_written (bit_at s i) (bit_at s (16 + i)) (sym (either_bit i) ∙ one))
      (λ i e. either_bit i ∙ written_bits (bit_at s i) (bit_at s (16 + i)) (bit_at-lt s i) (bit_at-lt s (16 + i)) e)

  pub pieces_test : nat_eq (bit_and (bit_and s (s / 65536) / 2 ^ from) low) low ≡ all_from is_piece s from k
  pieces_test =
      by_ones is_piece (bit_and s (s / 65536))
      (λ i one. bits_pieces (bit_at s i) (bit_at s (16 + i)) (sym (both_bits i) ∙ one))
      (λ i e. both_bits i ∙ pieces_bits (bit_at s i) (bit_at s (16 + i)) (bit_at-lt s i) (bit_at-lt s (16 + i)) e)

  pub plain_test : nat_eq (bit_and (s / 2 ^ (16 + from)) low) 0 ≡ all_from is_plain s from k
  plain_test =
      ap (λ m. nat_eq (bit_and (s / 2 ^ (16 + from)) m) 0) is
      ∙ same_bools (nat_eq (bit_and (s / 2 ^ (16 + from)) (ones 0 k)) 0) (all_from is_plain s from k)
      (λ e. all_from_true is_plain s from k (λ i lo hi.
      bit_plain (bit_at s i) (bit_at s (16 + i)) (none_set_from s (16 + from) k (eqb-true _ _ e) (16 + i) (omega (arith, lo)) (omega (arith, hi)))))
      (λ e. eq-eqb _ _ (set_none_from s (16 + from) k (λ j lo hi. plain_at e j lo hi)))
    where
      plain_at : all_from is_plain s from k ≡ true → (j : ℕ) → 16 + from ≤ j → j < 16 + from + k → bit_at s j ≡ 0
      plain_at e j lo hi =
          let back : 16 + (j - 16) ≡ j = omega (arith, lo) in
          ap (bit_at s) (sym back) ∙ plain_bit (bit_at s (j - 16)) (bit_at s (16 + (j - 16))) (all_from_each is_plain s from k e (j - 16) (omega (arith, lo)) (omega (arith, lo, hi)))

-- numbers by one mask of both bits
module _ (s low from k : ℕ) (is : low ≡ ones 0 k) (small : k ≤ 16) where
  both_low : (i : ℕ) → i < 16 → bit_at (low * 65537) i ≡ bit_at low i
  both_low i lt =
      let split : low * 65537 ≡ low * 2 ^ 16 + low = omega arith in
      ap (λ m. bit_at m i) split ∙ bit_at_cat_low low 16 low i lt

  both_high : (i : ℕ) → bit_at (low * 65537) (16 + i) ≡ bit_at low i
  both_high i =
      let split : low * 65537 ≡ low * 2 ^ 16 + low = omega arith in
      let fits : low < 2 ^ 16 = let m : 2 ^ k ≤ 2 ^ 16 = pow_mono small in omega (arith, is, m) in
      let back : 16 + i - 16 ≡ i = omega arith in
      ap (λ m. bit_at m (16 + i)) split ∙ bit_at_cat_high low 16 low (16 + i) fits (omega arith) ∙ ap (bit_at low) back

  one_in : (i : ℕ) → i < k → bit_at low i ≡ 1
  one_in i lt = ap (λ m. bit_at m i) is ∙ bit_at_ones 0 k i (omega arith) lt

  none_out : (i : ℕ) → k ≤ i → bit_at low i ≡ 0
  none_out i le = ap (λ m. bit_at m i) is ∙ bit_at_ones_out 0 k i (inr le)

  and_bit : (i : ℕ) → bit_at (bit_and (s / 2 ^ from) (low * 65537)) i ≡ min (bit_at s (from + i)) (bit_at (low * 65537) i)
  and_bit i = bit_at_and (s / 2 ^ from) (low * 65537) i ∙ ap (λ b. min b (bit_at (low * 65537) i)) (bit_at_shift s from i)

  pub numbers_test : nat_eq (bit_and (s / 2 ^ from) (low * 65537)) low ≡ all_from is_number s from k
  numbers_test =
      same_bools (nat_eq (bit_and (s / 2 ^ from) (low * 65537)) low) (all_from is_number s from k)
      (λ e. all_from_true is_number s from k (λ j lo hi. here (eqb-true _ _ e) j lo hi))
      (λ e. eq-eqb _ _ (same_from_bits (bit_and (s / 2 ^ from) (low * 65537)) low (λ i. and_bit i ∙ there e i (cases_lt i k) (cases_lt i 16) (cases_lt i (16 + k)))))
    where
      here : bit_and (s / 2 ^ from) (low * 65537) ≡ low → (j : ℕ) → from ≤ j → j < from + k → is_number (mark_at s j) ≡ true
      here e j lo hi =
          let i = j - from in
          let lt : j - from < k = omega (arith, lo, hi) in
          let back : from + (j - from) ≡ j = omega (arith, lo) in
          let back_high : from + (16 + (j - from)) ≡ 16 + j = omega (arith, lo) in
          let a : min (bit_at s (from + i)) (bit_at (low * 65537) i) ≡ bit_at low i = sym (and_bit i) ∙ ap (λ z. bit_at z i) e in
          let b : min (bit_at s (from + (16 + i))) (bit_at (low * 65537) (16 + i)) ≡ bit_at low (16 + i) = sym (and_bit (16 + i)) ∙ ap (λ z. bit_at z (16 + i)) e in
          let one = one_in i lt in
          let none = none_out (16 + i) (omega (arith, small)) in
          let ma = both_low i (omega (arith, lt, small)) in
          let mb = both_high i in
          let sa = bit_at-lt s (from + i) in
          let w : bit_at s (from + i) ≡ 1 = omega (arith, a, one, ma, sa) in
          let p : bit_at s (from + (16 + i)) ≡ 0 = omega (arith, b, none, mb, one) in
          ap (λ z. is_number (mark_by z (bit_at s (16 + j)))) (sym (ap (bit_at s) back) ∙ w) ∙ ap (λ z. is_number (mark_by 1 z)) (sym (ap (bit_at s) back_high) ∙ p)

      bits : all_from is_number s from k ≡ true → (i : ℕ) → i < k → (bit_at s (from + i) ≡ 1) × (bit_at s (16 + (from + i)) ≡ 0)
      bits e i lt = number_bits (bit_at s (from + i)) (bit_at s (16 + (from + i))) (bit_at-lt s (from + i)) (all_from_each is_number s from k e (from + i) (omega arith) (omega (arith, lt)))

      there : all_from is_number s from k ≡ true → (i : ℕ) → (i < k) ⊎ (k ≤ i) → (i < 16) ⊎ (16 ≤ i) → (i < 16 + k) ⊎ (16 + k ≤ i) → min (bit_at s (from + i)) (bit_at (low * 65537) i) ≡ bit_at low i
      there e i (inl a) h g =
          let one = one_in i a in
          let ma = both_low i (omega (arith, a, small)) in
          let w = (bits e i a).0 in
          omega (arith, one, ma, w)
      there e i (inr a) (inl b) g =
          let none = none_out i a in
          let ma = both_low i b in
          omega (arith, none, ma)
      there e i (inr a) (inr b) (inl c) =
          let back : 16 + (i - 16) ≡ i = omega (arith, b) in
          let same : 16 + (from + (i - 16)) ≡ from + i = omega (arith, b) in
          let none = none_out i a in
          let p = sym (ap (bit_at s) same) ∙ (bits e (i - 16) (omega (arith, b, c))).1 in
          omega (arith, none, p)
      there e i (inr a) (inr b) (inr c) =
          let back : 16 + (i - 16) ≡ i = omega (arith, b) in
          let none = none_out i a in
          let out = none_out (i - 16) (omega (arith, c)) in
          let mb = sym (ap (bit_at (low * 65537)) back) ∙ both_high (i - 16) in
          omega (arith, none, out, mb)
