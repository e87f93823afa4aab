-- Operators on bits lie in their ranges, and act on each bit.
use Rattle.std.proofs.Common.{◌≡◌, ℕ, zero, suc, ◌+◌, ◌-◌, ◌*◌, ◌%◌, ◌<◌, ◌≤◌, ◌^◌, ℤ, pos, negsuc, neg_ℤ, ◌≤ℤ◌, Bool, true, false, cond, nat_lt, min, max, refl, sym, ap, ◌∙◌, subst, arith, ◌&&◌, Some, FitsSigned, to_z, of_z, ◌-ℤ◌, bit_and, bit_or}
use Rattle.std.proofs.Common.{bit_xor}
use Rattle.std.specs.Prelude.{int_le}
use Rattle.std.specs.Int.{w128, int_min, bit_at}
use Rattle.std.specs.Int.Signed.{mag}
use Rattle.std.proofs.lemmas.Int.{ints, clamps, to_z_pos}
use Rattle.std.proofs.lemmas.Bool.{ltb-true}
use Rattle.std.proofs.lemmas.Bool.Decides.{nat_tests}
use Rattle.std.proofs.lemmas.Nat.{pow_pos, and_le_l, and_le_r, or_disjoint, leading_length, one_shl}
use Rattle.std.proofs.lemmas.Nat.Bits.{bit_at_and, bit_at_or, bit_at_xor, bit_at-lt, bit_at-zero, same_from_bits}
use Rattle.std.proofs.Math.Pow.{pow_mono}
use Rattle.std.proofs.Math.Nat.{pow-suc}
use lib.Count.{count_leading_zeros}
use Rattle.c_syntax.specs.declared.annotation.Range.{Range}
use Rattle.c_model.specs.Operators.{bits_without, bitwise_and, bitwise_or, bitwise_xor}
use Rattle.c_model.specs.Ranges.{LiesIn, IsWithin128, from_to, bounded, range_in_bits, is_nonnegative, least_from, bits_of_both, bits_range, common_bits}
use Rattle.c_model.proofs.OperatorResults.{mag-bitwise_or, mag-bitwise_xor, mag-bitwise_and}
use Rattle.ea_num.specs.Laws.{AndsLie, OrsLie, XorsLie, OperatorsActOnEachBit}
use Rattle.ea_num.proofs.Bounded.{InBits, in_bits_from_test, range_in_bits-true, bounded-within, lies_in_bounded}
use Rattle.ea_num.proofs.Converted.{lies_in_bits}
use Rattle.ea_num.proofs.Hull.{le_trans}

-- ---- the least number of bits

pub least_from-is : (test : ℕ → Bool) (more j m : ℕ) → j ≤ m → m ≤ j + more → ((i : ℕ) → j ≤ i → i < m → test i ≡ false) → test m ≡ true → least_from test more j ≡ m
unfolding least_from
least_from-is test zero j m l u below here = omega arith
least_from-is test (suc more) j m l u below here =
    by (λ (q : suc j ≤ m) (r : m ≤ suc j + more). least_from-is test more (suc j) m q r (λ i v w. below i (omega arith) w) here) (nat_lt j m) (test j) refl refl
  where
    by : (suc j ≤ m → m ≤ suc j + more → least_from test more (suc j) ≡ m) → (s t : Bool) → nat_lt j m ≡ s → test j ≡ t → cond t j (least_from test more (suc j)) ≡ m
    by next true true p e = let q : test j ≡ false = below j (omega arith) (ltb-true j m p) in absurd cc
    by next true false p e =
        let q : j < m = ltb-true j m p in
        next q (omega arith)
    by next false t p e =
        let q : j ≡ m = grind (arith, nat_tests) in
        let r : t ≡ true = sym e ∙ ap test q ∙ here in
        rw r q

pub least_from-holds : (test : ℕ → Bool) (more j : ℕ) → test (j + more) ≡ true → test (least_from test more j) ≡ true
unfolding least_from
least_from-holds test zero j here = let e : j + 0 ≡ j = omega arith in ap test (sym e) ∙ here
least_from-holds test (suc more) j here =
    let q : suc j + more ≡ j + suc more = omega arith in
    by (least_from-holds test more (suc j) (ap test q ∙ here)) (test j) refl
  where
    by : test (least_from test more (suc j)) ≡ true → (t : Bool) → test j ≡ t → test (cond t j (least_from test more (suc j))) ≡ true
    by next true e = e
    by next false e = next

-- both ranges are in so many bits
pub record BothInBits (h : ℕ) (a b : Range) : Type 0 where
  pub left : InBits h a
  pub right : InBits h b

both_from_test : (h : ℕ) (a b : Range) → (range_in_bits h a && range_in_bits h b) ≡ true → BothInBits h a b
both_from_test h a b e = by (range_in_bits h a) (range_in_bits h b) refl refl e
  where
    by : (s t : Bool) → range_in_bits h a ≡ s → range_in_bits h b ≡ t → (s && t) ≡ true → BothInBits h a b
    by true true p q f = record { left = in_bits_from_test h a p; right = in_bits_from_test h b q }
    by true false p q f = absurd cc
    by false t p q f = absurd cc

test_of_both : (h : ℕ) (a b : Range) → BothInBits h a b → (range_in_bits h a && range_in_bits h b) ≡ true
test_of_both h a b i = rw (range_in_bits-true h a i.left, range_in_bits-true h b i.right) refl

both_within : (a b : Range) → IsWithin128 a → IsWithin128 b → BothInBits 127 a b
both_within a b v w = record { left = record { lo_in = v.lo_fits.sfits; hi_in = v.hi_fits.sfits }; right = record { lo_in = w.lo_fits.sfits; hi_in = w.hi_fits.sfits } }

pub in_bits_of_both : (a b : Range) → IsWithin128 a → IsWithin128 b → BothInBits (bits_of_both a b) a b
in_bits_of_both a b v w = both_from_test (bits_of_both a b) a b (least_from-holds (λ j. range_in_bits j a && range_in_bits j b) 127 0 (test_of_both 127 a b (both_within a b v w)))

-- a number of n bits is no number of fewer
no_fewer_bits : (i n m : ℕ) → i < n → 2 ^ n ≤ 2 * m + 1 → m < 2 ^ i → ⊥
no_fewer_bits i n m l h k =
    let p : 2 ^ suc i ≤ 2 ^ n = pow_mono l in
    let q = pow-suc 2 i in
    omega arith

pub record LeastBits (n : ℕ) (a b : Range) : Type 0 where
  pub same : n ≡ bits_of_both a b
  pub bound : n ≤ 127

least_bits : (a b : Range) (n m : ℕ) → m ≡ max (max (mag a.lo) (mag a.hi)) (max (mag b.lo) (mag b.hi)) → m < 2 ^ 127 → m < 2 ^ n → 2 ^ n ≤ 2 * m + 1 → LeastBits n a b
least_bits a b n m e small l h = record { same = sym (least_from-is (λ j. range_in_bits j a && range_in_bits j b) 127 0 n (omega arith) bound below here); bound = bound }
  where
    bound : n ≤ 127
    bound = by (nat_lt 127 n) refl
      where
        by : (t : Bool) → nat_lt 127 n ≡ t → n ≤ 127
        by true p = absurd (no_fewer_bits 127 n m (ltb-true 127 n p) h small)
        by false p = grind (arith, nat_tests)

    here : (range_in_bits n a && range_in_bits n b) ≡ true
    here = test_of_both n a b (record { left = record { lo_in = omega arith; hi_in = omega arith }; right = record { lo_in = omega arith; hi_in = omega arith } })

    below : (i : ℕ) → 0 ≤ i → i < n → (range_in_bits i a && range_in_bits i b) ≡ false
    below i p q = by (range_in_bits i a && range_in_bits i b) refl
      where
        by : (t : Bool) → (range_in_bits i a && range_in_bits i b) ≡ t → (range_in_bits i a && range_in_bits i b) ≡ false
        by true f =
            let r = both_from_test i a b f in
            let s = r.left in
            let t = r.right in
            let k : m < 2 ^ i = omega arith in
            absurd (no_fewer_bits i n m q h k)
        by false f = f

-- what the code of the least number of bits gives
pub bits_of_code : (a b : Range) (m : ℕ) → m ≡ max (max (mag a.lo) (mag a.hi)) (max (mag b.lo) (mag b.hi)) → m < 2 ^ 127 → LeastBits (128 - count_leading_zeros 128 m) a b
bits_of_code a b m e small =
    let l = leading_length 128 m (omega arith) in
    let n : l.0 ≡ 128 - count_leading_zeros 128 m = omega (arith, l.1) in
    subst (λ (k : ℕ). LeastBits k a b) n (least_bits a b l.0 m e small l.2 l.3)

-- ---- the numbers of so many bits

pub in_bits_lies : (h : ℕ) (z : ℤ) → mag z < 2 ^ h → LiesIn (from_to (neg_ℤ (pos (2 ^ h))) (pos (2 ^ h - 1))) z
in_bits_lies h (pos n) l = record { above = omega (arith, ints); below = omega (arith, ints) }
in_bits_lies h (negsuc n) l = record { above = omega (arith, ints); below = omega (arith, ints, pow_pos h) }

nonnegative_lies : (h : ℕ) (z : ℤ) → mag z < 2 ^ h → pos 0 ≤ℤ z → LiesIn (from_to (pos 0) (pos (2 ^ h - 1))) z
nonnegative_lies h (pos n) l p = record { above = p; below = omega (arith, ints) }
nonnegative_lies h (negsuc n) l p = absurd (omega (arith, ints))

at_least_zero : (a : Range) (x : ℤ) → int_le (pos 0) a.lo ≡ true → LiesIn a x → pos 0 ≤ℤ x
at_least_zero a x e h = let p : pos 0 ≤ℤ a.lo = omega (arith, ints) in le_trans (pos 0) a.lo x p h.above

bits_lie : (a b : Range) (h : ℕ) (x y z : ℤ) → LiesIn a x → LiesIn b y → mag z < 2 ^ h → (pos 0 ≤ℤ x → pos 0 ≤ℤ y → pos 0 ≤ℤ z) → LiesIn (bits_range a b h) z
bits_lie a b h x y z p q l up = by (int_le (pos 0) a.lo) (int_le (pos 0) b.lo) refl refl
  where
    by : (s t : Bool) → int_le (pos 0) a.lo ≡ s → int_le (pos 0) b.lo ≡ t → LiesIn (cond (s && t) (from_to (pos 0) (pos (2 ^ h - 1))) (from_to (neg_ℤ (pos (2 ^ h))) (pos (2 ^ h - 1)))) z
    by true true e f = nonnegative_lies h z l (up (at_least_zero a x e p) (at_least_zero b y f q))
    by true false e f = in_bits_lies h z l
    by false t e f = in_bits_lies h z l

-- ---- the operators keep within the bits of their operands

bitwise_or-nonnegative : (x y : ℤ) → pos 0 ≤ℤ x → pos 0 ≤ℤ y → pos 0 ≤ℤ bitwise_or x y
bitwise_or-nonnegative (pos a) (pos b) p q = omega (arith, ints)
bitwise_or-nonnegative (pos a) (negsuc b) p q = absurd (omega (arith, ints))
bitwise_or-nonnegative (negsuc a) y p q = absurd (omega (arith, ints))

bitwise_xor-nonnegative : (x y : ℤ) → pos 0 ≤ℤ x → pos 0 ≤ℤ y → pos 0 ≤ℤ bitwise_xor x y
bitwise_xor-nonnegative (pos a) (pos b) p q = omega (arith, ints)
bitwise_xor-nonnegative (pos a) (negsuc b) p q = absurd (omega (arith, ints))
bitwise_xor-nonnegative (negsuc a) y p q = absurd (omega (arith, ints))

bitwise_and_left : (x y : ℤ) → pos 0 ≤ℤ x → (pos 0 ≤ℤ bitwise_and x y) × (bitwise_and x y ≤ℤ x)
bitwise_and_left (pos a) (pos b) p = let m = and_le_l a b in (omega (arith, ints), omega (arith, ints))
bitwise_and_left (pos a) (negsuc b) p = (omega (arith, ints), omega (arith, ints))
bitwise_and_left (negsuc a) y p = absurd (omega (arith, ints))

bitwise_and_right : (x y : ℤ) → pos 0 ≤ℤ y → (pos 0 ≤ℤ bitwise_and x y) × (bitwise_and x y ≤ℤ y)
bitwise_and_right (pos a) (pos b) p = let m = and_le_r a b in (omega (arith, ints), omega (arith, ints))
bitwise_and_right (negsuc a) (pos b) p = (omega (arith, ints), omega (arith, ints))
bitwise_and_right x (negsuc b) p = absurd (omega (arith, ints))

pub ors_lie : OrsLie
ors_lie a b r x y v w e p q =
    let i = in_bits_of_both a b v w in
    lies_in_bounded (bits_range a b (bits_of_both a b)) r (bitwise_or x y) e
    (bits_lie a b (bits_of_both a b) x y (bitwise_or x y) p q
    (mag-bitwise_or (bits_of_both a b) x y (lies_in_bits (bits_of_both a b) a x i.left p) (lies_in_bits (bits_of_both a b) b y i.right q))
    (bitwise_or-nonnegative x y))

pub xors_lie : XorsLie
xors_lie a b r x y v w e p q =
    let i = in_bits_of_both a b v w in
    lies_in_bounded (bits_range a b (bits_of_both a b)) r (bitwise_xor x y) e
    (bits_lie a b (bits_of_both a b) x y (bitwise_xor x y) p q
    (mag-bitwise_xor (bits_of_both a b) x y (lies_in_bits (bits_of_both a b) a x i.left p) (lies_in_bits (bits_of_both a b) b y i.right q))
    (bitwise_xor-nonnegative x y))

pub ands_lie : AndsLie
ands_lie a b r x y v w e p q = lies_in_bounded (common_bits a b) r (bitwise_and x y) e (by (int_le (pos 0) a.lo) (int_le (pos 0) b.lo) refl refl)
  where
    wide : LiesIn (bits_range a b (bits_of_both a b)) (bitwise_and x y)
    wide =
        let i = in_bits_of_both a b v w in
        bits_lie a b (bits_of_both a b) x y (bitwise_and x y) p q
        (mag-bitwise_and (bits_of_both a b) x y (lies_in_bits (bits_of_both a b) a x i.left p) (lies_in_bits (bits_of_both a b) b y i.right q))
        (λ (m : pos 0 ≤ℤ x) (n : pos 0 ≤ℤ y). (bitwise_and_left x y m).0)

    by : (s t : Bool) → int_le (pos 0) a.lo ≡ s → int_le (pos 0) b.lo ≡ t → LiesIn (cond s (from_to (pos 0) (cond t (int_min a.hi b.hi) a.hi)) (cond t (from_to (pos 0) b.hi) (bits_range a b (bits_of_both a b)))) (bitwise_and x y)
    by true true f g =
        let m = bitwise_and_left x y (at_least_zero a x f p) in
        let n = bitwise_and_right x y (at_least_zero b y g q) in
        let c = le_trans (bitwise_and x y) x a.hi m.1 p.below in
        let d = le_trans (bitwise_and x y) y b.hi n.1 q.below in
        record { above = m.0; below = omega (arith, ints, clamps) }
    by true false f g =
        let m = bitwise_and_left x y (at_least_zero a x f p) in
        record { above = m.0; below = le_trans (bitwise_and x y) x a.hi m.1 p.below }
    by false true f g =
        let n = bitwise_and_right x y (at_least_zero b y g q) in
        record { above = n.0; below = le_trans (bitwise_and x y) y b.hi n.1 q.below }
    by false false f g = wide

-- ---- each bit

-- the bits of a that b does not have are those that it has beside the common ones
bits_without-xor : (a b : ℕ) → bits_without a b ≡ bit_xor a (bit_and a b)
bits_without-xor a b = omega (arith, or_disjoint (bit_xor a (bit_and a b)) (bit_and a b) apart, whole)
  where
    apart : bit_and (bit_xor a (bit_and a b)) (bit_and a b) ≡ 0
    apart = same_from_bits (bit_and (bit_xor a (bit_and a b)) (bit_and a b)) 0 (λ i. each i)
      where
        each : (i : ℕ) → bit_at (bit_and (bit_xor a (bit_and a b)) (bit_and a b)) i ≡ bit_at 0 i
        each i = rw (bit_at_and (bit_xor a (bit_and a b)) (bit_and a b) i, bit_at_xor a (bit_and a b) i, bit_at_and a b i, bit_at-zero i) (none (bit_at a i) (bit_at b i) (bit_at-lt a i) (bit_at-lt b i))
          where
            none : (p q : ℕ) → p < 2 → q < 2 → min ((p + min p q) % 2) (min p q) ≡ 0
            none p q l m = omega arith

    whole : bit_or (bit_xor a (bit_and a b)) (bit_and a b) ≡ a
    whole = same_from_bits (bit_or (bit_xor a (bit_and a b)) (bit_and a b)) a (λ i. each i)
      where
        each : (i : ℕ) → bit_at (bit_or (bit_xor a (bit_and a b)) (bit_and a b)) i ≡ bit_at a i
        each i = rw (bit_at_or (bit_xor a (bit_and a b)) (bit_and a b) i, bit_at_xor a (bit_and a b) i, bit_at_and a b i) (all (bit_at a i) (bit_at b i) (bit_at-lt a i) (bit_at-lt b i))
          where
            all : (p q : ℕ) → p < 2 → q < 2 → max ((p + min p q) % 2) (min p q) ≡ p
            all p q l m = omega arith

bit_at_without : (a b i : ℕ) → bit_at (bits_without a b) i ≡ (bit_at a i + min (bit_at a i) (bit_at b i)) % 2
bit_at_without a b i = ap (λ (n : ℕ). bit_at n i) (bits_without-xor a b) ∙ (rw (bit_at_xor a (bit_and a b) i, bit_at_and a b i) refl)

pub operators_act_on_each_bit : OperatorsActOnEachBit
operators_act_on_each_bit (pos a) (pos b) i =
    record { both = bit_at_and a b i; either = bit_at_or a b i; exactly_one = bit_at_xor a b i; turned = refl }
operators_act_on_each_bit (pos a) (negsuc b) i =
    let p = bit_at-lt a i in
    let q = bit_at-lt b i in
    record {
      both = omega (arith, bit_at_without a b i);
      either = omega (arith, bit_at_without b a i);
      exactly_one = omega (arith, bit_at_xor a b i);
      turned = refl;
    }
operators_act_on_each_bit (negsuc a) (pos b) i =
    let p = bit_at-lt a i in
    let q = bit_at-lt b i in
    record {
      both = omega (arith, bit_at_without b a i);
      either = omega (arith, bit_at_without a b i);
      exactly_one = omega (arith, bit_at_xor a b i);
      turned = omega arith;
    }
operators_act_on_each_bit (negsuc a) (negsuc b) i =
    let p = bit_at-lt a i in
    let q = bit_at-lt b i in
    record {
      both = omega (arith, bit_at_or a b i);
      either = omega (arith, bit_at_and a b i);
      exactly_one = omega (arith, bit_at_xor a b i);
      turned = omega arith;
    }

-- ---- what the code gives

power_of_code : (n : ℕ) → n ≤ 127 → (1 * 2 ^ n % 2 ^ 128 ≡ 2 ^ n) × (2 ^ n ≤ 2 ^ 127)
power_of_code n h = (one_shl n 128 (omega arith), pow_mono h)

pub greatest-fits : (n : ℕ) → n ≤ 127 → FitsSigned w128 (pos (1 * 2 ^ n % 2 ^ 128 - 1))
greatest-fits n h = let p = power_of_code n h in record { sfits = omega (arith, p.0, p.1, pow_pos n) }

pub greatest_of_code : (n : ℕ) → n ≤ 127 → to_z w128 (1 * 2 ^ n % 2 ^ 128 - 1) ≡ pos (2 ^ n - 1)
greatest_of_code n h = let p = power_of_code n h in rw p.0 (to_z_pos w128 (2 ^ n - 1) (omega (arith, p.1, pow_pos n)))

-- the numbers of so many bits, with a sign
pub signed_bits_of_code : (a b : Range) (n : ℕ) (hi : ℤ) → n ≤ 127 → hi ≡ pos (2 ^ n - 1) → (is_nonnegative a && is_nonnegative b) ≡ false
    → from_to (to_z w128 (of_z w128 (to_z w128 (of_z w128 (pos 0 -ℤ to_z w128 (of_z w128 hi))) -ℤ pos 1))) (to_z w128 (of_z w128 hi)) ≡ bits_range a b n
signed_bits_of_code a b n hi h f t =
    let p = power_of_code n h in
    let q = pow_pos n in
    let e : to_z w128 (of_z w128 (to_z w128 (of_z w128 (pos 0 -ℤ to_z w128 (of_z w128 hi))) -ℤ pos 1)) ≡ neg_ℤ (pos (2 ^ n)) = omega (arith, ints, p.1) in
    let g : to_z w128 (of_z w128 hi) ≡ pos (2 ^ n - 1) = omega (arith, ints, p.1) in
    rw (e, g, t) refl

bits_range-within : (a b : Range) (n : ℕ) → n ≤ 127 → bounded (bits_range a b n) ≡ Some (bits_range a b n)
bits_range-within a b n h = by (is_nonnegative a && is_nonnegative b)
  where
    hi_fits : FitsSigned w128 (pos (2 ^ n - 1))
    hi_fits = let p = power_of_code n h in record { sfits = omega (arith, p.1, pow_pos n) }

    lo_fits : FitsSigned w128 (neg_ℤ (pos (2 ^ n)))
    lo_fits = let p = power_of_code n h in let q : neg_ℤ (pos (2 ^ n)) ≡ negsuc (2 ^ n - 1) = omega (arith, ints, pow_pos n) in rw q (record { sfits = omega (arith, p.1, pow_pos n) })

    by : (t : Bool) → bounded (cond t (from_to (pos 0) (pos (2 ^ n - 1))) (from_to (neg_ℤ (pos (2 ^ n))) (pos (2 ^ n - 1)))) ≡ Some (cond t (from_to (pos 0) (pos (2 ^ n - 1))) (from_to (neg_ℤ (pos (2 ^ n))) (pos (2 ^ n - 1))))
    by true = bounded-within (from_to (pos 0) (pos (2 ^ n - 1))) (record { sfits = omega arith }) hi_fits
    by false = bounded-within (from_to (neg_ℤ (pos (2 ^ n))) (pos (2 ^ n - 1))) lo_fits hi_fits

pub bits_range_of_code : (a b r : Range) (n : ℕ) → n ≡ bits_of_both a b → n ≤ 127 → r ≡ bits_range a b n → Some r ≡ bounded (bits_range a b (bits_of_both a b))
bits_range_of_code a b r n e h f = rw (← e, f) (sym (bits_range-within a b n h))
