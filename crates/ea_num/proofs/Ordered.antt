-- The range of an operator has a number in it.
use Rattle.std.proofs.Common.{◌≡◌, ℕ, ◌-◌, ◌^◌, ℤ, pos, neg_ℤ, ◌+ℤ◌, ◌-ℤ◌, ◌*ℤ◌, ◌≤ℤ◌, Bool, true, false, cond, ◌&&◌, Some, None, int_lt, int_le, refl, subst, arith}
use Rattle.std.specs.Ordering.{int_eq}
use Rattle.std.specs.Int.{int_min, int_max}
use Rattle.std.proofs.lemmas.Int.{ints, clamps}
use Rattle.c_syntax.specs.declared.annotation.Range.{Range}
use Rattle.c_model.specs.Operators.{complement}
use Rattle.c_model.specs.Ranges.{IsRange, LiesIn, from_to, bounded, is_nonnegative, hull_of_four, sum_range, difference_range, negation_range, complement_range, product_range, greatest_abs, least_i128, quotients, quotient_range, least_remainder}
use Rattle.c_model.specs.Ranges.{greatest_remainder, remainders, remainder_range, power_of_count, shift_left_range, shifted_by_count, shift_right_range, bits_of_both, bits_range, common_bits, bitwise_and_range, bitwise_or_range, bitwise_xor_range}
use Rattle.ea_num.specs.Laws.{KeepsRanges, KeepsRange}
use Rattle.ea_num.proofs.Bounded.{bounded_some}
use Rattle.ea_num.proofs.Linear.{sums_lie, differences_lie, negations_lie, complements_lie}
use Rattle.ea_num.proofs.Hull.{le_trans, first_in_hull}
use Rattle.ea_num.proofs.Shifted.{power_of_count-monotone}

lower : (a : Range) → IsRange a → LiesIn a a.lo
lower a h = record { above = omega (arith, ints); below = h.ordered }

pub from_member : (r : Range) (z : ℤ) → LiesIn r z → IsRange r
from_member r z h = record { ordered = le_trans r.lo z r.hi h.above h.below }

bounded-ordered : (s r : Range) → IsRange s → bounded s ≡ Some r → IsRange r
bounded-ordered s r h e = subst IsRange (bounded_some s r e).same h

unless-ordered : (t : Bool) (s r : Range) → IsRange s → cond t None (bounded s) ≡ Some r → IsRange r
unless-ordered true s r h e = absurd cc
unless-ordered false s r h e = bounded-ordered s r h e

pub sum_range-ordered : KeepsRanges sum_range
sum_range-ordered a b r h k e = from_member r (a.lo +ℤ b.lo) (sums_lie a b r a.lo b.lo e (lower a h) (lower b k))

pub difference_range-ordered : KeepsRanges difference_range
difference_range-ordered a b r h k e = from_member r (a.lo -ℤ b.lo) (differences_lie a b r a.lo b.lo e (lower a h) (lower b k))

pub negation_range-ordered : KeepsRange negation_range
negation_range-ordered a r h e = from_member r (neg_ℤ a.lo) (negations_lie a r a.lo e (lower a h))

pub complement_range-ordered : KeepsRange complement_range
complement_range-ordered a r h e = from_member r (complement a.lo) (complements_lie a r a.lo e (lower a h))

hull-ordered : (p q s t : ℤ) → IsRange (hull_of_four p q s t)
hull-ordered p q s t = from_member (hull_of_four p q s t) p (first_in_hull p q s t)

pub product_range-ordered : KeepsRanges product_range
product_range-ordered a b r h k e = bounded-ordered (hull_of_four (a.lo *ℤ b.lo) (a.lo *ℤ b.hi) (a.hi *ℤ b.lo) (a.hi *ℤ b.hi)) r (hull-ordered (a.lo *ℤ b.lo) (a.lo *ℤ b.hi) (a.hi *ℤ b.lo) (a.hi *ℤ b.hi)) e

quotients-ordered : (a b : Range) → IsRange a → IsRange (quotients a b)
quotients-ordered a b h = by (int_le (pos 0) a.lo) (int_le (pos 0) b.lo) refl
  where
    by : (s t : Bool) → int_le (pos 0) a.lo ≡ s → IsRange (cond (s && t) (from_to (pos 0) a.hi) (from_to (neg_ℤ (pos (greatest_abs a))) (pos (greatest_abs a))))
    by true true e = let p : pos 0 ≤ℤ a.lo = omega (arith, ints) in record { ordered = le_trans (pos 0) a.lo a.hi p h.ordered }
    by true false e = record { ordered = omega (arith, ints) }
    by false t e = record { ordered = omega (arith, ints) }

pub quotient_range-ordered : KeepsRanges quotient_range
quotient_range-ordered a b r h k e = unless-ordered (int_eq a.lo least_i128) (quotients a b) r (quotients-ordered a b h) e

least_remainder-nonpositive : (lo : ℤ) (d : ℕ) → least_remainder lo d ≤ℤ pos 0
least_remainder-nonpositive lo d = by (int_lt lo (pos 0)) refl
  where
    by : (t : Bool) → int_lt lo (pos 0) ≡ t → cond t (int_max lo (neg_ℤ (pos d))) (pos 0) ≤ℤ pos 0
    by true e = omega (arith, ints, clamps)
    by false e = omega (arith, ints)

greatest_remainder-nonnegative : (hi : ℤ) (d : ℕ) → pos 0 ≤ℤ greatest_remainder hi d
greatest_remainder-nonnegative hi d = by (int_lt (pos 0) hi) refl
  where
    by : (t : Bool) → int_lt (pos 0) hi ≡ t → pos 0 ≤ℤ cond t (int_min hi (pos d)) (pos 0)
    by true e = omega (arith, ints, clamps)
    by false e = omega (arith, ints)

pub remainder_range-ordered : KeepsRanges remainder_range
remainder_range-ordered a b r h k e =
    unless-ordered (int_eq a.lo least_i128) (remainders a (greatest_abs b - 1)) r
    (record { ordered = le_trans (least_remainder a.lo (greatest_abs b - 1)) (pos 0) (greatest_remainder a.hi (greatest_abs b - 1)) (least_remainder-nonpositive a.lo (greatest_abs b - 1)) (greatest_remainder-nonnegative a.hi (greatest_abs b - 1)) })
    e

pub shift_left_range-ordered : KeepsRanges shift_left_range
shift_left_range-ordered a k r h m e = by (int_le k.hi (pos 126)) e
  where
    by : (t : Bool) → cond t (product_range a (from_to (power_of_count k.lo) (power_of_count k.hi))) None ≡ Some r → IsRange r
    by true f = product_range-ordered a (from_to (power_of_count k.lo) (power_of_count k.hi)) r h (record { ordered = power_of_count-monotone k.lo k.hi m.ordered }) f
    by false f = absurd cc

pub shift_right_range-ordered : KeepsRanges shift_right_range
shift_right_range-ordered a k r h m e =
    bounded-ordered (hull_of_four (shifted_by_count a.lo k.lo) (shifted_by_count a.lo k.hi) (shifted_by_count a.hi k.lo) (shifted_by_count a.hi k.hi)) r
    (hull-ordered (shifted_by_count a.lo k.lo) (shifted_by_count a.lo k.hi) (shifted_by_count a.hi k.lo) (shifted_by_count a.hi k.hi)) e

bits_range-ordered : (a b : Range) (n : ℕ) → IsRange (bits_range a b n)
bits_range-ordered a b n = by (is_nonnegative a && is_nonnegative b)
  where
    by : (t : Bool) → IsRange (cond t (from_to (pos 0) (pos (2 ^ n - 1))) (from_to (neg_ℤ (pos (2 ^ n))) (pos (2 ^ n - 1))))
    by true = record { ordered = omega (arith, ints) }
    by false = record { ordered = omega (arith, ints) }

pub bitwise_or_range-ordered : KeepsRanges bitwise_or_range
bitwise_or_range-ordered a b r h k e = bounded-ordered (bits_range a b (bits_of_both a b)) r (bits_range-ordered a b (bits_of_both a b)) e

pub bitwise_xor_range-ordered : KeepsRanges bitwise_xor_range
bitwise_xor_range-ordered a b r h k e = bounded-ordered (bits_range a b (bits_of_both a b)) r (bits_range-ordered a b (bits_of_both a b)) e

nonnegative_end : (a : Range) → IsRange a → int_le (pos 0) a.lo ≡ true → pos 0 ≤ℤ a.hi
nonnegative_end a h e = let p : pos 0 ≤ℤ a.lo = omega (arith, ints) in le_trans (pos 0) a.lo a.hi p h.ordered

common_bits-ordered : (a b : Range) → IsRange a → IsRange b → IsRange (common_bits a b)
common_bits-ordered a b h k = by (int_le (pos 0) a.lo) (int_le (pos 0) b.lo) refl refl
  where
    by : (s t : Bool) → int_le (pos 0) a.lo ≡ s → int_le (pos 0) b.lo ≡ t → IsRange (cond s (from_to (pos 0) (cond t (int_min a.hi b.hi) a.hi)) (cond t (from_to (pos 0) b.hi) (bits_range a b (bits_of_both a b))))
    by true true e f = let p = nonnegative_end a h e in let q = nonnegative_end b k f in record { ordered = omega (arith, ints, clamps) }
    by true false e f = record { ordered = nonnegative_end a h e }
    by false true e f = record { ordered = nonnegative_end b k f }
    by false false e f = bits_range-ordered a b (bits_of_both a b)

pub bitwise_and_range-ordered : KeepsRanges bitwise_and_range
bitwise_and_range-ordered a b r h k e = bounded-ordered (common_bits a b) r (common_bits-ordered a b h k) e
