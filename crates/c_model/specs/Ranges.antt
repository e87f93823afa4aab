-- The operators are those of ACSL 2.2 on integers; their ranges are ours.
-- The range of an operator on unbounded integers, from the ranges of its operands: there is one where it lies within signed 128 bits.
use Rattle.std.specs.Prelude.{ℕ, zero, suc, ◌-◌, ◌^◌, max, ℤ, pos, neg_ℤ, ◌+ℤ◌, ◌-ℤ◌, ◌*ℤ◌, ◌≤ℤ◌, Bool, ◌&&◌, if◌then◌else◌, nat_lt, int_lt, int_le}
use Rattle.std.specs.Prelude.{unsigned_abs, FitsSigned, Option, Some, None}
use Rattle.std.specs.Ordering.{int_eq}
use Rattle.std.specs.Int.{w128, int_min, int_max}
use Rattle.std.specs.Int.Signed.{mag}
use Rattle.c_syntax.specs.declared.annotation.Range.{Range}
use Rattle.c_syntax.specs.declared.types.Width.{Width}
use Rattle.c_syntax.specs.declared.types.Width.TheVariants.{W32, W64, W128}
use Rattle.c_syntax.specs.declared.types.CInt.{CInt}
use Rattle.c_model.specs.Integers.{bits_of, value_of_bits}
use Rattle.c_model.specs.Operators.{complement, floor_quotient}

-- ---- ranges

-- the numbers from the first to the second, both included
abbrev pub from_to : ℤ → ℤ → Range
from_to lo hi = record { lo = lo; hi = hi }

-- a range has a number in it
pub record IsRange (r : Range) : Type 0 where
  pub ordered : r.lo ≤ℤ r.hi

-- a number lies in a range
pub record LiesIn (r : Range) (z : ℤ) : Type 0 where
  pub above : r.lo ≤ℤ z
  pub below : z ≤ℤ r.hi

-- whether a number lies from -2 ^ h to 2 ^ h - 1; `mag` is n for n and for -n - 1
abbrev pub is_in_bits : ℕ → ℤ → Bool
is_in_bits h z = nat_lt (mag z) (2 ^ h)

abbrev pub range_in_bits : ℕ → Range → Bool
range_in_bits h r = is_in_bits h r.lo && is_in_bits h r.hi

-- the range, where it lies within signed 128 bits
abbrev pub bounded : Range → Option Range
bounded r = if range_in_bits 127 r then Some r else None

-- both bounds lie within signed 128 bits, as those of a range of the program do
pub record IsWithin128 (r : Range) : Type 0 where
  pub lo_fits : FitsSigned w128 r.lo
  pub hi_fits : FitsSigned w128 r.hi

abbrev pub is_nonnegative : Range → Bool
is_nonnegative r = int_le (pos 0) r.lo

-- the greatest absolute value
abbrev pub greatest_abs : Range → ℕ
greatest_abs r = max (unsigned_abs r.lo) (unsigned_abs r.hi)

-- from the least to the greatest of four numbers
abbrev pub hull_of_four : ℤ → ℤ → ℤ → ℤ → Range
hull_of_four a b c d = from_to (int_min (int_min a b) (int_min c d)) (int_max (int_max a b) (int_max c d))

-- ---- sums and complements: exact bounds

abbrev pub sum_range : Range → Range → Option Range
sum_range a b = bounded (from_to (a.lo +ℤ b.lo) (a.hi +ℤ b.hi))

abbrev pub difference_range : Range → Range → Option Range
difference_range a b = bounded (from_to (a.lo -ℤ b.hi) (a.hi -ℤ b.lo))

abbrev pub negation_range : Range → Option Range
negation_range a = bounded (from_to (neg_ℤ a.hi) (neg_ℤ a.lo))

abbrev pub complement_range : Range → Option Range
complement_range a = bounded (from_to (complement a.hi) (complement a.lo))

-- ---- products, quotients and remainders

-- from the least to the greatest of the four products of bounds
abbrev pub product_range : Range → Range → Option Range
product_range a b = bounded (hull_of_four (a.lo *ℤ b.lo) (a.lo *ℤ b.hi) (a.hi *ℤ b.lo) (a.hi *ℤ b.hi))

-- the least number of signed 128 bits, whose quotient by -1 has no such bits
abbrev pub least_i128 : ℤ
least_i128 = neg_ℤ (pos (2 ^ 127))

-- a quotient is no farther from 0 than the dividend
abbrev pub quotients : Range → Range → Range
quotients a b =
    if is_nonnegative a && is_nonnegative b then from_to (pos 0) a.hi
    else from_to (neg_ℤ (pos (greatest_abs a))) (pos (greatest_abs a))

abbrev pub quotient_range : Range → Range → Option Range
quotient_range a b = if int_eq a.lo least_i128 then None else bounded (quotients a b)

-- a remainder has the sign of the dividend, is no farther from 0 than it, and at most d away from 0
abbrev pub least_remainder : ℤ → ℕ → ℤ
least_remainder lo d = if int_lt lo (pos 0) then int_max lo (neg_ℤ (pos d)) else pos 0

abbrev pub greatest_remainder : ℤ → ℕ → ℤ
greatest_remainder hi d = if int_lt (pos 0) hi then int_min hi (pos d) else pos 0

abbrev pub remainders : Range → ℕ → Range
remainders a d = from_to (least_remainder a.lo d) (greatest_remainder a.hi d)

-- a remainder is nearer to 0 than the divisor
abbrev pub remainder_range : Range → Range → Option Range
remainder_range a b = if int_eq a.lo least_i128 then None else bounded (remainders a (greatest_abs b - 1))

-- ---- shifts

-- 2 to the power of a count, a negative one raised to 0
abbrev pub power_of_count : ℤ → ℤ
power_of_count k = pos (2 ^ unsigned_abs (int_max k (pos 0)))

-- the products with the powers of the bounds of a count, which is at most 126
abbrev pub shift_left_range : Range → Range → Option Range
shift_left_range a k =
    if int_le k.hi (pos 126) then product_range a (from_to (power_of_count k.lo) (power_of_count k.hi)) else None

-- the number shifted to the right by a count put into 0 to 127: by more it would be the same
abbrev pub shifted_by_count : ℤ → ℤ → ℤ
shifted_by_count x k = floor_quotient x (2 ^ unsigned_abs (int_max (pos 0) (int_min k (pos 127))))

-- from the least to the greatest of the four bounds shifted
abbrev pub shift_right_range : Range → Range → Option Range
shift_right_range a k =
    bounded (hull_of_four (shifted_by_count a.lo k.lo) (shifted_by_count a.lo k.hi) (shifted_by_count a.hi k.lo) (shifted_by_count a.hi k.hi))

-- ---- bits

-- the least number from j on, and at most so much above it, that the test holds of
unfoldable pub least_from : (ℕ → Bool) → ℕ → ℕ → ℕ
least_from test zero j = j
least_from test (suc more) j = if test j then j else least_from test more (suc j)

-- the least j such that both ranges lie in [-2 ^ j, 2 ^ j - 1], where they lie within signed 128 bits
abbrev pub bits_of_both : Range → Range → ℕ
bits_of_both a b = least_from (λ j. range_in_bits j a && range_in_bits j b) 127 0

-- the numbers of j bits: without a sign where both operands have none
abbrev pub bits_range : Range → Range → ℕ → Range
bits_range a b j =
    if is_nonnegative a && is_nonnegative b then from_to (pos 0) (pos (2 ^ j - 1))
    else from_to (neg_ℤ (pos (2 ^ j))) (pos (2 ^ j - 1))

abbrev pub bitwise_or_range : Range → Range → Option Range
bitwise_or_range a b = bounded (bits_range a b (bits_of_both a b))

abbrev pub bitwise_xor_range : Range → Range → Option Range
bitwise_xor_range a b = bounded (bits_range a b (bits_of_both a b))

-- `&` with a number that is not negative is not negative, and at most that number
abbrev pub common_bits : Range → Range → Range
common_bits a b =
    if is_nonnegative a then from_to (pos 0) (if is_nonnegative b then int_min a.hi b.hi else a.hi)
    else (if is_nonnegative b then from_to (pos 0) b.hi else bits_range a b (bits_of_both a b))

abbrev pub bitwise_and_range : Range → Range → Option Range
bitwise_and_range a b = bounded (common_bits a b)

-- ---- widths and conversions

-- the narrowest type that has both bounds
abbrev pub width_of_range : Range → Width
width_of_range r = if range_in_bits 31 r then W32 else (if range_in_bits 63 r then W64 else W128)

-- the value of the type that is congruent to z modulo 2 to the power of its bits (C99 6.3.1.3)
abbrev pub wrapped : CInt → ℤ → ℤ
wrapped k z = value_of_bits k (bits_of k z)
