-- The operators are those of ACSL 2.2 on integers; the laws are ours.
-- Laws of ranges: for operands in their ranges, the operator's value lies in its range.
use Rattle.std.specs.Prelude.{◌≡◌, ℕ, ◌+◌, ◌-◌, ◌%◌, min, max, ◌<ℤ◌, ◌<◌, ◌≤◌, unsigned_abs, ◌^◌, ℤ, pos, neg_ℤ, ◌+ℤ◌, ◌-ℤ◌, ◌*ℤ◌, ◌≤ℤ◌, true, Option, Some}
use Rattle.std.specs.Prelude.{FitsSigned}
use Rattle.std.specs.Int as int
use Rattle.c_syntax.specs.declared.annotation.Range.{Range}
use Rattle.c_syntax.specs.declared.types.CInt.{CInt}
use Rattle.c_syntax.specs.declared.types.Width.{Width}
use Rattle.c_syntax.specs.declared.types.Width.TheVariants.{W32, W64, W128}
use Rattle.c_syntax.specs.Layouts.{int_size}
use Rattle.c_model.specs.Integers.{fits}
use Rattle.c_model.specs.Operators.{complement, quotient, remainder, shift_left, shift_right, bit_of, bitwise_and, bitwise_or, bitwise_xor}
use Rattle.c_model.specs.Ranges.{IsRange, LiesIn, IsWithin128, sum_range, difference_range, negation_range, complement_range, product_range, quotient_range}
use Rattle.c_model.specs.Ranges.{remainder_range, shift_left_range, shift_right_range, bitwise_and_range, bitwise_or_range, bitwise_xor_range, width_of_range}
use Rattle.c_model.specs.Ranges.{wrapped}

-- the range of an operator, where there is one, has a number in it
abbrev pub KeepsRanges : (Range → Range → Option Range) → Type 0
KeepsRanges f = (a b r : Range) → IsRange a → IsRange b → f a b ≡ Some r → IsRange r

abbrev pub KeepsRange : (Range → Option Range) → Type 0
KeepsRange f = (a r : Range) → IsRange a → f a ≡ Some r → IsRange r

-- ---- sums and complements

abbrev pub SumsLie : Type 0
SumsLie = (a b r : Range) (x y : ℤ) → sum_range a b ≡ Some r → LiesIn a x → LiesIn b y → LiesIn r (x +ℤ y)

abbrev pub DifferencesLie : Type 0
DifferencesLie = (a b r : Range) (x y : ℤ) → difference_range a b ≡ Some r → LiesIn a x → LiesIn b y → LiesIn r (x -ℤ y)

abbrev pub NegationsLie : Type 0
NegationsLie = (a r : Range) (x : ℤ) → negation_range a ≡ Some r → LiesIn a x → LiesIn r (neg_ℤ x)

abbrev pub ComplementsLie : Type 0
ComplementsLie = (a r : Range) (x : ℤ) → complement_range a ≡ Some r → LiesIn a x → LiesIn r (complement x)

-- ---- products, quotients and remainders

abbrev pub ProductsLie : Type 0
ProductsLie = (a b r : Range) (x y : ℤ) → product_range a b ≡ Some r → LiesIn a x → LiesIn b y → LiesIn r (x *ℤ y)

abbrev pub QuotientsLie : Type 0
QuotientsLie = (a b r : Range) (x y z : ℤ) → quotient_range a b ≡ Some r → LiesIn a x → LiesIn b y → quotient x y ≡ Some z → LiesIn r z

abbrev pub RemaindersLie : Type 0
RemaindersLie = (a b r : Range) (x y z : ℤ) → remainder_range a b ≡ Some r → LiesIn a x → LiesIn b y → remainder x y ≡ Some z → LiesIn r z

-- a quotient and its remainder make up the dividend, and the quotient is the nearest one on the side of 0 (C99 6.5.5 p6)
pub record IsTruncated (x y q r : ℤ) : Type 0 where
  pub whole : q *ℤ y +ℤ r ≡ x
  pub near : unsigned_abs r < unsigned_abs y
  pub toward_zero : unsigned_abs (q *ℤ y) ≤ unsigned_abs x

abbrev pub DivisionTruncates : Type 0
DivisionTruncates = (x y q r : ℤ) → quotient x y ≡ Some q → remainder x y ≡ Some r → IsTruncated x y q r

-- ---- shifts

abbrev pub ShiftsLeftLie : Type 0
ShiftsLeftLie = (a k r : Range) (x y z : ℤ) → shift_left_range a k ≡ Some r → LiesIn a x → LiesIn k y → shift_left x y ≡ Some z → LiesIn r z

abbrev pub ShiftsRightLie : Type 0
ShiftsRightLie = (a k r : Range) (x y z : ℤ) → IsWithin128 a → shift_right_range a k ≡ Some r → LiesIn a x → LiesIn k y → shift_right x y ≡ Some z → LiesIn r z

-- q is the greatest integer of which d times is at most x
pub record IsFloor (x : ℤ) (d : ℕ) (q : ℤ) : Type 0 where
  pub at_most : (q *ℤ pos d) ≤ℤ x
  pub next_above : x <ℤ (q *ℤ pos d +ℤ pos d)

-- a shift to the right rounds down
abbrev pub ShiftsRoundDown : Type 0
ShiftsRoundDown = (x z : ℤ) (k : ℕ) → shift_right x (pos k) ≡ Some z → IsFloor x (2 ^ k) z

-- ---- bits

abbrev pub AndsLie : Type 0
AndsLie = (a b r : Range) (x y : ℤ) → IsWithin128 a → IsWithin128 b → bitwise_and_range a b ≡ Some r → LiesIn a x → LiesIn b y → LiesIn r (bitwise_and x y)

abbrev pub OrsLie : Type 0
OrsLie = (a b r : Range) (x y : ℤ) → IsWithin128 a → IsWithin128 b → bitwise_or_range a b ≡ Some r → LiesIn a x → LiesIn b y → LiesIn r (bitwise_or x y)

abbrev pub XorsLie : Type 0
XorsLie = (a b r : Range) (x y : ℤ) → IsWithin128 a → IsWithin128 b → bitwise_xor_range a b ≡ Some r → LiesIn a x → LiesIn b y → LiesIn r (bitwise_xor x y)

-- an operator on bits is its operator on each bit: both, one of the two, exactly one, and not
pub record ActOnEachBit (x y : ℤ) (i : ℕ) : Type 0 where
  pub both : bit_of (bitwise_and x y) i ≡ min (bit_of x i) (bit_of y i)
  pub either : bit_of (bitwise_or x y) i ≡ max (bit_of x i) (bit_of y i)
  pub exactly_one : bit_of (bitwise_xor x y) i ≡ (bit_of x i + bit_of y i) % 2
  pub turned : bit_of (complement x) i ≡ 1 - bit_of x i

abbrev pub OperatorsActOnEachBit : Type 0
OperatorsActOnEachBit = (x y : ℤ) (i : ℕ) → ActOnEachBit x y i

-- ---- widths and conversions

-- the width of the signed type of so many bits
abbrev pub machine_width : Width → int.Width
machine_width W32 = int.w32
machine_width W64 = int.w64
machine_width W128 = int.w128

-- a number of a range is a value of the type of the range's width
abbrev pub WidthsFit : Type 0
WidthsFit = (r : Range) (x : ℤ) → IsWithin128 r → LiesIn r x → FitsSigned (machine_width (width_of_range r)) x

-- a converted number is a value of the type
abbrev pub ConversionsFit : Type 0
ConversionsFit = (k : CInt) (x : ℤ) → fits k (wrapped k x) ≡ true

-- a multiple of the number of the type's values away
pub record IsCongruent (k : CInt) (x y : ℤ) : Type 0 where
  pub turns : ℤ
  pub is : x ≡ y +ℤ turns *ℤ pos (256 ^ int_size k)

-- a converted number is congruent to the number (C99 6.3.1.3 p2)
abbrev pub ConversionsAreCongruent : Type 0
ConversionsAreCongruent = (k : CInt) (x : ℤ) → IsCongruent k x (wrapped k x)

-- a value of the type is left as it is (C99 6.3.1.3 p1)
abbrev pub ConversionsKeepValues : Type 0
ConversionsKeepValues = (k : CInt) (x : ℤ) → fits k x ≡ true → wrapped k x ≡ x
