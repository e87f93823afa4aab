-- The ranges of operators on whole numbers, by computation: each rule of `Ranges` at its edges, and where there is no range within signed 128 bits. They
-- are ours: no standard bounds the integers of annotations.
use Rattle.std.proofs.Common.{◌≡◌, ◌^◌, ◌-◌, ℕ, ℤ, pos, negsuc, neg_ℤ, true, List, [], ◌∷◌, map, Option, None, Some, refl}
use Rattle.c_syntax.specs.declared.annotation.Range.{Range}
use Rattle.c_syntax.specs.declared.expression.BinOp.{BinOp}
use Rattle.c_syntax.specs.declared.expression.BinOp.TheVariants.{Add, Sub, Mul, Div, Rem, Shl, Shr, BitAnd, BitOr, BitXor}
use Rattle.c_syntax.specs.declared.expression.UnOp.TheVariants.{Plus, Minus, Flip}
use Rattle.c_syntax.specs.declared.types.CInt.{CInt}
use Rattle.c_syntax.specs.declared.types.CInt.TheVariants.{I8, U8, I16, U16, I32, U32, I64, U64}
use Rattle.c_syntax.specs.Ctypes.{Int}
use Rattle.c_syntax.specs.Formulas.{Integers, OfC}
use Rattle.c_syntax.specs.Logic.{LogicTerm, Letter, Choice, Truth, range_of}
use Rattle.c_model.specs.Checked.{Checked, Good, Bad}
use Rattle.c_model.specs.Ranges.{from_to, least_from}
use Rattle.c_model.specs.TermRanges.{unary_range, binary_range, cast_range, ranged_term}
use Rattle.worked_rows.proofs.WorkedTerms.{here, any, number, variable}

abbrev between : ℤ → ℤ → Option Range
between lo hi = Some (from_to lo hi)

-- so many, and so many below 0
abbrev minus : ℕ → ℤ
minus n = neg_ℤ (pos n)

-- the greatest and the least number of signed 128 bits
abbrev greatest : ℤ
greatest = pos (2 ^ 127 - 1)

abbrev least : ℤ
least = minus (2 ^ 127)

-- `A op B` where A and B lie in these ranges
abbrev operated : BinOp → ℤ → ℤ → ℤ → ℤ → Option Range
operated op a b c d = binary_range op (from_to a b) (from_to c d)

abbrev found : Checked LogicTerm → Option Range
found (Good t) = Some (range_of t)
found (Bad f fs) = None

abbrev range : LogicTerm → Option Range
range t = found (ranged_term [] t)

-- ---- literals and objects

a_literal_is_its_value : range (number (pos 7)) ≡ between (pos 7) (pos 7)
a_literal_is_its_value = refl

the_greatest_literal : range (number greatest) ≡ between greatest greatest
the_greatest_literal = refl

past_the_greatest : range (number (pos (2 ^ 127))) ≡ None
past_the_greatest = refl

a_letter_is_its_value : range (Letter here None any (negsuc 0)) ≡ between (negsuc 0) (negsuc 0)
a_letter_is_its_value = refl

objects_have_the_ranges_of_their_types : map (λ (k : CInt). range (variable (Int k) 1)) (I8 ∷ U8 ∷ I16 ∷ U16 ∷ I32 ∷ U32 ∷ I64 ∷ U64 ∷ [])
    ≡ between (minus 128) (pos 127) ∷ between (pos 0) (pos 255) ∷ between (minus 32768) (pos 32767) ∷ between (pos 0) (pos 65535)
    ∷ between (minus 2147483648) (pos 2147483647) ∷ between (pos 0) (pos 4294967295)
    ∷ between (minus 9223372036854775808) (pos 9223372036854775807) ∷ between (pos 0) (pos 18446744073709551615) ∷ []
objects_have_the_ranges_of_their_types = refl

-- ---- `+ -`, and `+ - ~` in front: exact bounds

a_sum : operated Add (minus 5) (pos 3) (pos 1) (pos 4) ≡ between (minus 4) (pos 7)
a_sum = refl

a_sum_past_the_greatest : operated Add (pos 0) greatest (pos 0) (pos 1) ≡ None
a_sum_past_the_greatest = refl

a_sum_past_the_least : operated Add least (pos 0) (minus 1) (pos 0) ≡ None
a_sum_past_the_least = refl

a_difference : operated Sub (minus 5) (pos 3) (pos 1) (pos 4) ≡ between (minus 9) (pos 2)
a_difference = refl

a_difference_past_the_greatest : operated Sub (pos 0) (pos 0) least (pos 0) ≡ None
a_difference_past_the_greatest = refl

a_plus : unary_range Plus (from_to (minus 3) (pos 5)) ≡ between (minus 3) (pos 5)
a_plus = refl

a_minus : unary_range Minus (from_to (minus 3) (pos 5)) ≡ between (minus 5) (pos 3)
a_minus = refl

no_minus_of_the_least : unary_range Minus (from_to least (pos 5)) ≡ None
no_minus_of_the_least = refl

a_complement : unary_range Flip (from_to (minus 3) (pos 5)) ≡ between (minus 6) (pos 2)
a_complement = refl

a_complement_of_all : unary_range Flip (from_to least greatest) ≡ between least greatest
a_complement_of_all = refl

-- ---- `*`: the least and the greatest of the four corners

a_product : operated Mul (minus 3) (pos 2) (minus 5) (pos 7) ≡ between (minus 21) (pos 15)
a_product = refl

a_product_of_negative_numbers : operated Mul (minus 3) (minus 2) (minus 5) (minus 4) ≡ between (pos 8) (pos 15)
a_product_of_negative_numbers = refl

a_product_of_other_signs : operated Mul (minus 3) (minus 2) (pos 4) (pos 5) ≡ between (minus 15) (minus 8)
a_product_of_other_signs = refl

the_least_product : operated Mul (minus (2 ^ 64)) (pos 0) (pos 0) (pos (2 ^ 63)) ≡ between least (pos 0)
the_least_product = refl

a_product_past_the_greatest : operated Mul (pos 0) (pos (2 ^ 64)) (pos 0) (pos (2 ^ 63)) ≡ None
a_product_past_the_greatest = refl

-- ---- `/`: up to the dividend, or its greatest absolute value on both sides

a_quotient : operated Div (pos 3) (pos 9) (pos 2) (pos 3) ≡ between (pos 0) (pos 9)
a_quotient = refl

a_quotient_by_zero : operated Div (pos 3) (pos 9) (pos 0) (pos 0) ≡ between (pos 0) (pos 9)
a_quotient_by_zero = refl

a_negative_dividend : operated Div (minus 9) (pos 3) (pos 2) (pos 2) ≡ between (minus 9) (pos 9)
a_negative_dividend = refl

a_negative_divisor : operated Div (pos 3) (pos 9) (minus 1) (pos 1) ≡ between (minus 9) (pos 9)
a_negative_divisor = refl

a_dividend_that_may_be_the_least : operated Div least (pos 0) (pos 2) (pos 2) ≡ None
a_dividend_that_may_be_the_least = refl

a_dividend_one_above_it : operated Div (minus (2 ^ 127 - 1)) (pos 0) (pos 2) (pos 2) ≡ between (minus (2 ^ 127 - 1)) greatest
a_dividend_one_above_it = refl

-- ---- `%`: nearer to 0 than the divisor, on the dividend's side of 0, and no farther than it

a_remainder : operated Rem (minus 20) (pos 30) (pos 10) (pos 10) ≡ between (minus 9) (pos 9)
a_remainder = refl

a_remainder_of_a_small_dividend : operated Rem (minus 3) (pos 5) (minus 100) (pos 1) ≡ between (minus 3) (pos 5)
a_remainder_of_a_small_dividend = refl

the_greater_absolute_value_counts : operated Rem (minus 30) (pos 30) (minus 7) (pos 4) ≡ between (minus 6) (pos 6)
the_greater_absolute_value_counts = refl

a_remainder_above_zero : operated Rem (pos 3) (pos 9) (pos 2) (pos 4) ≡ between (pos 0) (pos 3)
a_remainder_above_zero = refl

a_remainder_below_zero : operated Rem (minus 9) (minus 3) (pos 5) (pos 5) ≡ between (minus 4) (pos 0)
a_remainder_below_zero = refl

a_remainder_by_one : operated Rem (minus 9) (pos 9) (minus 1) (pos 1) ≡ between (pos 0) (pos 0)
a_remainder_by_one = refl

a_remainder_by_zero : operated Rem (minus 9) (pos 9) (pos 0) (pos 0) ≡ between (pos 0) (pos 0)
a_remainder_by_zero = refl

no_remainder_of_the_least : operated Rem least (pos 0) (pos 3) (pos 3) ≡ None
no_remainder_of_the_least = refl

-- ---- `<<`: the corners with powers of two, for counts up to 126

a_shift_to_the_left : operated Shl (pos 1) (pos 3) (pos 0) (pos 4) ≡ between (pos 1) (pos 48)
a_shift_to_the_left = refl

a_shift_of_both_signs : operated Shl (minus 3) (pos 5) (pos 1) (pos 4) ≡ between (minus 48) (pos 80)
a_shift_of_both_signs = refl

a_count_that_may_be_negative : operated Shl (pos 3) (pos 3) (minus 5) (pos 2) ≡ between (pos 3) (pos 12)
a_count_that_may_be_negative = refl

a_count_that_is_negative : operated Shl (pos 3) (pos 3) (minus 5) (minus 1) ≡ between (pos 3) (pos 3)
a_count_that_is_negative = refl

the_greatest_count : operated Shl (pos 1) (pos 1) (pos 0) (pos 126) ≡ between (pos 1) (pos (2 ^ 126))
the_greatest_count = refl

no_greater_count : operated Shl (pos 0) (pos 0) (pos 0) (pos 127) ≡ None
no_greater_count = refl

a_shift_past_the_greatest : operated Shl (pos 2) (pos 2) (pos 126) (pos 126) ≡ None
a_shift_past_the_greatest = refl

a_shift_to_the_least : operated Shl (minus 2) (minus 2) (pos 126) (pos 126) ≡ between least least
a_shift_to_the_least = refl

-- ---- `>>`: the corners, with counts put into 0 to 127

a_shift_to_the_right : operated Shr (minus 9) (pos 9) (pos 1) (pos 2) ≡ between (minus 5) (pos 4)
a_shift_to_the_right = refl

a_count_of_any_size : operated Shr (pos 7) (pos 255) (minus 3) (pos (2 ^ 100)) ≡ between (pos 0) (pos 255)
a_count_of_any_size = refl

far_to_the_right : operated Shr least greatest (pos 500) (pos 600) ≡ between (minus 1) (pos 0)
far_to_the_right = refl

not_to_the_right : operated Shr least greatest (minus 2) (pos 0) ≡ between least greatest
not_to_the_right = refl

-- ---- `&`: up to the number that isn't negative

bits_of_the_left : operated BitAnd (pos 0) (pos 9) (minus 5) (pos 300) ≡ between (pos 0) (pos 9)
bits_of_the_left = refl

bits_of_the_right : operated BitAnd (minus 5) (pos 300) (pos 2) (pos 9) ≡ between (pos 0) (pos 9)
bits_of_the_right = refl

bits_of_the_smaller : operated BitAnd (pos 2) (pos 300) (pos 0) (pos 9) ≡ between (pos 0) (pos 9)
bits_of_the_smaller = refl

bits_of_negative_numbers : operated BitAnd (minus 5) (pos 3) (minus 9) (pos 300) ≡ between (minus 512) (pos 511)
unfolding least_from
bits_of_negative_numbers = refl

-- ---- `|` and `^`: the least power of two that has both

abbrev either : ℤ → ℤ → ℤ → ℤ → List (Option Range)
either a b c d = operated BitOr a b c d ∷ operated BitXor a b c d ∷ []

abbrev twice : Option Range → List (Option Range)
twice r = r ∷ r ∷ []

bits_of_both : either (pos 0) (pos 9) (pos 2) (pos 16) ≡ twice (between (pos 0) (pos 31))
unfolding least_from
bits_of_both = refl

one_below_a_power : either (pos 0) (pos 9) (pos 2) (pos 15) ≡ twice (between (pos 0) (pos 15))
unfolding least_from
one_below_a_power = refl

with_a_negative_number : either (minus 5) (pos 3) (pos 0) (pos 9) ≡ twice (between (minus 16) (pos 15))
unfolding least_from
with_a_negative_number = refl

with_a_negative_number_on_the_right : either (pos 0) (pos 9) (minus 5) (pos 3) ≡ twice (between (minus 16) (pos 15))
unfolding least_from
with_a_negative_number_on_the_right = refl

the_power_itself_below_zero : either (minus 16) (pos 3) (pos 0) (pos 15) ≡ twice (between (minus 16) (pos 15))
unfolding least_from
the_power_itself_below_zero = refl

one_more_below_zero : either (minus 17) (pos 3) (pos 0) (pos 15) ≡ twice (between (minus 32) (pos 31))
unfolding least_from
one_more_below_zero = refl

bits_of_nothing : either (pos 0) (pos 0) (pos 0) (pos 0) ≡ twice (between (pos 0) (pos 0))
unfolding least_from
bits_of_nothing = refl

bits_of_minus_one : either (minus 1) (minus 1) (pos 0) (pos 0) ≡ twice (between (minus 1) (pos 0))
unfolding least_from
bits_of_minus_one = refl

bits_of_all : either least greatest (pos 0) (pos 0) ≡ twice (between least greatest)
unfolding least_from
bits_of_all = refl

-- ---- casts, and `?:`

abbrev cast_to : CInt → ℤ → ℤ → Option Range
cast_to k lo hi = cast_range (OfC (Int k)) (from_to lo hi)

a_cast_of_what_fits : cast_to I8 (minus 128) (pos 127) ≡ between (minus 128) (pos 127)
a_cast_of_what_fits = refl

a_cast_of_less : cast_to U8 (pos 3) (pos 7) ≡ between (pos 3) (pos 7)
a_cast_of_less = refl

a_cast_of_one_more : cast_to I8 (pos 0) (pos 128) ≡ between (minus 128) (pos 127)
a_cast_of_one_more = refl

a_cast_of_one_less : cast_to U8 (minus 1) (pos 3) ≡ between (pos 0) (pos 255)
a_cast_of_one_less = refl

a_cast_of_all : cast_to U64 least greatest ≡ between (pos 0) (pos (2 ^ 64 - 1))
a_cast_of_all = refl

a_cast_to_whole_numbers : cast_range Integers (from_to least greatest) ≡ between least greatest
a_cast_to_whole_numbers = refl

-- \true ? c : 300 and \true ? 300 : c, of a char c
a_choice : range (Choice here None any (Truth here true) (variable (Int I8) 1) (number (pos 300))) ≡ between (minus 128) (pos 300)
a_choice = refl

the_other_way_round : range (Choice here None any (Truth here true) (number (pos 300)) (variable (Int I8) 1)) ≡ between (minus 128) (pos 300)
the_other_way_round = refl
