-- Ranges of pointers, zones, binders and labelled terms, by computation. They are ours: no standard bounds the integers of annotations.
use Rattle.std.proofs.Common.{◌≡◌, ◌^◌, ◌-◌, ◌+◌, ℕ, ℤ, Bool, pos, negsuc, neg_ℤ, true, false, [], ◌∷◌, Option, None, Some, refl}
use Rattle.c_syntax.specs.declared.place.Place.{Place}
use Rattle.c_syntax.specs.declared.annotation.Range.{Range}
use Rattle.c_syntax.specs.declared.expression.BinOp.TheVariants.{Add, Mul, Shl}
use Rattle.c_syntax.specs.declared.expression.UnOp.TheVariants as unary
use Rattle.c_syntax.specs.declared.logic.BlockFact.TheVariants.{BaseAddr, BlockLength, Offset}
use Rattle.c_syntax.specs.declared.logic.Connective.TheVariants.{And}
use Rattle.c_syntax.specs.declared.logic.Label.TheVariants.{Here, Pre, Marked}
use Rattle.c_syntax.specs.declared.logic.MemoryQuestion.TheVariants.{Valid}
use Rattle.c_syntax.specs.declared.logic.Quantifier.TheVariants.{ForAll}
use Rattle.c_syntax.specs.declared.types.CInt.TheVariants.{I8, U8, U64}
use Rattle.c_syntax.specs.Ctypes.{Int, Ptr, Array, Struct, Count}
use Rattle.c_syntax.specs.Formulas.{CastType, Integers, OfC}
use Rattle.c_syntax.specs.Logic.{LogicTerm, Binary, Unary, Choice, At, Predicate, Truth, NonZero, Quantified, Asks, Elements, Guards, NoGuard}
use Rattle.c_syntax.specs.Logic.{Guarded, Binder, Value, Behaviors, range_of}
use Rattle.c_model.specs.Checked.{Fault, Checked, Good, Bad, refusing}
use Rattle.c_model.specs.Ranges.{from_to}
use Rattle.c_model.specs.TermRanges.{Seen, offset_range, type_range, ranged_term, ranged_pred, ranged_clause}
use Rattle.worked_rows.proofs.WorkedTerms.{here, any, int, char, number, bound, result_of, operated, deref, member, at_address, moved_on, moved_back, plus, minus, as_pointer}
use Rattle.worked_rows.proofs.WorkedTerms.{difference, null, told_of, connected_by, a, p, x, q, s, t, l}

abbrev found : Checked LogicTerm → Option Range
found (Good t) = Some (range_of t)
found (Bad f fs) = None

abbrev range_in : Seen → LogicTerm → Option Range
range_in seen t = found (ranged_term seen t)

abbrev range : LogicTerm → Option Range
range t = range_in [] t

abbrev between : ℤ → ℤ → Option Range
between lo hi = Some (from_to lo hi)

-- no block has more bytes
abbrev most : ℕ
most = 2 ^ 32

-- ---- places

an_int : range x ≡ between (neg_ℤ (pos (2 ^ 31))) (pos (2 ^ 31 - 1))
an_int = refl

a_pointer_that_is_read : range p ≡ between (pos 0) (pos most)
a_pointer_that_is_read = refl

an_array : range a ≡ between (pos 0) (pos most)
an_array = refl

an_element : range (deref char (plus a (pos 3))) ≡ between (negsuc 127) (pos 127)
an_element = refl

an_unsigned_element : range (deref (Int U64) p) ≡ between (pos 0) (pos (2 ^ 64 - 1))
an_unsigned_element = refl

a_pointer_through_a_pointer : range (deref (Ptr int) (plus p (pos 9))) ≡ between (pos 0) (pos most)
a_pointer_through_a_pointer = refl

a_member : range (member int 4 s) ≡ between (neg_ℤ (pos (2 ^ 31))) (pos (2 ^ 31 - 1))
a_member = refl

an_array_that_is_a_member : range (member (Array int (Count 2)) 4 s) ≡ between (pos 4) (pos (most + 4))
an_array_that_is_a_member = refl

a_row : range (deref (Array int (Count 3)) (moved_on 12 t (number (pos 1)))) ≡ between (pos 12) (pos (most + 12))
a_row = refl

-- ---- pointers

null_range : range null ≡ between (pos 0) (pos 0)
null_range = refl

an_address : range (at_address x) ≡ between (pos 0) (pos most)
an_address = refl

an_address_of_a_member : range (at_address (member int 4 s)) ≡ between (pos 4) (pos (most + 4))
an_address_of_a_member = refl

an_address_of_a_member_through_a_pointer : range (at_address (member int 4 (deref (Struct 0) (plus p (pos 1))))) ≡ between (pos 8) (pos (most + 8))
an_address_of_a_member_through_a_pointer = refl

an_address_of_a_cell : range (at_address (deref int (plus (deref (Array int (Count 3)) (moved_on 12 t (number (pos 1)))) (pos 2)))) ≡ between (pos 20) (pos (most + 20))
an_address_of_a_cell = refl

three_elements_on : range (plus p (pos 3)) ≡ between (pos 12) (pos (most + 12))
three_elements_on = refl

three_elements_back : range (minus p (pos 3)) ≡ between (negsuc 11) (pos (most - 12))
three_elements_back = refl

an_int_of_elements_on : range (moved_on 4 p x) ≡ between (neg_ℤ (pos (2 ^ 33))) (pos (2 ^ 33 - 4 + most))
an_int_of_elements_on = refl

an_int_of_elements_back : range (moved_back 4 p x) ≡ between (neg_ℤ (pos (2 ^ 33 - 4))) (pos (2 ^ 33 + most))
an_int_of_elements_back = refl

behind_null : range (moved_on 1 (as_pointer char null) (number (pos 1))) ≡ between (pos 1) (pos 1)
behind_null = refl

a_cast_keeps_the_offset : range (as_pointer char (plus p (pos 3))) ≡ between (pos 12) (pos (most + 12))
a_cast_keeps_the_offset = refl

one_pointer_or_the_other : range (Choice here None any (Truth here true) null (plus p (pos 3))) ≡ between (pos 0) (pos (most + 12))
one_pointer_or_the_other = refl

-- a long squared has almost 127 bits: as chars it has a range, as ints it has none
abbrev square : LogicTerm
square = operated Mul l l

squares_of_chars : range (moved_on 1 p square) ≡ between (neg_ℤ (pos (2 ^ 126 - 2 ^ 63))) (pos (2 ^ 126 + most))
squares_of_chars = refl

squares_of_ints : range (moved_on 4 p square) ≡ None
squares_of_ints = refl

a_place_without_a_range : range (deref int (moved_on 4 p square)) ≡ None
a_place_without_a_range = refl

-- the last place that has a range, and a member behind it
abbrev far : LogicTerm
far = deref (Struct 0) (moved_on 1 p (number (pos (2 ^ 127 - 1 - most))))

the_last_place : range (at_address far) ≡ between (pos (2 ^ 127 - 1 - most)) (pos (2 ^ 127 - 1))
the_last_place = refl

a_member_behind_it : range (member int 4 far) ≡ None
a_member_behind_it = refl

-- ---- numbers of pointers

a_distance : range (difference 4 p a) ≡ between (neg_ℤ (pos most)) (pos most)
a_distance = refl

a_base : range (told_of BaseAddr (plus p (pos 3))) ≡ between (pos 0) (pos 0)
a_base = refl

a_length : range (told_of BlockLength p) ≡ between (pos 0) (pos most)
a_length = refl

an_offset : range (told_of Offset (plus p (pos 3))) ≡ between (pos 0) (pos most)
an_offset = refl

an_offset_in_a_sum : range (operated Add (told_of Offset p) (number (pos 1))) ≡ between (pos 1) (pos (most + 1))
an_offset_in_a_sum = refl

an_offset_as_a_count : range (operated Shl (number (pos 1)) (told_of Offset p)) ≡ None
an_offset_as_a_count = refl

-- ---- names and labels

an_integer_result : range_in ((4294967294, type_range I8) ∷ []) (result_of (Int I8)) ≡ between (negsuc 127) (pos 127)
an_integer_result = refl

a_pointer_result : range_in ((4294967294, offset_range) ∷ []) (plus (result_of (Ptr int)) (pos 1)) ≡ between (pos 4) (pos (most + 4))
a_pointer_result = refl

a_name_out_of_sight : range (bound 500) ≡ None
a_name_out_of_sight = refl

at_a_label : range (At here None any (Marked 1) (operated Add x (number (pos 1)))) ≡ between (neg_ℤ (pos (2 ^ 31 - 1))) (pos (2 ^ 31))
at_a_label = refl

a_pointer_at_a_label : range (At here None any Pre (plus p (pos 1))) ≡ between (pos 4) (pos (most + 4))
a_pointer_at_a_label = refl

nothing_at_a_label : range (At here None any Here (operated Mul square l)) ≡ None
nothing_at_a_label = refl

-- ---- zones: where they begin, and how many bytes they are

abbrev there : ℕ → Place
there n = record { line = 1; column = n; offset = n }

abbrev refused : Predicate → Option Fault
refused f = refusing (ranged_pred [] f)

abbrev refused_at : ℕ → Option Fault
refused_at n = Some (record { code = 10; place = there n })

abbrev zone_of : ℕ → LogicTerm → LogicTerm → Predicate
zone_of size lo hi = Asks here Valid (Elements (there 7) size size p lo hi)

up_to_an_int : refused (zone_of 4 (number (pos 0)) x) ≡ None
up_to_an_int = refl

chars_up_to_a_square : refused (zone_of 1 (number (pos 0)) square) ≡ None
chars_up_to_a_square = refl

ints_up_to_a_square : refused (zone_of 4 (number (pos 0)) square) ≡ refused_at 7
ints_up_to_a_square = refl

ints_from_a_square : refused (zone_of 4 square (number (pos 0))) ≡ refused_at 7
ints_from_a_square = refl

chars_from_a_square_to_another : refused (zone_of 1 square square) ≡ None
chars_from_a_square_to_another = refl

chars_over_twice_a_square : refused (zone_of 1 (Unary here None any unary.Minus square) square) ≡ refused_at 7
chars_over_twice_a_square = refl

-- the bytes fit, and where they end has a range only from null on
chars_up_to_the_greatest_number : refused (zone_of 1 (number (pos 0)) (number (pos (2 ^ 127 - 2)))) ≡ refused_at 7
chars_up_to_the_greatest_number = refl

from_null_on : refused (Asks here Valid (Elements (there 7) 1 1 null (number (pos 0)) (number (pos (2 ^ 127 - 2))))) ≡ None
from_null_on = refl

one_byte_more : refused (Asks here Valid (Elements (there 7) 1 1 null (number (pos 0)) (number (pos (2 ^ 127 - 1))))) ≡ refused_at 7
one_byte_more = refl

a_part_comes_first : refused (zone_of 4 (number (pos 0)) (Binary (there 3) None any Mul square l)) ≡ refused_at 3
a_part_comes_first = refl

-- ---- binders i and j; what range they have where a quantifier's predicate names them

abbrev binder_of : ℕ → CastType → Bool → Binder
binder_of n kind above = record { place = there n; kind = kind; above = above }

abbrev i : Binder
i = binder_of 500 Integers false

abbrev above_i : Binder
above_i = binder_of 500 Integers true

abbrev j : Binder
j = binder_of 501 Integers false

abbrev above_j : Binder
above_j = binder_of 501 Integers true

abbrev of : ℕ → LogicTerm
of n = number (pos n)

abbrev body_range : Checked Predicate → Option Range
body_range (Good (Quantified at q gs (NonZero u t))) = Some (range_of t)
body_range _ = None

abbrev quantified : ℕ → Guards → Predicate
quantified n gs = Quantified (there 9) ForAll gs (NonZero here (bound n))

abbrev tried : ℕ → Guards → Option Range
tried n gs = body_range (ranged_pred [] (quantified n gs))

until_an_int : tried 500 (Guarded (of 0) i [] true x NoGuard) ≡ between (pos 0) (pos (2 ^ 31 - 2))
until_an_int = refl

up_to_an_int_itself : tried 500 (Guarded (of 0) i [] false x NoGuard) ≡ between (pos 0) (pos (2 ^ 31 - 1))
up_to_an_int_itself = refl

from_above_an_int : tried 500 (Guarded x above_i [] true x NoGuard) ≡ between (neg_ℤ (pos (2 ^ 31 - 1))) (pos (2 ^ 31 - 2))
from_above_an_int = refl

of_no_values : tried 500 (Guarded (of 9) i [] false (of 3) NoGuard) ≡ between (pos 9) (pos 9)
of_no_values = refl

of_no_values_between : tried 500 (Guarded (of 3) above_i [] true (of 4) NoGuard) ≡ between (pos 4) (pos 4)
of_no_values_between = refl

of_a_type : tried 500 (Guarded (of 0) (binder_of 500 (OfC (Int U8)) false) [] true x NoGuard) ≡ between (pos 0) (pos 255)
of_a_type = refl

the_first_of_a_chain : tried 500 (Guarded (of 0) i (above_j ∷ []) false (of 9) NoGuard) ≡ between (pos 0) (pos 9)
the_first_of_a_chain = refl

the_second_of_a_chain : tried 501 (Guarded (of 0) i (above_j ∷ []) false (of 9) NoGuard) ≡ between (pos 1) (pos 9)
the_second_of_a_chain = refl

-- 0 <= i < 9 && i < j <= i + 1
bounded_by_another : tried 501 (Guarded (of 0) i [] true (of 9) (Guarded (bound 500) above_j [] false (operated Add (bound 500) (of 1)) NoGuard)) ≡ between (pos 1) (pos 9)
bounded_by_another = refl

-- \forall integer i; 0 <= i < 3 ==> \forall integer i; 5 <= i < 6 ==> i
the_inner_one_is_named : refused (Quantified here ForAll (Guarded (of 0) i [] true (of 3) NoGuard) (quantified 500 (Guarded (of 5) i [] true (bound 500) NoGuard))) ≡ None
the_inner_one_is_named = refl

the_greatest_number : tried 500 (Guarded (of (2 ^ 127 - 1)) i [] false (of (2 ^ 127 - 1)) NoGuard) ≡ between (pos (2 ^ 127 - 1)) (pos (2 ^ 127 - 1))
the_greatest_number = refl

above_the_greatest_number : refused (quantified 500 (Guarded (of (2 ^ 127 - 1)) above_i [] true (of 5) NoGuard)) ≡ refused_at 9
above_the_greatest_number = refl

a_type_has_its_range_there_too : tried 500 (Guarded (of (2 ^ 127 - 1)) (binder_of 500 (OfC (Int U8)) true) [] true (of 5) NoGuard) ≡ between (pos 0) (pos 255)
a_type_has_its_range_there_too = refl

below_the_least_number : tried 500 (Guarded (of 5) i [] true (number (neg_ℤ (pos (2 ^ 127)))) NoGuard) ≡ between (pos 5) (pos 5)
below_the_least_number = refl

out_of_sight_behind_it : refused (connected_by And (quantified 500 (Guarded (of 0) i [] true (of 3) NoGuard)) (NonZero (there 11) (bound 500))) ≡ Some (record { code = 10; place = here })
out_of_sight_behind_it = refl

-- ---- clauses

a_variant_has_a_range : refusing (ranged_clause [] (Value square)) ≡ None
a_variant_has_a_range = refl

or_is_refused : refusing (ranged_clause [] (Value (Binary (there 3) None any Mul square l))) ≡ refused_at 3
or_is_refused = refl

names_of_behaviors_have_none : refusing (ranged_clause [] (Behaviors ((there 3, 71) ∷ []))) ≡ None
names_of_behaviors_have_none = refl
