-- Integers of any size and connectives of three truth values (ACSL 2.2), by computation.
use Rattle.std.proofs.Common.{◌≡◌, ◌^◌, ℤ, pos, negsuc, neg_ℤ, true, false, None, refl}
use Rattle.c_syntax.specs.declared.annotation.Relation.TheVariants.{Lt, Le}
use Rattle.c_syntax.specs.declared.expression.BinOp.TheVariants.{Add, Mul, Div, Rem, Shl, Shr, BitAnd, BitOr, BitXor}
use Rattle.c_syntax.specs.declared.expression.UnOp.TheVariants.{Minus, Flip}
use Rattle.c_syntax.specs.declared.logic.Connective.TheVariants.{And, Or, Xor, Implies, Iff}
use Rattle.c_syntax.specs.declared.types.CInt.TheVariants.{I8, U8, U64}
use Rattle.c_syntax.specs.Ctypes.{Int}
use Rattle.c_syntax.specs.Formulas.{Integers, OfC}
use Rattle.c_syntax.specs.Logic.{LogicTerm, Unary, Cast, Choice, Letter, Predicate, Truth, NonZero, Not, Branch, Chain, Linked, NoLink}
use Rattle.c_model.specs.Logic.{Says, SaysNothing}
use Rattle.worked_rows.proofs.WorkedTerms.{here, any, number, operated, same, other, connected_by, x, value, says, is}

abbrev one : LogicTerm
one = number (pos 1)

-- ---- terms

abbrev of : ℤ → LogicTerm
of n = number n

sums_have_any_size : value (operated Add (of (pos (2 ^ 126))) (of (pos (2 ^ 126)))) ≡ is (pos (2 ^ 127))
sums_have_any_size = refl

products_have_any_size : value (operated Mul (of (pos (2 ^ 126))) (of (neg_ℤ (pos (2 ^ 126))))) ≡ is (neg_ℤ (pos (2 ^ 252)))
products_have_any_size = refl

quotients_go_toward_zero : value (operated Div (of (negsuc 6)) (of (pos 2))) ≡ is (negsuc 2)
quotients_go_toward_zero = refl

the_least_by_minus_one : value (operated Div (of (neg_ℤ (pos (2 ^ 63)))) (of (negsuc 0))) ≡ is (pos (2 ^ 63))
the_least_by_minus_one = refl

by_zero : value (operated Div one (of (pos 0))) ≡ None
by_zero = refl

remainders_have_the_dividends_sign : value (operated Rem (of (negsuc 6)) (of (pos 2))) ≡ is (negsuc 0)
remainders_have_the_dividends_sign = refl

no_remainder_by_zero : value (operated Rem one (of (pos 0))) ≡ None
no_remainder_by_zero = refl

shifted_far : value (operated Shl one (of (pos 126))) ≡ is (pos (2 ^ 126))
shifted_far = refl

a_negative_number_is_shifted : value (operated Shl (of (negsuc 2)) (of (pos 2))) ≡ is (negsuc 11)
a_negative_number_is_shifted = refl

shifted_by_less_than_nothing : value (operated Shl one (of (negsuc 0))) ≡ None
shifted_by_less_than_nothing = refl

shifts_to_the_right_round_down : value (operated Shr (of (negsuc 6)) (of (pos 1))) ≡ is (negsuc 3)
shifts_to_the_right_round_down = refl

nothing_is_left : value (operated Shr (of (pos 255)) (of (pos 200))) ≡ is (pos 0)
nothing_is_left = refl

shifted_to_the_right_by_less_than_nothing : value (operated Shr one (of (negsuc 0))) ≡ None
shifted_to_the_right_by_less_than_nothing = refl

bits_of_a_negative_number : value (operated BitAnd (of (negsuc 0)) (of (pos (2 ^ 70)))) ≡ is (pos (2 ^ 70))
bits_of_a_negative_number = refl

bits_of_either : value (operated BitOr (of (negsuc 255)) (of (pos 15))) ≡ is (negsuc 240)
bits_of_either = refl

bits_of_one_alone : value (operated BitXor (of (negsuc 0)) (of (pos 5))) ≡ is (negsuc 5)
bits_of_one_alone = refl

flipped : value (Unary here None any Flip (of (pos 0))) ≡ is (negsuc 0)
flipped = refl

the_negative_of_the_least : value (Unary here None any Minus (of (neg_ℤ (pos (2 ^ 63))))) ≡ is (pos (2 ^ 63))
the_negative_of_the_least = refl

as_unsigned_char : value (Cast here None any (OfC (Int U8)) (of (negsuc 0))) ≡ is (pos 255)
as_unsigned_char = refl

as_char : value (Cast here None any (OfC (Int I8)) (of (pos 200))) ≡ is (negsuc 55)
as_char = refl

as_unsigned_long : value (Cast here None any (OfC (Int U64)) (of (pos (2 ^ 64)))) ≡ is (pos 0)
as_unsigned_long = refl

as_integer : value (Cast here None any Integers (of (pos (2 ^ 100)))) ≡ is (pos (2 ^ 100))
as_integer = refl

a_letter : value (Letter here None any (negsuc 0)) ≡ is (negsuc 0)
a_letter = refl

the_other_branch_isnt_evaluated : value (Choice here None any (Truth here true) one (operated Div one (of (pos 0)))) ≡ is (pos 1)
the_other_branch_isnt_evaluated = refl

a_condition_of_nothing : value (Choice here None any (NonZero here x) one one) ≡ None
a_condition_of_nothing = refl

-- ---- predicates

abbrev holds : Predicate
holds = Truth here true

abbrev fails : Predicate
fails = Truth here false

abbrev nothing : Predicate
nothing = same (operated Div one (of (pos 0))) one

an_integer_isnt_zero : says (NonZero here (of (negsuc 0))) ≡ Says true 5
an_integer_isnt_zero = refl

an_integer_is_zero : says (NonZero here (of (pos 0))) ≡ Says false 5
an_integer_is_zero = refl

an_integer_of_nothing : says (NonZero here x) ≡ SaysNothing 5
an_integer_of_nothing = refl

relations_evaluate_both_sides : says (other one x) ≡ SaysNothing 5
relations_evaluate_both_sides = refl

chains_are_conjunctions : says (Chain here (of (pos 0)) (Linked here Le one (Linked here Lt (of (pos 2)) NoLink))) ≡ Says true 5
chains_are_conjunctions = refl

chains_stop_at_a_false_link : says (Chain here one (Linked here Lt one (Linked here Lt x NoLink))) ≡ Says false 5
chains_stop_at_a_false_link = refl

chains_go_on_from_their_middle : says (Chain here one (Linked here Lt (of (pos 3)) (Linked here Le (of (pos 2)) NoLink))) ≡ Says false 5
chains_go_on_from_their_middle = refl

chains_say_nothing_at_the_first : says (Chain here x (Linked here Lt one (Linked here Lt one NoLink))) ≡ SaysNothing 5
chains_say_nothing_at_the_first = refl

denied_twice : says (Not here (Not here fails)) ≡ Says false 5
denied_twice = refl

false_and_nothing : says (connected_by And fails nothing) ≡ Says false 5
false_and_nothing = refl

true_and_nothing : says (connected_by And holds nothing) ≡ SaysNothing 5
true_and_nothing = refl

nothing_and_false : says (connected_by And nothing fails) ≡ SaysNothing 5
nothing_and_false = refl

true_or_nothing : says (connected_by Or holds nothing) ≡ Says true 5
true_or_nothing = refl

nothing_or_true : says (connected_by Or nothing holds) ≡ SaysNothing 5
nothing_or_true = refl

false_implies_nothing : says (connected_by Implies fails nothing) ≡ Says true 5
false_implies_nothing = refl

nothing_implies_true : says (connected_by Implies nothing holds) ≡ SaysNothing 5
nothing_implies_true = refl

both_false_are_the_same : says (connected_by Iff fails fails) ≡ Says true 5
both_false_are_the_same = refl

true_and_false_are_not : says (connected_by Iff holds fails) ≡ Says false 5
true_and_false_are_not = refl

false_is_the_same_as_nothing : says (connected_by Iff fails nothing) ≡ SaysNothing 5
false_is_the_same_as_nothing = refl

nothing_is_the_same_as_true : says (connected_by Iff nothing holds) ≡ SaysNothing 5
nothing_is_the_same_as_true = refl

one_of_two : says (connected_by Xor fails holds) ≡ Says true 5
one_of_two = refl

not_both : says (connected_by Xor holds holds) ≡ Says false 5
not_both = refl

true_and_not_nothing : says (connected_by Xor holds nothing) ≡ SaysNothing 5
true_and_not_nothing = refl

one_branch_alone : says (Branch here fails nothing holds) ≡ Says true 5
one_branch_alone = refl

branches_by_nothing : says (Branch here nothing holds holds) ≡ SaysNothing 5
branches_by_nothing = refl
