-- Quantifiers (ACSL 2.2), by computation: which values are tried, in which order, which of them decides, and the steps that are left.
use Rattle.std.proofs.Common.{◌≡◌, ◌^◌, ◌-◌, ℕ, Bool, pos, negsuc, neg_ℤ, true, false, [], ◌∷◌, refl}
use Rattle.c_syntax.specs.declared.annotation.Relation.TheVariants.{Lt, Le, Gt, Ge}
use Rattle.c_syntax.specs.declared.expression.BinOp.TheVariants.{Add, Div}
use Rattle.c_syntax.specs.declared.logic.Connective.TheVariants.{And, Or, Xor, Implies, Iff}
use Rattle.c_syntax.specs.declared.logic.Quantifier.TheVariants.{ForAll, Exists}
use Rattle.c_syntax.specs.declared.types.CInt.TheVariants.{I8, U8, I32, U32}
use Rattle.c_syntax.specs.Ctypes.{PlainType, Int}
use Rattle.c_syntax.specs.Formulas.{CastType, Integers, OfC}
use Rattle.c_syntax.specs.Logic.{LogicTerm, Binder, Guards, NoGuard, Guarded, Predicate, Truth, Not, Branch, Quantified}
use Rattle.c_model.specs.Logic.{Answer, Says, SaysNothing, OutOfSteps}
use Rattle.c_model.specs.Predicates.{pred}
use Rattle.worked_rows.proofs.WorkedTerms.{here, number, bound, operated, same, other, related_by, connected_by, now, x, p}

-- ---- binders i and j, behind a `<=` or a `<`; what is said with so many steps left

abbrev binder_of : ℕ → CastType → Bool → Binder
binder_of number kind above = record { place = record { line = 1; column = 1; offset = number }; kind = kind; above = above }

abbrev up_from : ℕ → Binder
up_from n = binder_of n Integers false

abbrev above : ℕ → Binder
above n = binder_of n Integers true

abbrev i : LogicTerm
i = bound 500

abbrev j : LogicTerm
j = bound 501

abbrev of : ℕ → LogicTerm
of n = number (pos n)

abbrev minus_one : LogicTerm
minus_one = number (negsuc 0)

abbrev one_by : LogicTerm → LogicTerm
one_by t = operated Div (of 1) t

-- a <= i < b, and a <= i <= b
abbrev until : LogicTerm → LogicTerm → Guards
until a b = Guarded a (up_from 500) [] true b NoGuard

abbrev up_to : LogicTerm → LogicTerm → Guards
up_to a b = Guarded a (up_from 500) [] false b NoGuard

abbrev each : Guards → Predicate → Predicate
each gs f = Quantified here ForAll gs f

abbrev some : Guards → Predicate → Predicate
some gs f = Quantified here Exists gs f

abbrev certain : Predicate
certain = Truth here true

abbrev wrong : Predicate
wrong = Truth here false

abbrev with_steps : ℕ → Predicate → Answer
with_steps n f = pred f now [] n

-- ---- one step a value, up to the first that decides

-- \forall integer i; 0 <= i < 3 ==> i < 3
all_of_three : with_steps 3 (each (until (of 0) (of 3)) (related_by Lt i (of 3))) ≡ Says true 0
all_of_three = refl

all_of_three_is_spent : with_steps 2 (each (until (of 0) (of 3)) (related_by Lt i (of 3))) ≡ OutOfSteps
all_of_three_is_spent = refl

-- \forall integer i; 0 <= i < 3 ==> i != 1
the_second_is_false : with_steps 2 (each (until (of 0) (of 3)) (other i (of 1))) ≡ Says false 0
the_second_is_false = refl

spent_before_the_second : with_steps 1 (each (until (of 0) (of 3)) (other i (of 1))) ≡ OutOfSteps
spent_before_the_second = refl

-- \exists integer i; 0 <= i < 3 && i == 1
the_second_is_true : with_steps 9 (some (until (of 0) (of 3)) (same i (of 1))) ≡ Says true 7
the_second_is_true = refl

none_of_three : with_steps 3 (some (until (of 0) (of 3)) (same i (of 5))) ≡ Says false 0
none_of_three = refl

spent_exactly_at_the_last_value : with_steps 2 (some (until (of 0) (of 3)) (same i (of 5))) ≡ OutOfSteps
spent_exactly_at_the_last_value = refl

no_value_is_tried : with_steps 0 (each (until (of 3) (of 3)) wrong) ≡ Says true 0
no_value_is_tried = refl

there_is_no_value : with_steps 0 (some (until (of 3) (of 3)) certain) ≡ Says false 0
there_is_no_value = refl

none_far_below : with_steps 0 (each (up_to (of 9) (number (neg_ℤ (pos (2 ^ 100))))) wrong) ≡ Says true 0
none_far_below = refl

the_least_comes_first : with_steps 1 (some (until minus_one (of 2)) (same (one_by i) minus_one)) ≡ Says true 0
the_least_comes_first = refl

the_first_of_very_many : with_steps 1 (some (until (of 0) (of (2 ^ 100))) (same i (of 0))) ≡ Says true 0
the_first_of_very_many = refl

-- ---- signs

-- \forall integer i; 0 < i <= 3 ==> i > 0
above_and_up_to : with_steps 3 (each (Guarded (of 0) (above 500) [] false (of 3) NoGuard) (related_by Gt i (of 0))) ≡ Says true 0
above_and_up_to = refl

above_and_until : with_steps 1 (each (Guarded (of 0) (above 500) [] true (of 2) NoGuard) (same i (of 1))) ≡ Says true 0
above_and_until = refl

nothing_between : with_steps 0 (each (Guarded (of 0) (above 500) [] true (of 1) NoGuard) wrong) ≡ Says true 0
nothing_between = refl

one_between : with_steps 1 (each (up_to (of 3) (of 3)) (same i (of 3))) ≡ Says true 0
one_between = refl

-- ---- what says nothing

-- \forall integer i; -1 <= i < 2 ==> 1 / i != 5
nothing_at_the_second : with_steps 3 (each (until minus_one (of 2)) (other (one_by i) (of 5))) ≡ SaysNothing 1
nothing_at_the_second = refl

decided_before_nothing : with_steps 3 (each (until minus_one (of 2)) (other (one_by i) minus_one)) ≡ Says false 2
decided_before_nothing = refl

nothing_before_it_is_decided : with_steps 3 (some (until (of 0) (of 2)) (connected_by Or (same (one_by i) (of 0)) certain)) ≡ SaysNothing 2
nothing_before_it_is_decided = refl

-- \forall integer i; 1 / 0 <= i < 0 ==> \false
a_lower_bound_of_nothing : with_steps 0 (each (until (one_by (of 0)) (of 0)) wrong) ≡ SaysNothing 0
a_lower_bound_of_nothing = refl

an_upper_bound_of_nothing : with_steps 0 (each (until (of 0) x) certain) ≡ SaysNothing 0
an_upper_bound_of_nothing = refl

a_bound_that_is_a_pointer : with_steps 1 (each (until (of 0) p) certain) ≡ SaysNothing 1
a_bound_that_is_a_pointer = refl

-- \forall integer i, j; 0 <= i < 0 && 1 / 0 <= j < 5 ==> \false
abbrev then_nothing : ℕ → Predicate
then_nothing n = each (Guarded (of 0) (up_from 500) [] true (of n) (Guarded (one_by (of 0)) (up_from 501) [] true (of 5) NoGuard)) wrong

a_bound_whose_turn_never_comes : with_steps 0 (then_nothing 0) ≡ Says true 0
a_bound_whose_turn_never_comes = refl

a_bound_whose_turn_comes : with_steps 9 (then_nothing 1) ≡ SaysNothing 8
a_bound_whose_turn_comes = refl

-- ---- several binders

-- \forall integer i, j; 0 <= i <= j < 3 ==> i <= j
abbrev ordered : Predicate
ordered = each (Guarded (of 0) (up_from 500) (up_from 501 ∷ []) true (of 3) NoGuard) (related_by Le i j)

three_and_six : with_steps 9 ordered ≡ Says true 0
three_and_six = refl

three_and_six_are_spent : with_steps 8 ordered ≡ OutOfSteps
three_and_six_are_spent = refl

-- \forall integer i, j; 0 <= i < j <= 3 ==> i < j: the last i has no j
four_and_six : with_steps 10 (each (Guarded (of 0) (up_from 500) (above 501 ∷ []) false (of 3) NoGuard) (related_by Lt i j)) ≡ Says true 0
four_and_six = refl

-- \forall integer i, j; 0 <= i < 2 && 0 <= j < i ==> j < i
bounded_by_another : with_steps 3 (each (Guarded (of 0) (up_from 500) [] true (of 2) (Guarded (of 0) (up_from 501) [] true i NoGuard)) (related_by Lt j i)) ≡ Says true 0
bounded_by_another = refl

-- \exists integer i, j; 0 <= i < 9 && i < j <= i + 1 && j == 3
found_at_two_and_three : with_steps 9 (some (Guarded (of 0) (up_from 500) [] true (of 9) (Guarded i (above 501) [] false (operated Add i (of 1)) NoGuard)) (same j (of 3))) ≡ Says true 3
found_at_two_and_three = refl

-- \forall integer i; -1 <= i < 2 && i != 0 ==> 1 / i != 0
spared_by_a_hypothesis : with_steps 3 (each (until minus_one (of 2)) (connected_by Implies (other i (of 0)) (other (one_by i) (of 0)))) ≡ Says true 0
spared_by_a_hypothesis = refl

-- ---- binders of types of C try values of the type alone

abbrev between_in : PlainType → LogicTerm → Bool → LogicTerm → Guards
between_in t a below b = Guarded a (binder_of 500 (OfC t) false) [] below b NoGuard

none_below_the_type : with_steps 3 (each (between_in (Int U8) (number (negsuc 4)) true (of 3)) (related_by Ge i (of 0))) ≡ Says true 0
none_below_the_type = refl

none_above_the_type : with_steps 3 (each (between_in (Int I8) (of 125) false (of 300)) (related_by Le i (of 127))) ≡ Says true 0
none_above_the_type = refl

the_last_of_its_type : with_steps 1 (each (Guarded (of (2 ^ 31 - 2)) (binder_of 500 (OfC (Int I32)) true) [] false (of (2 ^ 31)) NoGuard) (same i (of (2 ^ 31 - 1)))) ≡ Says true 0
the_last_of_its_type = refl

all_above_its_type : with_steps 0 (some (between_in (Int I32) (of 5000000000) true (of 5000000003)) certain) ≡ Says false 0
all_above_its_type = refl

all_below_its_type : with_steps 0 (each (between_in (Int U32) (number (negsuc 2)) true (of 0)) wrong) ≡ Says true 0
all_below_its_type = refl

-- \forall char i, j; 126 <= i <= j < 129 ==> j <= 127
both_within_their_type : with_steps 9 (each (Guarded (of 126) (binder_of 500 (OfC (Int I8)) false) (binder_of 501 (OfC (Int I8)) false ∷ []) true (of 129) NoGuard) (related_by Le j (of 127))) ≡ Says true 4
both_within_their_type = refl

-- ---- quantifiers inside one another, and names

-- \forall integer i; 0 <= i < 3 ==> \exists integer j; 0 <= j < 3 && j == i
some_for_each : with_steps 9 (each (until (of 0) (of 3)) (some (Guarded (of 0) (up_from 501) [] true (of 3) NoGuard) (same j i))) ≡ Says true 0
some_for_each = refl

-- the inner binder of a name is meant
the_inner_one : with_steps 4 (each (until (of 0) (of 2)) (some (Guarded (of 5) (up_from 500) [] true (of 6) NoGuard) (same i (of 5)))) ≡ Says true 0
the_inner_one = refl

and_the_outer_one_again : with_steps 9 (some (until (of 0) (of 3)) (connected_by And (some (until (of 5) (of 6)) (same i (of 5))) (same i (of 1)))) ≡ Says true 5
and_the_outer_one_again = refl

-- a name that no quantifier binds stands for nothing
an_unbound_name : with_steps 5 (same j j) ≡ SaysNothing 5
an_unbound_name = refl

-- ---- under connectives

abbrev five : Predicate
five = each (until (of 0) (of 5)) certain

abbrev two : Predicate
two = each (until (of 0) (of 2)) certain

nothing_and_five_steps : with_steps 5 (connected_by Iff (same (one_by (of 0)) (of 0)) five) ≡ SaysNothing 0
nothing_and_five_steps = refl

nothing_and_spent : with_steps 4 (connected_by Iff (same (one_by (of 0)) (of 0)) five) ≡ OutOfSteps
nothing_and_spent = refl

steps_before_nothing : with_steps 5 (connected_by Xor two (same (one_by (of 0)) (of 0))) ≡ SaysNothing 3
steps_before_nothing = refl

both_are_asked : with_steps 2 (connected_by Xor certain two) ≡ Says false 0
both_are_asked = refl

spent_on_the_left : with_steps 1 (connected_by Iff two certain) ≡ OutOfSteps
spent_on_the_left = refl

steps_of_both_sides : with_steps 9 (connected_by Iff two five) ≡ Says true 2
steps_of_both_sides = refl

not_asked_behind_or : with_steps 0 (connected_by Or certain five) ≡ Says true 0
not_asked_behind_or = refl

not_asked_behind_implies : with_steps 0 (connected_by Implies wrong five) ≡ Says true 0
not_asked_behind_implies = refl

asked_behind_and : with_steps 6 (connected_by And two five) ≡ OutOfSteps
asked_behind_and = refl

denied : with_steps 2 (Not here (each (until (of 0) (of 2)) (same i (of 0)))) ≡ Says true 0
denied = refl

spent_isnt_denied : with_steps 1 (Not here two) ≡ OutOfSteps
spent_isnt_denied = refl

-- (\forall integer i; 0 <= i < 2 ==> \true) ? \forall integer i; 0 <= i < 5 ==> \true : \false
as_a_condition : with_steps 9 (Branch here two five wrong) ≡ Says true 2
as_a_condition = refl
