-- Contracts and behaviors (ACSL 2.3), by computation: which clause is broken first, which behaviors hold, and when a call is judged.
use Rattle.std.proofs.Common.{◌≡◌, ℕ, pos, true, false, List, [], ◌∷◌, None, Some, codes, refl}
use Rattle.c_syntax.specs.declared.annotation.Kind.TheVariants.{Requires, Assumes, Ensures, Complete, Disjoint}
use Rattle.c_syntax.specs.declared.annotation.Relation.TheVariants.{Eq, Ne, Lt, Gt}
use Rattle.c_syntax.specs.declared.expression.UnOp.TheVariants as unary
use Rattle.c_syntax.specs.declared.logic.MemoryQuestion.TheVariants.{Valid}
use Rattle.c_syntax.specs.declared.logic.Quantifier.TheVariants.{ForAll}
use Rattle.c_syntax.specs.declared.place.Place.{Place}
use Rattle.c_syntax.specs.declared.types.How.TheVariants as how
use Rattle.c_syntax.specs.Ctypes.{Void, Ptr, int_type}
use Rattle.c_syntax.specs.Expressions.{Node, Variable, Unary}
use Rattle.c_syntax.specs.Expressions as expression
use Rattle.c_syntax.specs.Formulas.{Integers}
use Rattle.c_syntax.specs.Logic.{LogicTerm, Predicate, Truth, Not, Asks, Object, Named, Quantified, Guarded, NoGuard, Annotation}
use Rattle.c_syntax.specs.Logic as logic
use Rattle.c_syntax.specs.declared.expression.BinOp.TheVariants as operator
use Rattle.c_syntax.specs.Statements.{BlockItem, Declaration, While, If, NoElse, Run}
use Rattle.c_syntax.specs.Programs.{NamedBehavior, Function, TranslationUnit}
use Rattle.c_model.specs.State.{Broken, Undefined, Spent}
use Rattle.c_model.specs.Meaning.{run}
use Rattle.worked_rows.proofs.WorkedTrees.{no_input, no_range}
use Rattle.worked_rows.proofs.WorkedClauses.{at, result, is, by, number, x_of, formal, operated, block_of, clause, covers, covers_named, contracted, named, lit, var}
use Rattle.worked_rows.proofs.WorkedClauses.{call_of, does, sets, calls, puts, exits_with, returns, int_of, global_of, function_of, main_of, program, runs, ends, exits}
use Rattle.worked_rows.proofs.WorkedClauses.{false_at, undefined_at}

-- ---- a function f of an int n, a global g, which is 1, and calls of f with these numbers

abbrev n : LogicTerm
n = x_of 20

abbrev g : LogicTerm
g = x_of 5

abbrev f_does : List BlockItem → List Annotation → List NamedBehavior → List Annotation → Function
f_does items clauses behaviors covers = contracted clauses behaviors covers (function_of int_type 10 items)

abbrev f_gives_n : List Annotation → List NamedBehavior → List Annotation → Function
f_gives_n = f_does (returns (var 20) ∷ [])

abbrev all_calls : List ℕ → List BlockItem
all_calls [] = returns (lit 0) ∷ []
all_calls (k ∷ ks) = calls 10 (lit k) ∷ all_calls ks

abbrev calling : Function → List ℕ → TranslationUnit
calling f ks = program (global_of (lit 1) ∷ []) (f ∷ main_of (all_calls ks) ∷ [])

-- 1 / t == 1, which says nothing of 0
abbrev divides : LogicTerm → Predicate
divides t = is (by (number 1) t) Eq (number 1)

abbrev certain : Predicate
certain = Truth (at 1 1) true

abbrev wrong : Predicate
wrong = Truth (at 1 1) false

-- names of behaviors, at the places where a clause names them
abbrev b1 : Place × ℕ
b1 = (at 1 1, 71)

abbrev b2 : Place × ℕ
b2 = (at 1 1, 72)

abbrev b3 : Place × ℕ
b3 = (at 1 1, 73)

-- n > 0, n > 1 and n > 9
abbrev three : List NamedBehavior
three = named 71 (clause Assumes 1 (is n Gt (number 0)) ∷ []) ∷ named 72 (clause Assumes 2 (is n Gt (number 1)) ∷ []) ∷ named 73 (clause Assumes 3 (is n Gt (number 9)) ∷ []) ∷ []

-- ---- at the beginning of a call

the_first_that_is_false : runs (calling (f_gives_n (clause Requires 1 (is n Gt (number 5)) ∷ clause Requires 2 (is n Gt (number 9)) ∷ []) [] []) (1 ∷ [])) ≡ false_at 1 Requires 8
the_first_that_is_false = refl

the_second_alone_is_false : runs (calling (f_gives_n (clause Requires 1 (is n Gt (number 5)) ∷ clause Requires 2 (is n Gt (number 9)) ∷ []) [] []) (7 ∷ [])) ≡ false_at 2 Requires 8
the_second_alone_is_false = refl

a_demand_that_says_nothing : runs (calling (f_gives_n (clause Requires 1 (divides n) ∷ []) [] []) (1 ∷ 0 ∷ [])) ≡ undefined_at 1 Requires 7
a_demand_that_says_nothing = refl

own_demands_before_all_assumptions :
    runs (calling (f_gives_n (clause Requires 2 (is n Ne (number 0)) ∷ []) (named 71 (clause Assumes 1 (divides n) ∷ []) ∷ []) []) (0 ∷ []))
    ≡ false_at 2 Requires 8
own_demands_before_all_assumptions = refl

all_assumptions_before_demands_of_behaviors :
    runs (calling (f_gives_n [] (named 71 (clause Assumes 1 (is n Eq (number 0)) ∷ clause Requires 2 (is n Eq (number 1)) ∷ [])
    ∷ named 72 (clause Assumes 3 (divides n) ∷ []) ∷ []) []) (0 ∷ [])) ≡ undefined_at 3 Assumes 8
all_assumptions_before_demands_of_behaviors = refl

a_false_assumption_is_no_fault : runs (calling (f_gives_n [] (named 71 (clause Assumes 1 wrong ∷ clause Requires 2 wrong ∷ clause Ensures 3 wrong ∷ []) ∷ []) []) (0 ∷ [])) ≡ exits (pos 0) 8
a_false_assumption_is_no_fault = refl

assumptions_of_a_behavior_are_lazy :
    runs (calling (f_gives_n [] (named 71 (clause Assumes 1 (is n Ne (number 0)) ∷ clause Assumes 2 (divides n) ∷ clause Ensures 3 (is result Eq (number 1)) ∷ []) ∷ []) [])
    (1 ∷ 0 ∷ [])) ≡ exits (pos 0) 7
assumptions_of_a_behavior_are_lazy = refl

and_in_their_order : runs (calling (f_gives_n [] (named 71 (clause Assumes 1 (divides n) ∷ clause Assumes 2 (is n Ne (number 0)) ∷ []) ∷ []) []) (0 ∷ [])) ≡ undefined_at 1 Assumes 8
and_in_their_order = refl

a_behavior_without_assumptions_holds : runs (calling (f_gives_n [] (named 71 (clause Requires 1 (is n Eq (number 1)) ∷ []) ∷ []) []) (1 ∷ 0 ∷ [])) ≡ false_at 1 Requires 7
a_behavior_without_assumptions_holds = refl

a_demand_waits_for_an_assumption_behind_it :
    runs (calling (f_gives_n [] (named 71 (clause Requires 1 (is n Eq (number 1)) ∷ clause Assumes 2 (is n Eq (number 0)) ∷ []) ∷ []) []) (2 ∷ 0 ∷ []))
    ≡ false_at 1 Requires 7
a_demand_waits_for_an_assumption_behind_it = refl

a_demand_of_a_behavior_that_doesnt_hold :
    runs (calling (f_gives_n [] (named 71 (clause Assumes 1 (is n Gt (number 0)) ∷ clause Requires 2 (divides n) ∷ []) ∷ []) []) (0 ∷ 1 ∷ []))
    ≡ exits (pos 0) 7
a_demand_of_a_behavior_that_doesnt_hold = refl

demands_of_behaviors_before_complete :
    runs (calling (f_gives_n [] (named 71 (clause Assumes 1 (is n Gt (number 0)) ∷ clause Requires 2 (is n Gt (number 1)) ∷ []) ∷ []) (covers_named Complete 3 [] ∷ [])) (2 ∷ 1 ∷ []))
    ≡ false_at 2 Requires 7
demands_of_behaviors_before_complete = refl

-- ---- `complete` and `disjoint`

complete_before_disjoint : runs (calling (f_gives_n [] three (covers_named Disjoint 4 (b1 ∷ b2 ∷ []) ∷ covers_named Complete 5 (b3 ∷ []) ∷ [])) (2 ∷ [])) ≡ false_at 5 Complete 8
complete_before_disjoint = refl

two_of_two : runs (calling (f_gives_n [] three (covers_named Disjoint 4 (b1 ∷ b2 ∷ []) ∷ [])) (1 ∷ 2 ∷ [])) ≡ false_at 4 Disjoint 7
two_of_two = refl

the_first_and_the_third : runs (calling (f_gives_n [] three (covers_named Disjoint 4 (b3 ∷ b1 ∷ []) ∷ [])) (9 ∷ 10 ∷ [])) ≡ false_at 4 Disjoint 7
the_first_and_the_third = refl

none_of_three_is_disjoint : runs (calling (f_gives_n [] three (covers_named Disjoint 4 [] ∷ [])) (0 ∷ 1 ∷ [])) ≡ exits (pos 0) 7
none_of_three_is_disjoint = refl

none_of_three_is_not_complete : runs (calling (f_gives_n [] three (covers_named Complete 4 [] ∷ [])) (1 ∷ 0 ∷ [])) ≡ false_at 4 Complete 7
none_of_three_is_not_complete = refl

another_behavior_doesnt_count : runs (calling (f_gives_n [] three (covers_named Complete 4 (b2 ∷ b3 ∷ []) ∷ [])) (2 ∷ 1 ∷ [])) ≡ false_at 4 Complete 7
another_behavior_doesnt_count = refl

one_of_the_named_is_enough : runs (calling (f_gives_n [] three (covers_named Complete 4 (b3 ∷ b1 ∷ []) ∷ [])) (1 ∷ 10 ∷ [])) ≡ exits (pos 0) 7
one_of_the_named_is_enough = refl

complete_of_no_behaviors : runs (calling (f_gives_n [] [] (covers Complete 1 1 ∷ [])) (2 ∷ [])) ≡ false_at 1 Complete 8
complete_of_no_behaviors = refl

disjoint_of_no_behaviors : runs (calling (f_gives_n [] [] (covers Disjoint 1 1 ∷ [])) (2 ∷ [])) ≡ exits (pos 0) 8
disjoint_of_no_behaviors = refl

-- ---- at its end

own_ensures_before_those_of_behaviors :
    runs (calling (f_gives_n (clause Ensures 2 (is result Eq (number 1)) ∷ []) (named 71 (clause Ensures 1 (is result Eq (number 2)) ∷ []) ∷ []) []) (3 ∷ []))
    ≡ false_at 2 Ensures 8
own_ensures_before_those_of_behaviors = refl

then_those_of_behaviors :
    runs (calling (f_gives_n (clause Ensures 2 (is result Eq (number 1)) ∷ []) (named 71 (clause Ensures 1 (is result Eq (number 2)) ∷ []) ∷ []) []) (1 ∷ []))
    ≡ false_at 1 Ensures 8
then_those_of_behaviors = refl

those_that_held_at_the_beginning :
    runs (calling (f_does (sets 5 (var 20) ∷ returns (lit 0) ∷ []) [] (named 71 (clause Assumes 1 (is g Eq (number 1)) ∷ clause Ensures 2 (is g Eq (number 1)) ∷ []) ∷ []) [])
    (1 ∷ 0 ∷ [])) ≡ false_at 2 Ensures 7
those_that_held_at_the_beginning = refl

and_no_others :
    runs (calling (f_does (sets 5 (var 20) ∷ returns (lit 0) ∷ []) [] (named 71 (clause Assumes 1 (is g Eq (number 0)) ∷ clause Ensures 2 wrong ∷ []) ∷ []) [])
    (0 ∷ [])) ≡ exits (pos 0) 8
and_no_others = refl

a_result_that_says_nothing : runs (calling (f_gives_n (clause Ensures 1 (divides result) ∷ []) [] []) (1 ∷ 0 ∷ [])) ≡ undefined_at 1 Ensures 7
a_result_that_says_nothing = refl

exit_is_not_the_end_of_a_call : runs (calling (f_does (exits_with (var 20) ∷ returns (lit 0) ∷ []) (clause Ensures 1 wrong ∷ []) [] []) (3 ∷ [])) ≡ exits (pos 3) 8
exit_is_not_the_end_of_a_call = refl

a_brace_that_gives_no_value : runs (calling (f_does [] (clause Ensures 1 wrong ∷ []) [] []) (3 ∷ [])) ≡ ends (Undefined (at 9 9)) [] 8
a_brace_that_gives_no_value = refl

-- void f(int n) { g = n; }
at_the_brace_of_a_function_without_result :
    runs (program (global_of (lit 1) ∷ []) (contracted (clause Ensures 1 (is g Eq (number 2)) ∷ []) [] [] (function_of Void 10 (sets 5 (var 20) ∷ [])) ∷ main_of (all_calls (2 ∷ 3 ∷ [])) ∷ []))
    ≡ false_at 1 Ensures 7
at_the_brace_of_a_function_without_result = refl

-- while (1) { int k = n; if (k > 3) { int m = k; return m; } n = n + 1; }
returns_from_inner_blocks :
    runs (calling (f_does (Run (While (at 1 1) [] (lit 1) (block_of (int_of 50 (var 20) ∷ Run (If (at 1 1) (operated operator.Gt (var 50) (lit 3)) (block_of (int_of 60 (var 50) ∷ returns (var 60) ∷ [])) NoElse)
    ∷ sets 20 (operated operator.Add (var 20) (lit 1)) ∷ []))) ∷ []) (clause Ensures 1 (is result Eq (formal 20)) ∷ []) [] []) (5 ∷ 2 ∷ [])) ≡ false_at 1 Ensures 3
returns_from_inner_blocks = refl

-- ---- objects at the end of a call: int *p; int f(int n) { int x = 1; p = &x, or p = &n; return n; }
abbrev pointer : Declaration
pointer = record { place = at 1 6; name = 0; named = true; ctype = Ptr int_type; init = None }

abbrev points_to : ℕ → BlockItem
points_to decl = does (Node (at 1 1) (Ptr int_type) (expression.Assign None (Node (at 1 1) (Ptr int_type) (Variable (record { name = 0; decl = 6 })))
    (Node (at 1 1) (Ptr int_type) (Unary unary.Address (var decl)))))

abbrev valid : Predicate
valid = Asks (at 1 1) Valid (Object (at 1 1) 4 4 (logic.Variable (at 1 1) (Some (Ptr int_type)) no_range (record { name = 0; decl = 6 })))

abbrev pointing : ℕ → Predicate → TranslationUnit
pointing decl p = program (pointer ∷ []) (f_does (int_of 30 (lit 1) ∷ points_to decl ∷ returns (var 20) ∷ []) (clause Ensures 1 p ∷ []) [] [] ∷ main_of (all_calls (7 ∷ [])) ∷ [])

a_local_is_dead : runs (pointing 30 (Not (at 1 1) valid)) ≡ exits (pos 0) 8
a_local_is_dead = refl

a_parameter_lives : runs (pointing 20 valid) ≡ exits (pos 0) 8
a_parameter_lives = refl

-- ---- main

globals_are_initialised_before : runs (program (global_of (lit 1) ∷ []) (contracted (clause Requires 1 (is g Eq (number 1)) ∷ clause Requires 2 (is g Eq (number 0)) ∷ []) [] [] (main_of []) ∷ [])) ≡ false_at 2 Requires 9
globals_are_initialised_before = refl

zero_at_the_brace_of_main : runs (program [] (contracted (clause Ensures 1 (is result Eq (number 0)) ∷ []) [] [] (main_of []) ∷ [])) ≡ exits (pos 0) 9
zero_at_the_brace_of_main = refl

what_main_returns : runs (program [] (contracted (clause Ensures 1 (is result Eq (number 3)) ∷ []) [] [] (main_of (returns (lit 3) ∷ [])) ∷ [])) ≡ exits (pos 3) 9
what_main_returns = refl

-- ---- order of calls, and steps

-- int f(int n) { putchar(97); return n; }  f(f(0)): the inner call is over before the outer one is judged
arguments_before_the_call :
    runs (program [] (f_does (puts 97 ∷ returns (var 20) ∷ []) (clause Requires 1 (is n Eq (number 5)) ∷ []) [] [] ∷ main_of (calls 10 (call_of 10 (lit 5 ∷ [])) ∷ calls 10 (call_of 10 (lit 0 ∷ [])) ∷ []) ∷ []))
    ≡ ends (Broken 1 1 Requires how.False) (codes "aa") 6
arguments_before_the_call = refl

-- int h(int n) { f(n); return 3; } with an `ensures` that is false, where f's is too
the_inner_call_ends_first :
    runs (program [] (f_gives_n (clause Ensures 2 wrong ∷ []) [] [] ∷ contracted (clause Ensures 1 wrong ∷ []) [] [] (function_of int_type 11 (calls 10 (var 20) ∷ returns (lit 3) ∷ [])) ∷ main_of (calls 11 (lit 0) ∷ []) ∷ []))
    ≡ false_at 2 Ensures 7
the_inner_call_ends_first = refl

-- \forall integer i; 0 <= i < 3 ==> i < n
abbrev up_to_three : Predicate
up_to_three = Quantified (at 1 1) ForAll (Guarded (number 0) (record { place = at 1 500; kind = Integers; above = false }) [] true (number 3) NoGuard)
    (is (Named (at 1 1) None no_range (record { name = 0; decl = 500 })) Lt n)

abbrev tries_three : TranslationUnit
tries_three = calling (f_gives_n (clause Requires 1 up_to_three ∷ []) [] []) (3 ∷ [])

steps_of_a_clause : runs tries_three ≡ exits (pos 0) 5
steps_of_a_clause = refl

spent_in_a_clause : run tries_three no_input 3 ≡ ends Spent [] 0
spent_in_a_clause = refl

spent_before_a_clause : run (calling (f_gives_n (clause Requires 1 wrong ∷ []) [] []) (3 ∷ [])) no_input 0 ≡ ends Spent [] 0
spent_before_a_clause = refl

-- the second value denies the first assumption, and the second one isn't evaluated
abbrev assumes_twice : TranslationUnit
assumes_twice = calling (f_gives_n [] (named 71 (clause Assumes 1 up_to_three ∷ clause Assumes 2 up_to_three ∷ clause Ensures 3 wrong ∷ []) ∷ []) []) (1 ∷ [])

steps_of_an_assumption : runs assumes_twice ≡ exits (pos 0) 6
steps_of_an_assumption = refl

spent_in_an_assumption : run assumes_twice no_input 2 ≡ ends Spent [] 0
spent_in_an_assumption = refl
