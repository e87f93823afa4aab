-- Annotations of loops (ACSL 2.4.2), by computation: when an invariant is asked, what a variant is compared with, and what a jump passes over.
use Rattle.std.proofs.Common.{◌≡◌, ℕ, pos, true, false, List, [], ◌∷◌, None, Some, codes, refl}
use Rattle.c_syntax.specs.declared.annotation.Kind.TheVariants.{Invariant, Variant}
use Rattle.c_syntax.specs.declared.annotation.Relation.TheVariants.{Eq, Ne, Lt, Le}
use Rattle.c_syntax.specs.declared.expression.BinOp.TheVariants as operator
use Rattle.c_syntax.specs.declared.expression.BumpOp.TheVariants.{PostUp}
use Rattle.c_syntax.specs.declared.expression.UnOp.TheVariants.{Minus}
use Rattle.c_syntax.specs.declared.logic.Quantifier.TheVariants.{ForAll}
use Rattle.c_syntax.specs.declared.types.How.TheVariants as how
use Rattle.c_syntax.specs.Expressions.{Expression}
use Rattle.c_syntax.specs.Formulas.{Integers}
use Rattle.c_syntax.specs.Logic.{LogicTerm, Predicate, Unary, Value, Annotation, Truth, Quantified, Guarded, NoGuard}
use Rattle.c_syntax.specs.Statements.{BlockItem, While, For, First, Break, Continue, Empty, Run}
use Rattle.c_syntax.specs.Programs.{TranslationUnit}
use Rattle.c_model.specs.State.{Exits, Broken, Spent}
use Rattle.c_model.specs.Meaning.{run}
use Rattle.worked_rows.proofs.WorkedTrees.{bump, no_range, no_input}
use Rattle.worked_rows.proofs.WorkedClauses.{at, is, less, by, number, x_of, clause, lit, var, operated, sets, puts, exits_with, returns, block_of, int_of}
use Rattle.worked_rows.proofs.WorkedClauses.{main_of, program, runs, ends, exits, false_at, undefined_at}

-- ---- loops over an int i

abbrev i : LogicTerm
i = x_of 50

abbrev invariant : ℕ → Predicate → Annotation
invariant k f = clause Invariant k f

abbrev variant : ℕ → LogicTerm → Annotation
variant k t = record { number = k; kind = Variant; place = at k 1; body = Value t }

abbrev below : ℕ → Expression
below k = operated operator.Lt (var 50) (lit k)

abbrev while : List Annotation → Expression → List BlockItem → BlockItem
while annots e items = Run (While (at 1 1) annots e (block_of items))

-- int i = k; while (e) { .. } return 0;
abbrev loops : ℕ → List Annotation → Expression → List BlockItem → TranslationUnit
loops k annots e items = program [] (main_of (int_of 50 (lit k) ∷ while annots e items ∷ returns (lit 0) ∷ []) ∷ [])

abbrev up : BlockItem
up = sets 50 (operated operator.Add (var 50) (lit 1))

abbrev down : BlockItem
down = sets 50 (operated operator.Sub (var 50) (lit 1))

abbrev up_after : Expression
up_after = bump (at 1 1) PostUp (var 50)

abbrev breaks : BlockItem
breaks = Run (Break (at 1 1))

abbrev continues : BlockItem
continues = Run (Continue (at 1 1))

-- for (i = 0; i < k; i++) { .. }
abbrev for_loops : ℕ → List Annotation → List BlockItem → TranslationUnit
for_loops k annots items = program [] (main_of (int_of 50 (lit 7) ∷
    Run (For (at 1 1) annots (First (sets 50 (lit 0))) (Some (below k)) (Some up_after) (block_of items)) ∷ returns (lit 0) ∷ []) ∷ [])

abbrev above_zero : Expression
above_zero = operated operator.Lt (lit 0) (var 50)

abbrev certain : Predicate
certain = Truth (at 1 1) true

abbrev wrong : Predicate
wrong = Truth (at 1 1) false

-- ---- invariants

asked_before_the_condition : runs (loops 5 (invariant 1 (is i Lt (number 5)) ∷ []) (below 5) (up ∷ [])) ≡ false_at 1 Invariant 9
asked_before_the_condition = refl

asked_once_more_than_there_are_turns : runs (loops 0 (invariant 1 (is i Lt (number 3)) ∷ []) (below 3) (up ∷ [])) ≡ false_at 1 Invariant 6
asked_once_more_than_there_are_turns = refl

holds_to_the_end : runs (loops 0 (invariant 1 (is i Le (number 3)) ∷ []) (below 3) (up ∷ [])) ≡ exits (pos 0) 6
holds_to_the_end = refl

says_nothing : runs (loops 0 (invariant 1 (is (by (number 1) i) Eq (number 1)) ∷ []) (below 3) (up ∷ [])) ≡ undefined_at 1 Invariant 9
says_nothing = refl

the_first_in_text_order : runs (loops 0 (invariant 1 (is i Lt (number 2)) ∷ invariant 2 (is i Lt (number 2)) ∷ []) (below 5) (up ∷ [])) ≡ false_at 1 Invariant 7
the_first_in_text_order = refl

the_second_alone : runs (loops 0 (invariant 1 (is i Lt (number 3)) ∷ invariant 2 (is i Lt (number 2)) ∷ []) (below 5) (up ∷ [])) ≡ false_at 2 Invariant 7
the_second_alone = refl

-- while (i++ < 0), which is asked of i == 0
before_what_the_condition_does : runs (loops 0 (invariant 1 (is i Eq (number 0)) ∷ []) (operated operator.Lt up_after (lit 0)) []) ≡ exits (pos 0) 9
before_what_the_condition_does = refl

behind_a_break_no_more : runs (loops 0 (invariant 1 (is i Eq (number 0)) ∷ []) (lit 1) (up ∷ breaks ∷ [])) ≡ exits (pos 0) 8
behind_a_break_no_more = refl

behind_a_return_no_more : runs (loops 0 (invariant 1 (is i Eq (number 0)) ∷ []) (lit 1) (up ∷ returns (lit 3) ∷ [])) ≡ exits (pos 3) 8
behind_a_return_no_more = refl

behind_an_exit_no_more : runs (loops 0 (invariant 1 (is i Eq (number 0)) ∷ []) (lit 1) (up ∷ exits_with (lit 3) ∷ [])) ≡ exits (pos 3) 8
behind_an_exit_no_more = refl

behind_a_continue : runs (loops 0 (invariant 1 (is i Lt (number 2)) ∷ []) (below 5) (up ∷ continues ∷ [])) ≡ false_at 1 Invariant 7
behind_a_continue = refl

-- for (i = 0; i < 2; i++) ;
behind_what_a_for_does_first : runs (for_loops 2 (invariant 1 (is i Ne (number 7)) ∷ []) []) ≡ exits (pos 0) 7
behind_what_a_for_does_first = refl

behind_the_step_of_a_for : runs (for_loops 2 (invariant 1 (is i Ne (number 2)) ∷ []) (continues ∷ [])) ≡ false_at 1 Invariant 7
behind_the_step_of_a_for = refl

-- for (int i = 0; i < 2; i++) ;  where this i has the number 60
a_variable_of_the_header : runs (program [] (main_of (Run (For (at 1 1) (invariant 1 (is (number 0) Le (x_of 60)) ∷ variant 2 (less (number 2) (x_of 60)) ∷ []) (First (int_of 60 (lit 0)))
    (Some (operated operator.Lt (var 60) (lit 2))) (Some (bump (at 1 1) PostUp (var 60))) (Empty (at 1 1))) ∷ []) ∷ [])) ≡ exits (pos 0) 7
a_variable_of_the_header = refl

-- loop invariant \forall integer k; 0 <= k < 3 ==> \true; while (i < 2) i = i + 1: three steps at each of three times, and two turns
abbrev three_each_time : TranslationUnit
three_each_time = loops 0 (invariant 1 (Quantified (at 1 1) ForAll (Guarded (number 0) (record { place = at 1 500; kind = Integers; above = false }) [] true (number 3) NoGuard) certain) ∷ []) (below 2) (up ∷ [])

eleven_steps : run three_each_time no_input 11 ≡ exits (pos 0) 0
eleven_steps = refl

ten_are_spent_at_the_end : run three_each_time no_input 10 ≡ ends Spent [] 0
ten_are_spent_at_the_end = refl

three_are_spent_at_the_first_turn : run three_each_time no_input 3 ≡ ends Spent [] 0
three_are_spent_at_the_first_turn = refl

-- ---- variants

becomes_smaller : runs (loops 0 (variant 1 (less (number 3) i) ∷ []) (below 3) (up ∷ [])) ≡ exits (pos 0) 6
becomes_smaller = refl

stays_the_same : runs (loops 0 (variant 1 (number 1) ∷ []) (below 1) (up ∷ [])) ≡ false_at 1 Variant 8
stays_the_same = refl

becomes_greater : runs (loops 0 (variant 1 i ∷ []) (below 1) (up ∷ [])) ≡ false_at 1 Variant 8
becomes_greater = refl

-- the body is over before a kept value below 0 is judged
was_negative : runs (loops 0 (variant 1 (less (number 0) (number 5)) ∷ []) (below 1) (puts 97 ∷ up ∷ [])) ≡ ends (Broken 1 1 Variant how.False) (codes "a") 8
was_negative = refl

was_negative_and_becomes_smaller : runs (loops 1 (variant 1 (less (number 0) i) ∷ []) (below 2) (up ∷ [])) ≡ false_at 1 Variant 8
was_negative_and_becomes_smaller = refl

becomes_negative : runs (loops 0 (variant 1 (Unary (at 1 1) None no_range Minus i) ∷ []) (below 1) (up ∷ [])) ≡ exits (pos 0) 8
becomes_negative = refl

is_negative_a_turn_later : runs (loops 0 (variant 1 (less (number 1) i) ∷ []) (below 3) (up ∷ [])) ≡ false_at 1 Variant 6
is_negative_a_turn_later = refl

had_no_value : runs (loops 0 (variant 1 (by (number 1) i) ∷ []) (below 1) (puts 97 ∷ up ∷ [])) ≡ undefined_at 1 Variant 8
had_no_value = refl

has_no_value_any_more : runs (loops 1 (variant 1 (by (number 5) i) ∷ []) above_zero (puts 97 ∷ down ∷ [])) ≡ ends (Broken 1 1 Variant how.Undefined) (codes "a") 8
has_no_value_any_more = refl

isnt_evaluated_without_a_turn : runs (loops 0 (variant 1 (by (number 1) i) ∷ []) above_zero []) ≡ exits (pos 0) 9
isnt_evaluated_without_a_turn = refl

isnt_evaluated_without_a_step : run (loops 0 (variant 1 (by (number 1) i) ∷ []) (lit 1) []) no_input 0 ≡ ends Spent [] 0
isnt_evaluated_without_a_step = refl

-- while (i++ < 1): 5 - i is 4 after the condition, and stays 4
is_kept_behind_the_condition : runs (loops 0 (variant 1 (less (number 5) i) ∷ []) (operated operator.Lt up_after (lit 1)) []) ≡ false_at 1 Variant 8
is_kept_behind_the_condition = refl

is_compared_behind_a_continue : runs (loops 3 (variant 1 i ∷ []) above_zero (continues ∷ [])) ≡ false_at 1 Variant 8
is_compared_behind_a_continue = refl

is_compared_behind_the_step_of_a_for : runs (for_loops 3 (variant 1 (less (number 3) i) ∷ []) (continues ∷ [])) ≡ exits (pos 0) 6
is_compared_behind_the_step_of_a_for = refl

isnt_compared_behind_a_break : runs (loops 0 (variant 1 (less (number 0) (number 5)) ∷ []) (lit 1) (puts 97 ∷ breaks ∷ [])) ≡ ends (Exits (pos 0)) (codes "a") 8
isnt_compared_behind_a_break = refl

isnt_compared_behind_a_return : runs (loops 0 (variant 1 (less (number 0) (number 5)) ∷ []) (lit 1) (returns (lit 3) ∷ [])) ≡ exits (pos 3) 8
isnt_compared_behind_a_return = refl

isnt_compared_behind_an_exit : runs (loops 0 (variant 1 (number 1) ∷ []) (lit 1) (exits_with (lit 3) ∷ [])) ≡ exits (pos 3) 8
isnt_compared_behind_an_exit = refl

-- ---- both, and loops inside loops

compared_before_the_invariant_is_asked : runs (loops 0 (invariant 1 (is i Lt (number 1)) ∷ variant 2 (number 1) ∷ []) (below 5) (up ∷ [])) ≡ false_at 2 Variant 8
compared_before_the_invariant_is_asked = refl

wherever_the_variant_stands : runs (loops 0 (variant 1 (by (number 1) i) ∷ invariant 2 wrong ∷ []) (below 5) (up ∷ [])) ≡ false_at 2 Invariant 9
wherever_the_variant_stands = refl

-- while (i < 2) { while (1) break; i = i + 1; }
a_break_leaves_the_inner_loop : runs (loops 0 (variant 1 (less (number 2) i) ∷ []) (below 2) (while (variant 2 (number 1) ∷ []) (lit 1) (breaks ∷ []) ∷ up ∷ [])) ≡ exits (pos 0) 5
a_break_leaves_the_inner_loop = refl

and_the_outer_one_is_compared : runs (loops 0 (variant 1 (less (number 2) i) ∷ []) (below 2) (while (variant 2 (number 1) ∷ []) (lit 1) (breaks ∷ []) ∷ [])) ≡ false_at 1 Variant 7
and_the_outer_one_is_compared = refl

-- while (i < 2) { while (i < 1) i = i + 1; }: the inner loop makes the outer one's variant smaller, once
an_inner_turn_counts_for_the_outer_loop : runs (loops 0 (variant 1 (less (number 2) i) ∷ []) (below 2) (while (variant 2 (less (number 1) i) ∷ []) (below 1) (up ∷ []) ∷ [])) ≡ false_at 1 Variant 6
an_inner_turn_counts_for_the_outer_loop = refl

-- int i = 0; /*@ loop invariant 0 <= i; loop variant 3 - i; */ while (i < 3) { putchar('a'); break; }
-- /*@ loop variant 5 - i; */ while (i < 3) { putchar('b'); i = i - 1; }
one_loop_behind_another : runs (program [] (main_of (int_of 50 (lit 0) ∷ while (invariant 1 (is (number 0) Le i) ∷ variant 2 (less (number 3) i) ∷ []) (below 3) (puts 97 ∷ breaks ∷ [])
    ∷ while (variant 3 (less (number 5) i) ∷ []) (below 3) (puts 98 ∷ down ∷ []) ∷ returns (lit 0) ∷ []) ∷ [])) ≡ ends (Broken 3 3 Variant how.False) (codes "ab") 7
one_loop_behind_another = refl
