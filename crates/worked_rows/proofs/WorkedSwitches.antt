-- `switch` (C99 6.8.4.2), by computation: which case comes first, how it goes on, and which jumps end it.
use Rattle.std.proofs.Common.{◌≡◌, ℕ, pos, false, List, [], ◌∷◌, ◌++◌, None, Some, codes, refl}
use Rattle.c_syntax.specs.declared.annotation.Kind.TheVariants.{Assert, Invariant, Variant}
use Rattle.c_syntax.specs.declared.annotation.Relation.TheVariants.{Ne}
use Rattle.c_syntax.specs.declared.expression.BinOp.TheVariants.{Add, Div, Eq, Lt}
use Rattle.c_syntax.specs.declared.expression.BumpOp.TheVariants.{PreUp, PostUp}
use Rattle.c_syntax.specs.declared.types.CInt.TheVariants.{U32}
use Rattle.c_syntax.specs.declared.types.How.TheVariants as how
use Rattle.c_syntax.specs.Ctypes.{Int, int_type}
use Rattle.c_syntax.specs.Expressions.{Expression, Node, Number, Binary}
use Rattle.c_syntax.specs.Logic.{Annotation, Truth, Value}
use Rattle.c_syntax.specs.Statements.{BlockItem, Cases, NoCase, AnotherCase, Switch, While, Do, For, NoFirst, Break, Continue, If, NoElse, Run}
use Rattle.c_model.specs.State.{Exits, Broken, Undefined}
use Rattle.c_model.specs.Meaning.{Ran}
use Rattle.worked_rows.proofs.WorkedTrees.{bump, items_of}
use Rattle.worked_rows.proofs.WorkedClauses.{at, is, number, x_of, clause, lit, minus_one, var, operated, set_to, does, puts, put_of, exits_with, returns, block_of, int_of}
use Rattle.worked_rows.proofs.WorkedClauses.{asserted, main_of, program, runs, ends, exits, false_at}

-- ---- statements over int x = 1, with the number 50

abbrev x : Expression
x = var 50

abbrev case_at : Expression → List BlockItem → Cases → Cases
case_at e items rest = AnotherCase (at 1 1) (Some e) (items_of items) rest

abbrev case : ℕ → List BlockItem → Cases → Cases
case n items rest = case_at (lit n) items rest

abbrev otherwise : List BlockItem → Cases → Cases
otherwise items rest = AnotherCase (at 1 1) None (items_of items) rest

abbrev switch : Expression → Cases → BlockItem
switch e cases = Run (Switch (at 1 1) e cases)

-- { int x = 1; .. return x; }
abbrev with_x : List BlockItem → Ran
with_x items = runs (program [] (main_of (int_of 50 (lit 1) ∷ (items ++ returns x ∷ [])) ∷ []))

abbrev printing : List ℕ → ℕ → Ran
printing output left = ends (Exits (pos 1)) output left

abbrev breaks : BlockItem
breaks = Run (Break (at 1 1))

abbrev continues : BlockItem
continues = Run (Continue (at 1 1))

abbrev x_after : Expression
x_after = bump (at 1 1) PostUp x

abbrev while : List Annotation → Expression → List BlockItem → BlockItem
while annots e items = Run (While (at 1 1) annots e (block_of items))

abbrev variant : ℕ → Annotation
variant k = record { number = k; kind = Variant; place = at k 1; body = Value (number 1) }

-- ---- which case

no_case_at_all : with_x (switch (set_to 50 (lit 5)) NoCase ∷ []) ≡ exits (pos 5) 9
no_case_at_all = refl

no_case_of_the_value : with_x (switch (lit 3) (case 4 (puts 66 ∷ []) NoCase) ∷ puts 46 ∷ []) ≡ printing (codes ".") 9
no_case_of_the_value = refl

the_default_alone : with_x (switch (lit 2) (otherwise (puts 65 ∷ []) NoCase) ∷ []) ≡ printing (codes "A") 9
the_default_alone = refl

abbrev default_first : ℕ → Ran
default_first n = with_x (switch (lit n) (otherwise (puts 100 ∷ []) (case 1 (puts 97 ∷ []) (case 2 (puts 98 ∷ breaks ∷ []) (case 3 (puts 99 ∷ []) NoCase)))) ∷ [])

the_case_behind_the_default : default_first 1 ≡ printing (codes "ab") 9
the_case_behind_the_default = refl

the_default_goes_on_to_the_cases : default_first 7 ≡ printing (codes "dab") 9
the_default_goes_on_to_the_cases = refl

the_last_case_ends_it : default_first 3 ≡ printing (codes "c") 9
the_last_case_ends_it = refl

abbrev default_last : ℕ → Ran
default_last n = with_x (switch (lit n) (case 1 [] (case 2 (puts 98 ∷ []) (otherwise (puts 100 ∷ []) NoCase))) ∷ [])

two_cases_of_one_list : default_last 1 ≡ printing (codes "bd") 9
two_cases_of_one_list = refl

only_the_default : default_last 0 ≡ printing (codes "d") 9
only_the_default = refl

-- switch (x++) { case 2: putchar(66); break; case 1: putchar(65); }
the_value_is_evaluated_once : with_x (switch x_after (case 2 (puts 66 ∷ breaks ∷ []) (case 1 (puts 65 ∷ []) NoCase)) ∷ []) ≡ ends (Exits (pos 2)) (codes "A") 9
the_value_is_evaluated_once = refl

a_negative_case : with_x (switch minus_one (case 1 (puts 65 ∷ []) (case_at minus_one (puts 66 ∷ []) NoCase)) ∷ []) ≡ printing (codes "B") 9
a_negative_case = refl

-- switch (4294967295u) { case -1: .. }, whose case typing converts
abbrev most : Expression
most = Node (at 1 1) (Int U32) (Number (pos 4294967295) (Some U32))

a_case_of_an_unsigned_type : with_x (switch most (case_at most (puts 65 ∷ []) NoCase) ∷ []) ≡ printing (codes "A") 9
a_case_of_an_unsigned_type = refl

the_value_may_be_undefined : with_x (switch (Node (at 2 2) int_type (Binary Div (lit 1) (lit 0))) (otherwise (puts 65 ∷ []) NoCase) ∷ []) ≡ ends (Undefined (at 2 2)) [] 9
the_value_may_be_undefined = refl

-- ---- what stands in a case

-- case 65: { int y = 66; putchar(y); } case 1: putchar(x + 66);
a_block_in_a_case : with_x (switch (lit 65) (case 65 (Run (block_of (int_of 60 (lit 66) ∷ does (put_of (var 60)) ∷ [])) ∷ []) (case 1 (does (put_of (operated Add x (lit 66))) ∷ []) NoCase)) ∷ []) ≡ printing (codes "BC") 9
a_block_in_a_case = refl

an_assert_that_isnt_reached : with_x (switch (lit 2) (case 1 (asserted (clause Assert 1 (Truth (at 1 1) false)) ∷ []) (case 2 (puts 65 ∷ []) NoCase)) ∷ []) ≡ printing (codes "A") 9
an_assert_that_isnt_reached = refl

an_assert_that_is_reached : with_x (switch (lit 1) (case 1 (puts 65 ∷ []) (case 2 (asserted (clause Assert 1 (Truth (at 1 1) false)) ∷ puts 66 ∷ []) NoCase)) ∷ []) ≡ ends (Broken 1 1 Assert how.False) (codes "A") 9
an_assert_that_is_reached = refl

-- ---- jumps

-- if (x == 1) break; putchar(66);
a_break_inside_an_if : with_x (switch (lit 1) (case 1 (puts 65 ∷ Run (If (at 1 1) (operated Eq x (lit 1)) (block_of (breaks ∷ [])) NoElse) ∷ puts 66 ∷ []) (case 2 (puts 67 ∷ []) NoCase)) ∷ puts 46 ∷ []) ≡ printing (codes "A.") 9
a_break_inside_an_if = refl

-- case 1: switch (x) { case 1: putchar(65); break; } putchar(66); break; default: putchar(67);
a_break_leaves_the_inner_switch : with_x (switch (lit 1) (case 1 (switch x (case 1 (puts 65 ∷ breaks ∷ []) NoCase) ∷ puts 66 ∷ breaks ∷ []) (otherwise (puts 67 ∷ []) NoCase)) ∷ []) ≡ printing (codes "AB") 9
a_break_leaves_the_inner_switch = refl

-- case 1: while (1) { putchar(65); break; } putchar(66); case 2: putchar(67);
a_break_leaves_the_loop_inside : with_x (switch (lit 1) (case 1 (while [] (lit 1) (puts 65 ∷ breaks ∷ []) ∷ puts 66 ∷ []) (case 2 (puts 67 ∷ []) NoCase)) ∷ []) ≡ printing (codes "ABC") 8
a_break_leaves_the_loop_inside = refl

-- while (x < 4) { switch (x) { case 2: break; default: putchar(65); } x++; }
a_break_doesnt_leave_the_loop_around : with_x (while [] (operated Lt x (lit 4)) (switch x (case 2 (breaks ∷ []) (otherwise (puts 65 ∷ []) NoCase)) ∷ does x_after ∷ []) ∷ []) ≡ ends (Exits (pos 4)) (codes "AA") 6
a_break_doesnt_leave_the_loop_around = refl

-- for (; x < 4; x++) { switch (x) { case 2: continue; } putchar(46); }
a_continue_goes_to_the_step_of_the_loop_around : with_x (Run (For (at 1 1) [] NoFirst (Some (operated Lt x (lit 4))) (Some x_after) (block_of (switch x (case 2 (continues ∷ []) NoCase) ∷ puts 46 ∷ []))) ∷ []) ≡ ends (Exits (pos 4)) (codes "..") 6
a_continue_goes_to_the_step_of_the_loop_around = refl

-- do { switch (x) { case 1: continue; } putchar(46); } while (++x < 4);
a_continue_goes_to_the_condition_of_a_do : with_x (Run (Do (at 1 1) (block_of (switch x (case 1 (continues ∷ []) NoCase) ∷ puts 46 ∷ [])) (operated Lt (bump (at 1 1) PreUp x) (lit 4))) ∷ []) ≡ ends (Exits (pos 4)) (codes "..") 6
a_continue_goes_to_the_condition_of_a_do = refl

-- while (1) switch (x++) { case 3: return 7; }
a_return_leaves_all : with_x (while [] (lit 1) (switch x_after (case 3 (returns (lit 7) ∷ []) NoCase) ∷ []) ∷ []) ≡ exits (pos 7) 6
a_return_leaves_all = refl

an_exit_ends_the_run : with_x (switch (lit 1) (case 1 (exits_with (lit 3) ∷ []) (case 2 (puts 65 ∷ []) NoCase)) ∷ []) ≡ exits (pos 3) 9
an_exit_ends_the_run = refl

-- ---- inside an annotated loop

-- the `break` ends the `switch` alone, and the variant is compared
compared_behind_a_break_of_a_switch : with_x (while (variant 1 ∷ []) (lit 1) (switch (lit 1) (case 1 (breaks ∷ []) NoCase) ∷ []) ∷ []) ≡ false_at 1 Variant 8
compared_behind_a_break_of_a_switch = refl

compared_behind_a_continue_in_a_switch : with_x (while (variant 1 ∷ []) (lit 1) (switch (lit 1) (case 1 (continues ∷ []) NoCase) ∷ puts 65 ∷ []) ∷ []) ≡ false_at 1 Variant 8
compared_behind_a_continue_in_a_switch = refl

-- switch (1) { case 1: /*@ loop variant 1; */ while (1) break; case 2: putchar(65); }
not_compared_behind_a_break_of_the_loop_in_a_switch : with_x (switch (lit 1) (case 1 (while (variant 1 ∷ []) (lit 1) (breaks ∷ []) ∷ []) (case 2 (puts 65 ∷ []) NoCase)) ∷ []) ≡ printing (codes "A") 8
not_compared_behind_a_break_of_the_loop_in_a_switch = refl

asked_behind_a_break_of_a_switch : with_x (while (clause Invariant 1 (is (x_of 50) Ne (number 2)) ∷ []) (lit 1) (switch (lit 1) (case 1 (does x_after ∷ breaks ∷ []) NoCase) ∷ []) ∷ []) ≡ false_at 1 Invariant 8
asked_behind_a_break_of_a_switch = refl
