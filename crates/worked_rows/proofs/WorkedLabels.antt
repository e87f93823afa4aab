-- Labels, results and parameters of annotations (ACSL 2.3, 2.4.3), by computation: which state is meant, and which passage.
use Rattle.std.proofs.Common.{◌≡◌, ℕ, pos, negsuc, true, false, List, [], ◌∷◌, ◌++◌, Option, None, Some, replicate, refl}
use Rattle.std.specs.Prelude.{slice_set}
use Rattle.c_syntax.specs.declared.annotation.Kind.TheVariants.{Assert, Ensures}
use Rattle.c_syntax.specs.declared.annotation.Relation.TheVariants.{Eq}
use Rattle.c_syntax.specs.declared.expression.BinOp.TheVariants as operator
use Rattle.c_syntax.specs.declared.logic.BlockFact.TheVariants.{Offset}
use Rattle.c_syntax.specs.declared.logic.Connective.TheVariants.{And, Or}
use Rattle.c_syntax.specs.declared.logic.Label.TheVariants.{Here, Pre, Marked}
use Rattle.c_syntax.specs.declared.logic.MemoryQuestion.TheVariants.{Valid}
use Rattle.c_syntax.specs.declared.types.BlockKind.TheVariants as block
use Rattle.c_syntax.specs.Ctypes.{Ptr}
use Rattle.c_syntax.specs.Expressions.{Expression}
use Rattle.c_syntax.specs.Logic.{LogicTerm, Annotation, Predicate, Choice, Truth, Connected}
use Rattle.c_syntax.specs.Statements.{BlockItem, Statement, Cases, NoCase, AnotherCase, Switch, Labelled, Eval, While, Break, Run}
use Rattle.c_syntax.specs.Programs.{Function, TranslationUnit}
use Rattle.c_model.specs.ContractChecks.{result_is}
use Rattle.c_model.specs.Memory.{Integer, Points, Null, NoValue, block_of as block_holding, bytes_of, Number as Byte}
use Rattle.c_model.specs.State.{State, Mark}
use Rattle.c_model.specs.Logic.{TermValue, Mathematical, Says, SaysNothing, always}
use Rattle.c_model.specs.Predicates.{term, pred}
use Rattle.worked_rows.proofs.WorkedTrees.{items_of}
use Rattle.worked_rows.proofs.WorkedTerms.{here, any, int, number, bound, result_of, deref, moved_on, plus, minus, difference, null, told_of, same, asked, object, dead}
use Rattle.worked_rows.proofs.WorkedTerms.{connected_by, now, a, p, x, is, into}
use Rattle.worked_rows.proofs.WorkedClauses as clauses
use Rattle.worked_rows.proofs.WorkedClauses.{at, at_label, formal, x_of, clause, contracted, lit, var, operated, call_of, sets, calls, returns, block_of}
use Rattle.worked_rows.proofs.WorkedClauses.{int_of, asserted, global_of, function_of, main_of, program, runs, exits, false_at, undefined_at}

-- ---- a memory that was `now` at the label L, has passed K twice, and is another one at present: x is 9 there, and the block of a is dead

abbrev marked : ℕ → State → Mark
marked label s = record { label = Some label; scope = s.scope; store = s.store }

abbrev x_is : ℕ → State
x_is n = record now { store = slice_set now.store 3 (block_holding block.Stack (bytes_of 4 n)) }

abbrev present : State
present = record now {
  store = slice_set (slice_set now.store 3 (block_holding block.Stack (bytes_of 4 9))) 0 (dead (block_holding block.Global (replicate 16 (Byte 0))));
  marks = marked 2 (x_is 8) ∷ marked 1 now ∷ marked 2 (x_is 7) ∷ record { label = None; scope = now.scope; store = (x_is 6).store } ∷ [];
}

abbrev held : LogicTerm → Option TermValue
held t = term t present []

abbrev at_l : LogicTerm → LogicTerm
at_l t = at_label (Marked 1) t

-- a predicate as the number 1 or 0
abbrev truth_of : Predicate → LogicTerm
truth_of f = Choice here None any f (number (pos 1)) (number (pos 0))

at_present : held (at_label Here x) ≡ is (pos 9)
at_present = refl

where_the_call_begins : held (at_label Pre x) ≡ is (pos 6)
where_the_call_begins = refl

at_the_last_passage : held (at_label (Marked 2) x) ≡ is (pos 8)
at_the_last_passage = refl

unwritten_at_the_label : held (at_l x) ≡ None
unwritten_at_the_label = refl

at_no_passage : held (at_label (Marked 3) x) ≡ None
at_no_passage = refl

a_number_at_no_passage : held (at_label (Marked 3) (number (pos 1))) ≡ None
a_number_at_no_passage = refl

an_address_at_no_passage : held (at_label (Marked 3) a) ≡ None
an_address_at_no_passage = refl

not_asked_of_no_passage : pred (connected_by Or (Truth here true) (same (at_label (Marked 3) x) x)) present [] 5 ≡ Says true 5
not_asked_of_no_passage = refl

asked_of_no_passage : pred (connected_by Or (same (at_label (Marked 3) x) x) (Truth here true)) present [] 5 ≡ SaysNothing 5
asked_of_no_passage = refl

one_side_at_the_label : pred (same x (at_label (Marked 2) (clauses.plus x (number (pos 1))))) present [] 5 ≡ Says true 5
one_side_at_the_label = refl

read_while_it_lived : held (at_l (deref int a)) ≡ is (pos 0)
read_while_it_lived = refl

not_read_any_more : held (deref int (at_l a)) ≡ None
not_read_any_more = refl

a_pointer_stays : held (at_l p) ≡ into 1 (pos 16)
a_pointer_stays = refl

but_cant_be_compared : pred (same (at_l p) p) present [] 5 ≡ SaysNothing 5
but_cant_be_compared = refl

compared_at_the_label : held (at_l (truth_of (same p (plus a (pos 4))))) ≡ is (pos 1)
compared_at_the_label = refl

valid_at_the_label : held (at_l (truth_of (asked Valid (object (minus p (pos 1)))))) ≡ is (pos 1)
valid_at_the_label = refl

not_valid_at_present : pred (asked Valid (object (at_l (minus p (pos 1))))) present [] 5 ≡ Says false 5
not_valid_at_present = refl

distance_at_the_label : held (at_l (difference 4 p a)) ≡ is (pos 4)
distance_at_the_label = refl

no_distance_at_present : held (difference 4 (at_l p) (at_l a)) ≡ None
no_distance_at_present = refl

offset_at_the_label : held (at_l (told_of Offset p)) ≡ is (pos 16)
offset_at_the_label = refl

-- a name that is in sight at the label alone, one that isn't, and one that stood for another object there
abbrev renamed : State
renamed = record present { scope = (10, 1) ∷ (40, 4) ∷ (190, 4) ∷ (140, 4) ∷ [] }

in_sight_at_the_label : term (at_l p) renamed [] ≡ into 1 (pos 16)
in_sight_at_the_label = refl

not_in_sight_at_the_label : term (at_l (clauses.x_of 190)) renamed [] ≡ None
not_in_sight_at_the_label = refl

another_object_at_the_label : term (at_l (clauses.x_of 140)) renamed [] ≡ is (pos 5)
another_object_at_the_label = refl

-- a binder keeps its value, and no label stands inside another
a_binder_at_the_label : term (at_l (deref int (moved_on 4 a (bound 500)))) present ((500, always (Mathematical (pos 3))) ∷ []) ≡ is (pos 0)
a_binder_at_the_label = refl

a_binder_past_the_end : term (at_l (deref int (moved_on 4 a (bound 500)))) present ((500, always (Mathematical (pos 4))) ∷ []) ≡ None
a_binder_past_the_end = refl

no_label_inside_another : held (at_l (at_label (Marked 2) x)) ≡ None
no_label_inside_another = refl

-- ---- `\result`

an_integer_result : term (at_label Here (result_of int)) now (result_is (Integer (negsuc 0))) ≡ is (negsuc 0)
an_integer_result = refl

a_null_result : pred (same (result_of (Ptr int)) null) now (result_is (Points Null)) 5 ≡ Says true 5
a_null_result = refl

a_result_of_nothing : term (result_of int) now (result_is NoValue) ≡ None
a_result_of_nothing = refl

no_result_elsewhere : term (result_of int) now [] ≡ None
no_result_elsewhere = refl

-- ---- in runs: an int x with the number 50, and labels 1 and 2

abbrev labelled : ℕ → Statement → BlockItem
labelled l s = Run (Labelled (at 1 1) l s)

abbrev set : ℕ → Expression → Statement
set decl e = Eval (at 1 1) (clauses.set_to decl e)

abbrev y : LogicTerm
y = x_of 50

abbrev num : ℕ → LogicTerm
num k = clauses.number k

abbrev with_x : List BlockItem → List BlockItem
with_x items = int_of 50 (lit 1) ∷ (items ++ returns (lit 0) ∷ [])

abbrev asserts : ℕ → Predicate → BlockItem
asserts k f = asserted (clause Assert k f)

abbrev eq : LogicTerm → LogicTerm → Predicate
eq t u = clauses.is t Eq u

-- L: x = 2; { x = 3; { //@ assert \at(x, L) == 1 && x == 3; } }
inside_inner_blocks : runs (program [] (main_of (with_x (labelled 1 (set 50 (lit 2))
    ∷ Run (block_of (sets 50 (lit 3) ∷ Run (block_of (asserts 1 (Connected (at 1 1) And (eq (at_l y) (num 1)) (eq y (num 3))) ∷ [])) ∷ [])) ∷ [])) ∷ [])) ≡ exits (pos 0) 9
inside_inner_blocks = refl

-- L: M: x = 2; //@ assert \at(x, L) == \at(x, M);
two_labels_of_one_statement : runs (program [] (main_of (with_x (labelled 1 (Labelled (at 1 1) 2 (set 50 (lit 2))) ∷ asserts 1 (eq (at_l y) (at_label (Marked 2) y)) ∷ [])) ∷ [])) ≡ exits (pos 0) 9
two_labels_of_one_statement = refl

-- { L: x = 2; int x = 5; //@ assert \at(x, L) == 1 && x == 5; }, where the inner x has the number 60
names_at_the_label : runs (program [] (main_of (with_x (Run (block_of (labelled 1 (set 50 (lit 2)) ∷ int_of 60 (lit 5) ∷ asserts 1 (Connected (at 1 1) And (eq (at_l y) (num 1)) (eq (x_of 60) (num 5))) ∷ [])) ∷ [])) ∷ [])) ≡ exits (pos 0) 9
names_at_the_label = refl

-- L: while (x < 3) { //@ assert \at(x, L) == 1;  x = x + 1; }  is passed once
a_label_of_a_loop : runs (program [] (main_of (with_x (labelled 1 (While (at 1 1) [] (operated operator.Lt (var 50) (lit 3)) (block_of (asserts 1 (eq (at_l y) (num 1)) ∷ sets 50 (operated operator.Add (var 50) (lit 1)) ∷ []))) ∷ [])) ∷ []))
    ≡ exits (pos 0) 7
a_label_of_a_loop = refl

-- case 0: and case 1: of a `switch`
abbrev cases : List BlockItem → List BlockItem → Cases
cases zero one = AnotherCase (at 1 1) (Some (lit 0)) (items_of (zero ++ Run (Break (at 1 1)) ∷ [])) (AnotherCase (at 1 1) (Some (lit 1)) (items_of one) NoCase)

abbrev switches : Expression → List BlockItem → List BlockItem → BlockItem
switches e zero one = Run (Switch (at 1 1) e (cases zero one))

-- switch (1) { case 0: L: x = 2; break; case 1: //@ assert \at(x, L) == 1; }
jumped_over : runs (program [] (main_of (with_x (switches (lit 1) (labelled 1 (set 50 (lit 2)) ∷ []) (asserts 1 (eq (at_l y) (num 1)) ∷ []) ∷ [])) ∷ [])) ≡ undefined_at 1 Assert 9
jumped_over = refl

-- i = 0; while (i < 2) { int k = i + 5; switch (i) { case 0: L: x = 2; break; case 1: //@ assert \at(x, L) == 1 && \at(k, L) == 5 && k == 6; } i = i + 1; }
-- where i has the number 60 and k the number 70: the block of the first turn is dead, and its mark stays
passed_in_an_earlier_turn : runs (program [] (main_of (with_x (int_of 60 (lit 0) ∷ Run (While (at 1 1) [] (operated operator.Lt (var 60) (lit 2)) (block_of (int_of 70 (operated operator.Add (var 60) (lit 5))
    ∷ switches (var 60) (labelled 1 (set 50 (lit 2)) ∷ [])
    (asserts 1 (eq (at_l y) (num 1)) ∷ asserts 2 (Connected (at 1 1) And (eq (at_l (x_of 70)) (num 5)) (eq (x_of 70) (num 6))) ∷ asserts 3 (eq (at_l y) (num 2)) ∷ [])
    ∷ sets 60 (operated operator.Add (var 60) (lit 1)) ∷ []))) ∷ [])) ∷ []))
    ≡ false_at 3 Assert 7
passed_in_an_earlier_turn = refl

-- ---- calls: int f(int n), which has the number 10, and its parameter the number 20

abbrev n : LogicTerm
n = x_of 20

abbrev f_of : List BlockItem → Function
f_of items = function_of int 10 items

-- g is 1
abbrev with_f : Function → List BlockItem → TranslationUnit
with_f f items = program (global_of (lit 1) ∷ []) (f ∷ main_of items ∷ [])

abbrev one_more : BlockItem
one_more = sets 20 (operated operator.Add (var 20) (lit 1))

abbrev ensures : ℕ → LogicTerm → LogicTerm → Annotation
ensures k t u = clause Ensures k (eq t u)

abbrev ensured : List Annotation → List BlockItem → Function
ensured clauses items = contracted clauses [] [] (f_of items)

-- int f(int n) { switch (n) { case 0: L: n = 7; break; case 1: f(0); //@ assert \at(n, L) == 0;  } return 0; }  f(1);
passed_in_another_call :
    runs (with_f (f_of (switches (var 20) (labelled 1 (set 20 (lit 7)) ∷ []) (calls 10 (lit 0) ∷ asserts 1 (eq (at_l n) (num 0)) ∷ []) ∷ returns (lit 0) ∷ [])) (calls 10 (lit 1) ∷ []))
    ≡ undefined_at 1 Assert 7
passed_in_another_call = refl

-- L: x = 2; f(5); //@ assert \at(x, L) == 1;  where f passes a label of that name
the_caller_keeps_its_own :
    runs (with_f (f_of (labelled 1 (set 20 (lit 7)) ∷ returns (lit 0) ∷ [])) (with_x (labelled 1 (set 50 (lit 2)) ∷ calls 10 (lit 5) ∷ asserts 1 (eq (at_l y) (num 1)) ∷ [])))
    ≡ exits (pos 0) 8
the_caller_keeps_its_own = refl

-- int f(int n) { n = n + 1; //@ assert \at(n, Pre) == n - 1;  return n; }
a_parameter_at_the_beginning :
    runs (with_f (f_of (one_more ∷ asserts 1 (eq (at_label Pre n) (clauses.less n (num 1))) ∷ returns (var 20) ∷ [])) (returns (call_of 10 (lit 6 ∷ [])) ∷ []))
    ≡ exits (pos 7) 8
a_parameter_at_the_beginning = refl

-- int g = 1; int main(void) { g = 2; //@ assert \at(g, Pre) == 1;  }
a_global_at_the_beginning_of_main : runs (program (global_of (lit 1) ∷ []) (main_of (sets 5 (lit 2) ∷ asserts 1 (eq (at_label Pre (x_of 5)) (num 1)) ∷ []) ∷ [])) ≡ exits (pos 0) 9
a_global_at_the_beginning_of_main = refl

-- /*@ ensures \result == n + 1; ensures \at(n, Here) == n; ensures \old(n) == n; ensures \result == n; */ int f(int n) { n = n + 1; return n; }
parameters_are_read_at_the_beginning :
    runs (with_f (ensured (ensures 1 clauses.result (clauses.plus (formal 20) (num 1)) ∷ ensures 2 (at_label Here (formal 20)) (formal 20) ∷ ensures 3 (at_label Pre n) (formal 20)
    ∷ ensures 4 clauses.result (formal 20) ∷ []) (one_more ∷ returns (var 20) ∷ [])) (calls 10 (lit 6) ∷ [])) ≡ false_at 4 Ensures 8
parameters_are_read_at_the_beginning = refl

-- int g = 1; /*@ ensures g == \old(g) + n; */ int f(int n) { g = g + n; n = 70; return 0; }  f(2); f(4);
a_global_before_and_after :
    runs (with_f (ensured (ensures 1 (x_of 5) (clauses.plus (at_label Pre (x_of 5)) (formal 20)) ∷ []) (sets 5 (operated operator.Add (var 5) (var 20)) ∷ sets 20 (lit 70) ∷ returns (lit 0) ∷ []))
    (calls 10 (lit 2) ∷ calls 10 (lit 4) ∷ returns (var 5) ∷ [])) ≡ exits (pos 7) 7
a_global_before_and_after = refl
