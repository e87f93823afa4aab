-- A binary search with its contract and the annotations of its loop (ACSL 2.2 to 2.4, 2.7), by computation: calls that keep it, and calls that break it.
use Rattle.std.proofs.Common.{◌≡◌, ℕ, pos, negsuc, true, false, List, [], ◌∷◌, Some, refl}
use Rattle.c_syntax.specs.declared.annotation.Kind.TheVariants.{Requires, Assumes, Ensures, Complete, Disjoint, Invariant, Variant}
use Rattle.c_syntax.specs.declared.annotation.Relation.TheVariants.{Eq, Ne, Lt, Le}
use Rattle.c_syntax.specs.declared.expression.BinOp.TheVariants as operator
use Rattle.c_syntax.specs.declared.logic.Connective.TheVariants.{And}
use Rattle.c_syntax.specs.declared.logic.Label.TheVariants.{Pre}
use Rattle.c_syntax.specs.declared.logic.MemoryQuestion.TheVariants.{ValidRead}
use Rattle.c_syntax.specs.declared.logic.Quantifier.{Quantifier}
use Rattle.c_syntax.specs.declared.logic.Quantifier.TheVariants.{ForAll, Exists}
use Rattle.c_syntax.specs.declared.types.How.TheVariants as how
use Rattle.c_syntax.specs.Ctypes.{Ptr, Array, Count, int_type}
use Rattle.c_syntax.specs.Expressions.{Expression, Node, Variable, Index, Cast}
use Rattle.c_syntax.specs.Formulas.{Integers}
use Rattle.c_syntax.specs.Logic.{LogicTerm, Predicate, Value, Quantified, Guarded, NoGuard, Chain, Linked, NoLink, Asks, Elements, Annotation}
use Rattle.c_syntax.specs.Statements.{BlockItem, Declare, While, If, Else, Run, Initialisers, One, Many, Listed, NoInitialiser}
use Rattle.c_syntax.specs.Programs.{Function}
use Rattle.c_model.specs.State.{Exits, Broken}
use Rattle.c_model.specs.Meaning.{Ran, run}
use Rattle.worked_rows.proofs.WorkedTrees.{definition, parameter, int_parameter, no_input}
use Rattle.worked_rows.proofs.WorkedTerms.{here, bound, deref, moved_on, variable, connected_by, int}
use Rattle.worked_rows.proofs.WorkedClauses.{at, result, at_label, is, number, less, x_of, noted, covers, contracted, named, lit, minus_one, var, operated, call_of, sets, returns, block_of, int_of}
use Rattle.worked_rows.proofs.WorkedClauses.{main_of, program, ends}

-- ---- /*@ requires 0 <= n;                                                                  line 3
--        @ requires \valid_read(a + (0 .. n - 1));
--        @ requires \forall integer i, j; 0 <= i <= j < n ==> a[i] <= a[j];
--        @ behavior found:
--        @   assumes \exists integer i; 0 <= i < n && a[i] == key;                            line 8
--        @   ensures 0 <= \result < n && a[\result] == key;
--        @ behavior absent:
--        @   assumes \forall integer i; 0 <= i < n ==> a[i] != key;                           line 11
--        @   ensures \result == -1;
--        @ complete behaviors;
--        @ disjoint behaviors; */
--      int find(const int *a, int n, int key), whose parameters have the numbers 21, 22 and 23

abbrev a : LogicTerm
a = variable (Ptr int) 21

abbrev n : LogicTerm
n = x_of 22

abbrev key : LogicTerm
key = x_of 23

abbrev i : LogicTerm
i = bound 500

abbrev j : LogicTerm
j = bound 501

abbrev element : LogicTerm → LogicTerm → LogicTerm
element a i = deref int (moved_on 4 a i)

-- of each integer i from 0 up to a number
abbrev below : Quantifier → LogicTerm → Predicate → Predicate
below q b f = Quantified here q (Guarded (number 0) (record { place = at 1 500; kind = Integers; above = false }) [] true b NoGuard) f

abbrev sorted : Predicate
sorted = Quantified here ForAll (Guarded (number 0) (record { place = at 1 500; kind = Integers; above = false }) (record { place = at 1 501; kind = Integers; above = false } ∷ []) true n NoGuard)
    (is (element a i) Le (element a j))

abbrev where_it_is : Predicate
where_it_is = connected_by And (Chain here (number 0) (Linked here Le result (Linked here Lt (at_label Pre n) NoLink))) (is (element (at_label Pre a) result) Eq (at_label Pre key))

abbrev search_contract : Function → Function
search_contract = contracted (noted Requires 1 3 (is (number 0) Le n) ∷ noted Requires 2 4 (Asks here ValidRead (Elements here 4 4 a (number 0) (less n (number 1)))) ∷ noted Requires 3 5 sorted ∷ [])
    (named 71 (noted Assumes 4 8 (below Exists n (is (element a i) Eq key)) ∷ noted Ensures 5 9 where_it_is ∷ [])
    ∷ named 72 (noted Assumes 6 11 (below ForAll n (is (element a i) Ne key)) ∷ noted Ensures 7 12 (is result Eq (less (number 0) (number 1))) ∷ []) ∷ [])
    (covers Complete 8 13 ∷ covers Disjoint 9 14 ∷ [])

-- ---- { int lo = 0;
--        int hi = n - 1;
--        /*@ loop invariant 0 <= lo && hi < n;                                              line 18
--          @ loop invariant \forall integer i; 0 <= i < lo ==> a[i] < key;
--          @ loop assigns lo, hi;
--          @ loop variant hi - lo; */
--        while (lo <= hi) {
--          int mid = lo + (hi - lo) / 2;
--          if (a[mid] < key) lo = mid + 1; else if (a[mid] > key) hi = mid - 1; else return mid;
--        }
--        return -1; }, whose variables have the numbers 50, 60 and 70

abbrev lo : LogicTerm
lo = x_of 50

abbrev hi : LogicTerm
hi = x_of 60

abbrev at_mid : Expression
at_mid = Node (at 1 1) int_type (Index (Node (at 1 1) (Ptr int_type) (Variable (record { name = 0; decl = 21 }))) (var 70))

abbrev loop_annotations : List Annotation
loop_annotations = noted Invariant 10 18 (connected_by And (is (number 0) Le lo) (is hi Lt n)) ∷ noted Invariant 11 19 (below ForAll lo (is (element a i) Lt key))
    ∷ record { number = 12; kind = Variant; place = at 21 1; body = Value (less hi lo) } ∷ []

-- with this in place of `mid + 1`
abbrev turn : Expression → List BlockItem
turn step = int_of 70 (operated operator.Add (var 50) (operated operator.Div (operated operator.Sub (var 60) (var 50)) (lit 2)))
    ∷ Run (If (at 1 1) (operated operator.Lt at_mid (var 23)) (block_of (sets 50 step ∷ [])) (Else
    (If (at 1 1) (operated operator.Gt at_mid (var 23)) (block_of (sets 60 (operated operator.Sub (var 70) (lit 1)) ∷ [])) (Else (block_of (returns (var 70) ∷ [])))))) ∷ []

abbrev search : Expression → Expression → Function
search step absent = search_contract (definition int_type (at 15 10) 1 (parameter (Ptr int_type) (at 15 21) 0 ∷ int_parameter (at 15 22) 0 ∷ int_parameter (at 15 23) 0 ∷ []) (at 15 2) (at 32 9) (int_of 50 (lit 0)
    ∷ int_of 60 (operated operator.Sub (var 22) (lit 1)) ∷ Run (While (at 22 1) loop_annotations (operated operator.Le (var 50) (var 60)) (block_of (turn step))) ∷ returns absent ∷ []))

abbrev next : Expression
next = operated operator.Add (var 70) (lit 1)

abbrev listed : List ℕ → Initialisers
listed [] = NoInitialiser
listed (k ∷ ks) = Listed (One (lit k)) (listed ks)

-- int main(void) { int a[5] = {..}; return find(a, size, key); }, with a hundred steps
abbrev searches_in : Function → List ℕ → ℕ → ℕ → Ran
searches_in f ks size key = run (program [] (f ∷ main_of (Declare (record { place = at 1 80; name = 0; named = true; ctype = Array int_type (Count 5); init = Some (at 1 1, Many (at 1 1) (listed ks)) } ∷ [])
    ∷ returns (call_of 10 (Node (at 1 1) (Ptr int_type) (Cast (Ptr int_type) (Node (at 1 1) (Array int_type (Count 5)) (Variable (record { name = 0; decl = 80 })))) ∷ lit size ∷ lit key ∷ [])) ∷ []) ∷ [])) no_input 100

abbrev searches : List ℕ → ℕ → ℕ → Ran
searches = searches_in (search next minus_one)

abbrev odd : List ℕ
odd = 1 ∷ 3 ∷ 5 ∷ 7 ∷ 9 ∷ []

-- a step for the call, 20 for the order of the elements, 4 for both behaviors, 3 turns and 1 for an invariant
finds_three : searches odd 5 3 ≡ ends (Exits (pos 1)) [] 71
finds_three = refl

-- 1, 20, 8, 2 and 3
finds_seven : searches odd 5 7 ≡ ends (Exits (pos 3)) [] 66
finds_seven = refl

-- 1, 20, 10, 3 and 3
finds_no_four : searches odd 5 4 ≡ ends (Exits (negsuc 0)) [] 63
finds_no_four = refl

finds_nothing_in_no_elements : searches odd 0 3 ≡ ends (Exits (negsuc 0)) [] 99
finds_nothing_in_no_elements = refl

-- 1, and 9 up to the third element, which is less than the second
refuses_what_isnt_sorted : searches (1 ∷ 3 ∷ 2 ∷ 7 ∷ 9 ∷ []) 5 3 ≡ ends (Broken 3 5 Requires how.False) [] 90
refuses_what_isnt_sorted = refl

refuses_more_elements_than_there_are : searches odd 6 3 ≡ ends (Broken 2 4 Requires how.False) [] 99
refuses_more_elements_than_there_are = refl

-- with `lo = mid` the variant stays at 1: 1, 20, 10, and 2 turns
stays_where_it_is : searches_in (search (var 70) minus_one) odd 5 4 ≡ ends (Broken 12 21 Variant how.False) [] 67
stays_where_it_is = refl

-- with `lo = mid + 2` the second invariant is false of the element that was passed over: 1, 20, 8, a turn, and 4
passes_over_an_element : searches_in (search (operated operator.Add (var 70) (lit 2)) minus_one) odd 5 7 ≡ ends (Broken 11 19 Invariant how.False) [] 66
passes_over_an_element = refl

-- with `return 4` for `return -1`
gives_a_place_for_what_is_absent : searches_in (search next (lit 4)) odd 5 4 ≡ ends (Broken 7 12 Ensures how.False) [] 63
gives_a_place_for_what_is_absent = refl
