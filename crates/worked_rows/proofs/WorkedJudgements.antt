-- What runs judge, by computation: each annotation in its turn, in the state in which it is asked, and with the value of `\result` there.
use Rattle.std.proofs.Common.{◌≡◌, ℕ, pos, List, [], ◌∷◌, Option, Some, None, refl}
use Rattle.std.specs.Prelude.{map}
use Rattle.c_syntax.specs.declared.annotation.Kind.TheVariants.{Assert, Requires, Ensures, Invariant, Variant}
use Rattle.c_syntax.specs.declared.annotation.Relation.TheVariants.{Eq, Ge, Le}
use Rattle.c_syntax.specs.declared.expression.BinOp.TheVariants as operator
use Rattle.c_syntax.specs.Ctypes.{int_type}
use Rattle.c_syntax.specs.Expressions.{Expression, Node, Both, Either, Choice}
use Rattle.c_syntax.specs.Logic.{LogicTerm, Annotation, Value}
use Rattle.c_syntax.specs.Statements.{BlockItem, While, Break, Run}
use Rattle.c_syntax.specs.Programs.{Function, TranslationUnit}
use Rattle.c_model.specs.Logic.{TermValue, Mathematical}
use Rattle.c_model.specs.Memory.{Integer}
use Rattle.c_model.specs.Predicates.{term}
use Rattle.c_model.specs.JudgedStates.{Judgement, Result, judged, names_with}
use Rattle.worked_rows.proofs.WorkedTrees.{no_input}
use Rattle.worked_rows.proofs.WorkedClauses.{at, is, less, number, plus, x_of, formal, result, clause, lit, var, operated, call_of, sets, returns, block_of, int_of, asserted}
use Rattle.worked_rows.proofs.WorkedClauses.{contracted, function_of, main_of, program}

-- the number of each annotation that a run judges, and the value of a term there
abbrev told : TranslationUnit → LogicTerm → List (ℕ × Option TermValue)
told p t = map (λ (j : Judgement). (j.annotation.number, term t j.state (names_with j.result))) (judged p no_input 9)

abbrev results : TranslationUnit → List (Option Result)
results p = map (λ (j : Judgement). j.result) (judged p no_input 9)

abbrev is_at : ℕ → ℕ → ℕ × Option TermValue
is_at k n = (k, Some (Mathematical (pos n)))

abbrev has_none : ℕ → ℕ × Option TermValue
has_none k = (k, None)

-- ---- loops over an int i

abbrev i : LogicTerm
i = x_of 50

-- int i = 1; while (i < 3) { .. } return 0;
abbrev loops : List Annotation → List BlockItem → TranslationUnit
loops annots items =
    program [] (main_of (int_of 50 (lit 1) ∷ Run (While (at 1 1) annots (operated operator.Lt (var 50) (lit 3)) (block_of items)) ∷ returns (lit 0) ∷ []) ∷ [])

abbrev up : BlockItem
up = sets 50 (operated operator.Add (var 50) (lit 1))

abbrev invariant : Annotation
invariant = clause Invariant 1 (is i Le (number 3))

abbrev variant : Annotation
variant = record { number = 2; kind = Variant; place = at 2 1; body = Value (less (number 3) i) }

-- an invariant before each condition, the last one too
invariants : told (loops (invariant ∷ []) (up ∷ [])) i ≡ is_at 1 1 ∷ is_at 1 2 ∷ is_at 1 3 ∷ []
invariants = refl

-- a variant before the body and behind it
variants : told (loops (variant ∷ []) (up ∷ [])) i ≡ is_at 2 1 ∷ is_at 2 2 ∷ is_at 2 2 ∷ is_at 2 3 ∷ []
variants = refl

-- and not behind a `break`
behind_a_break : told (loops (invariant ∷ variant ∷ []) (up ∷ Run (Break (at 1 1)) ∷ [])) i ≡ is_at 1 1 ∷ is_at 2 1 ∷ []
behind_a_break = refl

-- none behind one that is broken
behind_a_broken_one : told (loops (clause Invariant 1 (is i Le (number 1)) ∷ variant ∷ []) (up ∷ [])) i ≡ is_at 1 1 ∷ is_at 2 1 ∷ is_at 2 2 ∷ is_at 1 2 ∷ []
behind_a_broken_one = refl

-- ---- calls

--     /*@ requires n >= 0;
--       @ ensures \result == \old(n) + 1; */
--     int f(int n) { n = n + 1; //@ assert n >= 0;
--       return n; }
abbrev next : Function
next = contracted (clause Requires 1 (is (x_of 20) Ge (number 0)) ∷ clause Ensures 2 (is result Eq (plus (formal 20) (number 1))) ∷ []) [] []
    (function_of int_type 10 (sets 20 (operated operator.Add (var 20) (lit 1)) ∷ asserted (clause Assert 3 (is (x_of 20) Ge (number 0))) ∷ returns (var 20) ∷ []))

-- int x = e; assert x >= 0; return 0;
abbrev holds : Expression → TranslationUnit
holds e = program [] (next ∷ main_of (int_of 50 e ∷ asserted (clause Assert 4 (is (x_of 50) Ge (number 0))) ∷ returns (lit 0) ∷ []) ∷ [])

-- the body is behind what is asked first, and before what is asked of the result
in_a_call : told (holds (call_of 10 (lit 4 ∷ []))) (x_of 20) ≡ is_at 1 4 ∷ is_at 3 5 ∷ is_at 2 5 ∷ has_none 4 ∷ []
in_a_call = refl

the_result : told (holds (call_of 10 (lit 4 ∷ []))) result ≡ has_none 1 ∷ has_none 3 ∷ is_at 2 5 ∷ has_none 4 ∷ []
the_result = refl

its_type : results (holds (call_of 10 (lit 4 ∷ []))) ≡ None ∷ None ∷ Some (record { ctype = int_type; value = Integer (pos 5) }) ∷ None ∷ []
its_type = refl

-- an argument's calls come before the call, and the left operand's before the right one's
in_turn : told (holds (operated operator.Add (call_of 10 (call_of 10 (lit 1 ∷ []) ∷ [])) (call_of 10 (lit 7 ∷ [])))) (x_of 20)
    ≡ is_at 1 1 ∷ is_at 3 2 ∷ is_at 2 2 ∷ is_at 1 2 ∷ is_at 3 3 ∷ is_at 2 3 ∷ is_at 1 7 ∷ is_at 3 8 ∷ is_at 2 8 ∷ has_none 4 ∷ []
in_turn = refl

-- an operand that isn't evaluated judges nothing
not_evaluated : told (holds (Node (at 1 1) int_type (Both (lit 0) (call_of 10 (lit 4 ∷ []))))) (x_of 50) ≡ is_at 4 0 ∷ []
not_evaluated = refl

chosen : told (holds (Node (at 1 1) int_type (Choice (lit 0) (call_of 10 (lit 4 ∷ [])) (call_of 10 (lit 6 ∷ []))))) (x_of 20) ≡ is_at 1 6 ∷ is_at 3 7 ∷ is_at 2 7 ∷ has_none 4 ∷ []
chosen = refl

-- a call of what isn't defined ends the run, which judges nothing then
outside : told (holds (call_of 10 (Node (at 1 1) int_type (Either (lit 0) (call_of 99 (lit 4 ∷ []))) ∷ []))) (x_of 20) ≡ []
outside = refl
