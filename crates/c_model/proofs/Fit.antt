-- More turns and deeper calls than steps change nothing, and no step is gained.
use Rattle.std.proofs.Common.{◌≡◌, ℕ, zero, suc, ◌<◌, ◌≤◌, pos, Bool, true, false, cond, if◌then◌else◌, List, [], ◌∷◌, Option, Some, None, slice_get, codes, refl, ap, ◌∙◌}
use Rattle.std.proofs.Common.{arith}
use Rattle.c_syntax.specs.declared.place.Place.{Place}
use Rattle.c_syntax.specs.declared.expression.Use.{Use}
use Rattle.c_syntax.specs.declared.expression.UnOp.TheVariants as unary
use Rattle.c_syntax.specs.Ctypes.{PlainType, int_type}
use Rattle.c_syntax.specs.Logic.{LogicTerm, Annotation}
use Rattle.c_syntax.specs.Expressions.{Expression, Node, Number, Letter, Text, Variable, Unary, Binary, Both, Either, Choice, Assign, Bump, Call, Cast, SizeOfType, SizeOfExpr, Index, Dot, Arrow, Comma, Expressions, NoExpression, Following, place_of}
use Rattle.c_syntax.specs.Expressions.{type_of}
use Rattle.c_syntax.specs.Statements.{Initialiser, One, Many, Initialisers, NoInitialiser, Listed, Declaration, Statement, Empty, Eval, Block, If, While, Do}
use Rattle.c_syntax.specs.Statements.{For, Break, Continue, Return, Labelled, ElsePart, NoElse, Else, ForFirst, NoFirst, First, BlockItem, Switch, Cases}
use Rattle.c_syntax.specs.Statements.{NoCase, AnotherCase}
use Rattle.c_syntax.specs.Statements.{Declare, Specify, Run, Asserts, BlockItems, NoItem, Then}
use Rattle.c_syntax.specs.Programs.{StructType, FunctionContract, Function, TranslationUnit}
use Rattle.c_syntax.specs.Layouts.{Scalar, scalar_of}
use Rattle.c_model.specs.Integers.{truth}
use Rattle.c_model.specs.Memory.{Pointer, Value, Integer, Points, NoValue, Byte, Store, shifted}
use Rattle.c_model.specs.State.{Scope, Input, State, Breaks, Continues, Returns, End, Leaves, Over, Stuck, Undefined, Outcome, Normal, Stop, Evaluation}
use Rattle.c_model.specs.State.{on_outcome, ◌>>=◌, ◌>>◌, give, done, stop, defined, computed, as_scalar, step_from, step, find, object, read, read_any, write, write_bytes, copy_object, tested, birth, births}
use Rattle.c_model.specs.State.{write_youngest, alone, frame, mark, restored, within, answered, called}
use Rattle.c_model.specs.Predicates.{checks, invariants, variant, value_of}
use Rattle.c_model.specs.ContractChecks.{entry, ending}
use Rattle.c_model.specs.Meaning.{Tables, literal, Callee, is_zero, choose, truth_value, size_value, converted, is_of_library, named, address, is_array, pointed_to, assigned, compound, bump_operator, bump_value, eval_with}
use Rattle.c_model.specs.Meaning.{place_with}
use Rattle.c_model.specs.Meaning.{evals_with, after_body, turn_with, turns, do_turns, declared_in, declared_first, zero_scalars, zero_parts, string_in}
use Rattle.c_model.specs.Meaning.{write_each, fill_one, parts_or_itself, fill, fill_parts, initialise, initialise_all, condition_with, chosen_case}
use Rattle.c_model.specs.Meaning.{after_switch, cases_with}
use Rattle.c_model.specs.Meaning.{effect_with, exec_with, else_with, first_with, item_with, items_with, parameters, body_with, at_close, returned_by, call_with, call_of, tables_of, global_scope}
use Rattle.c_model.specs.Meaning.{definition_at, after_main, main_with, function_named, whole, exec, condition, start, ran, run}
use Rattle.c_model.specs.Laws.{for_turns}
use Rattle.c_model.specs.Steps.{steps_after, Fit, CalleesFit}
use Rattle.c_model.proofs.Along.{Along, along_exec, along_call_of, along_whole, Fewer, steps_last, state_after, defined_along, along_computed, along_object, along_named, along_read_any, along_write, along_write_bytes, along_write_youngest}
use Rattle.c_model.proofs.Along.{along_copy}
use Rattle.c_model.proofs.Along.{along_birth, along_births, along_alone, along_mark, along_frame, along_checks, along_invariants, along_value, along_compared}
use Rattle.c_model.proofs.Along.{along_pointed, along_address, along_library_call, along_at_close, along_entry, along_ending, along_then}
use Rattle.c_model.proofs.Along.{along_stop}

pub fit_less : {A : Type 0} {m m' : Evaluation A} (j k : ℕ) → j ≤ k → Fit k m m' → Fit j m m'
fit_less j k le f = record {
  same = λ s h. f.same s (omega (arith, h, le));
  spends = λ s h. f.spends s (omega (arith, h, le));
}

fit_outcome : {A B : Type 0} (k n : ℕ) (r : Outcome A) (f f' : A → Evaluation B) → n ≤ k → steps_after r ≤ n → ((a : A) → Fit k (f a) (f' a)) → (on_outcome r f ≡ on_outcome r f') × (steps_after (on_outcome r f) ≤ n)
fit_outcome k n (Normal a s) f f' le h g =
    let q : s.steps ≤ k = omega arith in
    ((g a).same s q, omega (arith, (g a).spends s q))
fit_outcome k n (Stop e s) f f' le h g = (refl, h)

pub fit_bind : {A B : Type 0} (k : ℕ) (m m' : Evaluation A) (f f' : A → Evaluation B) → Fit k m m' → ((a : A) → Fit k (f a) (f' a)) → Fit k (m >>= f) (m' >>= f')
fit_bind k m m' f f' h g = record {
  same = λ s le. (fit_outcome k s.steps (m s) f f' le (h.spends s le) g).0 ∙ ap (λ r. on_outcome r f') (h.same s le);
  spends = λ s le. (fit_outcome k s.steps (m s) f f' le (h.spends s le) g).1;
}

pub fit_then : {A B : Type 0} (k : ℕ) (m m' : Evaluation A) (f f' : Evaluation B) → Fit k m m' → Fit k f f' → Fit k (m >> f) (m' >> f')
fit_then k m m' f f' h g = fit_bind k m m' (λ _. f) (λ _. f') h (λ _. g)

-- a step makes room for one turn or call more
pub fit_step : {A : Type 0} (k : ℕ) (f f' : Evaluation A) → ((j : ℕ) → j < k → Fit j f f') → Fit k (step >> f) (step >> f')
fit_step k f f' g = record {
  same = λ s le. go_same s s.steps refl le;
  spends = λ s le. go_spends s s.steps refl le;
}
  where
    go_same : (s : State) (n : ℕ) → s.steps ≡ n → n ≤ k → on_outcome (step_from n s) (λ _. f) ≡ on_outcome (step_from n s) (λ _. f')
    go_same s zero e le = refl
    go_same s (suc n) e le = (g n le).same (record s { steps = n }) (omega arith)

    go_spends : (s : State) (n : ℕ) → s.steps ≡ n → n ≤ k → steps_after (on_outcome (step_from n s) (λ _. f)) ≤ n
    go_spends s zero e le = omega arith
    go_spends s (suc n) e le = omega (arith, (g n le).spends (record s { steps = n }) (omega arith))

-- an evaluation that gains no step
pub fit_same : {A : Type 0} (k : ℕ) (m : Evaluation A) → ((s : State) → steps_after (m s) ≤ s.steps) → Fit k m m
fit_same k m h = record { same = λ s le. refl; spends = λ s le. h s }

pub fit_stop : {A : Type 0} (k : ℕ) (e : End) → Fit {A = A} k (stop e) (stop e)
fit_stop k e = fit_same k (stop e) (λ s. omega arith)

pub fit_give : {A : Type 0} (k : ℕ) (a : A) → Fit {A = A} k (give a) (give a)
fit_give k a = fit_same k (give a) (λ s. omega arith)

-- ---- what is the same on both sides

steps_state : {A : Type 0} (r : Outcome A) → steps_after r ≡ (state_after r).steps
steps_state (Normal a s) = refl
steps_state (Stop e s) = refl

-- an evaluation in which no call is made
pub fit_still : {A : Type 0} (k : ℕ) (m : Evaluation A) → Along Fewer steps_last m → Fit k m m
fit_still k m h = fit_same k m (λ s. omega (arith, steps_state (m s), h.at s))

fit_defined : {A : Type 0} (k : ℕ) (at : Place) (o : Option A) → Fit k (defined at o) (defined at o)
fit_defined k at o = fit_still k _ (defined_along Fewer steps_last at o)

fit_computed : {A : Type 0} (k : ℕ) (at : Place) (f : Store → Option A) → Fit k (computed at f) (computed at f)
fit_computed k at f = fit_still k _ (along_computed Fewer steps_last at f)

fit_object : (k : ℕ) (at : Place) (x : ℕ) → Fit k (object at x) (object at x)
fit_object k at x = fit_still k _ (along_object Fewer steps_last at x)

fit_named : (k : ℕ) (at : Place) (t : PlainType) (x : Use) → Fit k (λ s. named at t x (find x.decl s.scope) s) (λ s. named at t x (find x.decl s.scope) s)
fit_named k at t x = fit_still k _ (along_named Fewer steps_last at t x)

fit_read_any : (k : ℕ) (at : Place) (p : Pointer) (o : Option Scalar) → Fit k (read_any at p o) (read_any at p o)
fit_read_any k at p o = fit_still k _ (along_read_any Fewer steps_last at p o)

fit_write : (k : ℕ) (at : Place) (p : Pointer) (i : Scalar) (v : Value) → Fit k (write at p i v) (write at p i v)
fit_write k at p i v = fit_still k _ (along_write Fewer steps_last at p i v)

fit_write_bytes : (k : ℕ) (at : Place) (p : Pointer) (bytes : List Byte) → Fit k (write_bytes at p bytes) (write_bytes at p bytes)
fit_write_bytes k at p bytes = fit_still k _ (along_write_bytes Fewer steps_last at p bytes)

fit_write_youngest : (k : ℕ) (at : Place) (i : Scalar) (v : Value) → Fit k (write_youngest at i v) (write_youngest at i v)
fit_write_youngest k at i v = fit_still k _ (along_write_youngest Fewer steps_last at i v)

fit_copy : (k : ℕ) (at : Place) (p q : Pointer) (cs : List (ℕ × ℕ)) → Fit k (copy_object at p q cs) (copy_object at p q cs)
fit_copy k at p q cs = fit_still k _ (along_copy Fewer steps_last at p q cs)

fit_birth : (k : ℕ) (structs : List StructType) (d : Declaration) → Fit k (birth structs d) (birth structs d)
fit_birth k structs d = fit_still k _ (along_birth Fewer steps_last structs d)

fit_births : (k : ℕ) (structs : List StructType) (ds : List Declaration) → Fit k (births structs ds) (births structs ds)
fit_births k structs ds = fit_still k _ (along_births Fewer steps_last structs ds)

fit_alone : (k : ℕ) (globals : Scope) → Fit k (alone globals) (alone globals)
fit_alone k globals = fit_still k _ (along_alone Fewer steps_last globals)

fit_mark : (k : ℕ) (label : Option ℕ) → Fit k (mark label) (mark label)
fit_mark k label = fit_still k _ (along_mark Fewer steps_last label)

fit_frame : (k : ℕ) → Fit k frame frame
fit_frame k = fit_still k _ (along_frame Fewer steps_last)

fit_checks : (k : ℕ) (annots : List Annotation) → Fit k (checks annots) (checks annots)
fit_checks k annots = fit_still k _ (along_checks Fewer steps_last annots)

fit_invariants : (k : ℕ) (annots : List Annotation) → Fit k (invariants annots) (invariants annots)
fit_invariants k annots = fit_still k _ (along_invariants Fewer steps_last annots)

fit_pointed : (k : ℕ) (v : Value) → Fit k (pointed_to v) (pointed_to v)
fit_pointed k v = fit_still k _ (along_pointed Fewer steps_last v)

fit_address : (k : ℕ) (e : Expression) (p : Pointer) → Fit k (address e p) (address e p)
fit_address k e p = fit_still k _ (along_address Fewer steps_last e p)

fit_write_give : (k : ℕ) (at : Place) (p : Pointer) (i : Scalar) (v w : Value) → Fit k (write at p i v >> give w) (write at p i v >> give w)
fit_write_give k at p i v w = fit_then k _ _ _ _ (fit_write k at p i v) (fit_give k w)

fit_as_scalar : {A : Type 0} (k : ℕ) (o : Option Scalar) (go go' : Scalar → Evaluation A) → ((i : Scalar) → Fit k (go i) (go' i)) → Fit k (as_scalar o go) (as_scalar o go')
fit_as_scalar k None go go' h = fit_stop k Stuck
fit_as_scalar k (Some i) go go' h = h i

fit_cond : {A : Type 0} (k : ℕ) (t : Bool) (a a' b b' : Evaluation A) → Fit k a a' → Fit k b b' → Fit k (cond t a b) (cond t a' b')
fit_cond k true a a' b b' f g = f
fit_cond k false a a' b b' f g = g

fit_assigned : (k : ℕ) (structs : List StructType) (at : Place) (t : PlainType) (o : Option Scalar) (p : Pointer) (v v' : Evaluation Value) (q q' : Evaluation Pointer) → Fit k v v' → Fit k q q'
    → Fit k (assigned structs at t o p v q) (assigned structs at t o p v' q')
fit_assigned k structs at t (Some i) p v v' q q' h g = fit_bind k v v' _ _ h (λ x. fit_write_give k at p i x x)
fit_assigned k structs at t None p v v' q q' h g = fit_bind k q q' _ _ g (λ y. fit_then k _ _ _ _ (fit_copy k at p y _) (fit_give k NoValue))

steps_restored : {A : Type 0} (old : State) (r : Outcome A) → steps_after (restored old r) ≡ steps_after r
steps_restored old (Normal a s) = refl
steps_restored old (Stop e s) = refl

pub fit_within : {A : Type 0} (k : ℕ) (m m' : Evaluation A) → Fit k m m' → Fit k (within m) (within m')
fit_within k m m' h = record {
  same = λ s le. ap (restored s) (h.same s le);
  spends = λ s le. omega (arith, steps_restored s (m s), h.spends s le);
}

steps_answered : {A : Type 0} (old : State) (r : Outcome A) → steps_after (answered old r) ≡ steps_after r
steps_answered old (Normal a s) = refl
steps_answered old (Stop e s) = refl

pub fit_called : {A : Type 0} (k : ℕ) (m m' : Evaluation A) → Fit k m m' → Fit k (called m) (called m')
fit_called k m m' h = record {
  same = λ s le. ap (answered s) (h.same s le);
  spends = λ s le. omega (arith, steps_answered s (m s), h.spends s le);
}

fit_entry : (k : ℕ) (c : Option FunctionContract) → Fit k (entry c) (entry c)
fit_entry k c = fit_still k _ (along_entry Fewer steps_last c)

fit_ending : (k : ℕ) (c : Option FunctionContract) (hs : List Bool) (v : Value) → Fit k (ending c hs v >> give v) (ending c hs v >> give v)
fit_ending k c hs v = fit_then k _ _ _ _ (fit_still k _ (along_ending Fewer steps_last c hs v)) (fit_give k v)

-- ---- choices and loops

pub fit_choose : {A : Type 0} (k : ℕ) (v : Value) (a a' b b' : Evaluation A) → Fit k a a' → Fit k b b' → Fit k (choose v a b) (choose v a' b')
fit_choose k v a a' b b' f g = by (is_zero v)
  where
    by : (t : Bool) → Fit k (cond t b a) (cond t b' a')
    by true = g
    by false = f

fit_body_outcome : (k n : ℕ) (r : Outcome (Unit {0})) (f f' : Evaluation (Unit {0})) → n ≤ k → steps_after r ≤ n → Fit k f f' → (after_body r f ≡ after_body r f') × (steps_after (after_body r f) ≤ n)
fit_body_outcome k n (Normal u s) f f' le h g = let q : s.steps ≤ k = omega arith in (g.same s q, omega (arith, g.spends s q))
fit_body_outcome k n (Stop (Leaves Continues) s) f f' le h g = let q : s.steps ≤ k = omega arith in (g.same s q, omega (arith, g.spends s q))
fit_body_outcome k n (Stop (Leaves Breaks) s) f f' le h g = (refl, h)
fit_body_outcome k n (Stop (Leaves (Returns v)) s) f f' le h g = (refl, h)
fit_body_outcome k n (Stop (Over e) s) f f' le h g = (refl, h)
fit_body_outcome k n (Stop Stuck s) f f' le h g = (refl, h)

pub fit_after_body : (k : ℕ) (m m' f f' : Evaluation (Unit {0})) → Fit k m m' → Fit k f f' → Fit k (λ s. after_body (m s) f) (λ s. after_body (m' s) f')
fit_after_body k m m' f f' h g = record {
  same = λ s le. (fit_body_outcome k s.steps (m s) f f' le (h.spends s le) g).0 ∙ ap (λ r. after_body r f') (h.same s le);
  spends = λ s le. (fit_body_outcome k s.steps (m s) f f' le (h.spends s le) g).1;
}

steps_switch : (r : Outcome (Unit {0})) → steps_after (after_switch r) ≡ steps_after r
steps_switch (Normal u s) = refl
steps_switch (Stop (Leaves Breaks) s) = refl
steps_switch (Stop (Leaves Continues) s) = refl
steps_switch (Stop (Leaves (Returns v)) s) = refl
steps_switch (Stop (Over e) s) = refl
steps_switch (Stop Stuck s) = refl

pub fit_after_switch : (k : ℕ) (m m' : Evaluation (Unit {0})) → Fit k m m' → Fit k (λ s. after_switch (m s)) (λ s. after_switch (m' s))
fit_after_switch k m m' h = record {
  same = λ s le. ap after_switch (h.same s le);
  spends = λ s le. omega (arith, steps_switch (m s), h.spends s le);
}

fit_turn : (k : ℕ) (v : Option (Annotation × LogicTerm)) (body body' behind behind' again again' : Evaluation (Unit {0})) → Fit k body body' → Fit k behind behind' → Fit k again again'
    → Fit k (turn_with v body behind again) (turn_with v body' behind' again')
fit_turn k None body body' behind behind' again again' b h g = fit_after_body k body body' _ _ b (fit_then k behind behind' again again' h g)
fit_turn k (Some v) body body' behind behind' again again' b h g =
    fit_bind k (value_of v.0 v.1) (value_of v.0 v.1) _ _ (fit_still k _ (along_value Fewer steps_last v.0 v.1)) (λ old.
    fit_after_body k body body' _ _ b (fit_then k _ _ again again' (fit_then k behind behind' _ _ h (fit_bind k (value_of v.0 v.1) (value_of v.0 v.1) _ _ (fit_still k _ (along_value Fewer steps_last v.0 v.1))
    (λ new. fit_still k _ (along_compared Fewer steps_last v.0 old new)))) g))

-- turns that fit wherever what comes after them does
abbrev pub TurnsFit : ℕ → (Evaluation (Unit {0}) → Evaluation (Unit {0})) → (Evaluation (Unit {0}) → Evaluation (Unit {0})) → Type 0
TurnsFit k turn turn' = (j : ℕ) → j < k → (again again' : Evaluation (Unit {0})) → Fit j again again' → Fit j (turn again) (turn' again')

pub fit_turns : (m n k : ℕ) (test test' : Evaluation Value) (turn turn' : Evaluation (Unit {0}) → Evaluation (Unit {0})) → k < m → k < n → Fit k test test' → TurnsFit k turn turn' → Fit k (turns m test turn) (turns n test' turn')
fit_turns zero n k test test' turn turn' lm ln ft fb = absurd (omega arith)
fit_turns (suc m) zero k test test' turn turn' lm ln ft fb = absurd (omega arith)
fit_turns (suc m) (suc n) k test test' turn turn' lm ln ft fb =
    fit_bind k test test' _ _ ft (λ v. fit_choose k v _ _ done done (fit_step k _ _ (λ j lt.
    fb j lt (turns m test turn) (turns n test' turn')
    (fit_turns m n j test test' turn turn' (omega (arith, lt)) (omega (arith, lt)) (fit_less j k (omega (arith, lt)) ft) (λ i l. fb i (omega (arith, l, lt)))))) (fit_give k tt))

-- the turns of a loop's body
fit_body_turns : (k : ℕ) (v : Option (Annotation × LogicTerm)) (body body' behind behind' : Evaluation (Unit {0})) → Fit k body body' → Fit k behind behind' → TurnsFit k (turn_with v body behind) (turn_with v body' behind')
fit_body_turns k v body body' behind behind' b h j lt again again' g =
    fit_turn j v body body' behind behind' again again' (fit_less j k (omega (arith, lt)) b) (fit_less j k (omega (arith, lt)) h) g

pub fit_do_turns : (m n k : ℕ) (test test' : Evaluation Value) (body body' : Evaluation (Unit {0})) → k < m → k < n → Fit k test test' → Fit k body body' → Fit k (do_turns m test body) (do_turns n test' body')
fit_do_turns zero n k test test' body body' lm ln ft fb = absurd (omega arith)
fit_do_turns (suc m) zero k test test' body body' lm ln ft fb = absurd (omega arith)
fit_do_turns (suc m) (suc n) k test test' body body' lm ln ft fb =
    fit_step k _ _ (λ j lt.
    fit_after_body j body body' _ _ (fit_less j k (omega (arith, lt)) fb)
    (fit_bind j test test' _ _ (fit_less j k (omega (arith, lt)) ft) (λ v. fit_choose j v _ _ done done
    (fit_do_turns m n j test test' body body' (omega (arith, lt)) (omega (arith, lt)) (fit_less j k (omega (arith, lt)) ft) (fit_less j k (omega (arith, lt)) fb)) (fit_give j tt))))

-- ---- expressions and statements

module _ (T : Tables) (k : ℕ) (call call' : Callee) (c : CalleesFit k call call') where
  fit_tested : (e : Expression) → Fit k (eval_with T e call) (eval_with T e call') → Fit k (eval_with T e call >>= tested (place_of e)) (eval_with T e call' >>= tested (place_of e))
  fit_tested e f = fit_bind k _ _ _ _ f (λ v. fit_computed k (place_of e) _)

  fit_truth : (e : Expression) → Fit k (eval_with T e call) (eval_with T e call') → Fit k (eval_with T e call >>= tested (place_of e) >>= λ y. give (truth_value y)) (eval_with T e call' >>= tested (place_of e) >>= λ y. give (truth_value y))
  fit_truth e f = fit_bind k _ _ _ _ (fit_tested e f) (λ y. fit_give k (truth_value y))

  mutual
    pub fit_eval : (e : Expression) → Fit k (eval_with T e call) (eval_with T e call')
    fit_eval (Node at t (Number n j)) = fit_give k (Integer n)
    fit_eval (Node at t (Letter n)) = fit_give k (Integer n)
    fit_eval (Node at t (Text n)) = fit_give k NoValue
    fit_eval (Node at t (Variable x)) = fit_named k at t x
    fit_eval (Node at t (Unary unary.Address a)) = fit_bind k _ _ _ _ (fit_place a) (fit_address k a)
    fit_eval (Node at t (Unary unary.Deref a)) = fit_bind k _ _ _ _ (fit_bind k _ _ _ _ (fit_eval a) (fit_pointed k)) (λ p. fit_read_any k at p (scalar_of t))
    fit_eval (Node at t (Unary unary.Not a)) = fit_bind k _ _ _ _ (fit_tested a (fit_eval a)) (λ x. fit_give k (Integer (truth (is_zero x))))
    fit_eval (Node at t (Unary unary.Plus a)) = fit_bind k _ _ _ _ (fit_eval a) (λ x. fit_defined k at _)
    fit_eval (Node at t (Unary unary.Minus a)) = fit_bind k _ _ _ _ (fit_eval a) (λ x. fit_defined k at _)
    fit_eval (Node at t (Unary unary.Flip a)) = fit_bind k _ _ _ _ (fit_eval a) (λ x. fit_defined k at _)
    fit_eval (Node at t (Binary op a b)) = fit_bind k _ _ _ _ (fit_eval a) (λ x. fit_bind k _ _ _ _ (fit_eval b) (λ y. fit_computed k at _))
    fit_eval (Node at t (Both a b)) = fit_bind k _ _ _ _ (fit_tested a (fit_eval a)) (λ x. fit_choose k x _ _ _ _ (fit_truth b (fit_eval b)) (fit_give k (Integer (pos 0))))
    fit_eval (Node at t (Either a b)) = fit_bind k _ _ _ _ (fit_tested a (fit_eval a)) (λ x. fit_choose k x _ _ _ _ (fit_give k (Integer (pos 1))) (fit_truth b (fit_eval b)))
    fit_eval (Node at t (Choice a b d)) = fit_bind k _ _ _ _ (fit_tested a (fit_eval a)) (λ x. fit_choose k x _ _ _ _ (fit_eval b) (fit_eval d))
    fit_eval (Node at t (Assign None a b)) = fit_bind k _ _ _ _ (fit_place a) (λ p. fit_assigned k T.structs at t (scalar_of t) p _ _ _ _ (fit_eval b) (fit_place b))
    fit_eval (Node at t (Assign (Some op) a b)) =
        fit_bind k _ _ _ _ (fit_place a) (λ p. fit_as_scalar k (scalar_of t) _ _
        (λ i. fit_bind k _ _ _ _ (fit_computed k at _) (λ x. fit_bind k _ _ _ _ (fit_eval b) (λ y. fit_bind k _ _ _ _ (fit_computed k at _) (λ v. fit_write_give k at p i v v)))))
    fit_eval (Node at t (Bump op a)) =
        fit_bind k _ _ _ _ (fit_place a) (λ p. fit_as_scalar k (scalar_of t) _ _
        (λ i. fit_bind k (read at p i) (read at p i) _ _ (fit_computed k at _)
        (λ x. fit_bind k (computed at (λ store. compound T.structs t (bump_operator op) store x int_type (Integer (pos 1)))) _ _ _ (fit_computed k at _) (λ v. fit_write_give k at p i v (bump_value op x v)))))
    fit_eval (Node at t (Call f args)) = fit_bind k _ _ _ _ (fit_evals args) (λ vs. c at f vs)
    fit_eval (Node at t (Cast to a)) = fit_cond k (is_array (type_of a)) _ _ _ _ (fit_bind k _ _ _ _ (fit_place a) (fit_address k a)) (fit_bind k _ _ _ _ (fit_eval a) (λ x. fit_give k (converted to x)))
    fit_eval (Node at t (SizeOfType u)) = fit_give k (size_value T u)
    fit_eval (Node at t (SizeOfExpr a)) = fit_give k (size_value T (type_of a))
    fit_eval (Node at t (Index a b)) = fit_bind k _ _ _ _ (fit_eval a) (λ x. fit_bind k _ _ _ _ (fit_eval b) (λ y. fit_bind k _ _ _ _ (fit_computed k at _) (λ p. fit_read_any k at p (scalar_of t))))
    fit_eval (Node at t (Dot a m)) = fit_bind k _ _ _ _ (fit_place a) (λ p. fit_read_any k at (shifted p _) (scalar_of t))
    fit_eval (Node at t (Arrow a m)) = fit_bind k _ _ _ _ (fit_eval a) (λ x. fit_bind k _ _ _ _ (fit_pointed k x) (λ p. fit_read_any k at (shifted p _) (scalar_of t)))
    fit_eval (Node at t (Comma a b)) = fit_then k _ _ _ _ (fit_eval a) (fit_eval b)

    pub fit_place : (e : Expression) → Fit k (place_with T e call) (place_with T e call')
    fit_place (Node at t (Variable x)) = fit_object k at x.decl
    fit_place (Node at t (Text n)) = fit_give k (literal T n)
    fit_place (Node at t (Unary unary.Deref a)) = fit_bind k _ _ _ _ (fit_eval a) (fit_pointed k)
    fit_place (Node at t (Index a b)) = fit_bind k _ _ _ _ (fit_eval a) (λ x. fit_bind k _ _ _ _ (fit_eval b) (λ y. fit_computed k at _))
    fit_place (Node at t (Dot a m)) = fit_bind k _ _ _ _ (fit_place a) (λ p. fit_give k (shifted p _))
    fit_place (Node at t (Arrow a m)) = fit_bind k _ _ _ _ (fit_eval a) (λ x. fit_bind k _ _ _ _ (fit_pointed k x) (λ p. fit_give k (shifted p _)))
    fit_place (Node at t (Assign None a b)) = fit_bind k _ _ _ _ (fit_place a) (λ p. fit_then k _ _ _ _ (fit_assigned k T.structs at t (scalar_of t) p _ _ _ _ (fit_eval b) (fit_place b)) (fit_give k p))
    fit_place (Node at t (Comma a b)) = fit_then k _ _ _ _ (fit_eval a) (fit_place b)
    fit_place (Node at t _) = fit_stop k (Over (Undefined at))

    pub fit_evals : (es : Expressions) → Fit k (evals_with T es call) (evals_with T es call')
    fit_evals NoExpression = fit_give k []
    fit_evals (Following e es) = fit_bind k _ _ _ _ (fit_eval e) (λ v. fit_bind k _ _ _ _ (fit_evals es) (λ vs. fit_give k (v ∷ vs)))

  -- ---- statements

  fit_zero_scalars : (at : Place) (p : Pointer) (cs : List (ℕ × Scalar)) → Fit k (zero_scalars at p cs) (zero_scalars at p cs)
  fit_zero_scalars at p [] = fit_give k tt
  fit_zero_scalars at p (d ∷ cs) = fit_then k _ _ _ _ (fit_write_bytes k at _ _) (fit_zero_scalars at p cs)

  fit_zero_parts : (structs : List StructType) (at : Place) (p : Pointer) (cs : List (ℕ × PlainType)) → Fit k (zero_parts structs at p cs) (zero_parts structs at p cs)
  fit_zero_parts structs at p [] = fit_give k tt
  fit_zero_parts structs at p (d ∷ cs) = fit_then k _ _ _ _ (fit_zero_scalars at _ _) (fit_zero_parts structs at p cs)

  fit_write_each : (at : Place) (p : Pointer) (bytes : List Byte) → Fit k (write_each at p bytes) (write_each at p bytes)
  fit_write_each at p [] = fit_give k tt
  fit_write_each at p (b ∷ bs) = fit_then k _ _ _ _ (fit_write_bytes k at p (b ∷ [])) (fit_write_each at (shifted p 1) bs)

  fit_fill_one : (at : Place) (t : PlainType) (p : Pointer) (o : Option ℕ) (v v' : Evaluation Value) → Fit k v v' → Fit k (fill_one T at t p o v) (fill_one T at t p o v')
  fit_fill_one at t p (Some n) v v' h = fit_write_each at p _
  fit_fill_one at t p None v v' h = fit_bind k _ _ _ _ h (λ x. fit_as_scalar k (scalar_of t) _ _ (λ i. fit_write k at p i x))

  mutual
    fit_fill : (at : Place) (t : PlainType) (p : Pointer) (i : Initialiser) → Fit k (fill T at t p i call) (fill T at t p i call')
    fit_fill at t p (One e) = fit_fill_one at t p (string_in e) _ _ (fit_eval e)
    fit_fill at t p (Many brace is) = fit_fill_parts at (parts_or_itself T t) p is

    fit_fill_parts : (at : Place) (cs : List (ℕ × PlainType)) (p : Pointer) (is : Initialisers) → Fit k (fill_parts T at cs p is call) (fill_parts T at cs p is call')
    fit_fill_parts at cs p NoInitialiser = fit_zero_parts T.structs at p cs
    fit_fill_parts at [] p (Listed i is) = fit_give k tt
    fit_fill_parts at (d ∷ cs) p (Listed i is) = fit_then k _ _ _ _ (fit_fill at d.1 _ i) (fit_fill_parts at cs p is)

  fit_initialise : (d : Declaration) (i : Option (Place × Initialiser)) → Fit k (initialise T d i call) (initialise T d i call')
  fit_initialise d None = fit_give k tt
  fit_initialise d (Some (at, i)) = fit_bind k _ _ _ _ (fit_object k at d.place.offset) (λ p. fit_fill at d.ctype p i)

  fit_initialise_all : (ds : List Declaration) → Fit k (initialise_all T ds call) (initialise_all T ds call')
  fit_initialise_all [] = fit_give k tt
  fit_initialise_all (d ∷ ds) = fit_then k _ _ _ _ (fit_initialise d d.init) (fit_initialise_all ds)

  fit_condition : (e : Option Expression) → Fit k (condition_with T e call) (condition_with T e call')
  fit_condition None = fit_give k (Integer (pos 1))
  fit_condition (Some e) = fit_tested e (fit_eval e)

  fit_effect : (e : Option Expression) → Fit k (effect_with T e call) (effect_with T e call')
  fit_effect None = fit_give k tt
  fit_effect (Some e) = fit_then k _ _ _ _ (fit_eval e) (fit_give k tt)

  mutual
    pub fit_exec : (a : Statement) (n n' : ℕ) → k < n → k < n' → Fit k (exec_with T a call n) (exec_with T a call' n')
    fit_exec (Empty at) n n' l l' = fit_give k tt
    fit_exec (Eval at e) n n' l l' = fit_then k _ _ _ _ (fit_eval e) (fit_give k tt)
    fit_exec (Block at items) n n' l l' = fit_within k _ _ (fit_then k _ _ _ _ (fit_births k T.structs (declared_in items)) (fit_items items n n' l l'))
    fit_exec (If at e a b) n n' l l' = fit_bind k _ _ _ _ (fit_tested e (fit_eval e)) (λ v. fit_choose k v _ _ _ _ (fit_exec a n n' l l') (fit_else b n n' l l'))
    fit_exec (While at annots e a) n n' l l' = fit_turns n n' k _ _ _ _ l l' (fit_then k _ _ _ _ (fit_invariants k annots) (fit_tested e (fit_eval e))) (fit_body_turns k (variant annots) _ _ _ _ (fit_exec a n n' l l') (fit_give k tt))
    fit_exec (Do at a e) n n' l l' = fit_do_turns n n' k _ _ _ _ l l' (fit_tested e (fit_eval e)) (fit_exec a n n' l l')
    fit_exec (For at annots first e behind a) n n' l l' =
        fit_within k _ _ (fit_then k _ _ _ _ (fit_then k _ _ _ _ (fit_births k T.structs (declared_first first)) (fit_first first n n' l l'))
        (fit_turns n n' k _ _ _ _ l l' (fit_then k _ _ _ _ (fit_invariants k annots) (fit_condition e)) (fit_body_turns k (variant annots) _ _ _ _ (fit_exec a n n' l l') (fit_effect behind))))
    fit_exec (Break at) n n' l l' = fit_stop k (Leaves Breaks)
    fit_exec (Continue at) n n' l l' = fit_stop k (Leaves Continues)
    fit_exec (Return at None) n n' l l' = fit_stop k (Leaves (Returns None))
    fit_exec (Return at (Some e)) n n' l l' = fit_bind k _ _ _ _ (fit_eval e) (λ v. fit_stop k (Leaves (Returns (Some v))))
    fit_exec (Labelled at l a) n n' g g' = fit_then k _ _ _ _ (fit_mark k (Some l)) (fit_exec a n n' g g')
    fit_exec (Switch at e cases) n n' l l' = fit_bind k _ _ _ _ (fit_eval e) (λ v. fit_after_switch k _ _ (fit_cases cases n n' (chosen_case v cases) l l'))

    pub fit_cases : (cases : Cases) (n n' j : ℕ) → k < n → k < n' → Fit k (cases_with T cases call n j) (cases_with T cases call' n' j)
    fit_cases NoCase n n' j l l' = fit_give k tt
    fit_cases (AnotherCase at v items rest) n n' zero l l' = fit_then k _ _ _ _ (fit_items items n n' l l') (fit_cases rest n n' zero l l')
    fit_cases (AnotherCase at v items rest) n n' (suc j) l l' = fit_cases rest n n' j l l'

    pub fit_else : (b : ElsePart) (n n' : ℕ) → k < n → k < n' → Fit k (else_with T b call n) (else_with T b call' n')
    fit_else NoElse n n' l l' = fit_give k tt
    fit_else (Else a) n n' l l' = fit_exec a n n' l l'

    pub fit_first : (first : ForFirst) (n n' : ℕ) → k < n → k < n' → Fit k (first_with T first call n) (first_with T first call' n')
    fit_first NoFirst n n' l l' = fit_give k tt
    fit_first (First i) n n' l l' = fit_item i n n' l l'

    pub fit_item : (i : BlockItem) (n n' : ℕ) → k < n → k < n' → Fit k (item_with T i call n) (item_with T i call' n')
    fit_item (Declare ds) n n' l l' = fit_initialise_all ds
    fit_item (Specify at t) n n' l l' = fit_give k tt
    fit_item (Run a) n n' l l' = fit_exec a n n' l l'
    fit_item (Asserts annots) n n' l l' = fit_checks k annots

    pub fit_items : (items : BlockItems) (n n' : ℕ) → k < n → k < n' → Fit k (items_with T items call n) (items_with T items call' n')
    fit_items NoItem n n' l l' = fit_give k tt
    fit_items (Then i rest) n n' l l' = fit_then k _ _ _ _ (fit_item i n n' l l') (fit_items rest n n' l l')

  fit_body : (body : Option Statement) (n n' : ℕ) → k < n → k < n' → Fit k (body_with T body call n) (body_with T body call' n')
  fit_body None n n' l l' = fit_stop k Stuck
  fit_body (Some a) n n' l l' = fit_exec a n n' l l'

  fit_parameters : (at : Place) (ds : List Declaration) (vs : List Value) → Fit k (parameters T at ds vs) (parameters T at ds vs)
  fit_parameters at [] [] = fit_give k tt
  fit_parameters at [] (v ∷ vs) = fit_stop k (Over (Undefined at))
  fit_parameters at (d ∷ ds) [] = fit_stop k (Over (Undefined at))
  fit_parameters at (d ∷ ds) (v ∷ vs) =
      fit_then k _ _ _ _ (fit_then k _ _ _ _ (fit_birth k T.structs d) (fit_as_scalar k (scalar_of d.ctype) _ _ (λ i. fit_write_youngest k at i v))) (fit_parameters at ds vs)

-- ---- programs

fit_if : {A : Type 0} (k : ℕ) (t : Bool) (a a' b b' : Evaluation A) → Fit k a a' → Fit k b b' → Fit k (if t then a else b) (if t then a' else b')
fit_if k true a a' b b' f g = f
fit_if k false a a' b b' f g = g

steps_returned : (f : Function) (r : Outcome (Unit {0})) → steps_after (returned_by f r) ≤ steps_after r
steps_returned f (Normal u s) = let h = (along_at_close Fewer steps_last f.close f.result).at s in omega (arith, h, steps_state (at_close f.close f.result s))
steps_returned f (Stop (Leaves Breaks) s) = omega arith
steps_returned f (Stop (Leaves Continues) s) = omega arith
steps_returned f (Stop (Leaves (Returns None)) s) = omega arith
steps_returned f (Stop (Leaves (Returns (Some v))) s) = omega arith
steps_returned f (Stop (Over e) s) = omega arith
steps_returned f (Stop Stuck s) = omega arith

fit_returned : (f : Function) (k : ℕ) (m m' : Evaluation (Unit {0})) → Fit k m m' → Fit k (λ s. returned_by f (m s)) (λ s. returned_by f (m' s))
fit_returned f k m m' h = record {
  same = λ s le. ap (returned_by f) (h.same s le);
  spends = λ s le. omega (arith, steps_returned f (m s), h.spends s le);
}

-- a call's step makes room for one level of calls less
pub fit_call_with : (T : Tables) (globals : Scope) (f : Option Function) (k m n : ℕ) (call call' : Callee) (at : Place) (vs : List Value) → k ≤ m → k ≤ n → ((j : ℕ) → j < k → CalleesFit j call call')
    → Fit k (call_with T globals f call m at vs) (call_with T globals f call' n at vs)
fit_call_with T globals None k m n call call' at vs lm ln h = fit_stop k (Over (Undefined at))
fit_call_with T globals (Some f) k m n call call' at vs lm ln h =
    fit_step k _ _ (λ j lt. fit_called j _ _ (fit_then j _ _ _ _
    (fit_then j _ _ _ _ (fit_then j _ _ _ _ (fit_then j _ _ _ _ (fit_frame j) (fit_alone j globals)) (fit_parameters T j call call' (h j lt) at f.params vs)) (fit_mark j None))
    (fit_bind j _ _ _ _ (fit_entry j f.contract) (λ hs. fit_bind j (λ s. returned_by f (body_with T f.body call m s)) (λ s. returned_by f (body_with T f.body call' n s)) _ _
    (fit_returned f j _ _ (fit_body T j call call' (h j lt) f.body m n (omega (arith, lt)) (omega (arith, lt)))) (λ v. fit_ending j f.contract hs v)))))

pub fit_call_of : (p : TranslationUnit) (m n k : ℕ) → k < m → k < n → CalleesFit k (call_of p m) (call_of p n)
fit_call_of p zero n k lm ln at f vs = absurd (omega arith)
fit_call_of p (suc m) zero k lm ln at f vs = absurd (omega arith)
fit_call_of p (suc m) (suc n) k lm ln at f vs =
    fit_if k (is_of_library f) _ _ _ _ (fit_still k _ (along_library_call Fewer steps_last (tables_of p) at (slice_get p.names f.name) vs))
    (fit_call_with (tables_of p) (global_scope p) (definition_at f.decl p.funcs) k m n (call_of p m) (call_of p n) at vs (omega arith) (omega arith)
    (λ j lt. fit_call_of p m n j (omega (arith, lt)) (omega (arith, lt))))

steps_after_main : (c : Option FunctionContract) (hs : List Bool) (r : Outcome (Unit {0})) → steps_after (after_main c hs r) ≤ steps_after r
steps_after_main c hs (Normal u s) = let h = (along_ending Fewer steps_last c hs (Integer (pos 0))).at s in omega (arith, h, steps_state (ending c hs (Integer (pos 0)) s))
steps_after_main c hs (Stop (Leaves Breaks) s) = omega arith
steps_after_main c hs (Stop (Leaves Continues) s) = omega arith
steps_after_main c hs (Stop (Leaves (Returns None)) s) =
    let m : Evaluation (Unit {0}) = ending c hs NoValue >> stop (Leaves (Returns None)) in
    omega (arith, steps_state (m s), (along_then Fewer steps_last (ending c hs NoValue) (stop {A = Unit {0}} (Leaves (Returns None))) (along_ending Fewer steps_last c hs NoValue) (along_stop Fewer steps_last (Leaves (Returns None)))).at s)
steps_after_main c hs (Stop (Leaves (Returns (Some v))) s) =
    let m : Evaluation (Unit {0}) = ending c hs v >> stop (Leaves (Returns (Some v))) in
    omega (arith, steps_state (m s), (along_then Fewer steps_last (ending c hs v) (stop {A = Unit {0}} (Leaves (Returns (Some v)))) (along_ending Fewer steps_last c hs v) (along_stop Fewer steps_last (Leaves (Returns (Some v))))).at s)
steps_after_main c hs (Stop (Over e) s) = omega arith
steps_after_main c hs (Stop Stuck s) = omega arith

fit_after_main : (c : Option FunctionContract) (hs : List Bool) (k : ℕ) (m m' : Evaluation (Unit {0})) → Fit k m m' → Fit k (λ s. after_main c hs (m s)) (λ s. after_main c hs (m' s))
fit_after_main c hs k m m' h = record {
  same = λ s le. ap (after_main c hs) (h.same s le);
  spends = λ s le. omega (arith, steps_after_main c hs (m s), h.spends s le);
}

fit_main : (T : Tables) (f : Option Function) (k m n : ℕ) (call call' : Callee) → k < m → k < n → CalleesFit k call call' → Fit k (main_with T f call m) (main_with T f call' n)
fit_main T None k m n call call' lm ln h = fit_stop k Stuck
fit_main T (Some f) k m n call call' lm ln h =
    fit_called k _ _ (fit_then k _ _ _ _ (fit_then k _ _ _ _ (fit_then k _ _ _ _ (fit_frame k) (fit_births k T.structs f.params)) (fit_mark k None))
    (fit_bind k _ _ _ _ (fit_entry k f.contract) (λ hs. fit_after_main f.contract hs k _ _ (fit_body T k call call' h f.body m n lm ln))))

pub fit_whole : (p : TranslationUnit) (k m n : ℕ) → k < m → k < n → Fit k (whole p m) (whole p n)
fit_whole p k m n lm ln =
    let h = fit_call_of p m n k lm ln in
    fit_then k _ _ _ _ (fit_initialise_all (tables_of p) k (call_of p m) (call_of p n) h p.globals) (fit_main (tables_of p) (function_named p (codes "main") p.funcs) k m n (call_of p m) (call_of p n) lm ln h)

-- ---- what follows

-- more turns than steps change nothing
pub fuel : (p : TranslationUnit) (a : Statement) (m n : ℕ) (s : State) → s.steps < m → s.steps < n → exec p m a s ≡ exec p n a s
fuel p a m n s lm ln = (fit_exec (tables_of p) s.steps (call_of p m) (call_of p n) (fit_call_of p m n s.steps lm ln) a m n lm ln).same s (omega arith)

-- a run is the same with any number of turns above its steps
pub run_at : (p : TranslationUnit) (input : Input) (n m : ℕ) → n < m → run p input n ≡ ran (whole p m (start p input n))
run_at p input n m l = ap ran ((fit_whole p n (suc n) m (omega arith) l).same (start p input n) (omega arith))

-- turns with less and with more fuel are the same from few enough steps
turn_again : (k n : ℕ) (test : Evaluation Value) (turn : Evaluation (Unit {0}) → Evaluation (Unit {0})) → k ≤ n → Fit k test test → TurnsFit k turn turn
    → Fit k (turns (suc n) test turn) (test >>= λ v. choose v (step >> turn (turns (suc n) test turn)) done)
turn_again k n test turn l ft fb =
    fit_bind k test test _ _ ft (λ v. fit_choose k v _ _ done done (fit_step k _ _ (λ j lt.
    fb j lt (turns n test turn) (turns (suc n) test turn)
    (fit_turns n (suc n) j test test turn turn (omega (arith, lt)) (omega (arith, lt)) (fit_less j k (omega (arith, lt)) ft) (λ i l. fb i (omega (arith, l, lt)))))) (fit_give k tt))

-- a `while` is one turn and then the loop again
pub one_turn : (p : TranslationUnit) (at : Place) (annots : List Annotation) (e : Expression) (a : Statement) (n : ℕ) (s : State) → s.steps < n
    → exec p n (While at annots e a) s ≡ (invariants annots >> condition p n e >>= λ v. choose v (step >> turn_with (variant annots) (exec p n a) done (exec p n (While at annots e a))) done) s
one_turn p at annots e a zero s l = absurd (omega arith)
one_turn p at annots e a (suc n) s l =
    let k = s.steps in
    let c = call_of p (suc n) in
    let fc = fit_call_of p (suc n) (suc n) k l l in
    (turn_again k n (invariants annots >> condition p (suc n) e) (turn_with (variant annots) (exec p (suc n) a) done) (omega arith)
    (fit_then k _ _ _ _ (fit_invariants k annots) (fit_tested (tables_of p) k c c fc e (fit_eval (tables_of p) k c c fc e)))
    (fit_body_turns k (variant annots) _ _ _ _ (fit_exec (tables_of p) k c c fc a (suc n) (suc n) l l) (fit_give k tt))).same s (omega arith)

-- a `do` is one turn and then, as its condition says, the loop again
pub one_do_turn : (p : TranslationUnit) (at : Place) (a : Statement) (e : Expression) (n : ℕ) (s : State) → s.steps < n
    → exec p n (Do at a e) s ≡ (step >> λ t. after_body (exec p n a t) (condition p n e >>= λ v. choose v (exec p n (Do at a e)) done)) s
one_do_turn p at a e zero s l = absurd (omega arith)
one_do_turn p at a e (suc n) s l =
    let k = s.steps in
    let c = call_of p (suc n) in
    let test = condition p (suc n) e in
    let body = exec p (suc n) a in
    let fc = fit_call_of p (suc n) (suc n) k l l in
    let ft : Fit k test test = fit_tested (tables_of p) k c c fc e (fit_eval (tables_of p) k c c fc e) in
    let fb : Fit k body body = fit_exec (tables_of p) k c c fc a (suc n) (suc n) l l in
    (fit_step k (λ t. after_body (body t) (test >>= λ v. choose v (do_turns n test body) done)) (λ t. after_body (body t) (test >>= λ v. choose v (do_turns (suc n) test body) done)) (λ j lt.
    fit_after_body j body body _ _ (fit_less j k (omega (arith, lt)) fb)
    (fit_bind j test test _ _ (fit_less j k (omega (arith, lt)) ft) (λ v. fit_choose j v _ _ done done
    (fit_do_turns n (suc n) j test test body body (omega (arith, lt)) (omega (arith, lt)) (fit_less j k (omega (arith, lt)) ft) (fit_less j k (omega (arith, lt)) fb)) (fit_give j tt))))).same s (omega arith)

-- the turns of a `for` are one turn and then the turns again
pub one_for_turn : (p : TranslationUnit) (annots : List Annotation) (e behind : Option Expression) (a : Statement) (n : ℕ) (s : State) → s.steps < n
    → for_turns p n annots e behind a s ≡ (invariants annots >> condition_with (tables_of p) e (call_of p n) >>=
    λ v. choose v (step >> turn_with (variant annots) (exec p n a) (effect_with (tables_of p) behind (call_of p n)) (for_turns p n annots e behind a)) done) s
one_for_turn p annots e behind a zero s l = absurd (omega arith)
one_for_turn p annots e behind a (suc n) s l =
    let k = s.steps in
    let T = tables_of p in
    let c = call_of p (suc n) in
    let fc = fit_call_of p (suc n) (suc n) k l l in
    (turn_again k n (invariants annots >> condition_with T e c) (turn_with (variant annots) (exec p (suc n) a) (effect_with T behind c)) (omega arith)
    (fit_then k _ _ _ _ (fit_invariants k annots) (fit_condition T k c c fc e))
    (fit_body_turns k (variant annots) _ _ _ _ (fit_exec T k c c fc a (suc n) (suc n) l l) (fit_effect T k c c fc behind))).same s (omega arith)

-- no step is gained
pub steps_fall : (p : TranslationUnit) (a : Statement) (n : ℕ) (s : State) → s.steps < n → steps_after (exec p n a s) ≤ s.steps
steps_fall p a n s l = omega (arith, steps_state (exec p n a s), (along_exec Fewer steps_last (tables_of p) (call_of p n) (along_call_of Fewer steps_last p n) a n).at s)

left-ran : (r : Outcome (Unit {0})) → (ran r).left ≡ steps_after r
left-ran (Normal u s) = refl
left-ran (Stop (Leaves Breaks) s) = refl
left-ran (Stop (Leaves Continues) s) = refl
left-ran (Stop (Leaves (Returns None)) s) = refl
left-ran (Stop (Leaves (Returns (Some NoValue))) s) = refl
left-ran (Stop (Leaves (Returns (Some (Points p)))) s) = refl
left-ran (Stop (Leaves (Returns (Some (Integer z)))) s) = refl
left-ran (Stop (Over e) s) = refl
left-ran (Stop Stuck s) = refl

-- a run leaves no more steps than it had
pub run_spends : (p : TranslationUnit) (input : Input) (n : ℕ) → (run p input n).left ≤ n
run_spends p input n =
    let h = (along_whole Fewer steps_last p (suc n)).at (start p input n) in
    omega (arith, left-ran (whole p (suc n) (start p input n)), steps_state (whole p (suc n) (start p input n)), h)
