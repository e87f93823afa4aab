-- Where a run judges annotations (ACSL 2.3, 2.4): what each evaluation of the meaning judges, in its order, each annotation in the state in which its clause
-- is asked, with the value of `\result` where there is one.
use Rattle.std.specs.Prelude.{ℕ, zero, suc, pos, Bool, cond, if◌then◌else◌, List, [], ◌∷◌, ◌++◌, Option, Some, None, codes}
use Rattle.c_syntax.specs.declared.place.Place.{Place}
use Rattle.c_syntax.specs.declared.expression.Use.{Use}
use Rattle.c_syntax.specs.declared.expression.UnOp.TheVariants as unary
use Rattle.c_syntax.specs.Ctypes.{PlainType}
use Rattle.c_syntax.specs.Layouts.{Scalar, scalar_of}
use Rattle.c_syntax.specs.Expressions.{Expression, Node, Number, Letter, Text, Variable, Unary, Binary, Both, Either, Choice, Assign, Bump, Call, Cast}
use Rattle.c_syntax.specs.Expressions.{SizeOfType, SizeOfExpr, Index, Dot, Arrow, Comma, Expressions, NoExpression, Following, type_of}
use Rattle.c_syntax.specs.Statements.{Initialiser, One, Many, Initialisers, NoInitialiser, Listed, Declaration, Statement, Empty, Eval, Block, If, While, Do}
use Rattle.c_syntax.specs.Statements.{For, Break, Continue, Return, Labelled, ElsePart, NoElse, Else, ForFirst, NoFirst, First, BlockItem, Declare, Specify}
use Rattle.c_syntax.specs.Statements.{Run, Asserts, BlockItems, NoItem, Then, Switch, Cases, NoCase, AnotherCase}
use Rattle.c_syntax.specs.Programs.{NamedBehavior, FunctionContract, Function, TranslationUnit}
use Rattle.c_syntax.specs.Logic as logic
use Rattle.c_syntax.specs.Logic.{LogicTerm, ClauseBody, Raw, Holds, Behaviors, Annotation}
use Rattle.c_model.specs.Memory.{Pointer, Value, Integer, NoValue, shifted}
use Rattle.c_model.specs.State.{Scope, Input, State, Breaks, Continues, Returns, Leaves, Over, Stuck, Outcome, Normal, Stop, Evaluation, ◌>>=◌, ◌>>◌}
use Rattle.c_model.specs.State.{done, step, object, read, as_scalar, births, alone, frame, mark}
use Rattle.c_model.specs.Logic.{Environment}
use Rattle.c_model.specs.Predicates.{check, invariant, invariants, variant, value_of, compared}
use Rattle.c_model.specs.ContractChecks.{Check, checked, holds_at, all_hold, entry_checks, leave_checks, entry, result_is}
use Rattle.c_model.specs.Meaning.{Tables, Callee, is_zero, is_array, is_of_library, eval_with, place_with, evals_with, condition_of, condition_with}
use Rattle.c_model.specs.Meaning.{effect_with, declared_in, declared_first, string_in, fill, initialise, initialise_all, parts_or_itself, parameters}
use Rattle.c_model.specs.Meaning.{exec_with, first_with, item_with, items_with, body_with, chosen_case, returned_by, definition_at, function_named}
use Rattle.c_model.specs.Meaning.{call_of, tables_of, global_scope, start}

-- ---- judgements

-- `\result`: the value that a call gives, and the type that its function is declared to give (ACSL 2.3.2)
pub record Result : Type 0 where
  pub ctype : PlainType
  pub value : Value

-- an annotation that is judged, with what `\result` is there, and the state in which it is
pub record Judgement : Type 0 where
  pub annotation : Annotation
  pub result : Option Result
  pub state : State

-- what names of annotations stand for there
abbrev pub names_with : Option Result → Environment
names_with None = []
names_with (Some r) = result_is r.value

-- what an evaluation judges from a state on
abbrev pub Judges : Type 0
Judges = State → List Judgement

abbrev pub none : Judges
none s = []

-- what follows an evaluation that comes to its end judges
abbrev pub judged_behind : {A : Type 0} → Outcome A → (A → Judges) → List Judgement
judged_behind (Normal a s) k = k a s
judged_behind (Stop e s) k = []

-- what an evaluation judges, and then what follows it
abbrev pub judged_then : {A : Type 0} → Judges → Evaluation A → (A → Judges) → Judges
judged_then j m k = λ s. j s ++ judged_behind (m s) k

-- ---- annotations

abbrev pub judged_check : Option Result → Annotation → Judges
judged_check r a = λ s. record { annotation = a; result = r; state = s } ∷ []

abbrev pub judged_checks : List Annotation → Judges
judged_checks [] = none
judged_checks (a ∷ rest) = judged_then (judged_check None a) (check a) (λ _. judged_checks rest)

-- a variant is no invariant
abbrev pub judged_invariant : Annotation → ClauseBody → Judges
judged_invariant a (Raw f) = judged_check None a
judged_invariant a (Holds p) = judged_check None a
judged_invariant a (logic.Value t) = none
judged_invariant a (Behaviors names) = judged_check None a

abbrev pub judged_invariants : List Annotation → Judges
judged_invariants [] = none
judged_invariants (a ∷ rest) = judged_then (judged_invariant a a.body) (invariant a a.body) (λ _. judged_invariants rest)

-- one of a behavior is judged only where its behavior holds so far
abbrev pub judged_of : Option ℕ → List Bool → Judges → Judges
judged_of None hs j = j
judged_of (Some k) hs j = cond (holds_at k hs) j none

abbrev pub judged_all : List NamedBehavior → Option Result → List Check → List Bool → Judges
judged_all bs r [] hs = none
judged_all bs r (c ∷ cs) hs =
    judged_then (judged_of c.behavior hs (judged_check r c.annotation)) (checked bs (names_with r) c.annotation c.behavior hs) (judged_all bs r cs)

-- at the beginning of a call, and at its end
abbrev pub judged_entry : Option FunctionContract → Judges
judged_entry None = none
judged_entry (Some c) = judged_all c.behaviors None (entry_checks c) (all_hold c.behaviors)

abbrev pub judged_ending : Option FunctionContract → List Bool → Result → Judges
judged_ending None hs r = none
judged_ending (Some c) hs r = judged_all c.behaviors (Some r) (leave_checks c) hs

-- ---- expressions

-- what calls judge
abbrev pub InCalls : Type 0
InCalls = Place → Use → List Value → Judges

-- what is assigned: a value, or an object that is copied
abbrev pub judged_assigned : Option Scalar → Judges → Judges → Judges
judged_assigned (Some k) value object = value
judged_assigned None value object = object

module _ (T : Tables) (call : Callee) (inner : InCalls) where
  abbrev mutual
    -- what an expression's value is found by
    pub judged_eval : Expression → Judges
    judged_eval (Node at t (Number n k)) = none
    judged_eval (Node at t (Letter n)) = none
    judged_eval (Node at t (Text n)) = none
    judged_eval (Node at t (Variable x)) = none
    judged_eval (Node at t (Unary unary.Address a)) = judged_place a
    judged_eval (Node at t (Unary unary.Deref a)) = judged_eval a
    judged_eval (Node at t (Unary unary.Not a)) = judged_eval a
    judged_eval (Node at t (Unary unary.Plus a)) = judged_eval a
    judged_eval (Node at t (Unary unary.Minus a)) = judged_eval a
    judged_eval (Node at t (Unary unary.Flip a)) = judged_eval a
    judged_eval (Node at t (Binary op a b)) = judged_then (judged_eval a) (eval_with T a call) (λ _. judged_eval b)
    judged_eval (Node at t (Both a b)) = judged_then (judged_eval a) (condition_of T a call) (λ x. cond (is_zero x) none (judged_eval b))
    judged_eval (Node at t (Either a b)) = judged_then (judged_eval a) (condition_of T a call) (λ x. cond (is_zero x) (judged_eval b) none)
    judged_eval (Node at t (Choice a b c)) = judged_then (judged_eval a) (condition_of T a call) (λ x. cond (is_zero x) (judged_eval c) (judged_eval b))
    judged_eval (Node at t (Assign None a b)) =
        judged_then (judged_place a) (place_with T a call) (λ _. judged_assigned (scalar_of t) (judged_eval b) (judged_place b))
    judged_eval (Node at t (Assign (Some op) a b)) =
        judged_then (judged_place a) (place_with T a call >>= λ p. as_scalar (scalar_of t) (read at p)) (λ _. judged_eval b)
    judged_eval (Node at t (Bump op a)) = judged_place a
    judged_eval (Node at t (Call f args)) = judged_then (judged_evals args) (evals_with T args call) (inner at f)
    judged_eval (Node at t (Cast to a)) = cond (is_array (type_of a)) (judged_place a) (judged_eval a)
    judged_eval (Node at t (SizeOfType u)) = none
    judged_eval (Node at t (SizeOfExpr a)) = none
    judged_eval (Node at t (Index a b)) = judged_then (judged_eval a) (eval_with T a call) (λ _. judged_eval b)
    judged_eval (Node at t (Dot a m)) = judged_place a
    judged_eval (Node at t (Arrow a m)) = judged_eval a
    judged_eval (Node at t (Comma a b)) = judged_then (judged_eval a) (eval_with T a call) (λ _. judged_eval b)

    -- what the place of an object is found by
    pub judged_place : Expression → Judges
    judged_place (Node at t (Variable x)) = none
    judged_place (Node at t (Text n)) = none
    judged_place (Node at t (Unary unary.Deref a)) = judged_eval a
    judged_place (Node at t (Index a b)) = judged_then (judged_eval a) (eval_with T a call) (λ _. judged_eval b)
    judged_place (Node at t (Dot a m)) = judged_place a
    judged_place (Node at t (Arrow a m)) = judged_eval a
    judged_place (Node at t (Assign None a b)) =
        judged_then (judged_place a) (place_with T a call) (λ _. judged_assigned (scalar_of t) (judged_eval b) (judged_place b))
    judged_place (Node at t (Comma a b)) = judged_then (judged_eval a) (eval_with T a call) (λ _. judged_place b)
    judged_place (Node at t _) = none

    pub judged_evals : Expressions → Judges
    judged_evals NoExpression = none
    judged_evals (Following e es) = judged_then (judged_eval e) (eval_with T e call) (λ _. judged_evals es)

  abbrev pub judged_any : Option Expression → Judges
  judged_any None = none
  judged_any (Some e) = judged_eval e

  -- ---- initialisers

  -- a string literal's bytes are no value
  abbrev pub judged_one : Option ℕ → Expression → Judges
  judged_one None e = judged_eval e
  judged_one (Some n) e = none

  abbrev mutual
    pub judged_fill : Place → PlainType → Pointer → Initialiser → Judges
    judged_fill at t p (One e) = judged_one (string_in e) e
    judged_fill at t p (Many brace is) = judged_parts at (parts_or_itself T t) p is

    pub judged_parts : Place → List (ℕ × PlainType) → Pointer → Initialisers → Judges
    judged_parts at cs p NoInitialiser = none
    judged_parts at [] p (Listed i is) = none
    judged_parts at (c ∷ cs) p (Listed i is) =
        judged_then (judged_fill at c.1 (shifted p c.0) i) (fill T at c.1 (shifted p c.0) i call) (λ _. judged_parts at cs p is)

  abbrev pub judged_initialise : Declaration → Option (Place × Initialiser) → Judges
  judged_initialise d None = none
  judged_initialise d (Some (at, i)) = judged_then none (object at d.place.offset) (λ p. judged_fill at d.ctype p i)

  abbrev pub judged_initialise_all : List Declaration → Judges
  judged_initialise_all [] = none
  judged_initialise_all (d ∷ ds) = judged_then (judged_initialise d d.init) (initialise T d d.init call) (λ _. judged_initialise_all ds)

-- ---- loops

-- what a loop's body judges, and then, where the loop goes on, what comes after it
abbrev pub judged_on : Outcome (Unit {0}) → Judges → List Judgement
judged_on (Normal u s) again = again s
judged_on (Stop (Leaves Continues) s) again = again s
judged_on (Stop (Leaves Breaks) s) again = []
judged_on (Stop (Leaves (Returns v)) s) again = []
judged_on (Stop (Over e) s) again = []
judged_on (Stop Stuck s) again = []

abbrev pub judged_round : Judges → Evaluation (Unit {0}) → Judges → Judges
judged_round j body again = λ s. j s ++ judged_on (body s) again

module _ (j : Judges) (body : Evaluation (Unit {0})) (i : Judges) (behind : Evaluation (Unit {0})) where
  -- a turn behind its step: the variant is asked before the body, and once more before it is compared
  abbrev pub judged_turn : Option (Annotation × LogicTerm) → Judges → Judges
  judged_turn None again = judged_round j body (judged_then i behind (λ _. again))
  judged_turn (Some v) again =
      judged_then (judged_check None v.0) (value_of v.0 v.1) (λ old. judged_round j body (judged_then i behind
      (λ _. judged_then (judged_check None v.0) (value_of v.0 v.1 >>= compared v.0 old) (λ _. again))))

abbrev pub judged_turns : ℕ → Judges → Evaluation Value → (Judges → Judges) → Judges
judged_turns zero j test turn = none
judged_turns (suc n) j test turn = judged_then j test (λ v. cond (is_zero v) none (judged_then none step (λ _. turn (judged_turns n j test turn))))

abbrev pub judged_do_turns : ℕ → Judges → Evaluation Value → Judges → Evaluation (Unit {0}) → Judges
judged_do_turns zero j test i body = none
judged_do_turns (suc n) j test i body =
    judged_then none step (λ _. judged_round i body (judged_then j test (λ v. cond (is_zero v) none (judged_do_turns n j test i body))))

-- ---- the end of `main`

-- what `main` gives is 0 at its closing brace (C99 5.1.2.2.3)
abbrev pub judged_behind_main : Function → List Bool → Outcome (Unit {0}) → List Judgement
judged_behind_main f hs (Normal u s) = judged_ending f.contract hs (record { ctype = f.result; value = Integer (pos 0) }) s
judged_behind_main f hs (Stop (Leaves Breaks) s) = []
judged_behind_main f hs (Stop (Leaves Continues) s) = []
judged_behind_main f hs (Stop (Leaves (Returns None)) s) = judged_ending f.contract hs (record { ctype = f.result; value = NoValue }) s
judged_behind_main f hs (Stop (Leaves (Returns (Some v))) s) = judged_ending f.contract hs (record { ctype = f.result; value = v }) s
judged_behind_main f hs (Stop (Over e) s) = []
judged_behind_main f hs (Stop Stuck s) = []

-- ---- statements

module _ (T : Tables) (call : Callee) (inner : InCalls) where
  abbrev mutual
    pub judged_exec : Statement → ℕ → Judges
    judged_exec (Empty at) n = none
    judged_exec (Eval at e) n = judged_eval T call inner e
    judged_exec (Block at items) n = judged_then none (births T.structs (declared_in items)) (λ _. judged_items items n)
    judged_exec (If at e a b) n = judged_then (judged_eval T call inner e) (condition_of T e call) (λ v. cond (is_zero v) (judged_else b n) (judged_exec a n))
    judged_exec (While at annots e a) n =
        judged_turns n (judged_then (judged_invariants annots) (invariants annots) (λ _. judged_eval T call inner e))
        (invariants annots >> condition_of T e call) (judged_turn (judged_exec a n) (exec_with T a call n) none done (variant annots))
    judged_exec (Do at a e) n = judged_do_turns n (judged_eval T call inner e) (condition_of T e call) (judged_exec a n) (exec_with T a call n)
    judged_exec (For at annots first e behind a) n =
        judged_then none (births T.structs (declared_first first)) (λ _. judged_then (judged_first first n) (first_with T first call n)
        (λ _. judged_turns n (judged_then (judged_invariants annots) (invariants annots) (λ _. judged_any T call inner e))
        (invariants annots >> condition_with T e call)
        (judged_turn (judged_exec a n) (exec_with T a call n) (judged_any T call inner behind) (effect_with T behind call) (variant annots))))
    judged_exec (Break at) n = none
    judged_exec (Continue at) n = none
    judged_exec (Return at e) n = judged_any T call inner e
    judged_exec (Labelled at l a) n = judged_then none (mark (Some l)) (λ _. judged_exec a n)
    judged_exec (Switch at e cases) n = judged_then (judged_eval T call inner e) (eval_with T e call) (λ v. judged_cases cases n (chosen_case v cases))

    pub judged_cases : Cases → ℕ → ℕ → Judges
    judged_cases NoCase n k = none
    judged_cases (AnotherCase at v items rest) n zero = judged_then (judged_items items n) (items_with T items call n) (λ _. judged_cases rest n zero)
    judged_cases (AnotherCase at v items rest) n (suc k) = judged_cases rest n k

    pub judged_else : ElsePart → ℕ → Judges
    judged_else NoElse n = none
    judged_else (Else a) n = judged_exec a n

    pub judged_first : ForFirst → ℕ → Judges
    judged_first NoFirst n = none
    judged_first (First i) n = judged_item i n

    pub judged_item : BlockItem → ℕ → Judges
    judged_item (Declare ds) n = judged_initialise_all T call inner ds
    judged_item (Specify at t) n = none
    judged_item (Run a) n = judged_exec a n
    judged_item (Asserts annots) n = judged_checks annots

    pub judged_items : BlockItems → ℕ → Judges
    judged_items NoItem n = none
    judged_items (Then i rest) n = judged_then (judged_item i n) (item_with T i call n) (λ _. judged_items rest n)

  -- ---- calls

  abbrev pub judged_body : Option Statement → ℕ → Judges
  judged_body None n = none
  judged_body (Some a) n = judged_exec a n

  -- the body, and then what the contract asks of its value
  abbrev pub judged_result : Function → List Bool → ℕ → Judges
  judged_result f hs n =
      judged_then (judged_body f.body n) (λ s. returned_by f (body_with T f.body call n s))
      (λ v. judged_ending f.contract hs (record { ctype = f.result; value = v }))

  abbrev pub judged_call : Scope → Option Function → ℕ → Place → List Value → Judges
  judged_call globals None n at vs = none
  judged_call globals (Some f) n at vs =
      judged_then none (step >> (frame >> alone globals >> parameters T at f.params vs >> mark None))
      (λ _. judged_then (judged_entry f.contract) (entry f.contract) (λ hs. judged_result f hs n))

  abbrev pub judged_main : Option Function → ℕ → Judges
  judged_main None n = none
  judged_main (Some f) n =
      judged_then none (frame >> births T.structs f.params >> mark None)
      (λ _. judged_then (judged_entry f.contract) (entry f.contract)
      (λ hs s. judged_body f.body n s ++ judged_behind_main f hs (body_with T f.body call n s)))

-- ---- whole runs

-- calls of a program, at most n deep
abbrev pub judged_calls : TranslationUnit → ℕ → InCalls
judged_calls p zero at f vs = none
judged_calls p (suc n) at f vs =
    if is_of_library f then none
    else judged_call (tables_of p) (call_of p n) (judged_calls p n) (global_scope p) (definition_at f.decl p.funcs) n at vs

abbrev pub judged_whole : TranslationUnit → ℕ → Judges
judged_whole p n =
    judged_then (judged_initialise_all (tables_of p) (call_of p n) (judged_calls p n) p.globals) (initialise_all (tables_of p) p.globals (call_of p n))
    (λ _. judged_main (tables_of p) (call_of p n) (judged_calls p n) (function_named p (codes "main") p.funcs) n)

-- what a run on an input with n steps judges, from its start on
abbrev pub judged : TranslationUnit → Input → ℕ → List Judgement
judged p input n = judged_whole p (suc n) (start p input n)
