-- What functions give in sound states are values of their types.
use Rattle.std.proofs.Common.{◌≡◌, ℕ, zero, suc, pos, negsuc, ℤ, Bool, true, false, cond, if◌then◌else◌, ◌&&◌, nat_eq, ◌-◌, ◌%◌, ◌<◌, List, [], ◌∷◌, ◌++◌, Option, Some, None, slice_get, codes, bytes_eq, refl, sym, ap, ◌∙◌, subst, arith}
use Rattle.std.proofs.lemmas.Bool.{lt-ltb}
use Rattle.c_syntax.specs.declared.place.Place.{Place}
use Rattle.c_syntax.specs.declared.expression.Use.{Use}
use Rattle.c_syntax.specs.declared.types.CInt.{CInt}
use Rattle.c_syntax.specs.declared.types.CInt.TheVariants.{I8, I32, U64}
use Rattle.c_syntax.specs.Ctypes.{PlainType, Void, Int, Ptr, Array, Struct, Named, StructTag, EnumTag, int_type}
use Rattle.c_syntax.specs.Expressions.{Expression, Expressions}
use Rattle.c_syntax.specs.Layouts.{Scalar, scalar_of}
use Rattle.c_syntax.specs.Logic.{LogicTerm, Annotation}
use Rattle.c_syntax.specs.Statements.{Statement, Empty, Eval, Block, If, While, Do, For, Break, Continue, Return, Labelled, ElsePart, NoElse, Else, ForFirst, NoFirst, First}
use Rattle.c_syntax.specs.Statements.{BlockItem, Declare, Specify, Run, Asserts, BlockItems, NoItem, Then, Switch, Cases, NoCase, AnotherCase}
use Rattle.c_syntax.specs.Programs.{Function, TranslationUnit}
use Rattle.c_model.specs.AcceptedPrograms.{IsProgram}
use Rattle.c_model.specs.ContractChecks.{entry, ending}
use Rattle.c_model.specs.Conversions.{promoted}
use Rattle.c_model.specs.ExpressionTyping.{Sight, Signature, of_library, inner, name_at, or_else, function_called, library_function}
use Rattle.c_model.specs.Formed.{AreLoopClauses, AreAsserts, declared_within, declared_in_cases, declared_in_else, declared_in_first, declared_in_item, declared_in_items, declared_in_body}
use Rattle.c_model.specs.FullExpressions.{EachIn, EachInCases, EachInElse, EachInFirst, EachInItem, EachInItems, EachInBody, EachInFunctions}
use Rattle.c_model.specs.Integers.{fits, byte_of}
use Rattle.c_model.specs.Logic.{TermValue, Mathematical, Addressed, Answer, Says, SaysNothing, OutOfSteps, judged}
use Rattle.c_model.specs.Memory.{Value, Integer, Points, NoValue, Store}
use Rattle.c_model.specs.Meaning.{Tables, Callee, tables_of, global_scope, text_at, is_zero, choose, eval_with, condition_of, condition_with, effect_with, after_body, turn_with, turns, do_turns, after_switch}
use Rattle.c_model.specs.Meaning.{chosen_case, declared_in, declared_first, exec_with, cases_with, else_with, first_with, item_with, items_with, body_with, parameters, at_close, returned_by, result_with, call_with}
use Rattle.c_model.specs.Meaning.{call_of, definition_at, is_definition, is_of_library, library_call, put_char, get_char, exit_with, malloc_with, calloc_with, free_with, printf_with}
use Rattle.c_model.specs.Predicates.{invariants, variant, valued, value_of, is_smaller, compared, term}
use Rattle.c_model.specs.ReadTree.{AreBytes, BodyRead, FunctionRead, FunctionsRead}
use Rattle.c_model.specs.SoundStates.{IsPlacedValue, IsSoundState, IsDirect, AreDirect, After, Any, Placed, AllPlaced, Declares, CallsKeepSound}
use Rattle.c_model.specs.State.{State, InputTail, EndOfInput, InputFault, Breaks, Continues, Returns, End, Leaves, Over, Stuck, Spent, Undefined, Outcome, Normal, Stop, Evaluation, ◌>>=◌, ◌>>◌, on_outcome}
use Rattle.c_model.specs.State.{give, done, stop, step, step_from, births, alone, frame, mark, restored, answered, called, read_byte}
use Rattle.c_model.specs.StatementTyping.{Around, in_loop, in_switch, behind, behind_first}
use Rattle.c_model.specs.TypedTrees.{WhereAny, Calls, IsCondition, StatementTyped, CasesTyped, ElseTyped, FirstTyped, ItemTyped, ItemsTyped, around_body, BodyTyped}
use Rattle.c_model.specs.UnitTyping.{with_parameters}
use Rattle.c_model.proofs.NeverStuck.{calls_give, library_number}
use Rattle.c_model.proofs.NeverStuckExpressions.{Sees, CallsGive, gives_value, gives_condition_of, gives_condition, gives_effect, gives_initialise_all}
use Rattle.c_model.proofs.NeverStuckItems.{function_in_sight}
use Rattle.c_model.proofs.NeverStuckRuns.{Anything, NoJump, IsAddress, EndsWell, Gives, gives_then, gives_give, gives_births, gives_mark, gives_checks, gives_invariants}
use Rattle.c_model.proofs.NeverStuckRuns.{gives_malloc, gives_calloc}
use Rattle.c_model.proofs.NeverStuckStatements.{sees_inner, sees_behind, sees_first, sees_parameters}
use Rattle.c_model.proofs.SoundCalls.{IsOwn, after_parameters, after_returned, own_indexed, in_functions, calls_keep_sound}
use Rattle.c_model.proofs.SoundPrograms.{programs_are_direct}
use Rattle.c_model.proofs.SoundRuns.{vals_onward, after_bind, sound_eval}
use Rattle.c_model.proofs.SoundStatements.{declares_left, declares_right, directly_in, directly_first, keeps_condition_of, keeps_condition, keeps_effect, keeps_exec, keeps_first, keeps_item, keeps_items, keeps_body_of}
use Rattle.c_model.proofs.SoundSteps.{Keeps, keeps_then, keeps_bind, keeps_done, keeps_step, keeps_entry, keeps_ending, keeps_alone, keeps_mark, keeps_frame, keeps_births, keeps_invariants, keeps_value, keeps_compared}
use Rattle.c_model.specs.LetterValues.{LettersFit}
use Rattle.c_model.specs.SoundJudgements.{IsValueIn, GivesResult}
use Rattle.c_model.proofs.FittingValues.{FitsIn, fits_as, no_scalar_fits, Ends, well_ends, on_after, on_ends, some_ends}
use Rattle.c_model.proofs.FittingExpressions.{CallsFit, fit_eval}

-- ---- what is returned

-- a value that a jump returns fits the type
abbrev EndFits : PlainType → End → Type 0
EndFits r (Leaves Breaks) = Unit {0}
EndFits r (Leaves Continues) = Unit {0}
EndFits r (Leaves (Returns None)) = FitsIn r NoValue
EndFits r (Leaves (Returns (Some v))) = FitsIn r v
EndFits r (Over e) = Unit {0}
EndFits r Stuck = Unit {0}

abbrev ReturnFits : {A : Type 0} → PlainType → Outcome A → Type 0
ReturnFits r (Normal a s) = Unit {0}
ReturnFits r (Stop e s) = EndFits r e

-- what jumps nowhere
quiet : {A : Type 0} (P : A → Type 0) (r : PlainType) (o : Outcome A) → EndsWell P NoJump o → ReturnFits r o
quiet P r (Normal a s) h = tt
quiet P r (Stop (Leaves l) s) h = absurd h
quiet P r (Stop (Over e) s) h = tt
quiet P r (Stop Stuck s) h = tt

bind_fits : {p : TranslationUnit} {A B : Type 0} (R : A → State → Type 0) (r : PlainType) (s : State) (o : Outcome A) (f : A → Evaluation B) → ReturnFits r o → After p R s o
    → ((a : A) (t : State) → IsSoundState p t → R a t → ReturnFits r (f a t)) → ReturnFits r (on_outcome o f)
bind_fits R r s (Normal a t) f h g k = k a t g.sound g.gives
bind_fits R r s (Stop e t) f h g k = h

restored_fits : {A : Type 0} (r : PlainType) (old : State) (o : Outcome A) → ReturnFits r o → ReturnFits r (restored old o)
restored_fits r old (Normal a s) h = tt
restored_fits r old (Stop e s) h = h

switch_fits : (r : PlainType) (o : Outcome (Unit {0})) → ReturnFits r o → ReturnFits r (after_switch o)
switch_fits r (Normal u s) h = tt
switch_fits r (Stop (Leaves Breaks) s) h = tt
switch_fits r (Stop (Leaves Continues) s) h = tt
switch_fits r (Stop (Leaves (Returns None)) s) h = h
switch_fits r (Stop (Leaves (Returns (Some v))) s) h = h
switch_fits r (Stop (Over e) s) h = tt
switch_fits r (Stop Stuck s) h = tt

returning : (r : PlainType) (o : Outcome Value) → Ends (FitsIn r) o → ReturnFits r o → ReturnFits r (on_outcome o (λ v. stop {A = Unit {0}} (Leaves (Returns (Some v)))))
returning r (Normal v s) h g = h
returning r (Stop e s) h g = g

judged_quiet : (r : PlainType) (a : Annotation) (answer : Answer) (s : State) → ReturnFits r (judged a answer s)
judged_quiet r a (Says true n) s = tt
judged_quiet r a (Says false n) s = tt
judged_quiet r a (SaysNothing n) s = tt
judged_quiet r a OutOfSteps s = tt

valued_quiet : (r : PlainType) (a : Annotation) (o : Option TermValue) (s : State) → ReturnFits r (valued a o s)
valued_quiet r a None s = tt
valued_quiet r a (Some (Addressed x)) s = tt
valued_quiet r a (Some (Mathematical z)) s = tt

module _ (p : TranslationUnit) where
  -- from each sound state
  abbrev Rets : {A : Type 0} → PlainType → Evaluation A → Type 0
  Rets r m = (s : State) → IsSoundState p s → ReturnFits r (m s)

  quietly : {A : Type 0} (P : A → Type 0) (r : PlainType) (m : Evaluation A) → Gives P NoJump m → Rets r m
  quietly P r m g s st = quiet P r (m s) (g.at s)

  rets_bind : {A B : Type 0} (R : A → State → Type 0) (r : PlainType) (m : Evaluation A) (f : A → Evaluation B) → Rets r m → Keeps p R m → ((a : A) (t : State) → IsSoundState p t → R a t → ReturnFits r (f a t))
      → Rets r (m >>= f)
  rets_bind R r m f h g k s st = bind_fits R r s (m s) f (h s st) (g s st) k

  rets_then : {A B : Type 0} (R : A → State → Type 0) (r : PlainType) (m : Evaluation A) (f : Evaluation B) → Rets r m → Keeps p R m → Rets r f → Rets r (m >> f)
  rets_then R r m f h g k s st = bind_fits R r s (m s) (λ _. f) (h s st) (g s st) (λ a t su x. k t su)

  rets_choose : (r : PlainType) (v : Value) (a b : Evaluation (Unit {0})) → Rets r a → Rets r b → Rets r (choose v a b)
  rets_choose r v a b h g = by (is_zero v)
    where
      by : (t : Bool) → Rets r (cond t b a)
      by true = g
      by false = h

  rets_done : (r : PlainType) → Rets r done
  rets_done r s st = tt

  rets_step : (r : PlainType) → Rets r step
  rets_step r s st = by s.steps
    where
      by : (n : ℕ) → ReturnFits r (step_from n s)
      by zero = tt
      by (suc n) = tt

  body_fits : (r : PlainType) (s : State) (o : Outcome (Unit {0})) (again : Evaluation (Unit {0})) → ReturnFits r o → After p Any s o → Rets r again → ReturnFits r (after_body o again)
  body_fits r s (Normal u t) again h g k = k t g.sound
  body_fits r s (Stop (Leaves Continues) t) again h g k = k t g.sound
  body_fits r s (Stop (Leaves Breaks) t) again h g k = tt
  body_fits r s (Stop (Leaves (Returns None)) t) again h g k = h
  body_fits r s (Stop (Leaves (Returns (Some v))) t) again h g k = h
  body_fits r s (Stop (Over e) t) again h g k = tt
  body_fits r s (Stop Stuck t) again h g k = tt

  rets_turn : (r : PlainType) (v : Option (Annotation × LogicTerm)) (body behind again : Evaluation (Unit {0})) → Rets r body → Keeps p Any body → Rets r behind → Keeps p Any behind → Rets r again
      → Rets r (turn_with v body behind again)
  rets_turn r None body behind again h g f e k = λ s st. body_fits r s (body s) (behind >> again) (h s st) (g s st) (rets_then Any r behind again f e k)
  rets_turn r (Some v) body behind again h g f e k =
      let asked : Rets r (value_of v.0 v.1) = λ s st. valued_quiet r v.0 (term v.1 s []) s in
      rets_bind Any r (value_of v.0 v.1) _ asked (keeps_value v.0 v.1) (λ old t su x.
      let less : Rets r (value_of v.0 v.1 >>= compared v.0 old) =
      rets_bind Any r (value_of v.0 v.1) (compared v.0 old) asked (keeps_value v.0 v.1) (λ new w sw y. judged_quiet r v.0 (Says (is_smaller old new) w.steps) w) in
      body_fits r t (body t) (behind >> (value_of v.0 v.1 >>= compared v.0 old) >> again) (h t su) (g t su)
      (rets_then Any r (behind >> (value_of v.0 v.1 >>= compared v.0 old)) again (rets_then Any r behind (value_of v.0 v.1 >>= compared v.0 old) f e less)
      (keeps_then Any Any behind (value_of v.0 v.1 >>= compared v.0 old) e (keeps_bind Any Any (value_of v.0 v.1) (compared v.0 old) (keeps_value v.0 v.1) (λ new w sw y. keeps_compared v.0 old new w sw))) k))

  rets_turns : (r : PlainType) (n : ℕ) (test : Evaluation Value) (turn : Evaluation (Unit {0}) → Evaluation (Unit {0})) → Rets r test → Keeps p Any test
      → ((again : Evaluation (Unit {0})) → Rets r again → Rets r (turn again)) → Rets r (turns n test turn)
  rets_turns r zero test turn h g k = λ s st. tt
  rets_turns r (suc n) test turn h g k =
      let next : Rets r (step >> turn (turns n test turn)) = rets_then Any r step (turn (turns n test turn)) (rets_step r) keeps_step (k (turns n test turn) (rets_turns r n test turn h g k)) in
      rets_bind Any r test _ h g (λ v t su x. rets_choose r v (step >> turn (turns n test turn)) done next (rets_done r) t su)

  rets_do_turns : (r : PlainType) (n : ℕ) (test : Evaluation Value) (body : Evaluation (Unit {0})) → Rets r test → Keeps p Any test → Rets r body → Keeps p Any body → Rets r (do_turns n test body)
  rets_do_turns r zero test body h g f e = λ s st. tt
  rets_do_turns r (suc n) test body h g f e =
      let again : Rets r (test >>= λ v. choose v (do_turns n test body) done) =
      rets_bind Any r test _ h g (λ v t su x. rets_choose r v (do_turns n test body) done (rets_do_turns r n test body h g f e) (rets_done r) t su) in
      rets_then Any r step _ (rets_step r) keeps_step (λ s st. body_fits r s (body s) (test >>= λ v. choose v (do_turns n test body) done) (f s st) (e s st) again)

  module _ (call : Callee) (c : CallsKeepSound p call) (octets : (n : ℕ) → AreBytes (text_at (tables_of p).texts n)) (calls : CallsGive p call) (fit : CallsFit p call) where
    abbrev T : Tables
    T = tables_of p

    -- ---- statements

    quiet_condition : (sight : Sight) → Sees p sight → (r : PlainType) (e : Expression) → IsCondition sight e → Rets r (condition_of T e call)
    quiet_condition sight see r e w = quietly Anything r (condition_of T e call) (gives_condition_of p T refl call calls {L = NoJump} sight see e w)

    mutual
      rets_exec : (sight : Sight) → Sees p sight → (r : Around) (a : Statement) → StatementTyped sight r a → EachIn LettersFit a → EachIn AreDirect a → Declares p (declared_within a) → (n : ℕ) → Rets r.result (exec_with T a call n)
      rets_exec sight see r (Empty at) w l d q n = λ s st. tt
      rets_exec sight see r (Eval at e) w l d q n =
          quietly Anything r.result (eval_with T e call >> done) (gives_then _ _ (gives_value p T refl call calls {L = NoJump} sight see e w) (gives_give tt tt))
      rets_exec sight see r (Block at items) w l d q n = λ s st.
          restored_fits r.result s ((births T.structs (declared_in items) >> items_with T items call n) s)
          (rets_then Any r.result (births T.structs (declared_in items)) (items_with T items call n) (quietly Anything r.result _ (gives_births {L = NoJump} T.structs (declared_in items)))
          (keeps_births (declared_in items) (λ x m. q x (directly_in items x m))) (rets_items (inner sight) (sees_inner p sight see) r items w l d q n) s st)
      rets_exec sight see r (If at e a b) w l d q n =
          rets_bind Any r.result (condition_of T e call) _ (quiet_condition sight see r.result e w.0) (keeps_condition_of call c octets e d.0) (λ v t su x.
          rets_choose r.result v (exec_with T a call n) (else_with T b call n) (rets_exec sight see r a w.1 l.1 d.1 (declares_left p (declared_within a) (declared_in_else b) q) n)
          (rets_else sight see r b w.2 l.2 d.2 (declares_right p (declared_within a) (declared_in_else b) q) n) t su)
      rets_exec sight see r (While at annots e a) w l d q n =
          rets_turns r.result n (invariants annots >> condition_of T e call) (turn_with (variant annots) (exec_with T a call n) done)
          (rets_then Any r.result (invariants annots) (condition_of T e call) (quietly Anything r.result _ (gives_invariants {L = NoJump} annots)) (keeps_invariants annots) (quiet_condition sight see r.result e w.0))
          (keeps_then Any Any (invariants annots) (condition_of T e call) (keeps_invariants annots) (keeps_condition_of call c octets e d.0))
          (λ again k. rets_turn r.result (variant annots) (exec_with T a call n) done again (rets_exec sight see (in_loop r) a w.1 l.1 d.1 q n) (keeps_exec call c octets a d.1 q n) (rets_done r.result) keeps_done k)
      rets_exec sight see r (Do at a e) w l d q n =
          rets_do_turns r.result n (condition_of T e call) (exec_with T a call n) (quiet_condition sight see r.result e w.1) (keeps_condition_of call c octets e d.1)
          (rets_exec sight see (in_loop r) a w.0 l.0 d.0 q n) (keeps_exec call c octets a d.0 q n)
      rets_exec sight see r (For at annots first e later a) w l d q n =
          let i = sees_inner p sight see in
          let t = behind_first (inner sight) first in
          let f = sees_first p first (inner sight) i in
          let left = declares_left p (declared_in_first first) (declared_within a) q in
          let right = declares_right p (declared_in_first first) (declared_within a) q in
          λ s st. restored_fits r.result s _
          (rets_then Any r.result (births T.structs (declared_first first) >> first_with T first call n) _
          (rets_then Any r.result (births T.structs (declared_first first)) (first_with T first call n) (quietly Anything r.result _ (gives_births {L = NoJump} T.structs (declared_first first)))
          (keeps_births (declared_first first) (λ x m. left x (directly_first first x m))) (rets_first (inner sight) i r first w.0 l.0 d.0 left n))
          (keeps_then Any Any (births T.structs (declared_first first)) (first_with T first call n) (keeps_births (declared_first first) (λ x m. left x (directly_first first x m))) (keeps_first call c octets first d.0 left n))
          (rets_turns r.result n (invariants annots >> condition_with T e call) (turn_with (variant annots) (exec_with T a call n) (effect_with T later call))
          (rets_then Any r.result (invariants annots) (condition_with T e call) (quietly Anything r.result _ (gives_invariants {L = NoJump} annots)) (keeps_invariants annots)
          (quietly Anything r.result _ (gives_condition p T refl call calls {L = NoJump} t f e w.1)))
          (keeps_then Any Any (invariants annots) (condition_with T e call) (keeps_invariants annots) (keeps_condition call c octets e d.1))
          (λ again k. rets_turn r.result (variant annots) (exec_with T a call n) (effect_with T later call) again (rets_exec t f (in_loop r) a w.3 l.3 d.3 right n) (keeps_exec call c octets a d.3 right n)
          (quietly Anything r.result _ (gives_effect p T refl call calls {L = NoJump} t f later w.2)) (keeps_effect call c octets later d.2) k)) s st)
      rets_exec sight see r (Break at) w l d q n = λ s st. tt
      rets_exec sight see r (Continue at) w l d q n = λ s st. tt
      rets_exec sight see r (Return at None) w l d q n = λ s st. fits_as r.result Void NoValue w tt
      rets_exec sight see r (Return at (Some e)) w l d q n = λ s st.
          returning r.result (eval_with T e call s) (subst (λ t. Ends (FitsIn t) (eval_with T e call s)) w.ctype (fit_eval p call c fit sight see e w.typed l d s st))
          (quiet _ r.result (eval_with T e call s) ((gives_value p T refl call calls {L = NoJump} sight see e w.typed).at s))
      rets_exec sight see r (Labelled at x a) w l d q n =
          rets_then Any r.result (mark (Some x)) (exec_with T a call n) (quietly Anything r.result _ (gives_mark {L = NoJump} (Some x))) (keeps_mark (Some x)) (rets_exec sight see r a w l d q n)
      rets_exec sight see r (Switch at e cases) w l d q n =
          rets_bind Placed r.result (eval_with T e call) _ (quietly _ r.result _ (gives_value p T refl call calls {L = NoJump} sight see e w.1)) (λ s st. sound_eval call c e d.0 s st)
          (λ v t su x. switch_fits r.result _ (rets_cases sight see (in_switch r) (promoted w.0) cases w.3 l.1 d.1 q n (chosen_case v cases) t su))

      rets_cases : (sight : Sight) → Sees p sight → (r : Around) (k : CInt) (cases : Cases) → CasesTyped sight r k cases → EachInCases LettersFit cases → EachInCases AreDirect cases → Declares p (declared_in_cases cases)
          → (n j : ℕ) → Rets r.result (cases_with T cases call n j)
      rets_cases sight see r k NoCase w l d q n j = λ s st. tt
      rets_cases sight see r k (AnotherCase at v items rest) w l d q n zero =
          let left = declares_left p (declared_in_items items) (declared_in_cases rest) q in
          rets_then Any r.result (items_with T items call n) (cases_with T rest call n zero) (rets_items sight see r items w.1 l.0 d.0 left n) (keeps_items call c octets items d.0 left n)
          (rets_cases sight see r k rest w.2 l.1 d.1 (declares_right p (declared_in_items items) (declared_in_cases rest) q) n zero)
      rets_cases sight see r k (AnotherCase at v items rest) w l d q n (suc j) = rets_cases sight see r k rest w.2 l.1 d.1 (declares_right p (declared_in_items items) (declared_in_cases rest) q) n j

      rets_else : (sight : Sight) → Sees p sight → (r : Around) (b : ElsePart) → ElseTyped sight r b → EachInElse LettersFit b → EachInElse AreDirect b → Declares p (declared_in_else b) → (n : ℕ) → Rets r.result (else_with T b call n)
      rets_else sight see r NoElse w l d q n = λ s st. tt
      rets_else sight see r (Else a) w l d q n = rets_exec sight see r a w l d q n

      rets_first : (sight : Sight) → Sees p sight → (r : Around) (first : ForFirst) → FirstTyped sight r first → EachInFirst LettersFit first → EachInFirst AreDirect first → Declares p (declared_in_first first)
          → (n : ℕ) → Rets r.result (first_with T first call n)
      rets_first sight see r NoFirst w l d q n = λ s st. tt
      rets_first sight see r (First i) w l d q n = rets_item sight see r i w l d q n

      rets_item : (sight : Sight) → Sees p sight → (r : Around) (i : BlockItem) → ItemTyped sight r i → EachInItem LettersFit i → EachInItem AreDirect i → Declares p (declared_in_item i) → (n : ℕ) → Rets r.result (item_with T i call n)
      rets_item sight see r (Declare ds) w l d q n = quietly Anything r.result _ (gives_initialise_all p T refl call calls {L = NoJump} sight see ds w)
      rets_item sight see r (Specify at t) w l d q n = λ s st. tt
      rets_item sight see r (Run a) w l d q n = rets_exec sight see r a w l d q n
      rets_item sight see r (Asserts annots) w l d q n = quietly Anything r.result _ (gives_checks {L = NoJump} annots)

      rets_items : (sight : Sight) → Sees p sight → (r : Around) (items : BlockItems) → ItemsTyped sight r items → EachInItems LettersFit items → EachInItems AreDirect items → Declares p (declared_in_items items)
          → (n : ℕ) → Rets r.result (items_with T items call n)
      rets_items sight see r NoItem w l d q n = λ s st. tt
      rets_items sight see r (Then i rest) w l d q n =
          let left = declares_left p (declared_in_item i) (declared_in_items rest) q in
          rets_then Any r.result (item_with T i call n) (items_with T rest call n) (rets_item sight see r i w.0 l.0 d.0 left n) (keeps_item call c octets i d.0 left n)
          (rets_items (behind sight i) (sees_behind p i sight see) r rest w.1 l.1 d.1 (declares_right p (declared_in_item i) (declared_in_items rest) q) n)

    rets_body : (sight : Sight) → Sees p sight → (t : PlainType) (body : Option Statement) → BodyRead AreAsserts AreLoopClauses body → BodyTyped sight t body → EachInBody LettersFit body → WhereAny (EachIn AreDirect) body
        → Declares p (declared_in_body body) → (n : ℕ) → Rets t (body_with T body call n)
    rets_body sight see t None read w l d q n = λ s st. tt
    rets_body sight see t (Some (Block at items)) read w l d q n = λ s st.
        restored_fits t s ((births T.structs (declared_in items) >> items_with T items call n) s)
        (rets_then Any t (births T.structs (declared_in items)) (items_with T items call n) (quietly Anything t _ (gives_births {L = NoJump} T.structs (declared_in items)))
        (keeps_births (declared_in items) (λ x m. q x (directly_in items x m))) (rets_items sight see (around_body t) items w l d q n) s st)
    rets_body sight see t (Some _) read w l d q n = absurd read

    -- ---- calls

    close_fits : (close : Place) (t : PlainType) (s : State) → Ends (FitsIn t) (at_close close t s)
    close_fits close t s = by (scalar_of t) refl
      where
        closing : Option Scalar → Evaluation Value
        closing o = elim o [ None ↦ give NoValue | Some k ↦ stop (Over (Undefined close)) ]

        by : (o : Option Scalar) → scalar_of t ≡ o → Ends (FitsIn t) (closing o s)
        by None e = no_scalar_fits t NoValue e
        by (Some k) e = tt

    returned_fits : (f : Function) (o : Outcome (Unit {0})) → ReturnFits f.result o → Ends (FitsIn f.result) (returned_by f o)
    returned_fits f (Normal u s) h = close_fits f.close f.result s
    returned_fits f (Stop (Leaves Breaks) s) h = tt
    returned_fits f (Stop (Leaves Continues) s) h = tt
    returned_fits f (Stop (Leaves (Returns None)) s) h = h
    returned_fits f (Stop (Leaves (Returns (Some v))) s) h = h
    returned_fits f (Stop (Over e) s) h = tt
    returned_fits f (Stop Stuck s) h = tt

    answered_fits : (P : Value → Type 0) (old : State) (o : Outcome Value) → Ends P o → Ends P (answered old o)
    answered_fits P old (Normal v s) h = h
    answered_fits P old (Stop e s) h = tt

    result_fits : (f : Function) (hs : List Bool) (n : ℕ) → IsOwn p f → Rets f.result (body_with T f.body call n) → (s : State) → IsSoundState p s → Ends (FitsIn f.result) (result_with T f hs call n s)
    result_fits f hs n own rets s st =
        on_ends Placed (FitsIn f.result) (FitsIn f.result) s (returned_by f (body_with T f.body call n s)) (λ v. ending f.contract hs v >> give v)
        (after_returned f s (body_with T f.body call n s) (keeps_body_of call c octets f.body own.body own.variables n s st)) (returned_fits f (body_with T f.body call n s) (rets s st))
        (λ v t stay su g h. on_after Any (FitsIn f.result) t (ending f.contract hs v t) (λ _. give v) (keeps_ending f.contract hs v t su) (λ a u on sv x. h))

    call_fits : (f : Function) (n : ℕ) (at : Place) (vs : List Value) → IsOwn p f → Rets f.result (body_with T f.body call n) → (s : State) → IsSoundState p s → AllPlaced vs s
        → Ends (FitsIn f.result) (call_with T (global_scope p) (Some f) call n at vs s)
    call_fits f n at vs own rets s st h =
        on_after Any (FitsIn f.result) s (step s) (λ _. called (begun >> (entry f.contract >>= λ hs. result_with T f hs call n))) (keeps_step s st) (λ a u stay su _.
        answered_fits (FitsIn f.result) u ((begun >> (entry f.contract >>= λ hs. result_with T f hs call n)) u)
        (on_after Any (FitsIn f.result) u (begun u) (λ _. entry f.contract >>= λ hs. result_with T f hs call n) (after_begun u su (vals_onward s u vs stay h)) (λ b w on sw _.
        on_after Any (FitsIn f.result) w (entry f.contract w) (λ hs. result_with T f hs call n) (keeps_entry f.contract w sw) (λ hs z on2 sz _. result_fits f hs n own rets z sz))))
      where
        begun : Evaluation (Unit {0})
        begun = frame >> alone (global_scope p) >> parameters T at f.params vs >> mark None

        after_begun : (u : State) → IsSoundState p u → AllPlaced vs u → After p Any u (begun u)
        after_begun u su k =
            after_bind Any Any u ((frame >> alone (global_scope p) >> parameters T at f.params vs) u) (λ _. mark None)
            (after_bind Any Any u ((frame >> alone (global_scope p)) u) (λ _. parameters T at f.params vs) (keeps_then Any Any frame (alone (global_scope p)) keeps_frame keeps_alone u su)
            (λ a w stay sw _. after_parameters call c octets at f.params vs own.params w sw (vals_onward u w vs stay k)))
            (λ a w stay sw _. keeps_mark None w sw)

-- ---- the library

byte_fits : (n : ℕ) → n < 256 → fits I32 (pos n) ≡ true
byte_fits n h = lt-ltb _ _ (omega (arith, h))

written_fits : (z : ℤ) → fits I32 (pos (byte_of z)) ≡ true
written_fits (pos n) = byte_fits (n % 256) (omega arith)
written_fits (negsuc n) = byte_fits (255 - n % 256) (omega arith)

put_fits : (at : Place) (vs : List Value) (s : State) → Ends (FitsIn int_type) (put_char at vs s)
put_fits at [] s = tt
put_fits at (NoValue ∷ []) s = tt
put_fits at (Points p ∷ []) s = tt
put_fits at (Integer z ∷ []) s = written_fits z
put_fits at (v ∷ w ∷ vs) s = tt

byte_read_fits : (bytes : List ℕ) (tail : InputTail) (s : State) → Ends (FitsIn int_type) (read_byte bytes tail s)
byte_read_fits [] EndOfInput s = refl
byte_read_fits [] InputFault s = tt
byte_read_fits (b ∷ bs) tail s = byte_fits (b % 256) (omega arith)

get_fits : (at : Place) (vs : List Value) (s : State) → Ends (FitsIn int_type) (get_char at vs s)
get_fits at [] s = byte_read_fits s.input.bytes s.input.tail s
get_fits at (v ∷ vs) s = tt

library_named : (T : Tables) (at : Place) (x : ℕ) (w : List ℕ) (vs : List Value) (g : Signature) (s : State) → library_function x w ≡ Some g → Ends (FitsIn g.result) (library_call T at (Some w) vs s)
library_named T at x w vs g s =
    by (bytes_eq w (codes "putchar")) (bytes_eq w (codes "getchar")) (bytes_eq w (codes "exit")) (bytes_eq w (codes "malloc")) (bytes_eq w (codes "calloc")) (bytes_eq w (codes "free"))
    (bytes_eq w (codes "printf"))
  where
    result_of : (h : Signature) (m : Evaluation Value) → Ends (FitsIn h.result) (m s) → Some h ≡ Some g → Ends (FitsIn g.result) (m s)
    result_of h m fit e = let same : h ≡ g = cc in subst (λ (f : Signature). Ends (FitsIn f.result) (m s)) same fit

    pointer : (m : Evaluation Value) → Gives IsAddress NoJump m → Ends (FitsIn (Ptr Void)) (m s)
    pointer m g = well_ends (FitsIn (Ptr Void)) (m s) (g.at s)

    by : (a b c d e f h : Bool) → (if a then Some (of_library x (int_type ∷ []) int_type) else (if b then Some (of_library x [] int_type) else (if c then Some (of_library x (int_type ∷ []) Void)
        else (if d then Some (of_library x (Int U64 ∷ []) (Ptr Void)) else (if e then Some (of_library x (Int U64 ∷ Int U64 ∷ []) (Ptr Void)) else (if f then Some (of_library x (Ptr Void ∷ []) Void)
        else (if h then Some (of_library x (Ptr (Int I8) ∷ []) Void) else None))))))) ≡ Some g
        → Ends (FitsIn g.result) ((if a then put_char at vs else (if b then get_char at vs else (if c then exit_with at vs else
        (if d then malloc_with at vs else (if e then calloc_with at vs else (if f then free_with at vs else (if h then printf_with T at vs else stop (Over (Undefined at))))))))) s)
    by true b c d e f h is = result_of _ (put_char at vs) (put_fits at vs s) is
    by false true c d e f h is = result_of _ (get_char at vs) (get_fits at vs s) is
    by false false true d e f h is = result_of _ (exit_with at vs) (some_ends (FitsIn Void) (exit_with at vs s) (λ v. tt)) is
    by false false false true e f h is = result_of _ (malloc_with at vs) (pointer (malloc_with at vs) (gives_malloc at vs)) is
    by false false false false true f h is = result_of _ (calloc_with at vs) (pointer (calloc_with at vs) (gives_calloc at vs)) is
    by false false false false false true h is = result_of _ (free_with at vs) (some_ends (FitsIn Void) (free_with at vs s) (λ v. tt)) is
    by false false false false false false true is = result_of _ (printf_with T at vs) (some_ends (FitsIn Void) (printf_with T at vs s) (λ v. tt)) is
    by false false false false false false false is = absurd cc

library_fits : (T : Tables) (x : ℕ) (o : Option (List ℕ)) (g : Signature) → library_function x (elim o [ None ↦ [] | Some w ↦ w ]) ≡ Some g → (at : Place) (vs : List Value) (s : State) → Ends (FitsIn g.result) (library_call T at o vs s)
library_fits T x None g e at vs s = tt
library_fits T x (Some w) g e at vs s = library_named T at x w vs g s e

-- ---- functions of the program

-- a definition of the program, or a function of the library
data IsCalled (p : TranslationUnit) (f : Use) (t : PlainType) : Type 0 where
  CallsFunction : (g : Function) → is_of_library f ≡ false → definition_at f.decl p.funcs ≡ Some g → t ≡ g.result → IsCalled p f t
  CallsLibrary : is_of_library f ≡ true → ((at : Place) (vs : List Value) (s : State) → Ends (FitsIn t) (library_call (tables_of p) at (slice_get p.names f.name) vs s)) → IsCalled p f t

is_called : (p : TranslationUnit) (sight : Sight) → Sees p sight → (f : Use) (t : PlainType) (es : Expressions) → Calls sight f t es → IsCalled p f t
is_called p sight see f t es c = by (function_called f.name sight.functions) refl c.found
  where
    by : (o : Option Signature) → function_called f.name sight.functions ≡ o → or_else o (library_function f.name (name_at sight.names f.name)) ≡ Some c.callee → IsCalled p f t
    by (Some g) e found =
        let same : g ≡ c.callee = cc in
        let d = see.defined f.name c.callee (e ∙ ap Some same) c.defined in
        CallsFunction d.function (ap (λ n. nat_eq n 4294967295) c.decl ∙ d.own) (ap (λ n. definition_at n p.funcs) c.decl ∙ d.at) (c.result ∙ d.result)
    by None e found =
        let in_text : library_function f.name (name_at p.names f.name) ≡ Some c.callee = ap (λ ns. library_function f.name (name_at ns f.name)) (sym see.names) ∙ found in
        CallsLibrary (ap (λ n. nat_eq n 4294967295) c.decl ∙ library_number f.name (name_at sight.names f.name) c.callee found)
        (λ at vs s. subst (λ u. Ends (FitsIn u) (library_call (tables_of p) at (slice_get p.names f.name) vs s)) (sym c.result) (library_fits (tables_of p) f.name (slice_get p.names f.name) c.callee in_text at vs s))

-- where a function stands
record Stands (fs : List Function) (f : Function) : Type 0 where
  index : ℕ
  is : slice_get fs index ≡ Some f

stands_at : (n : ℕ) (fs : List Function) (g : Function) → definition_at n fs ≡ Some g → Stands fs g
stands_at n [] g e = absurd cc
stands_at n (f ∷ fs) g e = by (is_definition f && nat_eq f.place.offset n) (λ h. stands_at n fs g h) e
  where
    by : (t : Bool) → (definition_at n fs ≡ Some g → Stands fs g) → (if t then Some f else definition_at n fs) ≡ Some g → Stands (f ∷ fs) g
    by true rest h = record { index = 0; is = h }
    by false rest h = let s = rest h in record { index = suc s.index; is = s.is }

-- the functions before and after it
record IsBetween (fs : List Function) (f : Function) : Type 0 where
  before : List Function
  after : List Function
  is : before ++ (f ∷ after) ≡ fs

between : (fs : List Function) (i : ℕ) (f : Function) → slice_get fs i ≡ Some f → IsBetween fs f
between [] i f e = absurd cc
between (g ∷ fs) zero f e = let same : g ≡ f = cc in record { before = []; after = fs; is = ap (λ h. h ∷ fs) (sym same) }
between (g ∷ fs) (suc i) f e = let b = between fs i f e in record { before = g ∷ b.before; after = b.after; is = ap (λ l. g ∷ l) b.is }

read_at : (fs : List Function) (i : ℕ) (f : Function) → FunctionsRead AreAsserts AreLoopClauses fs → slice_get fs i ≡ Some f → FunctionRead AreAsserts AreLoopClauses f
read_at [] i f h e = absurd cc
read_at (g ∷ fs) zero f h e = let same : g ≡ f = cc in subst (FunctionRead AreAsserts AreLoopClauses) same h.0
read_at (g ∷ fs) (suc i) f h e = read_at fs i f h.1 e

letters_at : (fs : List Function) (i : ℕ) (f : Function) → EachInFunctions LettersFit fs → slice_get fs i ≡ Some f → EachInBody LettersFit f.body
letters_at [] i f h e = absurd cc
letters_at (g ∷ fs) zero f h e = let same : g ≡ f = cc in subst (λ (x : Function). EachInBody LettersFit x.body) same h.0
letters_at (g ∷ fs) (suc i) f h e = letters_at fs i f h.1 e

value_in : (store : Store) (t : PlainType) (v : Value) → FitsIn t v → IsPlacedValue store v → IsValueIn store t v
value_in store (Int k) (Integer z) h g = (z, refl, h)
value_in store (Int k) (Points q) h g = absurd h
value_in store (Int k) NoValue h g = absurd h
value_in store (Ptr t) (Points q) h g = (q, refl, g)
value_in store (Ptr t) (Integer z) h g = absurd h
value_in store (Ptr t) NoValue h g = absurd h
value_in store Void v h g = tt
value_in store (Array t n) v h g = tt
value_in store (Struct n) v h g = tt
value_in store (Named x) v h g = tt
value_in store (StructTag x tag) v h g = tt
value_in store (EnumTag x at) v h g = tt

module _ (p : TranslationUnit) (q : IsProgram p) where
  direct : IsDirect p
  direct = programs_are_direct p q

  own : (i : ℕ) (f : Function) → slice_get p.funcs i ≡ Some f → IsOwn p f
  own i f e = own_indexed p i f p.funcs direct.bodies (in_functions p) e

  -- where calls in its body give values of their types, a function does
  function_fits : (i : ℕ) (f : Function) → slice_get p.funcs i ≡ Some f → (n : ℕ) → CallsFit p (call_of p n) → Rets p f.result (body_with (tables_of p) f.body (call_of p n) n)
  function_fits i f e n fit =
      let b = between p.funcs i f e in
      let here = function_in_sight p q.typed q.resolved b.before b.after f b.is in
      let o = own i f e in
      let inside = inner here.sight in
      rets_body p (call_of p n) (calls_keep_sound p direct n) direct.octets (calls_give p q n) fit (with_parameters inside f.params) (sees_parameters p f.params inside (sees_inner p here.sight here.sees)) f.result f.body
      (read_at p.funcs i f q.effects e).body here.typed.body (letters_at p.funcs i f q.characters.funcs e) o.body o.variables n

  abbrev EndsIn : ℕ → Use → PlainType → Place → List Value → State → Bool → Option Function → Type 0
  EndsIn n f t at vs s b o = Ends (FitsIn t) ((if b then library_call (tables_of p) at (slice_get p.names f.name) vs else call_with (tables_of p) (global_scope p) o (call_of p n) n at vs) s)

  calls_fit : (n : ℕ) → CallsFit p (call_of p n)
  calls_fit zero sight see f t es c at vs s st pl = by (is_called p sight see f t es c)
    where
      by : IsCalled p f t → Ends (FitsIn t) (call_of p zero at f vs s)
      by (CallsFunction g other found result) = subst (λ b. Ends (FitsIn t) ((if b then library_call (tables_of p) at (slice_get p.names f.name) vs else stop (Over Spent)) s)) (sym other) tt
      by (CallsLibrary is fit) = subst (λ b. Ends (FitsIn t) ((if b then library_call (tables_of p) at (slice_get p.names f.name) vs else stop (Over Spent)) s)) (sym is) (fit at vs s)
  calls_fit (suc n) sight see f t es c at vs s st pl = by (calls_fit n) (is_called p sight see f t es c)
    where
      by : CallsFit p (call_of p n) → IsCalled p f t → EndsIn n f t at vs s (is_of_library f) (definition_at f.decl p.funcs)
      by below (CallsFunction g other found result) =
          let i = stands_at f.decl p.funcs g found in
          let mine : EndsIn n f t at vs s false (Some g) =
          subst (λ u. Ends (FitsIn u) (call_with (tables_of p) (global_scope p) (Some g) (call_of p n) n at vs s)) (sym result)
          (call_fits p (call_of p n) (calls_keep_sound p direct n) direct.octets (calls_give p q n) below g n at vs (own i.index g i.is) (function_fits i.index g i.is n below) s st pl) in
          subst (λ b. EndsIn n f t at vs s b (definition_at f.decl p.funcs)) (sym other) (subst (λ o. EndsIn n f t at vs s false o) (sym found) mine)
      by below (CallsLibrary is fit) =
          let mine : EndsIn n f t at vs s true (definition_at f.decl p.funcs) = fit at vs s in
          subst (λ b. EndsIn n f t at vs s b (definition_at f.decl p.funcs)) (sym is) mine

  pub results_fit : (i : ℕ) (f : Function) → slice_get p.funcs i ≡ Some f → GivesResult p f
  results_fit i f e n s t v st is =
      let o = own i f e in
      let body = body_with (tables_of p) f.body (call_of p n) n s in
      let fit = returned_fits p (call_of p n) (calls_keep_sound p direct n) direct.octets (calls_give p q n) (calls_fit n) f body (function_fits i f e n (calls_fit n) s st) in
      let after = after_returned f s body (keeps_body_of (call_of p n) (calls_keep_sound p direct n) direct.octets f.body o.body o.variables n s st) in
      by (returned_by f body) is fit after
    where
      by : (o : Outcome Value) → o ≡ Normal v t → Ends (FitsIn f.result) o → After p Placed s o → IsValueIn t.store f.result v
      by (Normal w u) same h g =
          let values : w ≡ v = cc in
          let states : u ≡ t = cc in
          subst (λ x. IsValueIn x.store f.result v) states (subst (λ x. IsValueIn u.store f.result x) values (value_in u.store f.result w h g.gives))
      by (Stop e u) same h g = absurd cc
