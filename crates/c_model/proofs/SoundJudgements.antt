-- Each state in which a run judges an annotation is sound.
use Rattle.std.proofs.Common.{◌≡◌, ℕ, zero, suc, pos, Bool, true, false, cond, if◌then◌else◌, ◌&&◌, nat_eq, List, [], ◌∷◌, ◌++◌, Option, Some, None, slice_get, codes, refl, sym, ap, subst}
use Rattle.std.specs.List.{AllByRecursion}
use Rattle.c_syntax.specs.declared.place.Place.{Place}
use Rattle.c_syntax.specs.declared.expression.Use.{Use}
use Rattle.c_syntax.specs.declared.expression.UnOp.TheVariants as unary
use Rattle.c_syntax.specs.Ctypes.{PlainType, Void, Int, Ptr, Array, Struct, Named, StructTag, EnumTag}
use Rattle.c_syntax.specs.Layouts.{Scalar, scalar_of}
use Rattle.c_syntax.specs.Expressions.{Expression, Node, Number, Letter, Text, Variable, Unary, Binary, Both, Either, Choice, Assign, Bump, Call, Cast}
use Rattle.c_syntax.specs.Expressions.{SizeOfType, SizeOfExpr, Index, Dot, Arrow, Comma, Expressions, NoExpression, Following, type_of}
use Rattle.c_syntax.specs.Statements.{Initialiser, One, Many, Initialisers, NoInitialiser, Listed, Declaration, Statement, Empty, Eval, Block, If, While, Do}
use Rattle.c_syntax.specs.Statements.{For, Break, Continue, Return, Labelled, ElsePart, NoElse, Else, ForFirst, NoFirst, First, BlockItem, Declare, Specify, Run}
use Rattle.c_syntax.specs.Statements.{Asserts, BlockItems, NoItem, Then, Switch, Cases, NoCase, AnotherCase}
use Rattle.c_syntax.specs.Programs.{NamedBehavior, FunctionContract, Function, TranslationUnit}
use Rattle.c_syntax.specs.Logic as logic
use Rattle.c_syntax.specs.Logic.{LogicTerm, ClauseBody, Raw, Holds, Behaviors, Annotation}
use Rattle.c_syntax.specs.declared.types.CInt.{CInt}
use Rattle.c_syntax.specs.declared.types.CInt.TheVariants.{I8, U8, I16, U16, I32, U32, I64, U64}
use Rattle.c_model.specs.Integers.{fits}
use Rattle.c_model.specs.Memory.{Pointer, Value, Integer, Points, NoValue, Store, shifted}
use Rattle.c_model.specs.State.{State, Breaks, Continues, Returns, Leaves, Over, Stuck, Outcome, Normal, Stop, Evaluation, ◌>>=◌, ◌>>◌, done}
use Rattle.c_model.specs.State.{step, object, read, as_scalar, births, alone, frame, mark}
use Rattle.c_model.specs.Predicates.{check, invariant, invariants, variant, value_of, compared}
use Rattle.c_model.specs.ContractChecks.{Check, checked, holds_at, all_hold, entry_checks, leave_checks, entry}
use Rattle.c_model.specs.Meaning.{Tables, Callee, is_zero, is_array, is_of_library, is_definition, has_name, text_at, eval_with, place_with, evals_with, condition_of, condition_with, effect_with}
use Rattle.c_model.specs.Meaning.{declared_in, declared_first, string_in, fill, initialise, initialise_all, parts_or_itself, parameters, exec_with, first_with}
use Rattle.c_model.specs.Meaning.{item_with, items_with, body_with, chosen_case, returned_by, definition_at, function_named, call_of, tables_of, global_scope}
use Rattle.c_model.specs.FullExpressions.{EachInitial, EachPart, EachDeclared, EachIn, EachInCases, EachInElse, EachInFirst, EachInItem, EachInItems}
use Rattle.c_model.specs.Formed.{declared_within, declared_in_cases, declared_in_else, declared_in_first, declared_in_item, declared_in_items, declared_in_body}
use Rattle.c_model.specs.HeapLaws.{BlocksStay}
use Rattle.c_model.specs.ReadTree.{AreBytes}
use Rattle.c_model.specs.SoundStates.{IsSoundState, AreDirect, AllDirect, After, Any, Placed, AllPlaced, Declares, CallsKeepSound, IsDirect}
use Rattle.c_model.specs.TypedTrees.{WhereAny, IsInteger}
use Rattle.c_model.proofs.SoundStores.{value_onward}
use Rattle.c_model.proofs.SoundRuns.{vals_onward, after_bind, after_scalar, after_read, sound_eval, sound_place, sound_evals, PlaceOf}
use Rattle.c_model.proofs.SoundSteps.{Keeps, keeps_bind, keeps_then, keeps_done, keeps_step, keeps_check, keeps_invariant, keeps_invariants, keeps_value, keeps_compared, keeps_checked}
use Rattle.c_model.proofs.SoundSteps.{keeps_entry, keeps_alone, keeps_mark, keeps_frame, keeps_births}
use Rattle.c_model.proofs.SoundStatements.{object_any, declares_left, declares_right, directly_in, directly_first, keeps_condition_of, keeps_condition, keeps_effect, keeps_fill}
use Rattle.c_model.proofs.SoundStatements.{keeps_initialise, keeps_initialise_all, keeps_exec, keeps_first, keeps_item, keeps_items, keeps_body_of}
use Rattle.c_model.proofs.SoundCalls.{IsOwn, after_parameters, after_returned, own_at, own_named, in_functions, calls_keep_sound}
use Rattle.c_model.specs.JudgedStates.{Result, Judgement, Judges, none, judged_behind, judged_then, judged_check, judged_checks, judged_invariant, judged_invariants, judged_of}
use Rattle.c_model.specs.JudgedStates.{judged_assigned, judged_all, judged_entry, judged_ending, InCalls, judged_eval, judged_place, judged_evals, judged_any, judged_one}
use Rattle.c_model.specs.JudgedStates.{judged_fill, judged_parts, judged_initialise, judged_initialise_all, judged_on, judged_round, judged_turn, judged_turns, judged_do_turns}
use Rattle.c_model.specs.JudgedStates.{judged_exec, judged_cases, judged_else, judged_first, judged_item, judged_items, judged_body, judged_result, judged_call}
use Rattle.c_model.specs.JudgedStates.{judged_behind_main, judged_main, judged_calls, judged_whole, names_with}
use Rattle.c_model.specs.SoundJudgements.{IsValueIn, IsSoundJudgement, HasResults, JudgementsAreSound}

abbrev pub Sound : TranslationUnit → List Judgement → Type 0
Sound p js = AllByRecursion (IsSoundJudgement p) js

all_both : {A : Type 0} (P : A → Type 0) (xs ys : List A) → AllByRecursion P xs → AllByRecursion P ys → AllByRecursion P (xs ++ ys)
all_both P [] ys h g = g
all_both P (x ∷ xs) ys h g = (h.0, all_both P xs ys h.1 g)

-- from each sound state
abbrev pub SoundIn : TranslationUnit → Judges → Type 0
SoundIn p j = (s : State) → IsSoundState p s → Sound p (j s)

-- `\result`, where there is one, is a value of its type
abbrev IsFit : Store → Option Result → Type 0
IsFit store r = WhereAny (λ (r : Result). IsValueIn store r.ctype r.value) r

value_in_onward : (store later : Store) (t : PlainType) (v : Value) → BlocksStay store later → IsValueIn store t v → IsValueIn later t v
value_in_onward store later (Int k) v stay h = h
value_in_onward store later (Ptr t) v stay h = (h.0, h.1, value_onward store later (Points h.0) stay h.2)
value_in_onward store later Void v stay h = tt
value_in_onward store later (Array t n) v stay h = tt
value_in_onward store later (Struct n) v stay h = tt
value_in_onward store later (Named x) v stay h = tt
value_in_onward store later (StructTag x tag) v stay h = tt
value_in_onward store later (EnumTag x at) v stay h = tt

fit_onward : (store later : Store) (r : Option Result) → BlocksStay store later → IsFit store r → IsFit later r
fit_onward store later None stay h = tt
fit_onward store later (Some r) stay h = value_in_onward store later r.ctype r.value stay h

-- what holds of all functions holds of the one that is found

either : {A : Type 0} (P : A → Type 0) (t : Bool) (f g : Option A) → WhereAny P f → WhereAny P g → WhereAny P (if t then f else g)
either P true f g h k = h
either P false f g h k = k

gives_in : (P : Function → Type 0) (n : ℕ) (fs : List Function) → ((i : ℕ) (f : Function) → slice_get fs i ≡ Some f → P f) → WhereAny P (definition_at n fs)
gives_in P n [] h = tt
gives_in P n (f ∷ fs) h = either P (is_definition f && nat_eq f.place.offset n) (Some f) (definition_at n fs) (h 0 f refl) (gives_in P n fs (λ i g e. h (suc i) g e))

gives_named : (P : Function → Type 0) (p : TranslationUnit) (name : List ℕ) (fs : List Function) → ((i : ℕ) (f : Function) → slice_get fs i ≡ Some f → P f) → WhereAny P (function_named p name fs)
gives_named P p name [] h = tt
gives_named P p name (f ∷ fs) h =
    either P (is_definition f && has_name (slice_get p.names f.name) name) (Some f) (function_named p name fs) (h 0 f refl) (gives_named P p name fs (λ i g e. h (suc i) g e))

module _ (p : TranslationUnit) where
  sound_none : SoundIn p none
  sound_none s st = tt

  both_sound : (js ks : List Judgement) → Sound p js → Sound p ks → Sound p (js ++ ks)
  both_sound js ks h g = all_both (IsSoundJudgement p) js ks h g

  sound_behind : {A : Type 0} (P : A → State → Type 0) (s : State) (o : Outcome A) (k : A → Judges) → After p P s o
      → ((a : A) (t : State) → o ≡ Normal a t → BlocksStay s.store t.store → IsSoundState p t → P a t → Sound p (k a t)) → Sound p (judged_behind o k)
  sound_behind P s (Normal a t) k h f = f a t refl h.stay h.sound h.gives
  sound_behind P s (Stop e t) k h f = tt

  sound_from : {A : Type 0} (P : A → State → Type 0) (s : State) (j : Judges) (m : Evaluation A) (k : A → Judges) → Sound p (j s) → After p P s (m s)
      → ((a : A) (t : State) → m s ≡ Normal a t → BlocksStay s.store t.store → IsSoundState p t → P a t → Sound p (k a t)) → Sound p (judged_then j m k s)
  sound_from P s j m k h g f = both_sound (j s) (judged_behind (m s) k) h (sound_behind P s (m s) k g f)

  sound_then : {A : Type 0} (P : A → State → Type 0) (j : Judges) (m : Evaluation A) (k : A → Judges) → SoundIn p j → Keeps p P m
      → ((a : A) (t : State) → IsSoundState p t → P a t → Sound p (k a t)) → SoundIn p (judged_then j m k)
  sound_then P j m k h g f s st = sound_from P s j m k (h s st) (g s st) (λ a t e stay su x. f a t su x)

  sound_cond : (b : Bool) (j k : Judges) → SoundIn p j → SoundIn p k → SoundIn p (cond b j k)
  sound_cond true j k h g = h
  sound_cond false j k h g = g

  -- ---- annotations

  sound_check : (a : Annotation) → SoundIn p (judged_check None a)
  sound_check a s st = (record { sound = st; result = tt }, tt)

  sound_checks : (annots : List Annotation) → SoundIn p (judged_checks annots)
  sound_checks [] = sound_none
  sound_checks (a ∷ rest) = sound_then Any (judged_check None a) (check a) (λ _. judged_checks rest) (sound_check a) (keeps_check [] a) (λ u t su x. sound_checks rest t su)

  sound_invariant : (a : Annotation) (b : ClauseBody) → SoundIn p (judged_invariant a b)
  sound_invariant a (Raw f) = sound_check a
  sound_invariant a (Holds q) = sound_check a
  sound_invariant a (logic.Value t) = sound_none
  sound_invariant a (Behaviors names) = sound_check a

  sound_invariants : (annots : List Annotation) → SoundIn p (judged_invariants annots)
  sound_invariants [] = sound_none
  sound_invariants (a ∷ rest) =
      sound_then Any (judged_invariant a a.body) (invariant a a.body) (λ _. judged_invariants rest) (sound_invariant a a.body) (keeps_invariant a a.body) (λ u t su x. sound_invariants rest t su)

  -- ---- contracts

  sound_of : (o : Option ℕ) (hs : List Bool) (r : Option Result) (a : Annotation) (s : State) → IsSoundState p s → IsFit s.store r → Sound p (judged_of o hs (judged_check r a) s)
  sound_of None hs r a s st h = (record { sound = st; result = h }, tt)
  sound_of (Some k) hs r a s st h = by (holds_at k hs)
    where
      by : (t : Bool) → Sound p (cond t (judged_check r a) none s)
      by true = (record { sound = st; result = h }, tt)
      by false = tt

  sound_all : (bs : List NamedBehavior) (r : Option Result) (cs : List Check) (hs : List Bool) (s : State) → IsSoundState p s → IsFit s.store r → Sound p (judged_all bs r cs hs s)
  sound_all bs r [] hs s st h = tt
  sound_all bs r (c ∷ cs) hs s st h =
      sound_from Any s (judged_of c.behavior hs (judged_check r c.annotation)) (checked bs (names_with r) c.annotation c.behavior hs) (judged_all bs r cs)
      (sound_of c.behavior hs r c.annotation s st h) (keeps_checked bs (names_with r) c.annotation c.behavior hs s st)
      (λ js t e stay su x. sound_all bs r cs js t su (fit_onward s.store t.store r stay h))

  sound_entry : (c : Option FunctionContract) → SoundIn p (judged_entry c)
  sound_entry None = sound_none
  sound_entry (Some c) = λ s st. sound_all c.behaviors None (entry_checks c) (all_hold c.behaviors) s st tt

  sound_ending : (c : Option FunctionContract) (hs : List Bool) (r : Result) (s : State) → IsSoundState p s
      → ((d : FunctionContract) → c ≡ Some d → IsValueIn s.store r.ctype r.value) → Sound p (judged_ending c hs r s)
  sound_ending None hs r s st h = tt
  sound_ending (Some c) hs r s st h = sound_all c.behaviors (Some r) (leave_checks c) hs s st (h c refl)

  -- ---- loops

  sound_on : (s : State) (o : Outcome (Unit {0})) (again : Judges) → After p Any s o → SoundIn p again → Sound p (judged_on o again)
  sound_on s (Normal u t) again h k = k t h.sound
  sound_on s (Stop (Leaves Continues) t) again h k = k t h.sound
  sound_on s (Stop (Leaves Breaks) t) again h k = tt
  sound_on s (Stop (Leaves (Returns v)) t) again h k = tt
  sound_on s (Stop (Over e) t) again h k = tt
  sound_on s (Stop Stuck t) again h k = tt

  sound_round : (j : Judges) (body : Evaluation (Unit {0})) (again : Judges) → SoundIn p j → Keeps p Any body → SoundIn p again → SoundIn p (judged_round j body again)
  sound_round j body again h g k s st = both_sound (j s) (judged_on (body s) again) (h s st) (sound_on s (body s) again (g s st) k)

  sound_turn : (j : Judges) (body : Evaluation (Unit {0})) (i : Judges) (behind : Evaluation (Unit {0})) (v : Option (Annotation × LogicTerm)) (again : Judges)
      → SoundIn p j → Keeps p Any body → SoundIn p i → Keeps p Any behind → SoundIn p again → SoundIn p (judged_turn j body i behind v again)
  sound_turn j body i behind None again h g f e k =
      sound_round j body (judged_then i behind (λ _. again)) h g (sound_then Any i behind (λ _. again) f e (λ u t su x. k t su))
  sound_turn j body i behind (Some v) again h g f e k =
      sound_then Any (judged_check None v.0) (value_of v.0 v.1) _ (sound_check v.0) (keeps_value v.0 v.1) (λ old t su x.
      sound_round j body _ h g (sound_then Any i behind _ f e (λ u w sw y.
      sound_then Any (judged_check None v.0) (value_of v.0 v.1 >>= compared v.0 old) (λ _. again) (sound_check v.0)
      (keeps_bind Any Any (value_of v.0 v.1) (compared v.0 old) (keeps_value v.0 v.1) (λ new z sz q. keeps_compared v.0 old new z sz)) (λ u z sz q. k z sz) w sw)) t su)

  sound_turns : (n : ℕ) (j : Judges) (test : Evaluation Value) (turn : Judges → Judges) → SoundIn p j → Keeps p Any test → ((again : Judges) → SoundIn p again → SoundIn p (turn again))
      → SoundIn p (judged_turns n j test turn)
  sound_turns zero j test turn h g k = sound_none
  sound_turns (suc n) j test turn h g k =
      let rest = judged_turns n j test turn in
      let next : SoundIn p (judged_then none step (λ _. turn rest)) =
      sound_then Any none step (λ _. turn rest) sound_none keeps_step (λ u t su x. k rest (sound_turns n j test turn h g k) t su) in
      sound_then Any j test (λ v. cond (is_zero v) none (judged_then none step (λ _. turn rest))) h g (λ v t su x. sound_cond (is_zero v) none _ sound_none next t su)

  sound_do_turns : (n : ℕ) (j : Judges) (test : Evaluation Value) (i : Judges) (body : Evaluation (Unit {0})) → SoundIn p j → Keeps p Any test → SoundIn p i → Keeps p Any body
      → SoundIn p (judged_do_turns n j test i body)
  sound_do_turns zero j test i body h g f e = sound_none
  sound_do_turns (suc n) j test i body h g f e =
      let rest = judged_do_turns n j test i body in
      let next : SoundIn p (judged_then j test (λ v. cond (is_zero v) none rest)) =
      sound_then Any j test (λ v. cond (is_zero v) none rest) h g (λ v t su x. sound_cond (is_zero v) none rest sound_none (sound_do_turns n j test i body h g f e) t su) in
      sound_then Any none step _ sound_none keeps_step (λ u t su x. sound_round i body (judged_then j test (λ v. cond (is_zero v) none rest)) f e next t su)

  -- calls that begin in sound states judge in sound ones
  abbrev pub CallsJudgeSound : InCalls → Type 0
  CallsJudgeSound inner = (at : Place) (f : Use) (vs : List Value) (s : State) → IsSoundState p s → AllPlaced vs s → Sound p (inner at f vs s)

  module _ (call : Callee) (c : CallsKeepSound p call) (octets : (n : ℕ) → AreBytes (text_at (tables_of p).texts n)) (inner : InCalls) (sound : CallsJudgeSound inner) where
    abbrev T : Tables
    T = tables_of p

    -- ---- expressions

    keeps_value_of : (e : Expression) → AreDirect e → Keeps p Placed (eval_with T e call)
    keeps_value_of e h s st = sound_eval call c e h s st

    keeps_place_of : (e : Expression) → AreDirect e → Keeps p (PlaceOf e) (place_with T e call)
    keeps_place_of e h s st = sound_place call c e h s st

    keeps_test : (e : Expression) → AreDirect e → Keeps p Any (condition_of T e call)
    keeps_test e h = keeps_condition_of call c octets e h

    abbrev evaluated : Expression → Judges
    evaluated = judged_eval T call inner

    abbrev placed : Expression → Judges
    placed = judged_place T call inner

    in_two : (a b : Expression) → AreDirect a → SoundIn p (evaluated a) → SoundIn p (evaluated b) → SoundIn p (judged_then (evaluated a) (eval_with T a call) (λ _. evaluated b))
    in_two a b d h g = sound_then Placed (evaluated a) (eval_with T a call) (λ _. evaluated b) h (keeps_value_of a d) (λ x u su _. g u su)

    either_way : (o : Option Scalar) (j k : Judges) → SoundIn p j → SoundIn p k → SoundIn p (judged_assigned o j k)
    either_way (Some x) j k h g = h
    either_way None j k h g = g

    in_assigned : (t : PlainType) (a b : Expression) → AreDirect a → SoundIn p (placed a) → SoundIn p (evaluated b) → SoundIn p (placed b)
        → SoundIn p (judged_then (placed a) (place_with T a call) (λ _. judged_assigned (scalar_of t) (evaluated b) (placed b)))
    in_assigned t a b d h g k =
        sound_then (PlaceOf a) (placed a) (place_with T a call) (λ _. judged_assigned (scalar_of t) (evaluated b) (placed b)) h (keeps_place_of a d)
        (λ x u su _. either_way (scalar_of t) (evaluated b) (placed b) g k u su)

    mutual
      sound_in : (e : Expression) → AreDirect e → SoundIn p (evaluated e)
      sound_in (Node at t (Number n k)) h = sound_none
      sound_in (Node at t (Letter n)) h = sound_none
      sound_in (Node at t (Text n)) h = sound_none
      sound_in (Node at t (Variable x)) h = sound_none
      sound_in (Node at t (Unary unary.Address a)) h = sound_at a h.1
      sound_in (Node at t (Unary unary.Deref a)) h = sound_in a h
      sound_in (Node at t (Unary unary.Not a)) h = sound_in a h
      sound_in (Node at t (Unary unary.Plus a)) h = sound_in a h
      sound_in (Node at t (Unary unary.Minus a)) h = sound_in a h
      sound_in (Node at t (Unary unary.Flip a)) h = sound_in a h
      sound_in (Node at t (Binary op a b)) h = in_two a b h.0 (sound_in a h.0) (sound_in b h.1)
      sound_in (Node at t (Both a b)) h =
          sound_then Any (evaluated a) (condition_of T a call) _ (sound_in a h.0) (keeps_test a h.0) (λ x u su g. sound_cond (is_zero x) none (evaluated b) sound_none (sound_in b h.1) u su)
      sound_in (Node at t (Either a b)) h =
          sound_then Any (evaluated a) (condition_of T a call) _ (sound_in a h.0) (keeps_test a h.0) (λ x u su g. sound_cond (is_zero x) (evaluated b) none (sound_in b h.1) sound_none u su)
      sound_in (Node at t (Choice a b d)) h =
          sound_then Any (evaluated a) (condition_of T a call) _ (sound_in a h.0) (keeps_test a h.0) (λ x u su g. sound_cond (is_zero x) (evaluated d) (evaluated b) (sound_in d h.2) (sound_in b h.1) u su)
      sound_in (Node at t (Assign None a b)) h = in_assigned t a b h.0 (sound_at a h.0) (sound_in b h.1) (sound_at b h.1)
      sound_in (Node at t (Assign (Some op) a b)) h =
          sound_then Placed (placed a) (place_with T a call >>= λ q. as_scalar (scalar_of t) (read at q)) (λ _. evaluated b) (sound_at a h.0)
          (λ s st. after_bind (PlaceOf a) Placed s (place_with T a call s) _ (sound_place call c a h.0 s st) (λ q u stay su g. after_scalar Placed u (scalar_of t) (read at q) su (λ k. after_read u at q k su)))
          (λ x u su g. sound_in b h.1 u su)
      sound_in (Node at t (Bump op a)) h = sound_at a h
      sound_in (Node at t (Call f args)) h =
          sound_then AllPlaced (judged_evals T call inner args) (evals_with T args call) (inner at f) (sound_all_in args h) (λ s st. sound_evals call c args h s st) (λ vs u su g. sound at f vs u su g)
      sound_in (Node at t (Cast to a)) h = sound_cond (is_array (type_of a)) (placed a) (evaluated a) (sound_at a h.1) (sound_in a h.1)
      sound_in (Node at t (SizeOfType u)) h = sound_none
      sound_in (Node at t (SizeOfExpr a)) h = sound_none
      sound_in (Node at t (Index a b)) h = in_two a b h.0 (sound_in a h.0) (sound_in b h.1)
      sound_in (Node at t (Dot a m)) h = sound_at a h
      sound_in (Node at t (Arrow a m)) h = sound_in a h
      sound_in (Node at t (Comma a b)) h = in_two a b h.0 (sound_in a h.0) (sound_in b h.1)

      sound_at : (e : Expression) → AreDirect e → SoundIn p (placed e)
      sound_at (Node at t (Variable x)) h = sound_none
      sound_at (Node at t (Text n)) h = sound_none
      sound_at (Node at t (Unary unary.Deref a)) h = sound_in a h
      sound_at (Node at t (Index a b)) h = in_two a b h.0 (sound_in a h.0) (sound_in b h.1)
      sound_at (Node at t (Dot a m)) h = sound_at a h
      sound_at (Node at t (Arrow a m)) h = sound_in a h
      sound_at (Node at t (Assign None a b)) h = in_assigned t a b h.0 (sound_at a h.0) (sound_in b h.1) (sound_at b h.1)
      sound_at (Node at t (Comma a b)) h = sound_then Placed (evaluated a) (eval_with T a call) (λ _. placed b) (sound_in a h.0) (keeps_value_of a h.0) (λ x u su _. sound_at b h.1 u su)
      sound_at (Node at t k) h = λ s st. tt

      sound_all_in : (es : Expressions) → AllDirect es → SoundIn p (judged_evals T call inner es)
      sound_all_in NoExpression h = sound_none
      sound_all_in (Following e es) h =
          sound_then Placed (evaluated e) (eval_with T e call) (λ _. judged_evals T call inner es) (sound_in e h.0) (keeps_value_of e h.0) (λ x u su _. sound_all_in es h.1 u su)

    sound_any : (e : Option Expression) → WhereAny AreDirect e → SoundIn p (judged_any T call inner e)
    sound_any None h = sound_none
    sound_any (Some e) h = sound_in e h

    -- ---- initialisers

    sound_one : (o : Option ℕ) (e : Expression) → AreDirect e → SoundIn p (judged_one T call inner o e)
    sound_one None e h = sound_in e h
    sound_one (Some n) e h = sound_none

    mutual
      sound_fill : (at : Place) (t : PlainType) (q : Pointer) (i : Initialiser) → EachInitial AreDirect i → SoundIn p (judged_fill T call inner at t q i)
      sound_fill at t q (One e) h = sound_one (string_in e) e h
      sound_fill at t q (Many brace is) h = sound_parts at (parts_or_itself T t) q is h

      sound_parts : (at : Place) (cs : List (ℕ × PlainType)) (q : Pointer) (is : Initialisers) → EachPart AreDirect is → SoundIn p (judged_parts T call inner at cs q is)
      sound_parts at cs q NoInitialiser h = sound_none
      sound_parts at [] q (Listed i is) h = sound_none
      sound_parts at (d ∷ cs) q (Listed i is) h =
          sound_then Any _ (fill T at d.1 (shifted q d.0) i call) (λ _. judged_parts T call inner at cs q is) (sound_fill at d.1 (shifted q d.0) i h.0)
          (keeps_fill call c octets at d.1 (shifted q d.0) i h.0) (λ x u su _. sound_parts at cs q is h.1 u su)

    sound_initialise : (d : Declaration) (i : Option (Place × Initialiser)) → WhereAny (λ (i : Place × Initialiser). EachInitial AreDirect i.1) i → SoundIn p (judged_initialise T call inner d i)
    sound_initialise d None h = sound_none
    sound_initialise d (Some (at, i)) h =
        sound_then Any none (object at d.place.offset) (λ q. judged_fill T call inner at d.ctype q i) sound_none (object_any at d.place.offset) (λ q u su _. sound_fill at d.ctype q i h u su)

    sound_initialise_all : (ds : List Declaration) → EachDeclared AreDirect ds → SoundIn p (judged_initialise_all T call inner ds)
    sound_initialise_all [] h = sound_none
    sound_initialise_all (d ∷ ds) h =
        sound_then Any (judged_initialise T call inner d d.init) (initialise T d d.init call) (λ _. judged_initialise_all T call inner ds) (sound_initialise d d.init h.0)
        (keeps_initialise call c octets d d.init h.0) (λ x u su _. sound_initialise_all ds h.1 u su)

    -- ---- statements

    mutual
      sound_exec : (a : Statement) → EachIn AreDirect a → Declares p (declared_within a) → (n : ℕ) → SoundIn p (judged_exec T call inner a n)
      sound_exec (Empty at) h q n = sound_none
      sound_exec (Eval at e) h q n = sound_in e h
      sound_exec (Block at items) h q n =
          sound_then Any none (births T.structs (declared_in items)) (λ _. judged_items T call inner items n) sound_none (keeps_births (declared_in items) (λ d m. q d (directly_in items d m)))
          (λ x u su _. sound_items items h q n u su)
      sound_exec (If at e a b) h q n =
          sound_then Any (evaluated e) (condition_of T e call) _ (sound_in e h.0) (keeps_test e h.0) (λ v u su _. sound_cond (is_zero v) (judged_else T call inner b n) (judged_exec T call inner a n)
          (sound_else b h.2 (declares_right p (declared_within a) (declared_in_else b) q) n) (sound_exec a h.1 (declares_left p (declared_within a) (declared_in_else b) q) n) u su)
      sound_exec (While at annots e a) h q n =
          sound_turns n _ (invariants annots >> condition_of T e call) (judged_turn (judged_exec T call inner a n) (exec_with T a call n) none done (variant annots))
          (sound_then Any (judged_invariants annots) (invariants annots) (λ _. evaluated e) (sound_invariants annots) (keeps_invariants annots) (λ x u su _. sound_in e h.0 u su))
          (keeps_then Any Any (invariants annots) (condition_of T e call) (keeps_invariants annots) (keeps_test e h.0))
          (λ again k. sound_turn (judged_exec T call inner a n) (exec_with T a call n) none done (variant annots) again (sound_exec a h.1 q n) (keeps_exec call c octets a h.1 q n) sound_none keeps_done k)
      sound_exec (Do at a e) h q n =
          sound_do_turns n (evaluated e) (condition_of T e call) (judged_exec T call inner a n) (exec_with T a call n) (sound_in e h.1) (keeps_test e h.1) (sound_exec a h.0 q n) (keeps_exec call c octets a h.0 q n)
      sound_exec (For at annots first e behind a) h q n =
          let left = declares_left p (declared_in_first first) (declared_within a) q in
          let right = declares_right p (declared_in_first first) (declared_within a) q in
          sound_then Any none (births T.structs (declared_first first)) _ sound_none (keeps_births (declared_first first) (λ d m. left d (directly_first first d m))) (λ x u su _.
          sound_then Any (judged_first T call inner first n) (first_with T first call n) _ (sound_first first h.0 left n) (keeps_first call c octets first h.0 left n) (λ y w sw _.
          sound_turns n _ (invariants annots >> condition_with T e call) (judged_turn (judged_exec T call inner a n) (exec_with T a call n) (judged_any T call inner behind) (effect_with T behind call) (variant annots))
          (sound_then Any (judged_invariants annots) (invariants annots) (λ _. judged_any T call inner e) (sound_invariants annots) (keeps_invariants annots) (λ z v sv _. sound_any e h.1 v sv))
          (keeps_then Any Any (invariants annots) (condition_with T e call) (keeps_invariants annots) (keeps_condition call c octets e h.1))
          (λ again k. sound_turn (judged_exec T call inner a n) (exec_with T a call n) (judged_any T call inner behind) (effect_with T behind call) (variant annots) again
          (sound_exec a h.3 right n) (keeps_exec call c octets a h.3 right n) (sound_any behind h.2) (keeps_effect call c octets behind h.2) k) w sw) u su)
      sound_exec (Break at) h q n = sound_none
      sound_exec (Continue at) h q n = sound_none
      sound_exec (Return at None) h q n = sound_none
      sound_exec (Return at (Some e)) h q n = sound_in e h
      sound_exec (Labelled at l a) h q n =
          sound_then Any none (mark (Some l)) (λ _. judged_exec T call inner a n) sound_none (keeps_mark (Some l)) (λ x u su _. sound_exec a h q n u su)
      sound_exec (Switch at e cases) h q n =
          sound_then Placed (evaluated e) (eval_with T e call) _ (sound_in e h.0) (keeps_value_of e h.0) (λ v u su _. sound_cases cases h.1 q n (chosen_case v cases) u su)

      sound_cases : (cases : Cases) → EachInCases AreDirect cases → Declares p (declared_in_cases cases) → (n k : ℕ) → SoundIn p (judged_cases T call inner cases n k)
      sound_cases NoCase h q n k = sound_none
      sound_cases (AnotherCase at v items rest) h q n zero =
          let left = declares_left p (declared_in_items items) (declared_in_cases rest) q in
          sound_then Any (judged_items T call inner items n) (items_with T items call n) (λ _. judged_cases T call inner rest n zero) (sound_items items h.0 left n) (keeps_items call c octets items h.0 left n)
          (λ x u su _. sound_cases rest h.1 (declares_right p (declared_in_items items) (declared_in_cases rest) q) n zero u su)
      sound_cases (AnotherCase at v items rest) h q n (suc k) = sound_cases rest h.1 (declares_right p (declared_in_items items) (declared_in_cases rest) q) n k

      sound_else : (b : ElsePart) → EachInElse AreDirect b → Declares p (declared_in_else b) → (n : ℕ) → SoundIn p (judged_else T call inner b n)
      sound_else NoElse h q n = sound_none
      sound_else (Else a) h q n = sound_exec a h q n

      sound_first : (first : ForFirst) → EachInFirst AreDirect first → Declares p (declared_in_first first) → (n : ℕ) → SoundIn p (judged_first T call inner first n)
      sound_first NoFirst h q n = sound_none
      sound_first (First i) h q n = sound_item i h q n

      sound_item : (i : BlockItem) → EachInItem AreDirect i → Declares p (declared_in_item i) → (n : ℕ) → SoundIn p (judged_item T call inner i n)
      sound_item (Declare ds) h q n = sound_initialise_all ds h
      sound_item (Specify at t) h q n = sound_none
      sound_item (Run a) h q n = sound_exec a h q n
      sound_item (Asserts annots) h q n = sound_checks annots

      sound_items : (items : BlockItems) → EachInItems AreDirect items → Declares p (declared_in_items items) → (n : ℕ) → SoundIn p (judged_items T call inner items n)
      sound_items NoItem h q n = sound_none
      sound_items (Then i rest) h q n =
          let left = declares_left p (declared_in_item i) (declared_in_items rest) q in
          sound_then Any (judged_item T call inner i n) (item_with T i call n) (λ _. judged_items T call inner rest n) (sound_item i h.0 left n) (keeps_item call c octets i h.0 left n)
          (λ x u su _. sound_items rest h.1 (declares_right p (declared_in_item i) (declared_in_items rest) q) n u su)

    sound_body : (body : Option Statement) → WhereAny (EachIn AreDirect) body → Declares p (declared_in_body body) → (n : ℕ) → SoundIn p (judged_body T call inner body n)
    sound_body None h q n = sound_none
    sound_body (Some a) h q n = sound_exec a h q n

    -- ---- calls

    -- a function that gives values of its type from calls of this depth, if it has a contract
    abbrev pub GivesAt : ℕ → Function → Type 0
    GivesAt n f = (d : FunctionContract) → f.contract ≡ Some d → (s t : State) (v : Value) → IsSoundState p s → returned_by f (body_with T f.body call n s) ≡ Normal v t → IsValueIn t.store f.result v

    sound_result : (f : Function) (hs : List Bool) (n : ℕ) → IsOwn p f → GivesAt n f → SoundIn p (judged_result T call inner f hs n)
    sound_result f hs n own gives s st =
        sound_from Placed s (judged_body T call inner f.body n) (λ u. returned_by f (body_with T f.body call n u)) (λ v. judged_ending f.contract hs (record { ctype = f.result; value = v }))
        (sound_body f.body own.body own.variables n s st) (after_returned f s (body_with T f.body call n s) (keeps_body_of call c octets f.body own.body own.variables n s st))
        (λ v t e stay su x. sound_ending f.contract hs (record { ctype = f.result; value = v }) t su (λ d is. gives d is s t v st e))

    sound_call : (f : Option Function) (n : ℕ) (at : Place) (vs : List Value) → WhereAny (IsOwn p) f → WhereAny (GivesAt n) f
        → (s : State) → IsSoundState p s → AllPlaced vs s → Sound p (judged_call T call inner (global_scope p) f n at vs s)
    sound_call None n at vs own gives s st h = tt
    sound_call (Some f) n at vs own gives s st h =
        sound_from Any s none (step >> (frame >> alone (global_scope p) >> parameters T at f.params vs >> mark None)) _ tt
        (after_bind Any Any s (step s) (λ _. frame >> alone (global_scope p) >> parameters T at f.params vs >> mark None) (keeps_step s st) (λ a u stay su _. begun u su (vals_onward s u vs stay h)))
        (λ x u e stay su _. sound_then Any (judged_entry f.contract) (entry f.contract) (λ hs. judged_result T call inner f hs n) (sound_entry f.contract) (keeps_entry f.contract)
        (λ hs t sv _. sound_result f hs n own gives t sv) u su)
      where
        begun : (u : State) → IsSoundState p u → AllPlaced vs u → After p Any u ((frame >> alone (global_scope p) >> parameters T at f.params vs >> mark None) u)
        begun u su k =
            after_bind Any Any u ((frame >> alone (global_scope p) >> parameters T at f.params vs) u) (λ _. mark None)
            (after_bind Any Any u ((frame >> alone (global_scope p)) u) (λ _. parameters T at f.params vs) (keeps_then Any Any frame (alone (global_scope p)) keeps_frame keeps_alone u su)
            (λ a w stay sw _. after_parameters call c octets at f.params vs own.params w sw (vals_onward u w vs stay k)))
            (λ a w stay sw _. keeps_mark None w sw)

    sound_behind_main : (f : Function) (hs : List Bool) (n : ℕ) (s : State) (o : Outcome (Unit {0})) → GivesAt n f → ((d : FunctionContract) → f.contract ≡ Some d → IsInteger f.result) → IsSoundState p s
        → body_with T f.body call n s ≡ o → After p Any s o → Sound p (judged_behind_main f hs o)
    sound_behind_main f hs n s (Normal u t) gives main st e h =
        sound_ending f.contract hs (record { ctype = f.result; value = Integer (pos 0) }) t h.sound
        (λ d is. subst (λ r. IsValueIn t.store r (Integer (pos 0))) (sym (main d is).is) (pos 0, refl, zero_fits (main d is).int))
      where
        zero_fits : (k : CInt) → fits k (pos 0) ≡ true
        zero_fits I8 = refl
        zero_fits U8 = refl
        zero_fits I16 = refl
        zero_fits U16 = refl
        zero_fits I32 = refl
        zero_fits U32 = refl
        zero_fits I64 = refl
        zero_fits U64 = refl
    sound_behind_main f hs n s (Stop (Leaves Breaks) t) gives main st e h = tt
    sound_behind_main f hs n s (Stop (Leaves Continues) t) gives main st e h = tt
    sound_behind_main f hs n s (Stop (Leaves (Returns None)) t) gives main st e h =
        sound_ending f.contract hs (record { ctype = f.result; value = NoValue }) t h.sound (λ d is. gives d is s t NoValue st (ap (returned_by f) e))
    sound_behind_main f hs n s (Stop (Leaves (Returns (Some v))) t) gives main st e h =
        sound_ending f.contract hs (record { ctype = f.result; value = v }) t h.sound (λ d is. gives d is s t v st (ap (returned_by f) e))
    sound_behind_main f hs n s (Stop (Over x) t) gives main st e h = tt
    sound_behind_main f hs n s (Stop Stuck t) gives main st e h = tt

    sound_main : (f : Option Function) (n : ℕ) → WhereAny (IsOwn p) f → WhereAny (GivesAt n) f → ((g : Function) (d : FunctionContract) → f ≡ Some g → g.contract ≡ Some d → IsInteger g.result)
        → SoundIn p (judged_main T call inner f n)
    sound_main None n own gives main = sound_none
    sound_main (Some f) n own gives main =
        sound_then Any none (frame >> births T.structs f.params >> mark None) _ sound_none
        (keeps_then Any Any (frame >> births T.structs f.params) (mark None) (keeps_then Any Any frame (births T.structs f.params) keeps_frame (keeps_births f.params own.params)) (keeps_mark None))
        (λ x u su _. sound_then Any (judged_entry f.contract) (entry f.contract) (λ hs s. judged_body T call inner f.body n s ++ judged_behind_main f hs (body_with T f.body call n s)) (sound_entry f.contract)
        (keeps_entry f.contract) (λ hs t sv _. both_sound (judged_body T call inner f.body n t) (judged_behind_main f hs (body_with T f.body call n t)) (sound_body f.body own.body own.variables n t sv)
        (sound_behind_main f hs n t (body_with T f.body call n t) gives (λ d is. main f d refl is) sv refl (keeps_body_of call c octets f.body own.body own.variables n t sv))) u su)

  module _ (direct : IsDirect p) (results : HasResults p) where
    gives_at : (n : ℕ) (i : ℕ) (f : Function) → slice_get p.funcs i ≡ Some f → (d : FunctionContract) → f.contract ≡ Some d → (s t : State) (v : Value) → IsSoundState p s
        → returned_by f (body_with (tables_of p) f.body (call_of p n) n s) ≡ Normal v t → IsValueIn t.store f.result v
    gives_at n i f e d is s t v st r = results.gives i f d e is n s t v st r

    calls_judge_sound : (n : ℕ) → CallsJudgeSound (judged_calls p n)
    calls_judge_sound zero at f vs s st h = tt
    calls_judge_sound (suc n) at f vs s st h = by (calls_judge_sound n) (is_of_library f)
      where
        by : CallsJudgeSound (judged_calls p n) → (t : Bool)
            → Sound p ((if t then none else judged_call (tables_of p) (call_of p n) (judged_calls p n) (global_scope p) (definition_at f.decl p.funcs) n at vs) s)
        by below true = tt
        by below false =
            sound_call (call_of p n) (calls_keep_sound p direct n) direct.octets (judged_calls p n) below (definition_at f.decl p.funcs) n at vs
            (own_at p f.decl p.funcs direct.bodies (in_functions p)) (gives_in _ f.decl p.funcs (gives_at n)) s st h

    pub judgements_sound : (n : ℕ) (s : State) → IsSoundState p s → Sound p (judged_whole p n s)
    judgements_sound n s st =
        let c = calls_keep_sound p direct n in
        sound_then Any (judged_initialise_all (tables_of p) (call_of p n) (judged_calls p n) p.globals) (initialise_all (tables_of p) p.globals (call_of p n)) _
        (sound_initialise_all (call_of p n) c direct.octets (judged_calls p n) (calls_judge_sound n) p.globals direct.globals)
        (keeps_initialise_all (call_of p n) c direct.octets p.globals direct.globals)
        (λ x u su _. sound_main (call_of p n) c direct.octets (judged_calls p n) (calls_judge_sound n) (function_named p (codes "main") p.funcs) n
        (own_named p (codes "main") p.funcs direct.bodies (in_functions p)) (gives_named _ p (codes "main") p.funcs (gives_at n)) results.main u su) s st

pub judgements_are_sound : JudgementsAreSound
judgements_are_sound p d r n s st = judgements_sound p d r n s st
