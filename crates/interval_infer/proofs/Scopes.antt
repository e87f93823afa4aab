-- Evaluation leaves the scope as it is: what is born inside a block or a call is gone behind it.
use Rattle.std.proofs.Common.{◌≡◌, ℕ, zero, suc, ◌*◌, ℤ, pos, Bool, true, false, cond, ◌&&◌, if◌then◌else◌, nat_eq, nat_lt, ◌+◌, List, [], ◌∷◌, length, replicate, Option, Some, None, option_map, slice_get, codes, bytes_eq, refl, ◌∙◌}
use Rattle.c_syntax.specs.declared.place.Place.{Place}
use Rattle.c_syntax.specs.declared.expression.Use.{Use}
use Rattle.c_syntax.specs.declared.expression.UnOp.TheVariants as unary
use Rattle.c_syntax.specs.declared.types.CInt.TheVariants.{U64}
use Rattle.c_syntax.specs.Ctypes.{PlainType, int_type}
use Rattle.c_syntax.specs.Layouts.{Scalar, scalar_of}
use Rattle.c_syntax.specs.Logic.{LogicTerm, ClauseBody, Raw, Holds, Annotation, Behaviors}
use Rattle.c_syntax.specs.Logic as logic
use Rattle.c_syntax.specs.Expressions.{Expression, Node, Number, Letter, Text, Variable, Unary, Binary, Both, Either, Choice, Assign, Bump, Call, Cast, SizeOfType}
use Rattle.c_syntax.specs.Expressions.{SizeOfExpr, Index, Dot, Arrow, Comma, Expressions, NoExpression, Following, place_of, type_of}
use Rattle.c_syntax.specs.Statements.{Initialiser, One, Many, Initialisers, NoInitialiser, Listed, Declaration, Statement, Empty, Eval, Block, If, While, Do}
use Rattle.c_syntax.specs.Statements.{For, Break, Continue, Return, Labelled, ElsePart, NoElse, Else, ForFirst, NoFirst, First, BlockItem, Switch, Cases, NoCase}
use Rattle.c_syntax.specs.Statements.{AnotherCase}
use Rattle.c_syntax.specs.Statements.{Declare, Specify, Run, Asserts, BlockItems, NoItem, Then}
use Rattle.c_syntax.specs.Programs.{StructType, Function, TranslationUnit}
use Rattle.c_model.specs.Integers.{bits_of, truth, byte_of}
use Rattle.c_model.specs.Memory.{Pointer, Null, Into, Value, Integer, Points, NoValue, Byte, Unwritten, Number as NumberByte, Store, load, moved, shifted, freed}
use Rattle.c_model.specs.Memory.{Room, At, NoRoom, heap_room, standard_sizes}
use Rattle.c_model.specs.State.{print_all, Scope, InputTail, EndOfInput, InputFault, ReadFault, Exits, print, read_byte, State, Breaks, Continues, Returns, End, Leaves, Over, Stuck, Undefined}
use Rattle.c_model.specs.State.{Spent, Outcome, Normal, Stop, Evaluation, on_outcome, ◌>>=◌, ◌>>◌, give, done, stop, defined, computed, as_scalar, step_from, step, find, start_of}
use Rattle.c_model.specs.State.{object, read, read_any, put_store, changed, write, write_bytes, copy_object, tested, heap_birth, allocate, write_youngest, mark, restored, within}
use Rattle.c_model.specs.Limits.{most_frames}
use Rattle.c_model.specs.Strings.{string_at}
use Rattle.c_model.specs.Formats.{Piece, Bytes, Number as NumberPiece, Character, String, pieces_of}
use Rattle.c_model.specs.Printing.{at_end_of_string, print_string, print_pieces}
use Rattle.std.specs.Fmt.{signed_decimal}
use Rattle.c_model.specs.State.{answered, called, frame, Full}
use Rattle.c_syntax.specs.declared.types.Segment.TheVariants.{Frames}
use Rattle.c_model.specs.Logic.{TermValue, Mathematical, Addressed, Environment, Answer, Says, SaysNothing, OutOfSteps, judged}
use Rattle.c_model.specs.Predicates.{term, clause, check_in, checks, invariant, invariants, variant, valued, value_of, is_smaller, compared}
use Rattle.c_model.specs.Meaning.{Tables, literal, Callee, is_zero, choose, truth_value, size_value, converted, is_of_library, is_pointer, named, is_member, address}
use Rattle.c_model.specs.Meaning.{is_array, pointed_to, assigned, compound, bump_operator, bump_value, eval_with, place_with, evals_with, after_body, turn_with, turns}
use Rattle.c_model.specs.Meaning.{do_turns, zero_scalars, zero_parts, string_in, write_each, fill_one, parts_or_itself, fill, fill_parts}
use Rattle.c_model.specs.Meaning.{initialise, initialise_all, condition_with, effect_with, exec_with, else_with, first_with, item_with, items_with, put_char, get_char}
use Rattle.c_model.specs.Meaning.{exit_with, malloc_with, calloc_with, free_with, text_at_pointer, printf_with, library_call, call_with, chosen_case, after_switch, cases_with, call_of, tables_of, global_scope, definition_at}

-- the scope at an outcome
abbrev pub scope_after : {A : Type 0} → Outcome A → Scope
scope_after (Normal a s) = s.scope
scope_after (Stop e s) = s.scope

pub record Stays {A : Type 0} (m : Evaluation A) : Type 0 where
  pub at : (s : State) → scope_after (m s) ≡ s.scope

stays_outcome : {A B : Type 0} (s : State) (o : Outcome A) (f : A → Evaluation B) → scope_after o ≡ s.scope → ((a : A) → Stays (f a)) → scope_after (on_outcome o f) ≡ s.scope
stays_outcome s (Normal a t) f w h = (h a).at t ∙ w
stays_outcome s (Stop e t) f w h = w

pub stays_bind : {A B : Type 0} (m : Evaluation A) (f : A → Evaluation B) → Stays m → ((a : A) → Stays (f a)) → Stays (m >>= f)
stays_bind m f g h = record { at = λ s. stays_outcome s (m s) f (g.at s) h }

pub stays_then : {A B : Type 0} (m : Evaluation A) (f : Evaluation B) → Stays m → Stays f → Stays (m >> f)
stays_then m f g h = stays_bind m (λ _. f) g (λ _. h)

stays_stop : {A : Type 0} (e : End) → Stays {A = A} (stop e)
stays_stop e = record { at = λ s. refl }

pub stays_give : {A : Type 0} (a : A) → Stays (give a)
stays_give a = record { at = λ s. refl }

pub stays_cond : {A : Type 0} (t : Bool) (a b : Evaluation A) → Stays a → Stays b → Stays (cond t a b)
stays_cond true a b f g = f
stays_cond false a b f g = g

stays_if : {A : Type 0} (t : Bool) (a b : Evaluation A) → Stays a → Stays b → Stays (if t then a else b)
stays_if true a b f g = f
stays_if false a b f g = g

stays_choose : {A : Type 0} (v : Value) (a b : Evaluation A) → Stays a → Stays b → Stays (choose v a b)
stays_choose v a b f g = stays_cond (is_zero v) b a g f

-- ---- blocks and calls, whatever they do

restored_stays : {A : Type 0} (old : State) (o : Outcome A) → scope_after (restored old o) ≡ old.scope
restored_stays old (Normal a s) = refl
restored_stays old (Stop e s) = refl

stays_within : {A : Type 0} (m : Evaluation A) → Stays (within m)
stays_within m = record { at = λ s. restored_stays s (m s) }

answered_stays : {A : Type 0} (old : State) (o : Outcome A) → scope_after (answered old o) ≡ old.scope
answered_stays old (Normal a s) = refl
answered_stays old (Stop e s) = refl

stays_called : {A : Type 0} (m : Evaluation A) → Stays (called m)
stays_called m = record { at = λ s. answered_stays s (m s) }

pub stays_step : Stays step
stays_step = record { at = λ s. by s s.steps }
  where
    by : (s : State) (n : ℕ) → scope_after (step_from n s) ≡ s.scope
    by s zero = refl
    by s (suc n) = refl

pub stays_frame : Stays frame
stays_frame = record { at = λ s. by s (nat_lt s.calls most_frames) }
  where
    by : (s : State) (t : Bool) → scope_after {A = Unit {0}} (cond t (Normal tt (record s { calls = s.calls + 1 })) (Stop (Over (Full Frames)) s)) ≡ s.scope
    by s true = refl
    by s false = refl

pub stays_mark : (label : Option ℕ) → Stays (mark label)
stays_mark label = record { at = λ s. refl }

-- ---- accesses

defined_stays : {A : Type 0} (at : Place) (o : Option A) → Stays (defined at o)
defined_stays at None = record { at = λ s. refl }
defined_stays at (Some a) = record { at = λ s. refl }

stays_computed : {A : Type 0} (at : Place) (f : Store → Option A) → Stays (computed at f)
stays_computed at f = record { at = λ s. (defined_stays at (f s.store)).at s }

stays_object : (at : Place) (x : ℕ) → Stays (object at x)
stays_object at x = record { at = λ s. (defined_stays at (start_of (find x s.scope))).at s }

pub stays_as_scalar : {A : Type 0} (o : Option Scalar) (go : Scalar → Evaluation A) → ((k : Scalar) → Stays (go k)) → Stays (as_scalar o go)
stays_as_scalar None go h = stays_stop Stuck
stays_as_scalar (Some k) go h = h k

stays_read_any : (at : Place) (p : Pointer) (o : Option Scalar) → Stays (read_any at p o)
stays_read_any at p None = stays_give NoValue
stays_read_any at p (Some k) = stays_computed at (λ store. load store p k)

stays_changed : (at : Place) (f : Store → Option Store) → Stays (changed at f)
stays_changed at f = record { at = λ s. of_store s (f s.store) }
  where
    of_store : (s : State) (o : Option Store) → scope_after ((defined at o >>= put_store) s) ≡ s.scope
    of_store s None = refl
    of_store s (Some store) = refl

stays_write : (at : Place) (p : Pointer) (k : Scalar) (v : Value) → Stays (write at p k v)
stays_write at p k v = stays_changed at _

stays_write_bytes : (at : Place) (p : Pointer) (bytes : List Byte) → Stays (write_bytes at p bytes)
stays_write_bytes at p bytes = stays_changed at _

stays_copy : (at : Place) (p q : Pointer) (cs : List (ℕ × ℕ)) → Stays (copy_object at p q cs)
stays_copy at p q cs = stays_changed at _

pub stays_write_youngest : (at : Place) (k : Scalar) (v : Value) → Stays (write_youngest at k v)
stays_write_youngest at k v = record { at = λ s. (stays_write at (Into (length s.store) 0) k v).at s }

-- ---- annotations

pub judged_stays : (a : Annotation) (answer : Answer) (s : State) → scope_after (judged a answer s) ≡ s.scope
judged_stays a (Says true n) s = refl
judged_stays a (Says false n) s = refl
judged_stays a (SaysNothing n) s = refl
judged_stays a OutOfSteps s = refl

pub stays_check : (e : Environment) (a : Annotation) → Stays (check_in e a)
stays_check e a = record { at = λ s. judged_stays a (clause a.body s e s.steps) s }

stays_checks : (annots : List Annotation) → Stays (checks annots)
stays_checks [] = stays_give tt
stays_checks (a ∷ rest) = stays_then (check_in [] a) (checks rest) (stays_check [] a) (stays_checks rest)

pub stays_invariant : (a : Annotation) (b : ClauseBody) → Stays (invariant a b)
stays_invariant a (Raw f) = stays_check [] a
stays_invariant a (Holds p) = stays_check [] a
stays_invariant a (logic.Value t) = stays_give tt
stays_invariant a (Behaviors names) = stays_check [] a

pub stays_invariants : (annots : List Annotation) → Stays (invariants annots)
stays_invariants [] = stays_give tt
stays_invariants (a ∷ rest) = stays_then (invariant a a.body) (invariants rest) (stays_invariant a a.body) (stays_invariants rest)

valued_stays : (a : Annotation) (o : Option TermValue) (s : State) → scope_after (valued a o s) ≡ s.scope
valued_stays a None s = refl
valued_stays a (Some (Addressed x)) s = refl
valued_stays a (Some (Mathematical z)) s = refl

pub stays_value : (a : Annotation) (t : LogicTerm) → Stays (value_of a t)
stays_value a t = record { at = λ s. valued_stays a (term t s []) s }

pub stays_compared : (a : Annotation) (old new : ℤ) → Stays (compared a old new)
stays_compared a old new = record { at = λ s. judged_stays a (Says (is_smaller old new) s.steps) s }

-- ---- loops and `switch`

body_stays : (s : State) (o : Outcome (Unit {0})) (again : Evaluation (Unit {0})) → scope_after o ≡ s.scope → Stays again → scope_after (after_body o again) ≡ s.scope
body_stays s (Normal u t) again w h = h.at t ∙ w
body_stays s (Stop (Leaves Continues) t) again w h = h.at t ∙ w
body_stays s (Stop (Leaves Breaks) t) again w h = w
body_stays s (Stop (Leaves (Returns v)) t) again w h = w
body_stays s (Stop (Over e) t) again w h = w
body_stays s (Stop Stuck t) again w h = w

switch_stays : (s : State) (o : Outcome (Unit {0})) → scope_after o ≡ s.scope → scope_after (after_switch o) ≡ s.scope
switch_stays s (Normal u t) w = w
switch_stays s (Stop (Leaves Breaks) t) w = w
switch_stays s (Stop (Leaves Continues) t) w = w
switch_stays s (Stop (Leaves (Returns v)) t) w = w
switch_stays s (Stop (Over e) t) w = w
switch_stays s (Stop Stuck t) w = w

stays_after_switch : (m : Evaluation (Unit {0})) → Stays m → Stays (λ s. after_switch (m s))
stays_after_switch m h = record { at = λ s. switch_stays s (m s) (h.at s) }

stays_after_body : (body again : Evaluation (Unit {0})) → Stays body → Stays again → Stays (λ s. after_body (body s) again)
stays_after_body body again b h = record { at = λ s. body_stays s (body s) again (b.at s) h }

stays_turn : (v : Option (Annotation × LogicTerm)) (body behind again : Evaluation (Unit {0})) → Stays body → Stays behind → Stays again → Stays (turn_with v body behind again)
stays_turn None body behind again b h g = stays_after_body body _ b (stays_then behind again h g)
stays_turn (Some v) body behind again b h g =
    stays_bind (value_of v.0 v.1) _ (stays_value v.0 v.1) (λ old.
    stays_after_body body _ b (stays_then _ again (stays_then behind _ h (stays_bind (value_of v.0 v.1) _ (stays_value v.0 v.1) (λ new. stays_compared v.0 old new))) g))

stays_turns : (n : ℕ) (test : Evaluation Value) (turn : Evaluation (Unit {0}) → Evaluation (Unit {0})) → Stays test → ((again : Evaluation (Unit {0})) → Stays again → Stays (turn again)) → Stays (turns n test turn)
stays_turns zero test turn t b = stays_stop (Over Spent)
stays_turns (suc n) test turn t b =
    stays_bind test _ t (λ v. stays_choose v _ _ (stays_then step (turn (turns n test turn)) stays_step (b (turns n test turn) (stays_turns n test turn t b))) (stays_give tt))

stays_do_turns : (n : ℕ) (test : Evaluation Value) (body : Evaluation (Unit {0})) → Stays test → Stays body → Stays (do_turns n test body)
stays_do_turns zero test body t b = stays_stop (Over Spent)
stays_do_turns (suc n) test body t b =
    stays_bind step (λ _ s. after_body (body s) (test >>= λ v. choose v (do_turns n test body) done)) stays_step
    (λ _. record { at = λ s. body_stays s (body s) (test >>= λ v. choose v (do_turns n test body) done) (b.at s) (stays_bind test _ t (λ v. stays_choose v _ _ (stays_do_turns n test body t b) (stays_give tt))) })

stays_pointed : (v : Value) → Stays (pointed_to v)
stays_pointed (Points p) = stays_give p
stays_pointed (Integer z) = stays_stop Stuck
stays_pointed NoValue = stays_stop Stuck

stays_address : (e : Expression) (p : Pointer) → Stays (address e p)
stays_address e p = by (is_member e)
  where
    by : (t : Bool) → Stays (if t then computed (place_of e) (λ store. option_map Points (moved store p (pos 0))) else give (Points p))
    by true = stays_computed (place_of e) _
    by false = stays_give (Points p)

named_stays : (at : Place) (t : PlainType) (x : Use) (o : Option ℕ) → Stays (named at t x o)
named_stays at t x (Some n) = stays_read_any at (Into n 0) (scalar_of t)
named_stays at t x None = stays_cond (is_pointer t && is_of_library x) _ _ (stays_give (Points Null)) (stays_stop (Over (Undefined at)))

stays_named : (at : Place) (t : PlainType) (x : Use) → Stays (λ s. named at t x (find x.decl s.scope) s)
stays_named at t x = record { at = λ s. (named_stays at t x (find x.decl s.scope)).at s }

stays_write_give : (at : Place) (p : Pointer) (k : Scalar) (v w : Value) → Stays (write at p k v >> give w)
stays_write_give at p k v w = stays_then (write at p k v) (give w) (stays_write at p k v) (stays_give w)

stays_assigned : (structs : List StructType) (at : Place) (t : PlainType) (o : Option Scalar) (p : Pointer) (v : Evaluation Value) (q : Evaluation Pointer) → Stays v → Stays q → Stays (assigned structs at t o p v q)
stays_assigned structs at t (Some k) p v q h g = stays_bind v _ h (λ x. stays_write_give at p k x x)
stays_assigned structs at t None p v q h g = stays_bind q _ g (λ y. stays_then _ _ (stays_copy at p y _) (stays_give NoValue))

module _ (T : Tables) (call : Callee) (c : (at : Place) (f : Use) (vs : List Value) → Stays (call at f vs)) where
  stays_truth : (e : Expression) → Stays (eval_with T e call) → Stays (eval_with T e call >>= tested (place_of e) >>= λ y. give (truth_value y))
  stays_truth e f = stays_bind _ _ (stays_bind _ _ f (λ v. stays_computed (place_of e) _)) (λ y. stays_give (truth_value y))

  pub stays_tested : (e : Expression) → Stays (eval_with T e call) → Stays (eval_with T e call >>= tested (place_of e))
  stays_tested e f = stays_bind _ _ f (λ v. stays_computed (place_of e) _)

  mutual
    pub stays_eval : (e : Expression) → Stays (eval_with T e call)
    stays_eval (Node at t (Number n k)) = stays_give (Integer n)
    stays_eval (Node at t (Letter n)) = stays_give (Integer n)
    stays_eval (Node at t (Text n)) = stays_give NoValue
    stays_eval (Node at t (Variable x)) = stays_named at t x
    stays_eval (Node at t (Unary unary.Address a)) = stays_bind _ _ (stays_place a) (stays_address a)
    stays_eval (Node at t (Unary unary.Deref a)) = stays_bind _ _ (stays_bind _ _ (stays_eval a) stays_pointed) (λ p. stays_read_any at p (scalar_of t))
    stays_eval (Node at t (Unary unary.Not a)) = stays_bind _ _ (stays_tested a (stays_eval a)) (λ x. stays_give (Integer (truth (is_zero x))))
    stays_eval (Node at t (Unary unary.Plus a)) = stays_bind _ _ (stays_eval a) (λ x. defined_stays at _)
    stays_eval (Node at t (Unary unary.Minus a)) = stays_bind _ _ (stays_eval a) (λ x. defined_stays at _)
    stays_eval (Node at t (Unary unary.Flip a)) = stays_bind _ _ (stays_eval a) (λ x. defined_stays at _)
    stays_eval (Node at t (Binary op a b)) = stays_bind _ _ (stays_eval a) (λ x. stays_bind _ _ (stays_eval b) (λ y. stays_computed at _))
    stays_eval (Node at t (Both a b)) = stays_bind _ _ (stays_tested a (stays_eval a)) (λ x. stays_choose x _ _ (stays_truth b (stays_eval b)) (stays_give (Integer (pos 0))))
    stays_eval (Node at t (Either a b)) = stays_bind _ _ (stays_tested a (stays_eval a)) (λ x. stays_choose x _ _ (stays_give (Integer (pos 1))) (stays_truth b (stays_eval b)))
    stays_eval (Node at t (Choice a b d)) = stays_bind _ _ (stays_tested a (stays_eval a)) (λ x. stays_choose x _ _ (stays_eval b) (stays_eval d))
    stays_eval (Node at t (Assign None a b)) = stays_bind _ _ (stays_place a) (λ p. stays_assigned T.structs at t (scalar_of t) p _ _ (stays_eval b) (stays_place b))
    stays_eval (Node at t (Assign (Some op) a b)) =
        stays_bind _ _ (stays_place a) (λ p. stays_as_scalar (scalar_of t) _ (λ k. stays_bind _ _ (stays_computed at _) (λ x. stays_bind _ _ (stays_eval b) (λ y. stays_bind _ _ (stays_computed at _) (λ v. stays_write_give at p k v v)))))
    stays_eval (Node at t (Bump op a)) =
        stays_bind _ _ (stays_place a) (λ p. stays_as_scalar (scalar_of t) _
        (λ k. stays_bind (read at p k) _ (stays_computed at _) (λ x. stays_bind (computed at (λ store. compound T.structs t (bump_operator op) store x int_type (Integer (pos 1)))) _ (stays_computed at _)
        (λ v. stays_write_give at p k v (bump_value op x v)))))
    stays_eval (Node at t (Call f args)) = stays_bind _ _ (stays_evals args) (λ vs. c at f vs)
    stays_eval (Node at t (Cast to a)) = stays_cond (is_array (type_of a)) _ _ (stays_bind _ _ (stays_place a) (stays_address a)) (stays_bind _ _ (stays_eval a) (λ x. stays_give (converted to x)))
    stays_eval (Node at t (SizeOfType u)) = stays_give (size_value T u)
    stays_eval (Node at t (SizeOfExpr a)) = stays_give (size_value T (type_of a))
    stays_eval (Node at t (Index a b)) = stays_bind _ _ (stays_eval a) (λ x. stays_bind _ _ (stays_eval b) (λ y. stays_bind _ _ (stays_computed at _) (λ p. stays_read_any at p (scalar_of t))))
    stays_eval (Node at t (Dot a m)) = stays_bind _ _ (stays_place a) (λ p. stays_read_any at (shifted p _) (scalar_of t))
    stays_eval (Node at t (Arrow a m)) = stays_bind _ _ (stays_eval a) (λ x. stays_bind _ _ (stays_pointed x) (λ p. stays_read_any at (shifted p _) (scalar_of t)))
    stays_eval (Node at t (Comma a b)) = stays_then _ _ (stays_eval a) (stays_eval b)

    stays_place : (e : Expression) → Stays (place_with T e call)
    stays_place (Node at t (Variable x)) = stays_object at x.decl
    stays_place (Node at t (Text n)) = stays_give (literal T n)
    stays_place (Node at t (Unary unary.Deref a)) = stays_bind _ _ (stays_eval a) stays_pointed
    stays_place (Node at t (Index a b)) = stays_bind _ _ (stays_eval a) (λ x. stays_bind _ _ (stays_eval b) (λ y. stays_computed at _))
    stays_place (Node at t (Dot a m)) = stays_bind _ _ (stays_place a) (λ p. stays_give (shifted p _))
    stays_place (Node at t (Arrow a m)) = stays_bind _ _ (stays_eval a) (λ x. stays_bind _ _ (stays_pointed x) (λ p. stays_give (shifted p _)))
    stays_place (Node at t (Assign None a b)) = stays_bind _ _ (stays_place a) (λ p. stays_then _ _ (stays_assigned T.structs at t (scalar_of t) p _ _ (stays_eval b) (stays_place b)) (stays_give p))
    stays_place (Node at t (Comma a b)) = stays_then _ _ (stays_eval a) (stays_place b)
    stays_place (Node at t _) = stays_stop (Over (Undefined at))

    stays_evals : (es : Expressions) → Stays (evals_with T es call)
    stays_evals NoExpression = stays_give []
    stays_evals (Following e es) = stays_bind _ _ (stays_eval e) (λ v. stays_bind _ _ (stays_evals es) (λ vs. stays_give (v ∷ vs)))

  stays_zero_scalars : (at : Place) (p : Pointer) (cs : List (ℕ × Scalar)) → Stays (zero_scalars at p cs)
  stays_zero_scalars at p [] = stays_give tt
  stays_zero_scalars at p (d ∷ cs) = stays_then _ _ (stays_write_bytes at _ _) (stays_zero_scalars at p cs)

  stays_zero_parts : (structs : List StructType) (at : Place) (p : Pointer) (cs : List (ℕ × PlainType)) → Stays (zero_parts structs at p cs)
  stays_zero_parts structs at p [] = stays_give tt
  stays_zero_parts structs at p (d ∷ cs) = stays_then _ _ (stays_zero_scalars at _ _) (stays_zero_parts structs at p cs)

  stays_write_each : (at : Place) (p : Pointer) (bytes : List Byte) → Stays (write_each at p bytes)
  stays_write_each at p [] = stays_give tt
  stays_write_each at p (b ∷ bs) = stays_then _ _ (stays_write_bytes at p (b ∷ [])) (stays_write_each at (shifted p 1) bs)

  stays_fill_one : (at : Place) (t : PlainType) (p : Pointer) (o : Option ℕ) (v : Evaluation Value) → Stays v → Stays (fill_one T at t p o v)
  stays_fill_one at t p (Some n) v h = stays_write_each at p _
  stays_fill_one at t p None v h = stays_bind _ _ h (λ x. stays_as_scalar (scalar_of t) _ (λ k. stays_write at p k x))

  mutual
    stays_fill : (at : Place) (t : PlainType) (p : Pointer) (i : Initialiser) → Stays (fill T at t p i call)
    stays_fill at t p (One e) = stays_fill_one at t p (string_in e) _ (stays_eval e)
    stays_fill at t p (Many brace is) = stays_fill_parts at (parts_or_itself T t) p is

    stays_fill_parts : (at : Place) (cs : List (ℕ × PlainType)) (p : Pointer) (is : Initialisers) → Stays (fill_parts T at cs p is call)
    stays_fill_parts at cs p NoInitialiser = stays_zero_parts T.structs at p cs
    stays_fill_parts at [] p (Listed i is) = stays_give tt
    stays_fill_parts at (d ∷ cs) p (Listed i is) = stays_then _ _ (stays_fill at d.1 _ i) (stays_fill_parts at cs p is)

  stays_initialise : (d : Declaration) (i : Option (Place × Initialiser)) → Stays (initialise T d i call)
  stays_initialise d None = stays_give tt
  stays_initialise d (Some (at, i)) = stays_bind _ _ (stays_object at d.place.offset) (λ p. stays_fill at d.ctype p i)

  pub stays_initialise_all : (ds : List Declaration) → Stays (initialise_all T ds call)
  stays_initialise_all [] = stays_give tt
  stays_initialise_all (d ∷ ds) = stays_then _ _ (stays_initialise d d.init) (stays_initialise_all ds)

  pub stays_condition : (e : Option Expression) → Stays (condition_with T e call)
  stays_condition None = stays_give (Integer (pos 1))
  stays_condition (Some e) = stays_tested e (stays_eval e)

  pub stays_effect : (e : Option Expression) → Stays (effect_with T e call)
  stays_effect None = stays_give tt
  stays_effect (Some e) = stays_then _ _ (stays_eval e) (stays_give tt)

  mutual
    pub stays_exec : (a : Statement) (n : ℕ) → Stays (exec_with T a call n)
    stays_exec (Empty at) n = stays_give tt
    stays_exec (Eval at e) n = stays_then _ _ (stays_eval e) (stays_give tt)
    stays_exec (Block at items) n = stays_within _
    stays_exec (If at e a b) n = stays_bind _ _ (stays_tested e (stays_eval e)) (λ v. stays_choose v _ _ (stays_exec a n) (stays_else b n))
    stays_exec (While at annots e a) n = stays_turns n _ _ (stays_then _ _ (stays_invariants annots) (stays_tested e (stays_eval e))) (λ again. stays_turn (variant annots) _ _ again (stays_exec a n) (stays_give tt))
    stays_exec (Do at a e) n = stays_do_turns n _ _ (stays_tested e (stays_eval e)) (stays_exec a n)
    stays_exec (For at annots first e behind a) n = stays_within _
    stays_exec (Break at) n = stays_stop (Leaves Breaks)
    stays_exec (Continue at) n = stays_stop (Leaves Continues)
    stays_exec (Return at None) n = stays_stop (Leaves (Returns None))
    stays_exec (Return at (Some e)) n = stays_bind _ _ (stays_eval e) (λ v. stays_stop (Leaves (Returns (Some v))))
    stays_exec (Labelled at l a) n = stays_then _ _ (stays_mark (Some l)) (stays_exec a n)
    stays_exec (Switch at e cases) n = stays_bind _ _ (stays_eval e) (λ v. stays_after_switch _ (stays_cases cases n (chosen_case v cases)))

    stays_cases : (cases : Cases) (n k : ℕ) → Stays (cases_with T cases call n k)
    stays_cases NoCase n k = stays_give tt
    stays_cases (AnotherCase at v items rest) n zero = stays_then _ _ (stays_items items n) (stays_cases rest n zero)
    stays_cases (AnotherCase at v items rest) n (suc k) = stays_cases rest n k

    stays_else : (b : ElsePart) (n : ℕ) → Stays (else_with T b call n)
    stays_else NoElse n = stays_give tt
    stays_else (Else a) n = stays_exec a n

    pub stays_first : (first : ForFirst) (n : ℕ) → Stays (first_with T first call n)
    stays_first NoFirst n = stays_give tt
    stays_first (First i) n = stays_item i n

    pub stays_item : (i : BlockItem) (n : ℕ) → Stays (item_with T i call n)
    stays_item (Declare ds) n = stays_initialise_all ds
    stays_item (Specify at t) n = stays_give tt
    stays_item (Run a) n = stays_exec a n
    stays_item (Asserts annots) n = stays_checks annots

    pub stays_items : (items : BlockItems) (n : ℕ) → Stays (items_with T items call n)
    stays_items NoItem n = stays_give tt
    stays_items (Then i rest) n = stays_then _ _ (stays_item i n) (stays_items rest n)

-- ---- the library

stays_put_char : (at : Place) (vs : List Value) → Stays (put_char at vs)
stays_put_char at [] = stays_stop (Over (Undefined at))
stays_put_char at (NoValue ∷ []) = stays_stop (Over (Undefined at))
stays_put_char at (Points p ∷ []) = stays_stop (Over (Undefined at))
stays_put_char at (Integer z ∷ []) = stays_then (print (byte_of z)) (give (Integer (pos (byte_of z)))) (record { at = λ s. refl }) (stays_give _)
stays_put_char at (v ∷ w ∷ vs) = stays_stop (Over (Undefined at))

heap_birth_stays : (room : Room) (bytes : List Byte) → Stays (heap_birth room bytes)
heap_birth_stays (NoRoom full) bytes = record { at = λ s. refl }
heap_birth_stays (At place) bytes = record { at = λ s. refl }

stays_allocate : (n : ℕ) (b : Byte) → Stays (allocate n b)
stays_allocate n b = stays_cond (nat_eq n 0) _ _ (stays_give (Points Null)) (record { at = λ s. (heap_birth_stays (heap_room standard_sizes s.store n) (replicate n b)).at s })

stays_malloc : (at : Place) (vs : List Value) → Stays (malloc_with at vs)
stays_malloc at (Integer n ∷ []) = stays_allocate (bits_of U64 n) Unwritten
stays_malloc at _ = stays_stop (Over (Undefined at))

stays_calloc : (at : Place) (vs : List Value) → Stays (calloc_with at vs)
stays_calloc at (Integer n ∷ Integer m ∷ []) = stays_allocate (bits_of U64 n * bits_of U64 m) (NumberByte 0)
stays_calloc at _ = stays_stop (Over (Undefined at))

stays_free : (at : Place) (vs : List Value) → Stays (free_with at vs)
stays_free at (Points p ∷ []) = stays_then _ _ (stays_changed at (λ store. freed store p)) (stays_give NoValue)
stays_free at _ = stays_stop (Over (Undefined at))

read_byte_stays : (bytes : List ℕ) (tail : InputTail) → Stays (read_byte bytes tail)
read_byte_stays [] EndOfInput = stays_give _
read_byte_stays [] InputFault = stays_stop (Over ReadFault)
read_byte_stays (b ∷ bs) tail = record { at = λ s. refl }

stays_get_char : (at : Place) (vs : List Value) → Stays (get_char at vs)
stays_get_char at [] = record { at = λ s. (read_byte_stays s.input.bytes s.input.tail).at s }
stays_get_char at (v ∷ vs) = stays_stop (Over (Undefined at))

stays_exit : (at : Place) (vs : List Value) → Stays (exit_with at vs)
stays_exit at [] = stays_stop (Over (Undefined at))
stays_exit at (NoValue ∷ []) = stays_stop (Over (Undefined at))
stays_exit at (Points p ∷ []) = stays_stop (Over (Undefined at))
stays_exit at (Integer z ∷ []) = stays_stop (Over (Exits z))
stays_exit at (v ∷ w ∷ vs) = stays_stop (Over (Undefined at))

stays_print : (b : ℕ) → Stays (print b)
stays_print b = record { at = λ s. refl }

stays_print_all : (bytes : List ℕ) → Stays (print_all bytes)
stays_print_all [] = stays_give tt
stays_print_all (b ∷ bs) = stays_then (print b) (print_all bs) (stays_print b) (stays_print_all bs)

stays_end_of_string : (at : Place) (ends : Bool) → Stays (at_end_of_string at ends)
stays_end_of_string at true = stays_give tt
stays_end_of_string at false = stays_stop (Over (Undefined at))

stays_string : (at : Place) (p : Pointer) → Stays (print_string at p)
stays_string at p = record { at = λ s. (stays_then _ _ (stays_print_all (string_at s.store p).0) (stays_end_of_string at (string_at s.store p).1)).at s }

stays_pieces : (at : Place) (ps : List Piece) (vs : List Value) → Stays (print_pieces at ps vs)
stays_pieces at [] vs = stays_give NoValue
stays_pieces at (Bytes bs ∷ ps) vs = stays_then _ _ (stays_print_all bs) (stays_pieces at ps vs)
stays_pieces at (NumberPiece k ∷ ps) (Integer z ∷ vs) = stays_then _ _ (stays_print_all (signed_decimal z)) (stays_pieces at ps vs)
stays_pieces at (Character ∷ ps) (Integer z ∷ vs) = stays_then _ _ (stays_print (byte_of z)) (stays_pieces at ps vs)
stays_pieces at (String ∷ ps) (Points p ∷ vs) = stays_then _ _ (stays_string at p) (stays_pieces at ps vs)
stays_pieces at (piece ∷ ps) _ = stays_stop (Over (Undefined at))

stays_printf : (T : Tables) (at : Place) (vs : List Value) → Stays (printf_with T at vs)
stays_printf T at (Points p ∷ vs) = stays_bind _ _ (defined_stays at (text_at_pointer T p)) (λ bytes. stays_bind _ _ (defined_stays at (pieces_of bytes)) (λ ps. stays_pieces at ps vs))
stays_printf T at _ = stays_stop (Over (Undefined at))

stays_library_call : (T : Tables) (at : Place) (name : Option (List ℕ)) (vs : List Value) → Stays (library_call T at name vs)
stays_library_call T at None vs = stays_stop (Over (Undefined at))
stays_library_call T at (Some name) vs =
    stays_if (bytes_eq name (codes "putchar")) _ _ (stays_put_char at vs)
    (stays_if (bytes_eq name (codes "getchar")) _ _ (stays_get_char at vs)
    (stays_if (bytes_eq name (codes "exit")) _ _ (stays_exit at vs)
    (stays_if (bytes_eq name (codes "malloc")) _ _ (stays_malloc at vs)
    (stays_if (bytes_eq name (codes "calloc")) _ _ (stays_calloc at vs)
    (stays_if (bytes_eq name (codes "free")) _ _ (stays_free at vs)
    (stays_if (bytes_eq name (codes "printf")) _ _ (stays_printf T at vs) (stays_stop (Over (Undefined at)))))))))

-- ---- calls of a program

call_with_stays : (T : Tables) (globals : Scope) (f : Option Function) (call : Callee) (n : ℕ) (at : Place) (vs : List Value) → Stays (call_with T globals f call n at vs)
call_with_stays T globals None call n at vs = stays_stop (Over (Undefined at))
call_with_stays T globals (Some f) call n at vs = stays_then _ _ stays_step (stays_called _)

pub stays_call : (p : TranslationUnit) (n : ℕ) (at : Place) (f : Use) (vs : List Value) → Stays (call_of p n at f vs)
stays_call p zero at f vs = stays_if (is_of_library f) _ _ (stays_library_call (tables_of p) at (slice_get p.names f.name) vs) (stays_stop (Over Spent))
stays_call p (suc n) at f vs =
    stays_if (is_of_library f) _ _ (stays_library_call (tables_of p) at (slice_get p.names f.name) vs)
    (call_with_stays (tables_of p) (global_scope p) (definition_at f.decl p.funcs) (call_of p n) n at vs)
