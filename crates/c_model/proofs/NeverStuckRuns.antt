-- Evaluations that never get stuck, whatever is typed: births, blocks, annotations, loops and the library.
use Rattle.std.proofs.Common.{◌≡◌, ℕ, zero, suc, ◌+◌, ◌*◌, pos, Bool, true, false, cond, if◌then◌else◌, nat_eq, nat_lt, ℤ, List, [], ◌∷◌, length, replicate, Option, Some, None, codes, bytes_eq, subst}
use Rattle.c_syntax.specs.declared.place.Place.{Place}
use Rattle.c_syntax.specs.declared.types.Segment.{Segment}
use Rattle.c_syntax.specs.declared.types.Segment.TheVariants.{Frames}
use Rattle.c_syntax.specs.declared.types.CInt.TheVariants.{I8, U64}
use Rattle.c_syntax.specs.Ctypes.{PlainType, Void, Int, Ptr, int_type}
use Rattle.c_syntax.specs.Logic.{LogicTerm, ClauseBody, Raw, Holds, Annotation, Behaviors}
use Rattle.c_syntax.specs.Logic as logic
use Rattle.c_syntax.specs.Statements.{Declaration}
use Rattle.c_syntax.specs.Programs.{StructType, NamedBehavior, FunctionContract}
use Rattle.c_syntax.specs.Layouts.{Scalar, size_of}
use Rattle.c_model.specs.Integers.{bits_of, byte_of}
use Rattle.c_model.specs.Memory.{Pointer, Null, Into, Value, Integer, Points, NoValue, Byte, Unwritten, Number as NumberByte, Store, save, tested_value}
use Rattle.c_model.specs.Memory.{standard_sizes, full_at_stack_birth, Room, At, NoRoom, heap_room, freed}
use Rattle.c_model.specs.State.{InputTail, EndOfInput, InputFault, State, Leave, Breaks, Continues, Returns, Final, Undefined, Spent, Full}
use Rattle.c_model.specs.State.{Exits, Leaves, Over, Stuck, Outcome, Normal, Stop, Evaluation, on_outcome, ◌>>=◌, ◌>>◌, give, done}
use Rattle.c_model.specs.State.{Scope, stop, defined, computed, changed, step_from, step, read_byte, print, print_all, find}
use Rattle.c_model.specs.State.{start_of, object, put_store, write, tested, birth_of, birth, births, heap_birth, allocate, write_youngest, alone}
use Rattle.c_model.specs.State.{frame, mark, restored, within, answered, called}
use Rattle.c_model.specs.StatementTyping.{Around, in_loop, in_switch}
use Rattle.c_model.specs.ExpressionTyping.{Signature, of_library, library_function}
use Rattle.c_model.specs.TypedTrees.{WhereAny}
use Rattle.c_model.specs.Logic.{TermValue, Mathematical, Answer, Says, SaysNothing, OutOfSteps, judged, Environment, Addressed}
use Rattle.c_model.specs.Predicates.{term, clause, check, checks, invariant, invariants, valued, value_of, is_smaller, compared, check_in}
use Rattle.c_model.specs.ContractChecks.{Check, covered, named_holds, assumed, demand, of_behavior, checked, all_checked, holds_at, is_assumes, entry_checks}
use Rattle.c_model.specs.ContractChecks.{leave_checks, all_hold, result_is, entry, ending}
use Rattle.c_model.specs.Meaning.{is_zero, choose, after_body, turn_with, turns, do_turns, after_switch}
use Rattle.c_model.specs.Meaning.{Tables, put_char, get_char, exit_with, malloc_with, calloc_with, free_with, text_at_pointer, printf_with, library_call}
use Rattle.c_model.specs.Strings.{string_at}
use Rattle.c_model.specs.Formats.{Piece, Bytes, Number as NumberPiece, Character, String, pieces_of}
use Rattle.c_model.specs.Printing.{at_end_of_string, print_string, print_pieces}
use Rattle.std.specs.Fmt.{signed_decimal}

-- ---- what evaluations give

abbrev pub Anything : {A : Type 0} → A → Type 0
Anything a = Unit {0}

abbrev pub NoJump : Leave → Type 0
NoJump l = ⊥

abbrev pub IsNumber : Value → Type 0
IsNumber (Integer z) = Unit {0}
IsNumber (Points p) = ⊥
IsNumber NoValue = ⊥

abbrev pub IsAddress : Value → Type 0
IsAddress (Points p) = Unit {0}
IsAddress (Integer z) = ⊥
IsAddress NoValue = ⊥

-- a value that an expression of the type may have: numbers and addresses alone are used
abbrev pub IsValueOf : PlainType → Value → Type 0
IsValueOf (Int k) v = IsNumber v
IsValueOf (Ptr t) v = IsAddress v
IsValueOf _ v = Unit {0}

-- a value of which P holds, a jump of which L holds, or an end of the run
abbrev pub EndsWell : {A : Type 0} → (A → Type 0) → (Leave → Type 0) → Outcome A → Type 0
EndsWell P L (Normal a s) = P a
EndsWell P L (Stop (Leaves l) s) = L l
EndsWell P L (Stop (Over e) s) = Unit {0}
EndsWell P L (Stop Stuck s) = ⊥

-- so from every state
pub record Gives {A : Type 0} (P : A → Type 0) (L : Leave → Type 0) (m : Evaluation A) : Type 0 where
  pub at : (s : State) → EndsWell P L (m s)

pub bound : {A B : Type 0} (P : A → Type 0) (Q : B → Type 0) (L : Leave → Type 0) (r : Outcome A) (f : A → Evaluation B) → EndsWell P L r → ((a : A) → P a → Gives Q L (f a)) → EndsWell Q L (on_outcome r f)
bound P Q L (Normal a s) f g h = (h a g).at s
bound P Q L (Stop (Leaves l) s) f g h = g
bound P Q L (Stop (Over e) s) f g h = g
bound P Q L (Stop Stuck s) f g h = g

pub gives_bind : {A B : Type 0} {P : A → Type 0} {Q : B → Type 0} {L : Leave → Type 0} (m : Evaluation A) (f : A → Evaluation B) → Gives P L m → ((a : A) → P a → Gives Q L (f a)) → Gives Q L (m >>= f)
gives_bind {P = P} {Q = Q} {L = L} m f g h = record { at = λ s. bound P Q L (m s) f (g.at s) h }

pub gives_then : {A B : Type 0} {P : A → Type 0} {Q : B → Type 0} {L : Leave → Type 0} (m : Evaluation A) (f : Evaluation B) → Gives P L m → Gives Q L f → Gives Q L (m >> f)
gives_then m f g h = gives_bind m (λ _. f) g (λ _ _. h)

pub gives_give : {A : Type 0} {P : A → Type 0} {L : Leave → Type 0} (a : A) → P a → Gives P L (give a)
gives_give a h = record { at = λ s. h }

pub gives_over : {A : Type 0} {P : A → Type 0} {L : Leave → Type 0} (e : Final) → Gives P L (stop (Over e))
gives_over e = record { at = λ s. tt }

pub gives_jump : {A : Type 0} {P : A → Type 0} {L : Leave → Type 0} (l : Leave) → L l → Gives P L (stop (Leaves l))
gives_jump l h = record { at = λ s. h }

pub jumps : {A : Type 0} (P : A → Type 0) (L : Leave → Type 0) (r : Outcome A) → EndsWell P NoJump r → EndsWell P L r
jumps P L (Normal a s) h = h
jumps P L (Stop (Leaves l) s) h = absurd h
jumps P L (Stop (Over e) s) h = h
jumps P L (Stop Stuck s) h = h

-- what makes no jump makes none but these
pub gives_no_jump : {A : Type 0} {P : A → Type 0} {L : Leave → Type 0} (m : Evaluation A) → Gives P NoJump m → Gives P L m
gives_no_jump {P = P} {L = L} m g = record { at = λ s. jumps P L (m s) (g.at s) }

pub values : {A : Type 0} (P Q : A → Type 0) (L : Leave → Type 0) (r : Outcome A) → EndsWell P L r → ((a : A) → P a → Q a) → EndsWell Q L r
values P Q L (Normal a s) h f = f a h
values P Q L (Stop (Leaves l) s) h f = h
values P Q L (Stop (Over e) s) h f = h
values P Q L (Stop Stuck s) h f = h

pub gives_values : {A : Type 0} {P : A → Type 0} {L : Leave → Type 0} (Q : A → Type 0) (m : Evaluation A) → Gives P L m → ((a : A) → P a → Q a) → Gives Q L m
gives_values {P = P} {L = L} Q m g f = record { at = λ s. values P Q L (m s) (g.at s) f }

pub gives_cond : {A : Type 0} {P : A → Type 0} {L : Leave → Type 0} (t : Bool) (a b : Evaluation A) → Gives P L a → Gives P L b → Gives P L (cond t a b)
gives_cond true a b f g = f
gives_cond false a b f g = g

-- ---- the store

pub defined_well : {A : Type 0} (P : A → Type 0) (L : Leave → Type 0) (at : Place) (o : Option A) (s : State) → WhereAny P o → EndsWell P L (defined at o s)
defined_well P L at None s h = tt
defined_well P L at (Some a) s h = h

pub gives_defined : {A : Type 0} {P : A → Type 0} {L : Leave → Type 0} (at : Place) (o : Option A) → WhereAny P o → Gives P L (defined at o)
gives_defined {P = P} {L = L} at o h = record { at = λ s. defined_well P L at o s h }

pub anything : {A : Type 0} (o : Option A) → WhereAny Anything o
anything None = tt
anything (Some a) = tt

pub gives_object : {L : Leave → Type 0} (at : Place) (x : ℕ) → Gives Anything L (object at x)
gives_object {L = L} at x = record { at = λ s. defined_well Anything L at (start_of (find x s.scope)) s (anything (start_of (find x s.scope))) }

pub gives_computed : {A : Type 0} {P : A → Type 0} {L : Leave → Type 0} (at : Place) (f : Store → Option A) → ((store : Store) → WhereAny P (f store)) → Gives P L (computed at f)
gives_computed {P = P} {L = L} at f h = record { at = λ s. defined_well P L at (f s.store) s (h s.store) }

pub gives_tested : {L : Leave → Type 0} (at : Place) (v : Value) → Gives Anything L (tested at v)
gives_tested at v = gives_computed at _ (λ store. anything (tested_value store v))

pub changed_well : (L : Leave → Type 0) (at : Place) (o : Option Store) (s : State) → EndsWell Anything L ((defined at o >>= put_store) s)
changed_well L at None s = tt
changed_well L at (Some store) s = tt

pub gives_changed : {L : Leave → Type 0} (at : Place) (f : Store → Option Store) → Gives Anything L (changed at f)
gives_changed {L = L} at f = record { at = λ s. changed_well L at (f s.store) s }

pub gives_write : {L : Leave → Type 0} (at : Place) (p : Pointer) (k : Scalar) (v : Value) → Gives Anything L (write at p k v)
gives_write at p k v = gives_changed at _

pub gives_written : {P : Value → Type 0} {L : Leave → Type 0} (at : Place) (p : Pointer) (k : Scalar) (v w : Value) → P w → Gives P L (write at p k v >> give w)
gives_written at p k v w h = gives_then (write at p k v) (give w) (gives_write at p k v) (gives_give w h)

-- ---- births, calls and blocks

pub birth_well : (L : Leave → Type 0) (o : Option Segment) (x size : ℕ) (s : State) → EndsWell Anything L (birth_of o x size s)
birth_well L None x size s = tt
birth_well L (Some full) x size s = tt

pub gives_birth : {L : Leave → Type 0} (structs : List StructType) (d : Declaration) → Gives Anything L (birth structs d)
gives_birth {L = L} structs d = record { at = λ s. birth_well L (full_at_stack_birth standard_sizes s.store (size_of structs d.ctype)) d.place.offset (size_of structs d.ctype) s }

pub gives_births : {L : Leave → Type 0} (structs : List StructType) (ds : List Declaration) → Gives Anything L (births structs ds)
gives_births structs [] = gives_give tt tt
gives_births structs (d ∷ ds) = gives_then (birth structs d) (births structs ds) (gives_birth structs d) (gives_births structs ds)

pub gives_write_youngest : {L : Leave → Type 0} (at : Place) (k : Scalar) (v : Value) → Gives Anything L (write_youngest at k v)
gives_write_youngest {L = L} at k v = record { at = λ s. changed_well L at (save s.store (Into (length s.store) 0) k v) s }

pub cond_well : (L : Leave → Type 0) (t : Bool) (r r' : Outcome (Unit {0})) → EndsWell Anything L r → EndsWell Anything L r' → EndsWell Anything L (cond t r r')
cond_well L true r r' h g = h
cond_well L false r r' h g = g

pub gives_frame : {L : Leave → Type 0} → Gives Anything L frame
gives_frame {L = L} = record { at = λ s. cond_well L (nat_lt s.calls 65536) (Normal tt (record s { calls = s.calls + 1 })) (Stop (Over (Full Frames)) s) tt tt }

pub gives_alone : {L : Leave → Type 0} (globals : Scope) → Gives Anything L (alone globals)
gives_alone globals = record { at = λ s. tt }

pub gives_mark : {L : Leave → Type 0} (label : Option ℕ) → Gives Anything L (mark label)
gives_mark label = record { at = λ s. tt }

pub restored_well : {A : Type 0} (P : A → Type 0) (L : Leave → Type 0) (old : State) (r : Outcome A) → EndsWell P L r → EndsWell P L (restored old r)
restored_well P L old (Normal a s) h = h
restored_well P L old (Stop (Leaves l) s) h = h
restored_well P L old (Stop (Over e) s) h = h
restored_well P L old (Stop Stuck s) h = h

pub gives_within : {A : Type 0} {P : A → Type 0} {L : Leave → Type 0} (m : Evaluation A) → Gives P L m → Gives P L (within m)
gives_within {P = P} {L = L} m g = record { at = λ s. restored_well P L s (m s) (g.at s) }

pub answered_well : {A : Type 0} (P : A → Type 0) (L : Leave → Type 0) (old : State) (r : Outcome A) → EndsWell P L r → EndsWell P L (answered old r)
answered_well P L old (Normal a s) h = h
answered_well P L old (Stop (Leaves l) s) h = h
answered_well P L old (Stop (Over e) s) h = h
answered_well P L old (Stop Stuck s) h = h

pub gives_called : {A : Type 0} {P : A → Type 0} {L : Leave → Type 0} (m : Evaluation A) → Gives P L m → Gives P L (called m)
gives_called {P = P} {L = L} m g = record { at = λ s. answered_well P L s (m s) (g.at s) }

pub step_well : (L : Leave → Type 0) (n : ℕ) (s : State) → EndsWell Anything L (step_from n s)
step_well L zero s = tt
step_well L (suc n) s = tt

pub gives_step : {L : Leave → Type 0} → Gives Anything L step
gives_step {L = L} = record { at = λ s. step_well L s.steps s }

-- ---- annotations

pub judged_well : (L : Leave → Type 0) (a : Annotation) (answer : Answer) (s : State) → EndsWell Anything L (judged a answer s)
judged_well L a (Says true n) s = tt
judged_well L a (Says false n) s = tt
judged_well L a (SaysNothing n) s = tt
judged_well L a OutOfSteps s = tt

pub gives_check : {L : Leave → Type 0} (e : Environment) (a : Annotation) → Gives Anything L (check_in e a)
gives_check {L = L} e a = record { at = λ s. judged_well L a (clause a.body s e s.steps) s }

pub gives_checks : {L : Leave → Type 0} (annots : List Annotation) → Gives Anything L (checks annots)
gives_checks [] = gives_give tt tt
gives_checks (a ∷ rest) = gives_then (check a) (checks rest) (gives_check [] a) (gives_checks rest)

-- ---- contracts

assumed_well : (L : Leave → Type 0) (a : Annotation) (k : ℕ) (hs : List Bool) (answer : Answer) (s : State) → EndsWell Anything L (assumed a k hs answer s)
assumed_well L a k hs (Says true n) s = tt
assumed_well L a k hs (Says false n) s = tt
assumed_well L a k hs (SaysNothing n) s = tt
assumed_well L a k hs OutOfSteps s = tt

gives_demand : {L : Leave → Type 0} (bs : List NamedBehavior) (e : Environment) (a : Annotation) (body : ClauseBody) (hs : List Bool) → Gives Anything L (demand bs e a body hs)
gives_demand bs e a (Raw f) hs = gives_check e a
gives_demand bs e a (Holds p) hs = gives_check e a
gives_demand bs e a (logic.Value t) hs = gives_check e a
gives_demand {L = L} bs e a (Behaviors names) hs = record { at = λ s. judged_well L a (Says (covered a.kind (named_holds names bs hs)) s.steps) s }

gives_of_behavior : {L : Leave → Type 0} (bs : List NamedBehavior) (e : Environment) (a : Annotation) (k : ℕ) (hs : List Bool) (t : Bool) → Gives Anything L (of_behavior bs e a k hs t)
gives_of_behavior {L = L} bs e a k hs true = record { at = λ s. assumed_well L a k hs (clause a.body s [] s.steps) s }
gives_of_behavior bs e a k hs false = gives_then _ _ (gives_demand bs e a a.body hs) (gives_give hs tt)

gives_checked : {L : Leave → Type 0} (bs : List NamedBehavior) (e : Environment) (a : Annotation) (o : Option ℕ) (hs : List Bool) → Gives Anything L (checked bs e a o hs)
gives_checked bs e a None hs = gives_then _ _ (gives_demand bs e a a.body hs) (gives_give hs tt)
gives_checked bs e a (Some k) hs = gives_cond (holds_at k hs) _ _ (gives_of_behavior bs e a k hs (is_assumes a.kind)) (gives_give hs tt)

gives_all_checked : {L : Leave → Type 0} (bs : List NamedBehavior) (e : Environment) (cs : List Check) (hs : List Bool) → Gives Anything L (all_checked bs e cs hs)
gives_all_checked bs e [] hs = gives_give hs tt
gives_all_checked bs e (c ∷ cs) hs = gives_bind _ _ (gives_checked bs e c.annotation c.behavior hs) (λ held _. gives_all_checked bs e cs held)

pub gives_entry : {L : Leave → Type 0} (c : Option FunctionContract) → Gives Anything L (entry c)
gives_entry None = gives_give [] tt
gives_entry (Some c) = gives_all_checked c.behaviors [] (entry_checks c) (all_hold c.behaviors)

pub gives_ending : {L : Leave → Type 0} (c : Option FunctionContract) (hs : List Bool) (v : Value) → Gives Anything L (ending c hs v)
gives_ending None hs v = gives_give tt tt
gives_ending (Some c) hs v = gives_then _ _ (gives_all_checked c.behaviors (result_is v) (leave_checks c) hs) (gives_give tt tt)

gives_invariant : {L : Leave → Type 0} (a : Annotation) (b : ClauseBody) → Gives Anything L (invariant a b)
gives_invariant a (Raw f) = gives_check [] a
gives_invariant a (Holds p) = gives_check [] a
gives_invariant a (logic.Value t) = gives_give tt tt
gives_invariant a (Behaviors names) = gives_check [] a

pub gives_invariants : {L : Leave → Type 0} (annots : List Annotation) → Gives Anything L (invariants annots)
gives_invariants [] = gives_give tt tt
gives_invariants (a ∷ rest) = gives_then (invariant a a.body) (invariants rest) (gives_invariant a a.body) (gives_invariants rest)

valued_well : (L : Leave → Type 0) (a : Annotation) (o : Option TermValue) (s : State) → EndsWell Anything L (valued a o s)
valued_well L a None s = tt
valued_well L a (Some (Addressed x)) s = tt
valued_well L a (Some (Mathematical z)) s = tt

gives_variant : {L : Leave → Type 0} (a : Annotation) (t : LogicTerm) → Gives Anything L (value_of a t)
gives_variant {L = L} a t = record { at = λ s. valued_well L a (term t s []) s }

gives_compared : {L : Leave → Type 0} (a : Annotation) (old new : ℤ) → Gives Anything L (compared a old new)
gives_compared {L = L} a old new = record { at = λ s. judged_well L a (Says (is_smaller old new) s.steps) s }

-- ---- choices and loops

pub gives_choose : {A : Type 0} {P : A → Type 0} {L : Leave → Type 0} (v : Value) (a b : Evaluation A) → Gives P L a → Gives P L b → Gives P L (choose v a b)
gives_choose {P = P} {L = L} v a b f g = by (is_zero v)
  where
    by : (t : Bool) → Gives P L (cond t b a)
    by true = g
    by false = f

-- the jumps that a statement may make there, by its typing: `break` and `continue` in a loop, and a `return` with a value of the result
abbrev pub Allowed : Around → Leave → Type 0
Allowed r Breaks = r.breaks ≡ true
Allowed r Continues = r.loops ≡ true
Allowed r (Returns None) = IsValueOf r.result NoValue
Allowed r (Returns (Some v)) = IsValueOf r.result v

pub body_well : (r : Around) (o : Outcome (Unit {0})) (again : Evaluation (Unit {0})) → EndsWell Anything (Allowed (in_loop r)) o → Gives Anything (Allowed r) again → EndsWell Anything (Allowed r) (after_body o again)
body_well r (Normal u s) again h g = g.at s
body_well r (Stop (Leaves Continues) s) again h g = g.at s
body_well r (Stop (Leaves Breaks) s) again h g = tt
body_well r (Stop (Leaves (Returns None)) s) again h g = h
body_well r (Stop (Leaves (Returns (Some v))) s) again h g = h
body_well r (Stop (Over e) s) again h g = h
body_well r (Stop Stuck s) again h g = h

switch_well : (r : Around) (o : Outcome (Unit {0})) → EndsWell Anything (Allowed (in_switch r)) o → EndsWell Anything (Allowed r) (after_switch o)
switch_well r (Normal u s) h = tt
switch_well r (Stop (Leaves Breaks) s) h = tt
switch_well r (Stop (Leaves Continues) s) h = h
switch_well r (Stop (Leaves (Returns None)) s) h = h
switch_well r (Stop (Leaves (Returns (Some v))) s) h = h
switch_well r (Stop (Over e) s) h = h
switch_well r (Stop Stuck s) h = h

pub gives_after_switch : (r : Around) (m : Evaluation (Unit {0})) → Gives Anything (Allowed (in_switch r)) m → Gives Anything (Allowed r) (λ s. after_switch (m s))
gives_after_switch r m g = record { at = λ s. switch_well r (m s) (g.at s) }

gives_after_body : (r : Around) (body again : Evaluation (Unit {0})) → Gives Anything (Allowed (in_loop r)) body → Gives Anything (Allowed r) again → Gives Anything (Allowed r) (λ s. after_body (body s) again)
gives_after_body r body again b h = record { at = λ s. body_well r (body s) again (b.at s) h }

pub gives_turn : (r : Around) (v : Option (Annotation × LogicTerm)) (body behind again : Evaluation (Unit {0})) → Gives Anything (Allowed (in_loop r)) body → Gives Anything (Allowed r) behind → Gives Anything (Allowed r) again
    → Gives Anything (Allowed r) (turn_with v body behind again)
gives_turn r None body behind again b h g = gives_after_body r body _ b (gives_then behind again h g)
gives_turn r (Some v) body behind again b h g =
    gives_bind (value_of v.0 v.1) _ (gives_variant v.0 v.1) (λ old _. gives_after_body r body _ b (gives_then _ again
    (gives_then behind _ h (gives_bind (value_of v.0 v.1) _ (gives_variant v.0 v.1) (λ new _. gives_compared v.0 old new))) g))

pub gives_turns : (r : Around) (n : ℕ) (test : Evaluation Value) (turn : Evaluation (Unit {0}) → Evaluation (Unit {0})) → Gives Anything (Allowed r) test
    → ((again : Evaluation (Unit {0})) → Gives Anything (Allowed r) again → Gives Anything (Allowed r) (turn again)) → Gives Anything (Allowed r) (turns n test turn)
gives_turns r zero test turn t b = gives_over Spent
gives_turns r (suc n) test turn t b =
    gives_bind test _ t (λ v _. gives_choose v _ _ (gives_then step _ gives_step (b (turns n test turn) (gives_turns r n test turn t b))) (gives_give tt tt))

pub gives_do_turns : (r : Around) (n : ℕ) (test : Evaluation Value) (body : Evaluation (Unit {0})) → Gives Anything (Allowed r) test → Gives Anything (Allowed (in_loop r)) body → Gives Anything (Allowed r) (do_turns n test body)
gives_do_turns r zero test body t b = gives_over Spent
gives_do_turns r (suc n) test body t b =
    gives_bind step (λ _ s. after_body (body s) (test >>= λ v. choose v (do_turns n test body) done)) gives_step (λ _ _. record {
      at = λ s. body_well r (body s) (test >>= λ v. choose v (do_turns n test body) done) (b.at s)
          (gives_bind test _ t (λ v _. gives_choose v _ _ (gives_do_turns r n test body t b) (gives_give tt tt)));
    })

-- ---- the library

pub gives_put_char : (at : Place) (vs : List Value) → Gives IsNumber NoJump (put_char at vs)
gives_put_char at [] = gives_over (Undefined at)
gives_put_char at (NoValue ∷ []) = gives_over (Undefined at)
gives_put_char at (Points p ∷ []) = gives_over (Undefined at)
gives_put_char at (Integer z ∷ []) =
    gives_then {P = Anything} (print (byte_of z)) (give (Integer (pos (byte_of z)))) (record { at = λ s. tt }) (gives_give (Integer (pos (byte_of z))) tt)
gives_put_char at (v ∷ w ∷ vs) = gives_over (Undefined at)

pub read_well : (bytes : List ℕ) (tail : InputTail) (s : State) → EndsWell IsNumber NoJump (read_byte bytes tail s)
read_well [] EndOfInput s = tt
read_well [] InputFault s = tt
read_well (b ∷ bs) tail s = tt

pub gives_get_char : (at : Place) (vs : List Value) → Gives IsNumber NoJump (get_char at vs)
gives_get_char at [] = record { at = λ s. read_well s.input.bytes s.input.tail s }
gives_get_char at (v ∷ vs) = gives_over (Undefined at)

pub gives_exit : (at : Place) (vs : List Value) → Gives IsNumber NoJump (exit_with at vs)
gives_exit at [] = gives_over (Undefined at)
gives_exit at (NoValue ∷ []) = gives_over (Undefined at)
gives_exit at (Points p ∷ []) = gives_over (Undefined at)
gives_exit at (Integer z ∷ []) = gives_over (Exits z)
gives_exit at (v ∷ w ∷ vs) = gives_over (Undefined at)

birth_gives : (room : Room) (bytes : List Byte) → Gives IsAddress NoJump (heap_birth room bytes)
birth_gives (NoRoom full) bytes = gives_over (Full full)
birth_gives (At place) bytes = record { at = λ s. tt }

pub gives_allocate : (n : ℕ) (b : Byte) → Gives IsAddress NoJump (allocate n b)
gives_allocate n b =
    gives_cond (nat_eq n 0) _ _ (gives_give (Points Null) tt) (record { at = λ s. (birth_gives (heap_room standard_sizes s.store n) (replicate n b)).at s })

pub gives_malloc : (at : Place) (vs : List Value) → Gives IsAddress NoJump (malloc_with at vs)
gives_malloc at (Integer n ∷ []) = gives_allocate (bits_of U64 n) Unwritten
gives_malloc at _ = gives_over (Undefined at)

pub gives_calloc : (at : Place) (vs : List Value) → Gives IsAddress NoJump (calloc_with at vs)
gives_calloc at (Integer n ∷ Integer m ∷ []) = gives_allocate (bits_of U64 n * bits_of U64 m) (NumberByte 0)
gives_calloc at _ = gives_over (Undefined at)

pub gives_free : (at : Place) (vs : List Value) → Gives Anything NoJump (free_with at vs)
gives_free at (Points p ∷ []) = gives_then _ _ (gives_changed at (λ store. freed store p)) (gives_give NoValue tt)
gives_free at _ = gives_over (Undefined at)

gives_print : (b : ℕ) → Gives Anything NoJump (print b)
gives_print b = record { at = λ s. tt }

gives_print_all : (bytes : List ℕ) → Gives Anything NoJump (print_all bytes)
gives_print_all [] = gives_give tt tt
gives_print_all (b ∷ bs) = gives_then (print b) (print_all bs) (gives_print b) (gives_print_all bs)

gives_end_of_string : (at : Place) (ends : Bool) → Gives Anything NoJump (at_end_of_string at ends)
gives_end_of_string at true = gives_give tt tt
gives_end_of_string at false = gives_over (Undefined at)

gives_string : (at : Place) (p : Pointer) → Gives Anything NoJump (print_string at p)
gives_string at p = record { at = λ s. (gives_then _ _ (gives_print_all (string_at s.store p).0) (gives_end_of_string at (string_at s.store p).1)).at s }

gives_pieces : (at : Place) (ps : List Piece) (vs : List Value) → Gives Anything NoJump (print_pieces at ps vs)
gives_pieces at [] vs = gives_give NoValue tt
gives_pieces at (Bytes bs ∷ ps) vs = gives_then _ _ (gives_print_all bs) (gives_pieces at ps vs)
gives_pieces at (NumberPiece k ∷ ps) (Integer z ∷ vs) = gives_then _ _ (gives_print_all (signed_decimal z)) (gives_pieces at ps vs)
gives_pieces at (Character ∷ ps) (Integer z ∷ vs) = gives_then _ _ (gives_print (byte_of z)) (gives_pieces at ps vs)
gives_pieces at (String ∷ ps) (Points p ∷ vs) = gives_then _ _ (gives_string at p) (gives_pieces at ps vs)
gives_pieces at (piece ∷ ps) _ = gives_over (Undefined at)

gives_printf : (T : Tables) (at : Place) (vs : List Value) → Gives Anything NoJump (printf_with T at vs)
gives_printf T at (Points p ∷ vs) =
    gives_bind {P = Anything} _ _ (gives_defined at (text_at_pointer T p) (anything (text_at_pointer T p))) (λ bytes u.
    gives_bind {P = Anything} _ _ (gives_defined at (pieces_of bytes) (anything (pieces_of bytes))) (λ ps u. gives_pieces at ps vs))
gives_printf T at _ = gives_over (Undefined at)

-- a call of a function of the library gives a value of its result
pub gives_library_call : (T : Tables) (at : Place) (x : ℕ) (w : List ℕ) (vs : List Value) (g : Signature) → library_function x w ≡ Some g → Gives (IsValueOf g.result) NoJump (library_call T at (Some w) vs)
gives_library_call T at x w vs g =
    by (bytes_eq w (codes "putchar")) (bytes_eq w (codes "getchar")) (bytes_eq w (codes "exit")) (bytes_eq w (codes "malloc")) (bytes_eq w (codes "calloc")) (bytes_eq w (codes "free"))
    (bytes_eq w (codes "printf"))
  where
    result_of : (h : Signature) (m : Evaluation Value) → Gives (IsValueOf h.result) NoJump m → Some h ≡ Some g → Gives (IsValueOf g.result) NoJump m
    result_of h m gives e = let same : h ≡ g = cc in subst (λ (f : Signature). Gives (IsValueOf f.result) NoJump m) same gives

    by : (a b c d e f h : Bool) → (if a then Some (of_library x (int_type ∷ []) int_type) else (if b then Some (of_library x [] int_type) else (if c then Some (of_library x (int_type ∷ []) Void)
        else (if d then Some (of_library x (Int U64 ∷ []) (Ptr Void)) else (if e then Some (of_library x (Int U64 ∷ Int U64 ∷ []) (Ptr Void)) else (if f then Some (of_library x (Ptr Void ∷ []) Void)
        else (if h then Some (of_library x (Ptr (Int I8) ∷ []) Void) else None))))))) ≡ Some g
        → Gives (IsValueOf g.result) NoJump (if a then put_char at vs else (if b then get_char at vs else (if c then exit_with at vs else
        (if d then malloc_with at vs else (if e then calloc_with at vs else (if f then free_with at vs else (if h then printf_with T at vs else stop (Over (Undefined at)))))))))
    by true b c d e f h is = result_of _ _ (gives_put_char at vs) is
    by false true c d e f h is = result_of _ _ (gives_get_char at vs) is
    by false false true d e f h is = result_of _ _ (gives_values (IsValueOf Void) _ (gives_exit at vs) (λ v _. tt)) is
    by false false false true e f h is = result_of _ _ (gives_malloc at vs) is
    by false false false false true f h is = result_of _ _ (gives_calloc at vs) is
    by false false false false false true h is = result_of _ _ (gives_free at vs) is
    by false false false false false false true is = result_of _ _ (gives_printf T at vs) is
    by false false false false false false false is = absurd cc
