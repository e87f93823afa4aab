-- What holds between a state and each one that is reached from it: one induction for all such relations.
use Rattle.std.proofs.Common.{◌≡◌, ℕ, zero, suc, ◌+◌, ◌*◌, ◌≤◌, ℤ, pos, ◌+ℤ◌, Bool, true, false, cond, ◌&&◌, if◌then◌else◌, nat_lt, nat_eq, List, [], ◌∷◌, ◌++◌, length, replicate, Option, Some, None, option_map, slice_get, codes, bytes_eq, refl}
use Rattle.std.proofs.Common.{sym, ap, ◌∙◌, append_assoc, append-nil, arith}
use Rattle.c_syntax.specs.declared.place.Place.{Place}
use Rattle.c_syntax.specs.declared.types.Segment.{Segment}
use Rattle.c_syntax.specs.declared.types.Segment.TheVariants.{Frames}
use Rattle.c_syntax.specs.declared.types.BlockKind.TheVariants as block
use Rattle.c_syntax.specs.declared.expression.Use.{Use}
use Rattle.c_syntax.specs.declared.expression.UnOp.TheVariants as unary
use Rattle.c_syntax.specs.declared.annotation.Relation.{Relation}
use Rattle.c_syntax.specs.declared.annotation.Relation.TheVariants.{Ne}
use Rattle.c_syntax.specs.declared.logic.Connective.{Connective}
use Rattle.c_syntax.specs.declared.logic.Connective.TheVariants.{And, Xor, Or, Implies, Iff}
use Rattle.c_syntax.specs.Ctypes.{PlainType, int_type}
use Rattle.c_syntax.specs.declared.logic.Quantifier.{Quantifier}
use Rattle.c_syntax.specs.declared.logic.Quantifier.TheVariants.{ForAll, Exists}
use Rattle.c_syntax.specs.Logic.{LogicTerm, Links, NoLink, Linked, Binder, Predicate, Truth, NonZero, Chain, Not, Connected}
use Rattle.c_syntax.specs.Logic.{Branch, Quantified, Guards, NoGuard, Guarded, ClauseBody, Raw, Holds, Annotation, Behaviors, Asks, Separated}
use Rattle.c_syntax.specs.Logic as logic
use Rattle.c_syntax.specs.Expressions.{Expression, Node, Number, Letter, Text, Variable, Unary, Binary, Both, Either, Choice, Assign, Bump, Call, Cast, SizeOfType, SizeOfExpr, Index, Dot, Arrow, Comma, Expressions, NoExpression, Following, place_of}
use Rattle.c_syntax.specs.Expressions.{type_of}
use Rattle.c_syntax.specs.Statements.{Initialiser, One, Many, Initialisers, NoInitialiser, Listed, Declaration, Statement, Empty, Eval, Block, If, While, Do}
use Rattle.c_syntax.specs.Statements.{For, Break, Continue, Return, Labelled, ElsePart, NoElse, Else, ForFirst, NoFirst, First, BlockItem, Switch, Cases}
use Rattle.c_syntax.specs.Statements.{NoCase, AnotherCase, Declare, Specify, Run, Asserts, BlockItems, NoItem, Then}
use Rattle.c_syntax.specs.Programs.{StructType, NamedBehavior, FunctionContract, Function, TranslationUnit}
use Rattle.c_syntax.specs.declared.types.CInt.TheVariants.{U64}
use Rattle.c_syntax.specs.Layouts.{Scalar, scalar_size, scalar_of, size_of}
use Rattle.c_model.specs.Integers.{bits_of, truth, byte_of}
use Rattle.c_model.specs.Memory.{Pointer, Null, Into, Value, Integer, Points, NoValue, Byte, new_block, Store, load, bytes_from, save_bytes, copy_all, moved, shifted, standard_sizes, full_at_stack_birth}
use Rattle.c_model.specs.Memory.{Unwritten, Number as NumberByte, Room, At, NoRoom, heap_room, heap_block, freed}
use Rattle.c_model.specs.State.{Scope, Mark, Input, InputTail, EndOfInput, InputFault, ReadFault, Exits, print, read_byte, State, Breaks, Continues, Returns, End, Leaves, Over, Stuck, Undefined, Spent, Full, Outcome, Normal, Stop, Evaluation}
use Rattle.c_model.specs.State.{on_outcome, ◌>>=◌, ◌>>◌, give, done, stop, defined, computed, as_scalar, step_from, step, find, start_of, object, read, read_any, put_store, changed, write, write_bytes, copy_object, tested, birth_of, birth, births}
use Rattle.c_model.specs.State.{heap_birth, allocate, print_all}
use Rattle.c_model.specs.Strings.{string_at}
use Rattle.c_model.specs.Formats.{Piece, Bytes, Number as NumberPiece, Character, String, pieces_of}
use Rattle.c_model.specs.Printing.{at_end_of_string, print_string, print_pieces}
use Rattle.std.specs.Fmt.{signed_decimal}
use Rattle.c_model.specs.State.{write_youngest, alone, frame, mark, back_to, restored, within, answered, called}
use Rattle.c_model.specs.Logic.{TermValue, Mathematical, Environment, always, Answer, Says, SaysNothing, OutOfSteps, lazily, denied, silenced, fully, related}
use Rattle.c_model.specs.Logic.{judged, Addressed, related_addresses, said, asks, all_apart}
use Rattle.c_model.specs.TermRanges.{lowered}
use Rattle.c_model.specs.Quantifiers.{deciding, tries, over, between}
use Rattle.c_model.specs.Predicates.{same_as, other_than, connected, term, chain, pred, guarded, clause, check_in, checks_in, checks, invariant, invariants}
use Rattle.c_model.specs.Predicates.{variant, valued, value_of, is_smaller, compared, zone, zones, alignment_of}
use Rattle.c_model.specs.ContractChecks.{Check, assumed, demand, of_behavior, checked, all_checked, holds_at, is_assumes, entry_checks, leave_checks}
use Rattle.c_model.specs.ContractChecks.{all_hold, result_is, entry, ending}
use Rattle.c_model.specs.MemoryQuestions.{null_address}
use Rattle.c_model.specs.Meaning.{Tables, literal, Callee, is_zero, choose, truth_value, size_value, converted, is_of_library, is_pointer, named, is_member, address, is_array, pointed_to, assigned, compound, bump_operator, bump_value}
use Rattle.c_model.specs.Meaning.{eval_with, place_with, evals_with, after_body, turn_with, turns, do_turns, declared_in, declared_first, zero_scalars, zero_parts, string_in}
use Rattle.c_model.specs.Meaning.{write_each, fill_one, parts_or_itself, fill, fill_parts, initialise, initialise_all, condition_with, effect_with, exec_with}
use Rattle.c_model.specs.Meaning.{else_with, first_with, item_with, items_with, parameters, body_with, put_char, get_char, exit_with, malloc_with}
use Rattle.c_model.specs.Meaning.{calloc_with, free_with, text_at_pointer, printf_with, library_call, at_close, returned_by, call_with, after_main, chosen_case, after_switch, cases_with}
use Rattle.c_model.specs.Meaning.{call_of, tables_of, global_scope, definition_at, main_with, function_named, whole, exec}
use Rattle.c_model.specs.Laws.{AreWhole, KeepsWhole, store_after}
use Rattle.c_model.specs.Growth.{Grows, Grown}
use Rattle.c_model.proofs.Blocks.{whole-saved_bytes, whole-copied_all, whole-append, whole-new_block, whole-freed, whole-kill_from}
use Rattle.c_model.proofs.Cells.{length-bytes_from}

-- the steps that an answer leaves
abbrev pub steps_of : Answer → ℕ
steps_of (Says b n) = n
steps_of (SaysNothing n) = n
steps_of OutOfSteps = 0

steps_said : (b : Option Bool) (n : ℕ) → steps_of (said b n) ≤ n
steps_said None n = omega arith
steps_said (Some b) n = omega arith

steps_related : (store : Store) (r : Relation) (a b : Option TermValue) (n : ℕ) → steps_of (related store r a b n) ≤ n
steps_related store r None b n = omega arith
steps_related store r (Some a) None n = omega arith
steps_related store r (Some (Mathematical x)) (Some (Mathematical y)) n = omega arith
steps_related store r (Some (Mathematical x)) (Some (Addressed y)) n = steps_said (related_addresses store r null_address y) n
steps_related store r (Some (Addressed x)) (Some (Mathematical y)) n = steps_said (related_addresses store r x null_address) n
steps_related store r (Some (Addressed x)) (Some (Addressed y)) n = steps_said (related_addresses store r x y) n

steps_lazily : (k : ℕ) (a : Answer) (on off : ℕ → Answer) → steps_of a ≤ k → ((n : ℕ) → steps_of (on n) ≤ n) → ((n : ℕ) → steps_of (off n) ≤ n) → steps_of (lazily a on off) ≤ k
steps_lazily k (Says true n) on off h f g = omega (arith, h, f n)
steps_lazily k (Says false n) on off h f g = omega (arith, h, g n)
steps_lazily k (SaysNothing n) on off h f g = h
steps_lazily k OutOfSteps on off h f g = h

steps_denied : (k : ℕ) (a : Answer) → steps_of a ≤ k → steps_of (denied a) ≤ k
steps_denied k a h = steps_lazily k a _ _ h (λ n. omega arith) (λ n. omega arith)

steps_silenced : (k : ℕ) (a : Answer) → steps_of a ≤ k → steps_of (silenced a) ≤ k
steps_silenced k (Says b n) h = h
steps_silenced k (SaysNothing n) h = h
steps_silenced k OutOfSteps h = h

steps_fully : (k : ℕ) (a : Answer) (b : ℕ → Answer) (f : Bool → Answer → Answer) → steps_of a ≤ k → ((n : ℕ) → steps_of (b n) ≤ n) → ((x : Bool) (y : Answer) (n : ℕ) → steps_of y ≤ n → steps_of (f x y) ≤ n) → steps_of (fully a b f) ≤ k
steps_fully k (Says x n) b f h g w = omega (arith, h, w x (b n) n (g n))
steps_fully k (SaysNothing n) b f h g w = omega (arith, h, steps_silenced n (b n) (g n))
steps_fully k OutOfSteps b f h g w = h

steps_same_as : (x : Bool) (y : Answer) (n : ℕ) → steps_of y ≤ n → steps_of (same_as x y) ≤ n
steps_same_as true y n h = h
steps_same_as false y n h = steps_denied n y h

steps_other_than : (x : Bool) (y : Answer) (n : ℕ) → steps_of y ≤ n → steps_of (other_than x y) ≤ n
steps_other_than true y n h = steps_denied n y h
steps_other_than false y n h = h

steps_connected : (c : Connective) (k : ℕ) (a : Answer) (b : ℕ → Answer) → steps_of a ≤ k → ((n : ℕ) → steps_of (b n) ≤ n) → steps_of (connected c a b) ≤ k
steps_connected And k a b h g = steps_lazily k a _ _ h g (λ n. omega arith)
steps_connected Or k a b h g = steps_lazily k a _ _ h (λ n. omega arith) g
steps_connected Implies k a b h g = steps_lazily k a _ _ h g (λ n. omega arith)
steps_connected Iff k a b h g = steps_fully k a b same_as h g steps_same_as
steps_connected Xor k a b h g = steps_fully k a b other_than h g steps_other_than

-- ---- quantifiers

steps_deciding : (q : Quantifier) (k : ℕ) (a : Answer) (rest : ℕ → Answer) → steps_of a ≤ k → ((n : ℕ) → steps_of (rest n) ≤ n) → steps_of (deciding q a rest) ≤ k
steps_deciding ForAll k a rest h g = steps_lazily k a _ _ h g (λ n. omega arith)
steps_deciding Exists k a rest h g = steps_lazily k a _ _ h (λ n. omega arith) g

steps_tries : (q : Quantifier) (j : ℕ) (v : ℤ) (p : ℤ → ℕ → Answer) → ((v : ℤ) (n : ℕ) → steps_of (p v n) ≤ n) → (n : ℕ) → steps_of (tries q j v p n) ≤ n
steps_tries q zero v p h n = omega arith
steps_tries q (suc j) v p h zero = omega arith
steps_tries q (suc j) v p h (suc n) =
    omega (arith, steps_deciding q n (p v n) (tries q j (v +ℤ pos 1) p) (h v n) (λ m. steps_tries q j (v +ℤ pos 1) p h m))

pub steps_over : (q : Quantifier) (l : ℤ) (bs : List Binder) (h : ℤ) (p : Environment → ℕ → Answer) → ((e : Environment) (n : ℕ) → steps_of (p e n) ≤ n) → (e : Environment) (n : ℕ) → steps_of (over q l bs h p e n) ≤ n
steps_over q l [] h p w e n = w e n
steps_over q l (b ∷ bs) h p w e n = steps_tries q _ _ _ (λ v m. steps_over q v bs h p w ((b.place.offset, always (Mathematical v)) ∷ e) m) n

pub steps_between : (a b : Option TermValue) (f : ℤ → ℤ → ℕ → Answer) → ((l h : ℤ) (n : ℕ) → steps_of (f l h n) ≤ n) → (n : ℕ) → steps_of (between a b f n) ≤ n
steps_between None b f w n = omega arith
steps_between (Some (Addressed x)) b f w n = omega arith
steps_between (Some (Mathematical l)) None f w n = omega arith
steps_between (Some (Mathematical l)) (Some (Addressed y)) f w n = omega arith
steps_between (Some (Mathematical l)) (Some (Mathematical h)) f w n = w l h n

-- ---- predicates

steps_chain : (links : Links) (a : Option TermValue) (s : State) (e : Environment) (n : ℕ) → steps_of (chain a links s e n) ≤ n
steps_chain NoLink a s e n = omega arith
steps_chain (Linked at r t rest) a s e n =
    steps_lazily n (related s.store r a (term t s e) n) _ _ (steps_related s.store r a (term t s e) n) (λ j. steps_chain rest (term t s e) s e j) (λ j. omega arith)

pub steps_guarded : (q : Quantifier) (gs : Guards) (p : Environment → ℕ → Answer) (s : State) → ((e : Environment) (n : ℕ) → steps_of (p e n) ≤ n) → (e : Environment) (n : ℕ) → steps_of (guarded q gs p s e n) ≤ n
steps_guarded q NoGuard p s w e n = w e n
steps_guarded q (Guarded a y ys below b rest) p s w e n =
    steps_between (term a s e) (term b s e) _ (λ l h n. steps_over q l (y ∷ ys) (lowered below h) (guarded q rest p s) (steps_guarded q rest p s w) e n) n

pub steps_pred : (p : Predicate) (s : State) (e : Environment) (n : ℕ) → steps_of (pred p s e n) ≤ n
steps_pred (Truth at b) s e n = omega arith
steps_pred (NonZero at t) s e n = steps_related s.store Ne (term t s e) _ n
steps_pred (Chain at t links) s e n = steps_chain links (term t s e) s e n
steps_pred (Not at p) s e n = steps_denied n (pred p s e n) (steps_pred p s e n)
steps_pred (Connected at c p q) s e n = steps_connected c n (pred p s e n) (pred q s e) (steps_pred p s e n) (steps_pred q s e)
steps_pred (Branch at c p q) s e n = steps_lazily n (pred c s e n) (pred p s e) (pred q s e) (steps_pred c s e n) (steps_pred p s e) (steps_pred q s e)
steps_pred (Quantified at q gs p) s e n = steps_guarded q gs (pred p s) s (steps_pred p s) e n
steps_pred (Asks at f z) s e n = steps_said (option_map (asks f s.store (alignment_of z)) (zone z s e)) n
steps_pred (Separated at zs) s e n = steps_said (option_map all_apart (zones zs s e)) n

pub steps_clause : (body : ClauseBody) (s : State) (e : Environment) (n : ℕ) → steps_of (clause body s e n) ≤ n
steps_clause (Raw f) s e n = omega arith
steps_clause (Holds p) s e n = steps_pred p s e n
steps_clause (logic.Value t) s e n = omega arith
steps_clause (Behaviors names) s e n = omega arith

-- the state at an outcome
abbrev pub state_after : {A : Type 0} → Outcome A → State
state_after (Normal a s) = s
state_after (Stop e s) = s

-- what holds between a state and each one that evaluation reaches from it: it holds of each change of a state, and goes on
pub record Lasts (R : State → State → Type 0) : Type 0 where
  pub same : (s : State) → R s s
  pub onward : (s t u : State) → R s t → R t u → R s u
  pub saved : (s : State) (p : Pointer) (n : ℕ) (bytes : List Byte) (store : Store) → length bytes ≤ n → save_bytes s.store p n bytes ≡ Some store → R s (record s { store = store })
  pub copied : (s : State) (p q : Pointer) (cs : List (ℕ × ℕ)) (store : Store) → copy_all s.store p q cs ≡ Some store → R s (record s { store = store })
  pub born : (s : State) (x size : ℕ) → R s (record s { store = s.store ++ new_block block.Stack size ∷ []; scope = (x, length s.store + 1) ∷ s.scope })
  pub allocated : (s : State) (place n : ℕ) (b : Byte) → heap_room standard_sizes s.store n ≡ At place → R s (record s { store = s.store ++ heap_block place (replicate n b) ∷ [] })
  pub released : (s : State) (p : Pointer) (store : Store) → freed s.store p ≡ Some store → R s (record s { store = store })
  pub fewer : (s : State) (n : ℕ) → n ≤ s.steps → R s (record s { steps = n })
  pub printed : (s : State) (byte : ℕ) → R s (record s { output = s.output ++ byte ∷ [] })
  pub took : (s : State) (input : Input) → R s (record s { input = input })
  pub inside : (s : State) (scope : Scope) (marks : List Mark) (calls : ℕ) → R s (record s { scope = scope; marks = marks; calls = calls })
  pub back : (old s : State) → R old s → R old (back_to old s)

module _ (R : State → State → Type 0) (r : Lasts R) where
  -- it holds from a state to the one that an evaluation leaves
  pub record Along {A : Type 0} (m : Evaluation A) : Type 0 where
    pub at : (s : State) → R s (state_after (m s))

  pub along_outcome : {A B : Type 0} (s : State) (o : Outcome A) (f : A → Evaluation B) → R s (state_after o) → ((a : A) → Along (f a)) → R s (state_after (on_outcome o f))
  along_outcome s (Normal a t) f w h = r.onward s t (state_after (f a t)) w ((h a).at t)
  along_outcome s (Stop e t) f w h = w

  pub along_bind : {A B : Type 0} (m : Evaluation A) (f : A → Evaluation B) → Along m → ((a : A) → Along (f a)) → Along (m >>= f)
  along_bind m f g h = record { at = λ s. along_outcome s (m s) f (g.at s) h }

  pub along_then : {A B : Type 0} (m : Evaluation A) (f : Evaluation B) → Along m → Along f → Along (m >> f)
  along_then m f g h = along_bind m (λ _. f) g (λ _. h)

  pub along_stop : {A : Type 0} (e : End) → Along {A = A} (stop e)
  along_stop e = record { at = λ s. r.same s }

  pub along_give : {A : Type 0} (a : A) → Along (give a)
  along_give a = record { at = λ s. r.same s }

  -- ---- accesses

  pub defined_along : {A : Type 0} (at : Place) (o : Option A) → Along (defined at o)
  defined_along at None = record { at = λ s. r.same s }
  defined_along at (Some a) = record { at = λ s. r.same s }

  pub along_computed : {A : Type 0} (at : Place) (f : Store → Option A) → Along (computed at f)
  along_computed at f = record { at = λ s. (defined_along at (f s.store)).at s }

  pub along_object : (at : Place) (x : ℕ) → Along (object at x)
  along_object at x = record { at = λ s. (defined_along at (start_of (find x s.scope))).at s }

  pub along_as_scalar : {A : Type 0} (o : Option Scalar) (go : Scalar → Evaluation A) → ((k : Scalar) → Along (go k)) → Along (as_scalar o go)
  along_as_scalar None go h = along_stop Stuck
  along_as_scalar (Some k) go h = h k

  pub along_read_any : (at : Place) (p : Pointer) (o : Option Scalar) → Along (read_any at p o)
  along_read_any at p None = along_give NoValue
  along_read_any at p (Some k) = along_computed at (λ store. load store p k)

  pub along_changed : (at : Place) (f : Store → Option Store) → ((s : State) (store : Store) → f s.store ≡ Some store → R s (record s { store = store })) → Along (changed at f)
  along_changed at f h = record { at = λ s. of_store s (f s.store) refl }
    where
      of_store : (s : State) (o : Option Store) → f s.store ≡ o → R s (state_after ((defined at o >>= put_store) s))
      of_store s None e = r.same s
      of_store s (Some store) e = h s store e

  pub along_write : (at : Place) (p : Pointer) (k : Scalar) (v : Value) → Along (write at p k v)
  along_write at p k v = along_changed at _ (λ s store e. r.saved s p (scalar_size k) (bytes_from k v) store (length-bytes_from k v) e)

  pub along_write_bytes : (at : Place) (p : Pointer) (bytes : List Byte) → Along (write_bytes at p bytes)
  along_write_bytes at p bytes = along_changed at _ (λ s store e. r.saved s p (length bytes) bytes store (omega arith) e)

  pub along_copy : (at : Place) (p q : Pointer) (cs : List (ℕ × ℕ)) → Along (copy_object at p q cs)
  along_copy at p q cs = along_changed at _ (λ s store e. r.copied s p q cs store e)

  -- ---- births, calls and blocks

  birth_along : (o : Option Segment) (x size : ℕ) → Along (birth_of o x size)
  birth_along None x size = record { at = λ s. r.born s x size }
  birth_along (Some full) x size = record { at = λ s. r.same s }

  pub along_birth : (structs : List StructType) (d : Declaration) → Along (birth structs d)
  along_birth structs d = record { at = λ s. (birth_along (full_at_stack_birth standard_sizes s.store (size_of structs d.ctype)) d.place.offset (size_of structs d.ctype)).at s }

  pub along_births : (structs : List StructType) (ds : List Declaration) → Along (births structs ds)
  along_births structs [] = along_give tt
  along_births structs (d ∷ ds) = along_then _ _ (along_birth structs d) (along_births structs ds)

  pub along_write_youngest : (at : Place) (k : Scalar) (v : Value) → Along (write_youngest at k v)
  along_write_youngest at k v = record { at = λ s. (along_write at (Into (length s.store) 0) k v).at s }

  pub along_alone : (globals : Scope) → Along (alone globals)
  along_alone globals = record { at = λ s. r.inside s globals [] s.calls }

  pub along_mark : (label : Option ℕ) → Along (mark label)
  along_mark label = record { at = λ s. r.inside s s.scope _ s.calls }

  pub along_cond : {A : Type 0} (t : Bool) (m m' : Evaluation A) → Along m → Along m' → Along (cond t m m')
  along_cond true m m' h h' = h
  along_cond false m m' h h' = h'

  frame_along : (s : State) (t : Bool) → R s (state_after {A = Unit {0}} (cond t (Normal tt (record s { calls = s.calls + 1 })) (Stop (Over (Full Frames)) s)))
  frame_along s true = r.inside s s.scope s.marks (s.calls + 1)
  frame_along s false = r.same s

  pub along_frame : Along frame
  along_frame = record { at = λ s. frame_along s (nat_lt s.calls 65536) }

  restored_along : {A : Type 0} (old : State) (o : Outcome A) → R old (state_after o) → R old (state_after (restored old o))
  restored_along old (Normal a s) w = r.back old s w
  restored_along old (Stop e s) w = r.back old s w

  pub along_within : {A : Type 0} (m : Evaluation A) → Along m → Along (within m)
  along_within m g = record { at = λ s. restored_along s (m s) (g.at s) }

  answered_along : {A : Type 0} (old : State) (o : Outcome A) → R old (state_after o) → R old (state_after (answered old o))
  answered_along old (Normal a s) w = r.onward old (back_to old s) _ (r.back old s w) (r.inside (back_to old s) old.scope old.marks old.calls)
  answered_along old (Stop e s) w = r.onward old (back_to old s) _ (r.back old s w) (r.inside (back_to old s) old.scope old.marks old.calls)

  pub along_called : {A : Type 0} (m : Evaluation A) → Along m → Along (called m)
  along_called m g = record { at = λ s. answered_along s (m s) (g.at s) }

  -- ---- annotations

  judged_along : (a : Annotation) (answer : Answer) (s : State) → steps_of answer ≤ s.steps → R s (state_after (judged a answer s))
  judged_along a (Says true n) s w = r.fewer s n w
  judged_along a (Says false n) s w = r.fewer s n w
  judged_along a (SaysNothing n) s w = r.fewer s n w
  judged_along a OutOfSteps s w = r.fewer s 0 w

  along_check : (e : Environment) (a : Annotation) → Along (check_in e a)
  along_check e a = record { at = λ s. judged_along a (clause a.body s e s.steps) s (steps_clause a.body s e s.steps) }

  pub along_checks_in : (e : Environment) (annots : List Annotation) → Along (checks_in e annots)
  along_checks_in e [] = along_give tt
  along_checks_in e (a ∷ rest) = along_then (check_in e a) (checks_in e rest) (along_check e a) (along_checks_in e rest)

  pub along_checks : (annots : List Annotation) → Along (checks annots)
  along_checks = along_checks_in []

  along_invariant : (a : Annotation) (b : ClauseBody) → Along (invariant a b)
  along_invariant a (Raw f) = along_check [] a
  along_invariant a (Holds p) = along_check [] a
  along_invariant a (logic.Value t) = along_give tt
  along_invariant a (Behaviors names) = along_check [] a

  pub along_invariants : (annots : List Annotation) → Along (invariants annots)
  along_invariants [] = along_give tt
  along_invariants (a ∷ rest) = along_then _ _ (along_invariant a a.body) (along_invariants rest)

  valued_along : (a : Annotation) (o : Option TermValue) (s : State) → R s (state_after (valued a o s))
  valued_along a None s = r.same s
  valued_along a (Some (Addressed x)) s = r.same s
  valued_along a (Some (Mathematical z)) s = r.same s

  pub along_value : (a : Annotation) (t : LogicTerm) → Along (value_of a t)
  along_value a t = record { at = λ s. valued_along a (term t s []) s }

  pub along_compared : (a : Annotation) (old new : ℤ) → Along (compared a old new)
  along_compared a old new = record { at = λ s. judged_along a (Says (is_smaller old new) s.steps) s (omega arith) }

  -- ---- contracts

  assumed_along : (a : Annotation) (k : ℕ) (hs : List Bool) (answer : Answer) (s : State) → steps_of answer ≤ s.steps → R s (state_after (assumed a k hs answer s))
  assumed_along a k hs (Says true n) s w = r.fewer s n w
  assumed_along a k hs (Says false n) s w = r.fewer s n w
  assumed_along a k hs (SaysNothing n) s w = r.fewer s n w
  assumed_along a k hs OutOfSteps s w = r.fewer s 0 w

  along_demand : (bs : List NamedBehavior) (e : Environment) (a : Annotation) (body : ClauseBody) (hs : List Bool) → Along (demand bs e a body hs)
  along_demand bs e a (Raw f) hs = along_check e a
  along_demand bs e a (Holds p) hs = along_check e a
  along_demand bs e a (logic.Value t) hs = along_check e a
  along_demand bs e a (Behaviors names) hs = record { at = λ s. judged_along a (Says _ s.steps) s (omega arith) }

  along_of_behavior : (bs : List NamedBehavior) (e : Environment) (a : Annotation) (k : ℕ) (hs : List Bool) (t : Bool) → Along (of_behavior bs e a k hs t)
  along_of_behavior bs e a k hs true = record { at = λ s. assumed_along a k hs (clause a.body s [] s.steps) s (steps_clause a.body s [] s.steps) }
  along_of_behavior bs e a k hs false = along_then _ _ (along_demand bs e a a.body hs) (along_give hs)

  along_checked : (bs : List NamedBehavior) (e : Environment) (a : Annotation) (o : Option ℕ) (hs : List Bool) → Along (checked bs e a o hs)
  along_checked bs e a None hs = along_then _ _ (along_demand bs e a a.body hs) (along_give hs)
  along_checked bs e a (Some k) hs = along_cond (holds_at k hs) _ _ (along_of_behavior bs e a k hs (is_assumes a.kind)) (along_give hs)

  along_all_checked : (bs : List NamedBehavior) (e : Environment) (cs : List Check) (hs : List Bool) → Along (all_checked bs e cs hs)
  along_all_checked bs e [] hs = along_give hs
  along_all_checked bs e (c ∷ cs) hs = along_bind _ _ (along_checked bs e c.annotation c.behavior hs) (along_all_checked bs e cs)

  pub along_entry : (c : Option FunctionContract) → Along (entry c)
  along_entry None = along_give []
  along_entry (Some c) = along_all_checked c.behaviors [] (entry_checks c) (all_hold c.behaviors)

  pub along_ending : (c : Option FunctionContract) (hs : List Bool) (v : Value) → Along (ending c hs v)
  along_ending None hs v = along_give tt
  along_ending (Some c) hs v = along_then _ _ (along_all_checked c.behaviors (result_is v) (leave_checks c) hs) (along_give tt)

  -- ---- choices and loops

  pub along_choose : {A : Type 0} (v : Value) (a b : Evaluation A) → Along a → Along b → Along (choose v a b)
  along_choose v a b f g = along_cond (is_zero v) b a g f

  pub along_step : Along step
  along_step = record { at = λ s. by s s.steps refl }
    where
      by : (s : State) (n : ℕ) → s.steps ≡ n → R s (state_after (step_from n s))
      by s zero e = r.same s
      by s (suc n) e = r.fewer s n (omega (arith, e))

  body_along : (s : State) (o : Outcome (Unit {0})) (again : Evaluation (Unit {0})) → R s (state_after o) → Along again → R s (state_after (after_body o again))
  body_along s (Normal u t) again w h = r.onward s t _ w (h.at t)
  body_along s (Stop (Leaves Continues) t) again w h = r.onward s t _ w (h.at t)
  body_along s (Stop (Leaves Breaks) t) again w h = w
  body_along s (Stop (Leaves (Returns v)) t) again w h = w
  body_along s (Stop (Over e) t) again w h = w
  body_along s (Stop Stuck t) again w h = w

  switch_along : (s : State) (o : Outcome (Unit {0})) → R s (state_after o) → R s (state_after (after_switch o))
  switch_along s (Normal u t) w = w
  switch_along s (Stop (Leaves Breaks) t) w = w
  switch_along s (Stop (Leaves Continues) t) w = w
  switch_along s (Stop (Leaves (Returns v)) t) w = w
  switch_along s (Stop (Over e) t) w = w
  switch_along s (Stop Stuck t) w = w

  pub along_after_switch : (m : Evaluation (Unit {0})) → Along m → Along (λ s. after_switch (m s))
  along_after_switch m h = record { at = λ s. switch_along s (m s) (h.at s) }

  along_after_body : (body again : Evaluation (Unit {0})) → Along body → Along again → Along (λ s. after_body (body s) again)
  along_after_body body again b h = record { at = λ s. body_along s (body s) again (b.at s) h }

  pub along_turn : (v : Option (Annotation × LogicTerm)) (body behind again : Evaluation (Unit {0})) → Along body → Along behind → Along again → Along (turn_with v body behind again)
  along_turn None body behind again b h g = along_after_body body _ b (along_then behind again h g)
  along_turn (Some v) body behind again b h g =
      along_bind (value_of v.0 v.1) _ (along_value v.0 v.1) (λ old.
      along_after_body body _ b (along_then _ again (along_then behind _ h (along_bind (value_of v.0 v.1) _ (along_value v.0 v.1) (λ new. along_compared v.0 old new))) g))

  pub along_turns : (n : ℕ) (test : Evaluation Value) (turn : Evaluation (Unit {0}) → Evaluation (Unit {0})) → Along test → ((again : Evaluation (Unit {0})) → Along again → Along (turn again)) → Along (turns n test turn)
  along_turns zero test turn t b = along_stop (Over Spent)
  along_turns (suc n) test turn t b =
      along_bind test _ t (λ v. along_choose v _ _ (along_then step (turn (turns n test turn)) along_step (b (turns n test turn) (along_turns n test turn t b))) (along_give tt))

  pub along_do_turns : (n : ℕ) (test : Evaluation Value) (body : Evaluation (Unit {0})) → Along test → Along body → Along (do_turns n test body)
  along_do_turns zero test body t b = along_stop (Over Spent)
  along_do_turns (suc n) test body t b =
      along_bind step (λ _ s. after_body (body s) (test >>= λ v. choose v (do_turns n test body) done)) along_step
      (λ _. record { at = λ s. body_along s (body s) (test >>= λ v. choose v (do_turns n test body) done) (b.at s) (along_bind test _ t (λ v. along_choose v _ _ (along_do_turns n test body t b) (along_give tt))) })

  -- ---- expressions, where calls do this

  pub along_pointed : (v : Value) → Along (pointed_to v)
  along_pointed (Points p) = along_give p
  along_pointed (Integer z) = along_stop Stuck
  along_pointed NoValue = along_stop Stuck

  pub along_address : (e : Expression) (p : Pointer) → Along (address e p)
  along_address e p = by (is_member e)
    where
      by : (t : Bool) → Along (if t then computed (place_of e) (λ store. option_map Points (moved store p (pos 0))) else give (Points p))
      by true = along_computed (place_of e) _
      by false = along_give (Points p)

  named_along : (at : Place) (t : PlainType) (x : Use) (o : Option ℕ) → Along (named at t x o)
  named_along at t x (Some n) = along_read_any at (Into n 0) (scalar_of t)
  named_along at t x None = along_cond (is_pointer t && is_of_library x) _ _ (along_give (Points Null)) (along_stop (Over (Undefined at)))

  pub along_named : (at : Place) (t : PlainType) (x : Use) → Along (λ s. named at t x (find x.decl s.scope) s)
  along_named at t x = record { at = λ s. (named_along at t x (find x.decl s.scope)).at s }

  pub along_write_give : (at : Place) (p : Pointer) (k : Scalar) (v w : Value) → Along (write at p k v >> give w)
  along_write_give at p k v w = along_then (write at p k v) (give w) (along_write at p k v) (along_give w)

  pub along_assigned : (structs : List StructType) (at : Place) (t : PlainType) (o : Option Scalar) (p : Pointer) (v : Evaluation Value) (q : Evaluation Pointer) → Along v → Along q → Along (assigned structs at t o p v q)
  along_assigned structs at t (Some k) p v q h g = along_bind v _ h (λ x. along_write_give at p k x x)
  along_assigned structs at t None p v q h g = along_bind q _ g (λ y. along_then _ _ (along_copy at p y _) (along_give NoValue))

  module _ (T : Tables) (call : Callee) (c : (at : Place) (f : Use) (vs : List Value) → Along (call at f vs)) where
    pub along_truth : (e : Expression) → Along (eval_with T e call) → Along (eval_with T e call >>= tested (place_of e) >>= λ y. give (truth_value y))
    along_truth e f = along_bind _ _ (along_bind _ _ f (λ v. along_computed (place_of e) _)) (λ y. along_give (truth_value y))

    pub along_tested : (e : Expression) → Along (eval_with T e call) → Along (eval_with T e call >>= tested (place_of e))
    along_tested e f = along_bind _ _ f (λ v. along_computed (place_of e) _)

    mutual
      pub along_eval : (e : Expression) → Along (eval_with T e call)
      along_eval (Node at t (Number n k)) = along_give (Integer n)
      along_eval (Node at t (Letter n)) = along_give (Integer n)
      along_eval (Node at t (Text n)) = along_give NoValue
      along_eval (Node at t (Variable x)) = along_named at t x
      along_eval (Node at t (Unary unary.Address a)) = along_bind _ _ (along_place a) (along_address a)
      along_eval (Node at t (Unary unary.Deref a)) = along_bind _ _ (along_bind _ _ (along_eval a) along_pointed) (λ p. along_read_any at p (scalar_of t))
      along_eval (Node at t (Unary unary.Not a)) = along_bind _ _ (along_tested a (along_eval a)) (λ x. along_give (Integer (truth (is_zero x))))
      along_eval (Node at t (Unary unary.Plus a)) = along_bind _ _ (along_eval a) (λ x. defined_along at _)
      along_eval (Node at t (Unary unary.Minus a)) = along_bind _ _ (along_eval a) (λ x. defined_along at _)
      along_eval (Node at t (Unary unary.Flip a)) = along_bind _ _ (along_eval a) (λ x. defined_along at _)
      along_eval (Node at t (Binary op a b)) = along_bind _ _ (along_eval a) (λ x. along_bind _ _ (along_eval b) (λ y. along_computed at _))
      along_eval (Node at t (Both a b)) = along_bind _ _ (along_tested a (along_eval a)) (λ x. along_choose x _ _ (along_truth b (along_eval b)) (along_give (Integer (pos 0))))
      along_eval (Node at t (Either a b)) = along_bind _ _ (along_tested a (along_eval a)) (λ x. along_choose x _ _ (along_give (Integer (pos 1))) (along_truth b (along_eval b)))
      along_eval (Node at t (Choice a b d)) = along_bind _ _ (along_tested a (along_eval a)) (λ x. along_choose x _ _ (along_eval b) (along_eval d))
      along_eval (Node at t (Assign None a b)) = along_bind _ _ (along_place a) (λ p. along_assigned T.structs at t (scalar_of t) p _ _ (along_eval b) (along_place b))
      along_eval (Node at t (Assign (Some op) a b)) =
          along_bind _ _ (along_place a) (λ p. along_as_scalar (scalar_of t) _ (λ k. along_bind _ _ (along_computed at _) (λ x. along_bind _ _ (along_eval b) (λ y. along_bind _ _ (along_computed at _) (λ v. along_write_give at p k v v)))))
      along_eval (Node at t (Bump op a)) =
          along_bind _ _ (along_place a) (λ p. along_as_scalar (scalar_of t) _
          (λ k. along_bind (read at p k) _ (along_computed at _) (λ x. along_bind (computed at (λ store. compound T.structs t (bump_operator op) store x int_type (Integer (pos 1)))) _ (along_computed at _)
          (λ v. along_write_give at p k v (bump_value op x v)))))
      along_eval (Node at t (Call f args)) = along_bind _ _ (along_evals args) (λ vs. c at f vs)
      along_eval (Node at t (Cast to a)) = along_cond (is_array (type_of a)) _ _ (along_bind _ _ (along_place a) (along_address a)) (along_bind _ _ (along_eval a) (λ x. along_give (converted to x)))
      along_eval (Node at t (SizeOfType u)) = along_give (size_value T u)
      along_eval (Node at t (SizeOfExpr a)) = along_give (size_value T (type_of a))
      along_eval (Node at t (Index a b)) = along_bind _ _ (along_eval a) (λ x. along_bind _ _ (along_eval b) (λ y. along_bind _ _ (along_computed at _) (λ p. along_read_any at p (scalar_of t))))
      along_eval (Node at t (Dot a m)) = along_bind _ _ (along_place a) (λ p. along_read_any at (shifted p _) (scalar_of t))
      along_eval (Node at t (Arrow a m)) = along_bind _ _ (along_eval a) (λ x. along_bind _ _ (along_pointed x) (λ p. along_read_any at (shifted p _) (scalar_of t)))
      along_eval (Node at t (Comma a b)) = along_then _ _ (along_eval a) (along_eval b)

      pub along_place : (e : Expression) → Along (place_with T e call)
      along_place (Node at t (Variable x)) = along_object at x.decl
      along_place (Node at t (Text n)) = along_give (literal T n)
      along_place (Node at t (Unary unary.Deref a)) = along_bind _ _ (along_eval a) along_pointed
      along_place (Node at t (Index a b)) = along_bind _ _ (along_eval a) (λ x. along_bind _ _ (along_eval b) (λ y. along_computed at _))
      along_place (Node at t (Dot a m)) = along_bind _ _ (along_place a) (λ p. along_give (shifted p _))
      along_place (Node at t (Arrow a m)) = along_bind _ _ (along_eval a) (λ x. along_bind _ _ (along_pointed x) (λ p. along_give (shifted p _)))
      along_place (Node at t (Assign None a b)) = along_bind _ _ (along_place a) (λ p. along_then _ _ (along_assigned T.structs at t (scalar_of t) p _ _ (along_eval b) (along_place b)) (along_give p))
      along_place (Node at t (Comma a b)) = along_then _ _ (along_eval a) (along_place b)
      along_place (Node at t _) = along_stop (Over (Undefined at))

      pub along_evals : (es : Expressions) → Along (evals_with T es call)
      along_evals NoExpression = along_give []
      along_evals (Following e es) = along_bind _ _ (along_eval e) (λ v. along_bind _ _ (along_evals es) (λ vs. along_give (v ∷ vs)))

    -- ---- statements

    pub along_zero_scalars : (at : Place) (p : Pointer) (cs : List (ℕ × Scalar)) → Along (zero_scalars at p cs)
    along_zero_scalars at p [] = along_give tt
    along_zero_scalars at p (d ∷ cs) = along_then _ _ (along_write_bytes at _ _) (along_zero_scalars at p cs)

    pub along_zero_parts : (structs : List StructType) (at : Place) (p : Pointer) (cs : List (ℕ × PlainType)) → Along (zero_parts structs at p cs)
    along_zero_parts structs at p [] = along_give tt
    along_zero_parts structs at p (d ∷ cs) = along_then _ _ (along_zero_scalars at _ _) (along_zero_parts structs at p cs)

    pub along_write_each : (at : Place) (p : Pointer) (bytes : List Byte) → Along (write_each at p bytes)
    along_write_each at p [] = along_give tt
    along_write_each at p (b ∷ bs) = along_then _ _ (along_write_bytes at p (b ∷ [])) (along_write_each at (shifted p 1) bs)

    pub along_fill_one : (at : Place) (t : PlainType) (p : Pointer) (o : Option ℕ) (v : Evaluation Value) → Along v → Along (fill_one T at t p o v)
    along_fill_one at t p (Some n) v h = along_write_each at p _
    along_fill_one at t p None v h = along_bind _ _ h (λ x. along_as_scalar (scalar_of t) _ (λ k. along_write at p k x))

    mutual
      along_fill : (at : Place) (t : PlainType) (p : Pointer) (i : Initialiser) → Along (fill T at t p i call)
      along_fill at t p (One e) = along_fill_one at t p (string_in e) _ (along_eval e)
      along_fill at t p (Many brace is) = along_fill_parts at (parts_or_itself T t) p is

      along_fill_parts : (at : Place) (cs : List (ℕ × PlainType)) (p : Pointer) (is : Initialisers) → Along (fill_parts T at cs p is call)
      along_fill_parts at cs p NoInitialiser = along_zero_parts T.structs at p cs
      along_fill_parts at [] p (Listed i is) = along_give tt
      along_fill_parts at (d ∷ cs) p (Listed i is) = along_then _ _ (along_fill at d.1 _ i) (along_fill_parts at cs p is)

    pub along_initialise : (d : Declaration) (i : Option (Place × Initialiser)) → Along (initialise T d i call)
    along_initialise d None = along_give tt
    along_initialise d (Some (at, i)) = along_bind _ _ (along_object at d.place.offset) (λ p. along_fill at d.ctype p i)

    pub along_initialise_all : (ds : List Declaration) → Along (initialise_all T ds call)
    along_initialise_all [] = along_give tt
    along_initialise_all (d ∷ ds) = along_then _ _ (along_initialise d d.init) (along_initialise_all ds)

    pub along_condition : (e : Option Expression) → Along (condition_with T e call)
    along_condition None = along_give (Integer (pos 1))
    along_condition (Some e) = along_tested e (along_eval e)

    pub along_effect : (e : Option Expression) → Along (effect_with T e call)
    along_effect None = along_give tt
    along_effect (Some e) = along_then _ _ (along_eval e) (along_give tt)

    mutual
      pub along_exec : (a : Statement) (n : ℕ) → Along (exec_with T a call n)
      along_exec (Empty at) n = along_give tt
      along_exec (Eval at e) n = along_then _ _ (along_eval e) (along_give tt)
      along_exec (Block at items) n = along_within _ (along_then _ _ (along_births T.structs (declared_in items)) (along_items items n))
      along_exec (If at e a b) n = along_bind _ _ (along_tested e (along_eval e)) (λ v. along_choose v _ _ (along_exec a n) (along_else b n))
      along_exec (While at annots e a) n = along_turns n _ _ (along_then _ _ (along_invariants annots) (along_tested e (along_eval e))) (λ again. along_turn (variant annots) _ _ again (along_exec a n) (along_give tt))
      along_exec (Do at a e) n = along_do_turns n _ _ (along_tested e (along_eval e)) (along_exec a n)
      along_exec (For at annots first e behind a) n =
          along_within _ (along_then _ _ (along_then _ _ (along_births T.structs (declared_first first)) (along_first first n))
          (along_turns n _ _ (along_then _ _ (along_invariants annots) (along_condition e)) (λ again. along_turn (variant annots) _ _ again (along_exec a n) (along_effect behind))))
      along_exec (Break at) n = along_stop (Leaves Breaks)
      along_exec (Continue at) n = along_stop (Leaves Continues)
      along_exec (Return at None) n = along_stop (Leaves (Returns None))
      along_exec (Return at (Some e)) n = along_bind _ _ (along_eval e) (λ v. along_stop (Leaves (Returns (Some v))))
      along_exec (Labelled at l a) n = along_then _ _ (along_mark (Some l)) (along_exec a n)
      along_exec (Switch at e cases) n = along_bind _ _ (along_eval e) (λ v. along_after_switch _ (along_cases cases n (chosen_case v cases)))

      pub along_cases : (cases : Cases) (n k : ℕ) → Along (cases_with T cases call n k)
      along_cases NoCase n k = along_give tt
      along_cases (AnotherCase at v items rest) n zero = along_then _ _ (along_items items n) (along_cases rest n zero)
      along_cases (AnotherCase at v items rest) n (suc k) = along_cases rest n k

      pub along_else : (b : ElsePart) (n : ℕ) → Along (else_with T b call n)
      along_else NoElse n = along_give tt
      along_else (Else a) n = along_exec a n

      pub along_first : (first : ForFirst) (n : ℕ) → Along (first_with T first call n)
      along_first NoFirst n = along_give tt
      along_first (First i) n = along_item i n

      pub along_item : (i : BlockItem) (n : ℕ) → Along (item_with T i call n)
      along_item (Declare ds) n = along_initialise_all ds
      along_item (Specify at t) n = along_give tt
      along_item (Run a) n = along_exec a n
      along_item (Asserts annots) n = along_checks annots

      pub along_items : (items : BlockItems) (n : ℕ) → Along (items_with T items call n)
      along_items NoItem n = along_give tt
      along_items (Then i rest) n = along_then _ _ (along_item i n) (along_items rest n)

    pub along_body : (body : Option Statement) (n : ℕ) → Along (body_with T body call n)
    along_body None n = along_stop Stuck
    along_body (Some a) n = along_exec a n

    pub along_parameters : (at : Place) (ds : List Declaration) (vs : List Value) → Along (parameters T at ds vs)
    along_parameters at [] [] = along_give tt
    along_parameters at [] (v ∷ vs) = along_stop (Over (Undefined at))
    along_parameters at (d ∷ ds) [] = along_stop (Over (Undefined at))
    along_parameters at (d ∷ ds) (v ∷ vs) =
        along_then _ _ (along_then _ _ (along_birth T.structs d) (along_as_scalar (scalar_of d.ctype) _ (λ k. along_write_youngest at k v))) (along_parameters at ds vs)

  -- ---- programs

  pub along_put_char : (at : Place) (vs : List Value) → Along (put_char at vs)
  along_put_char at [] = along_stop (Over (Undefined at))
  along_put_char at (NoValue ∷ []) = along_stop (Over (Undefined at))
  along_put_char at (Points p ∷ []) = along_stop (Over (Undefined at))
  along_put_char at (Integer z ∷ []) = along_then (print (byte_of z)) (give (Integer (pos (byte_of z)))) (record { at = λ s. r.printed s (byte_of z) }) (along_give _)
  along_put_char at (v ∷ w ∷ vs) = along_stop (Over (Undefined at))

  heap_birth_along : (room : Room) (s : State) (n : ℕ) (b : Byte) → heap_room standard_sizes s.store n ≡ room → R s (state_after (heap_birth room (replicate n b) s))
  heap_birth_along (NoRoom full) s n b e = r.same s
  heap_birth_along (At place) s n b e = r.allocated s place n b e

  pub along_allocate : (n : ℕ) (b : Byte) → Along (allocate n b)
  along_allocate n b = along_cond (nat_eq n 0) _ _ (along_give (Points Null)) (record { at = λ s. heap_birth_along (heap_room standard_sizes s.store n) s n b refl })

  pub along_malloc : (at : Place) (vs : List Value) → Along (malloc_with at vs)
  along_malloc at (Integer n ∷ []) = along_allocate (bits_of U64 n) Unwritten
  along_malloc at _ = along_stop (Over (Undefined at))

  pub along_calloc : (at : Place) (vs : List Value) → Along (calloc_with at vs)
  along_calloc at (Integer n ∷ Integer m ∷ []) = along_allocate (bits_of U64 n * bits_of U64 m) (NumberByte 0)
  along_calloc at _ = along_stop (Over (Undefined at))

  pub along_free : (at : Place) (vs : List Value) → Along (free_with at vs)
  along_free at (Points p ∷ []) = along_then _ _ (along_changed at (λ store. freed store p) (λ s store e. r.released s p store e)) (along_give NoValue)
  along_free at _ = along_stop (Over (Undefined at))

  read_byte_along : (bytes : List ℕ) (tail : InputTail) → Along (read_byte bytes tail)
  read_byte_along [] EndOfInput = along_give _
  read_byte_along [] InputFault = along_stop (Over ReadFault)
  read_byte_along (b ∷ bs) tail = record { at = λ s. r.took s (record { bytes = bs; tail = tail }) }

  pub along_get_char : (at : Place) (vs : List Value) → Along (get_char at vs)
  along_get_char at [] = record { at = λ s. (read_byte_along s.input.bytes s.input.tail).at s }
  along_get_char at (v ∷ vs) = along_stop (Over (Undefined at))

  pub along_exit : (at : Place) (vs : List Value) → Along (exit_with at vs)
  along_exit at [] = along_stop (Over (Undefined at))
  along_exit at (NoValue ∷ []) = along_stop (Over (Undefined at))
  along_exit at (Points p ∷ []) = along_stop (Over (Undefined at))
  along_exit at (Integer z ∷ []) = along_stop (Over (Exits z))
  along_exit at (v ∷ w ∷ vs) = along_stop (Over (Undefined at))

  pub along_if : {A : Type 0} (t : Bool) (a b : Evaluation A) → Along a → Along b → Along (if t then a else b)
  along_if true a b f g = f
  along_if false a b f g = g

  along_print : (b : ℕ) → Along (print b)
  along_print b = record { at = λ s. r.printed s b }

  along_print_all : (bytes : List ℕ) → Along (print_all bytes)
  along_print_all [] = along_give tt
  along_print_all (b ∷ bs) = along_then _ _ (along_print b) (along_print_all bs)

  along_end_of_string : (at : Place) (ends : Bool) → Along (at_end_of_string at ends)
  along_end_of_string at true = along_give tt
  along_end_of_string at false = along_stop (Over (Undefined at))

  along_string : (at : Place) (p : Pointer) → Along (print_string at p)
  along_string at p = record { at = λ s. (along_then _ _ (along_print_all (string_at s.store p).0) (along_end_of_string at (string_at s.store p).1)).at s }

  pub along_pieces : (at : Place) (ps : List Piece) (vs : List Value) → Along (print_pieces at ps vs)
  along_pieces at [] vs = along_give NoValue
  along_pieces at (Bytes bs ∷ ps) vs = along_then _ _ (along_print_all bs) (along_pieces at ps vs)
  along_pieces at (NumberPiece k ∷ ps) (Integer z ∷ vs) = along_then _ _ (along_print_all (signed_decimal z)) (along_pieces at ps vs)
  along_pieces at (Character ∷ ps) (Integer z ∷ vs) = along_then _ _ (along_print (byte_of z)) (along_pieces at ps vs)
  along_pieces at (String ∷ ps) (Points p ∷ vs) = along_then _ _ (along_string at p) (along_pieces at ps vs)
  along_pieces at (piece ∷ ps) _ = along_stop (Over (Undefined at))

  pub along_printf : (T : Tables) (at : Place) (vs : List Value) → Along (printf_with T at vs)
  along_printf T at (Points p ∷ vs) = along_bind _ _ (defined_along at (text_at_pointer T p)) (λ bytes. along_bind _ _ (defined_along at (pieces_of bytes)) (λ ps. along_pieces at ps vs))
  along_printf T at _ = along_stop (Over (Undefined at))

  pub along_library_call : (T : Tables) (at : Place) (name : Option (List ℕ)) (vs : List Value) → Along (library_call T at name vs)
  along_library_call T at None vs = along_stop (Over (Undefined at))
  along_library_call T at (Some name) vs =
      along_if (bytes_eq name (codes "putchar")) _ _ (along_put_char at vs)
      (along_if (bytes_eq name (codes "getchar")) _ _ (along_get_char at vs)
      (along_if (bytes_eq name (codes "exit")) _ _ (along_exit at vs)
      (along_if (bytes_eq name (codes "malloc")) _ _ (along_malloc at vs)
      (along_if (bytes_eq name (codes "calloc")) _ _ (along_calloc at vs)
      (along_if (bytes_eq name (codes "free")) _ _ (along_free at vs)
      (along_if (bytes_eq name (codes "printf")) _ _ (along_printf T at vs) (along_stop (Over (Undefined at)))))))))

  pub along_at_close : (close : Place) (t : PlainType) → Along (at_close close t)
  along_at_close close t = by (scalar_of t)
    where
      by : (o : Option Scalar) → Along (elim o [ None ↦ give NoValue | Some k ↦ stop (Over (Undefined close)) ])
      by None = along_give NoValue
      by (Some k) = along_stop (Over (Undefined close))

  returned_along : (f : Function) (s : State) (o : Outcome (Unit {0})) → R s (state_after o) → R s (state_after (returned_by f o))
  returned_along f s (Normal u t) w = r.onward s t _ w ((along_at_close f.close f.result).at t)
  returned_along f s (Stop (Leaves Breaks) t) w = w
  returned_along f s (Stop (Leaves Continues) t) w = w
  returned_along f s (Stop (Leaves (Returns None)) t) w = w
  returned_along f s (Stop (Leaves (Returns (Some v))) t) w = w
  returned_along f s (Stop (Over e) t) w = w
  returned_along f s (Stop Stuck t) w = w

  abbrev CalleeAlong : Callee → Type 0
  CalleeAlong call = (at : Place) (f : Use) (vs : List Value) → Along (call at f vs)

  pub along_call_with : (T : Tables) (globals : Scope) (f : Option Function) (call : Callee) (n : ℕ) (at : Place) (vs : List Value) → CalleeAlong call → Along (call_with T globals f call n at vs)
  along_call_with T globals None call n at vs c = along_stop (Over (Undefined at))
  along_call_with T globals (Some f) call n at vs c =
      along_then _ _ along_step (along_called _ (along_then _ _
      (along_then _ _ (along_then _ _ (along_then _ _ along_frame (along_alone globals)) (along_parameters T call c at f.params vs)) (along_mark None))
      (along_bind _ _ (along_entry f.contract) (λ hs. along_bind (λ s. returned_by f (body_with T f.body call n s)) (λ v. ending f.contract hs v >> give v)
      (record { at = λ s. returned_along f s (body_with T f.body call n s) ((along_body T call c f.body n).at s) }) (λ v. along_then _ _ (along_ending f.contract hs v) (along_give v))))))

  pub along_call_of : (p : TranslationUnit) (n : ℕ) → CalleeAlong (call_of p n)
  along_call_of p zero at f vs =
      along_if (is_of_library f) _ _ (along_library_call (tables_of p) at (slice_get p.names f.name) vs) (along_stop (Over Spent))
  along_call_of p (suc n) at f vs =
      along_if (is_of_library f) _ _ (along_library_call (tables_of p) at (slice_get p.names f.name) vs)
      (along_call_with (tables_of p) (global_scope p) (definition_at f.decl p.funcs) (call_of p n) n at vs (along_call_of p n))

  after_main_along : (c : Option FunctionContract) (hs : List Bool) (s : State) (o : Outcome (Unit {0})) → R s (state_after o) → R s (state_after (after_main c hs o))
  after_main_along c hs s (Normal u t) w = r.onward s t _ w ((along_ending c hs (Integer (pos 0))).at t)
  after_main_along c hs s (Stop (Leaves Breaks) t) w = w
  after_main_along c hs s (Stop (Leaves Continues) t) w = w
  after_main_along c hs s (Stop (Leaves (Returns None)) t) w = r.onward s t _ w ((along_then (ending c hs NoValue) (stop {A = Unit {0}} (Leaves (Returns None))) (along_ending c hs NoValue) (along_stop (Leaves (Returns None)))).at t)
  after_main_along c hs s (Stop (Leaves (Returns (Some v))) t) w = r.onward s t _ w ((along_then (ending c hs v) (stop {A = Unit {0}} (Leaves (Returns (Some v)))) (along_ending c hs v) (along_stop (Leaves (Returns (Some v))))).at t)
  after_main_along c hs s (Stop (Over e) t) w = w
  after_main_along c hs s (Stop Stuck t) w = w

  pub along_main : (T : Tables) (f : Option Function) (call : Callee) (n : ℕ) → CalleeAlong call → Along (main_with T f call n)
  along_main T None call n c = along_stop Stuck
  along_main T (Some f) call n c =
      along_called _ (along_then _ _ (along_then _ _ (along_then _ _ along_frame (along_births T.structs f.params)) (along_mark None))
      (along_bind (entry f.contract) (λ hs s. after_main f.contract hs (body_with T f.body call n s)) (along_entry f.contract)
      (λ hs. record { at = λ s. after_main_along f.contract hs s (body_with T f.body call n s) ((along_body T call c f.body n).at s) })))

  -- the whole of a run
  pub along_whole : (p : TranslationUnit) (n : ℕ) → Along (whole p n)
  along_whole p n =
      let c = along_call_of p n in
      along_then _ _ (along_initialise_all (tables_of p) (call_of p n) c p.globals) (along_main (tables_of p) (function_named p (codes "main") p.funcs) (call_of p n) n c)

-- ---- the three that the laws are about

-- no step is gained
abbrev pub Fewer : State → State → Type 0
Fewer s t = t.steps ≤ s.steps

pub steps_last : Lasts Fewer
steps_last = record {
  same = λ s. omega arith;
  onward = λ s t u a b. omega (arith, a, b);
  saved = λ s p n bytes store l e. omega arith;
  copied = λ s p q cs store e. omega arith;
  born = λ s x size. omega arith;
  allocated = λ s place n b e. omega arith;
  released = λ s p store e. omega arith;
  fewer = λ s n l. l;
  printed = λ s byte. omega arith;
  took = λ s input. omega arith;
  inside = λ s scope marks calls. omega arith;
  back = λ old s l. l;
}

-- output only grows
pub output_lasts : Lasts (λ s t. (rest : List ℕ) × (t.output ≡ s.output ++ rest))
output_lasts = record {
  same = λ s. ([], sym (append-nil s.output));
  onward = λ s t u a b. (a.0 ++ b.0, b.1 ∙ ap (λ o. o ++ b.0) a.1 ∙ append_assoc s.output a.0 b.0);
  saved = λ s p n bytes store l e. ([], sym (append-nil s.output));
  copied = λ s p q cs store e. ([], sym (append-nil s.output));
  born = λ s x size. ([], sym (append-nil s.output));
  allocated = λ s place n b e. ([], sym (append-nil s.output));
  released = λ s p store e. ([], sym (append-nil s.output));
  fewer = λ s n l. ([], sym (append-nil s.output));
  printed = λ s byte. (byte ∷ [], refl);
  took = λ s input. ([], sym (append-nil s.output));
  inside = λ s scope marks calls. ([], sym (append-nil s.output));
  back = λ old s g. g;
}

-- blocks stay whole
pub whole_lasts : Lasts (λ s t. AreWhole s.store → AreWhole t.store)
whole_lasts = record {
  same = λ s w. w;
  onward = λ s t u a b w. b (a w);
  saved = λ s p n bytes store l e w. whole-saved_bytes s.store store p n bytes w l e;
  copied = λ s p q cs store e w. whole-copied_all s.store store p q cs w e;
  born = λ s x size w. whole-append s.store _ w (whole-new_block block.Stack size);
  allocated = λ s place n b e w. whole-append s.store _ w (refl, tt);
  released = λ s p store e w. whole-freed s.store store p w e;
  fewer = λ s n l w. w;
  printed = λ s byte w. w;
  took = λ s input w. w;
  inside = λ s scope marks calls w. w;
  back = λ old s g w. whole-kill_from (length old.store) s.store (g w);
}

pub output_grows : (p : TranslationUnit) (n : ℕ) → Grows (whole p n)
output_grows p n = record { at = λ s. grown s (whole p n s) ((along_whole _ output_lasts p n).at s) }
  where
    grown : (s : State) (r : Outcome (Unit {0})) → (rest : List ℕ) × ((state_after r).output ≡ s.output ++ rest) → Grown s.output r
    grown s (Normal u t) h = record { rest = h.0; is = h.1 }
    grown s (Stop e t) h = record { rest = h.0; is = h.1 }

pub statements_keep_whole : (p : TranslationUnit) (a : Statement) (n : ℕ) → KeepsWhole (exec p n a)
statements_keep_whole p a n = record { at = λ s w. whole_at s (exec p n a s) ((along_exec _ whole_lasts (tables_of p) (call_of p n) (along_call_of _ whole_lasts p n) a n).at s) w }
  where
    whole_at : (s : State) (r : Outcome (Unit {0})) → (AreWhole s.store → AreWhole (state_after r).store) → AreWhole s.store → AreWhole (store_after r)
    whole_at s (Normal u t) h w = h w
    whole_at s (Stop e t) h w = h w
