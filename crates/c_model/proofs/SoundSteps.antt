-- Each statement leaves a sound state.
use Rattle.std.proofs.Common.{◌≡◌, ℕ, zero, suc, ◌+◌, ◌≤◌, ℤ, Bool, true, false, cond, if◌then◌else◌, nat_lt, List, [], ◌∷◌, length, Option, Some, None, refl}
use Rattle.std.proofs.Common.{arith}
use Rattle.c_syntax.specs.declared.place.Place.{Place}
use Rattle.c_syntax.specs.declared.types.Segment.{Segment}
use Rattle.c_syntax.specs.declared.types.Segment.TheVariants.{Frames}
use Rattle.c_syntax.specs.declared.types.BlockKind.TheVariants as block
use Rattle.c_syntax.specs.Logic.{LogicTerm}
use Rattle.c_syntax.specs.Logic.{ClauseBody, Raw, Holds, Annotation, Behaviors}
use Rattle.c_syntax.specs.Logic as logic
use Rattle.c_syntax.specs.Statements.{Declaration}
use Rattle.c_syntax.specs.Programs.{NamedBehavior, FunctionContract, TranslationUnit}
use Rattle.c_syntax.specs.Layouts.{size_of}
use Rattle.c_model.specs.Memory.{Pointer, Value, Byte, new_block, Store, save_bytes, standard_sizes, full_at_stack_birth}
use Rattle.c_model.specs.Memory.{Unwritten, Number as NumberByte}
use Rattle.c_model.specs.State.{Mark, State, Breaks, Continues, Returns, End, Leaves, Over, Stuck, Spent, Full, Outcome, Normal, Stop, Evaluation}
use Rattle.c_model.specs.State.{◌>>=◌, ◌>>◌, give, done, stop, step_from, step, write_bytes, birth_of, birth, births}
use Rattle.c_model.specs.State.{alone, frame, mark, back_to, restored, within, answered}
use Rattle.c_model.specs.Logic.{TermValue, Mathematical, Environment, Answer, Says, SaysNothing, OutOfSteps}
use Rattle.c_model.specs.Logic.{judged, Addressed}
use Rattle.c_model.specs.Predicates.{term, clause, check_in, checks_in, invariant, invariants}
use Rattle.c_model.specs.Predicates.{valued, value_of, is_smaller, compared}
use Rattle.c_model.specs.ContractChecks.{Check, assumed, demand, of_behavior, checked, all_checked, holds_at, is_assumes, entry_checks, leave_checks}
use Rattle.c_model.specs.ContractChecks.{all_hold, result_is, entry, ending}
use Rattle.c_model.specs.Meaning.{is_zero, choose}
use Rattle.c_model.specs.Meaning.{after_body, turn_with, turns, do_turns}
use Rattle.c_model.specs.Meaning.{after_switch}
use Rattle.std.proofs.Common.{◌^◌, ◌<◌, nat_le, get_or, subst, inl, inr}
use Rattle.std.proofs.lemmas.Bool.{ltb-false}
use Rattle.c_syntax.specs.declared.types.Segment.TheVariants as segment
use Rattle.c_model.specs.Meaning.{zeros, global_scope}
use Rattle.c_model.specs.Memory.{rounded, stack_taken, greatest_number, kill_from}
use Rattle.c_model.specs.State.{back_from_call, mark_of, same_label}
use Rattle.c_model.specs.HeapLaws.{BlocksStay}
use Rattle.c_model.specs.SoundStates.{AreSoundBytes, IsAmong, declarations, Declares, IsSoundMemory, IsSoundState, GivesEnd, After, Any, Placed}
use Rattle.c_model.specs.Memory.{Piece}
use Rattle.c_model.proofs.BlocksLast.{stay_same, stay_onward, stay_saved, stay_born, stay_killed}
use Rattle.c_model.proofs.SoundStores.{value_onward, plain_saved, filled_born, sound_killed}
use Rattle.c_model.proofs.SoundMemory.{memory_onward, memory_alone, memory_born}
use Rattle.c_model.proofs.SoundRuns.{after_bind, after_give, after_over, after_cond, after_changed}

-- from each sound state
abbrev pub Keeps : {A : Type 0} → TranslationUnit → (A → State → Type 0) → Evaluation A → Type 0
Keeps source P m = (s : State) → IsSoundState source s → After source P s (m s)

pub keeps_bind : {source : TranslationUnit} {A B : Type 0} (P : A → State → Type 0) (Q : B → State → Type 0) (m : Evaluation A) (f : A → Evaluation B) → Keeps source P m
    → ((a : A) (t : State) → IsSoundState source t → P a t → After source Q t (f a t)) → Keeps source Q (m >>= f)
keeps_bind P Q m f h k s st = after_bind P Q s (m s) f (h s st) (λ a t stay su g. k a t su g)

pub keeps_then : {source : TranslationUnit} {A B : Type 0} (P : A → State → Type 0) (Q : B → State → Type 0) (m : Evaluation A) (f : Evaluation B) → Keeps source P m → Keeps source Q f → Keeps source Q (m >> f)
keeps_then P Q m f h k s st = after_bind P Q s (m s) (λ _. f) (h s st) (λ a t stay su g. k t su)

pub keeps_done : {source : TranslationUnit} → Keeps source Any done
keeps_done s st = after_give Any s tt st tt

-- ---- what changes no memory

pub same_memory : {source : TranslationUnit} (s : State) (n : ℕ) → IsSoundState source s → IsSoundState source (record s { steps = n })
same_memory s n st = record { now = st.now; past = st.past }

after_steps : {source : TranslationUnit} {A : Type 0} (s : State) (n : ℕ) (a : A) → IsSoundState source s → After source Any s (Normal a (record s { steps = n }))
after_steps s n a st = record { stay = stay_same s.store; sound = same_memory s n st; gives = tt }

over_steps : {source : TranslationUnit} {A : Type 0} (s : State) (n : ℕ) (e : _) → IsSoundState source s → After {A = A} source Any s (Stop (Over e) (record s { steps = n }))
over_steps s n e st = record { stay = stay_same s.store; sound = same_memory s n st; gives = tt }

pub keeps_step : {source : TranslationUnit} → Keeps source Any step
keeps_step {source = source} s st = by s.steps
  where
    by : (n : ℕ) → After source Any s (step_from n s)
    by zero = after_over Any s Spent st
    by (suc n) = after_steps s n tt st

after_judged : {source : TranslationUnit} (a : Annotation) (answer : Answer) (s : State) → IsSoundState source s → After source Any s (judged a answer s)
after_judged a (Says true n) s st = after_steps s n tt st
after_judged a (Says false n) s st = over_steps s n _ st
after_judged a (SaysNothing n) s st = over_steps s n _ st
after_judged a OutOfSteps s st = over_steps s 0 _ st

pub keeps_check : {source : TranslationUnit} (e : Environment) (a : Annotation) → Keeps source Any (check_in e a)
keeps_check e a s st = after_judged a (clause a.body s e s.steps) s st

pub keeps_checks : {source : TranslationUnit} (e : Environment) (annots : List Annotation) → Keeps source Any (checks_in e annots)
keeps_checks e [] = keeps_done
keeps_checks e (a ∷ rest) = keeps_then Any Any (check_in e a) (checks_in e rest) (keeps_check e a) (keeps_checks e rest)

pub keeps_invariant : {source : TranslationUnit} (a : Annotation) (b : ClauseBody) → Keeps source Any (invariant a b)
keeps_invariant a (Raw f) = keeps_check [] a
keeps_invariant a (Holds p) = keeps_check [] a
keeps_invariant a (logic.Value t) = keeps_done
keeps_invariant a (Behaviors names) = keeps_check [] a

pub keeps_invariants : {source : TranslationUnit} (annots : List Annotation) → Keeps source Any (invariants annots)
keeps_invariants [] = keeps_done
keeps_invariants (a ∷ rest) = keeps_then Any Any (invariant a a.body) (invariants rest) (keeps_invariant a a.body) (keeps_invariants rest)

after_valued : {source : TranslationUnit} (a : Annotation) (o : Option TermValue) (s : State) → IsSoundState source s → After source Any s (valued a o s)
after_valued a None s st = after_over Any s _ st
after_valued a (Some (Addressed x)) s st = after_over Any s _ st
after_valued a (Some (Mathematical z)) s st = after_give Any s z st tt

pub keeps_value : {source : TranslationUnit} (a : Annotation) (t : LogicTerm) → Keeps source Any (value_of a t)
keeps_value a t s st = after_valued a (term t s []) s st

pub keeps_compared : {source : TranslationUnit} (a : Annotation) (old new : ℤ) → Keeps source Any (compared a old new)
keeps_compared a old new s st = after_judged a (Says (is_smaller old new) s.steps) s st

after_assumed : {source : TranslationUnit} (a : Annotation) (k : ℕ) (hs : List Bool) (answer : Answer) (s : State) → IsSoundState source s → After source Any s (assumed a k hs answer s)
after_assumed a k hs (Says true n) s st = after_steps s n hs st
after_assumed a k hs (Says false n) s st = after_steps s n _ st
after_assumed a k hs (SaysNothing n) s st = over_steps s n _ st
after_assumed a k hs OutOfSteps s st = over_steps s 0 _ st

keeps_demand : {source : TranslationUnit} (bs : List NamedBehavior) (e : Environment) (a : Annotation) (body : ClauseBody) (hs : List Bool) → Keeps source Any (demand bs e a body hs)
keeps_demand bs e a (Raw f) hs = keeps_check e a
keeps_demand bs e a (Holds p) hs = keeps_check e a
keeps_demand bs e a (logic.Value t) hs = keeps_check e a
keeps_demand bs e a (Behaviors names) hs = λ s st. after_judged a (Says _ s.steps) s st

keeps_hs : {source : TranslationUnit} (hs : List Bool) → Keeps source Any (give hs)
keeps_hs hs s st = after_give Any s hs st tt

keeps_of_behavior : {source : TranslationUnit} (bs : List NamedBehavior) (e : Environment) (a : Annotation) (k : ℕ) (hs : List Bool) (t : Bool) → Keeps source Any (of_behavior bs e a k hs t)
keeps_of_behavior bs e a k hs true = λ s st. after_assumed a k hs (clause a.body s [] s.steps) s st
keeps_of_behavior bs e a k hs false = keeps_then Any Any (demand bs e a a.body hs) (give hs) (keeps_demand bs e a a.body hs) (keeps_hs hs)

pub keeps_checked : {source : TranslationUnit} (bs : List NamedBehavior) (e : Environment) (a : Annotation) (o : Option ℕ) (hs : List Bool) → Keeps source Any (checked bs e a o hs)
keeps_checked bs e a None hs = keeps_then Any Any (demand bs e a a.body hs) (give hs) (keeps_demand bs e a a.body hs) (keeps_hs hs)
keeps_checked bs e a (Some k) hs = λ s st.
    after_cond Any s (holds_at k hs) (of_behavior bs e a k hs (is_assumes a.kind)) (give hs) (keeps_of_behavior bs e a k hs (is_assumes a.kind) s st) (keeps_hs hs s st)

keeps_all_checked : {source : TranslationUnit} (bs : List NamedBehavior) (e : Environment) (cs : List Check) (hs : List Bool) → Keeps source Any (all_checked bs e cs hs)
keeps_all_checked bs e [] hs = keeps_hs hs
keeps_all_checked bs e (c ∷ cs) hs =
    keeps_bind Any Any (checked bs e c.annotation c.behavior hs) (all_checked bs e cs) (keeps_checked bs e c.annotation c.behavior hs) (λ js t su g. keeps_all_checked bs e cs js t su)

pub keeps_entry : {source : TranslationUnit} (c : Option FunctionContract) → Keeps source Any (entry c)
keeps_entry None = keeps_hs []
keeps_entry (Some c) = keeps_all_checked c.behaviors [] (entry_checks c) (all_hold c.behaviors)

pub keeps_ending : {source : TranslationUnit} (c : Option FunctionContract) (hs : List Bool) (v : Value) → Keeps source Any (ending c hs v)
keeps_ending None hs v = keeps_done
keeps_ending (Some c) hs v = keeps_then Any Any (all_checked c.behaviors (result_is v) (leave_checks c) hs) done (keeps_all_checked c.behaviors (result_is v) (leave_checks c) hs) keeps_done

-- ---- blocks, calls and labels

ended_onward : (s t : State) (e : End) → BlocksStay s.store t.store → GivesEnd e s → GivesEnd e t
ended_onward s t (Leaves Breaks) stay h = tt
ended_onward s t (Leaves Continues) stay h = tt
ended_onward s t (Leaves (Returns None)) stay h = tt
ended_onward s t (Leaves (Returns (Some v))) stay h = value_onward s.store t.store v stay h
ended_onward s t (Over e) stay h = tt
ended_onward s t Stuck stay h = tt

-- the state behind a block: what was in sight before is in sight again
back_sound : {source : TranslationUnit} (old s : State) → IsSoundState source old → BlocksStay old.store s.store → IsSoundState source s → IsSoundState source (back_to old s)
back_sound {source = source} old s st stay su = record {
  now = memory_onward source old.store (kill_from (length old.store) s.store) old.scope (stay_onward old.store s.store _ stay (stay_killed (length old.store) s.store))
      (sound_killed (length old.store) s.store su.now.blocks) st.now;
  past = su.past;
}

after_restored : {source : TranslationUnit} {A : Type 0} (old : State) (o : Outcome A) → IsSoundState source old → After source Any old o → After source Any old (restored old o)
after_restored old (Normal a s) st h =
    record { stay = stay_onward old.store s.store _ h.stay (stay_killed (length old.store) s.store); sound = back_sound old s st h.stay h.sound; gives = tt }
after_restored old (Stop e s) st h = record {
  stay = stay_onward old.store s.store _ h.stay (stay_killed (length old.store) s.store);
  sound = back_sound old s st h.stay h.sound;
  gives = ended_onward s (back_to old s) e (stay_killed (length old.store) s.store) h.gives;
}

pub keeps_within : {source : TranslationUnit} {A : Type 0} (m : Evaluation A) → Keeps source Any m → Keeps source Any (within m)
keeps_within m h s st = after_restored s (m s) st (h s st)

-- the state behind a call, in which its marks are gone
call_sound : {source : TranslationUnit} (old s : State) → IsSoundState source old → BlocksStay old.store s.store → IsSoundState source s → IsSoundState source (back_from_call old s)
call_sound old s st stay su = record { now = (back_sound old s st stay su).now; past = st.past }

pub answered_after : {source : TranslationUnit} (old : State) (o : Outcome Value) → IsSoundState source old → After source Placed old o → After source Placed old (answered old o)
answered_after old (Normal v s) st h = record {
  stay = stay_onward old.store s.store _ h.stay (stay_killed (length old.store) s.store);
  sound = call_sound old s st h.stay h.sound;
  gives = value_onward s.store (kill_from (length old.store) s.store) v (stay_killed (length old.store) s.store) h.gives;
}
answered_after old (Stop e s) st h = record {
  stay = stay_onward old.store s.store _ h.stay (stay_killed (length old.store) s.store);
  sound = call_sound old s st h.stay h.sound;
  gives = ended_onward s (back_from_call old s) e (stay_killed (length old.store) s.store) h.gives;
}

-- the same of what gives nothing
pub answered_any : {source : TranslationUnit} (old : State) (o : Outcome (Unit {0})) → IsSoundState source old → After source Any old o → After source Any old (answered old o)
answered_any old (Normal v s) st h = record {
  stay = stay_onward old.store s.store _ h.stay (stay_killed (length old.store) s.store);
  sound = call_sound old s st h.stay h.sound;
  gives = tt;
}
answered_any old (Stop e s) st h = record {
  stay = stay_onward old.store s.store _ h.stay (stay_killed (length old.store) s.store);
  sound = call_sound old s st h.stay h.sound;
  gives = ended_onward s (back_from_call old s) e (stay_killed (length old.store) s.store) h.gives;
}

pub keeps_alone : {source : TranslationUnit} → Keeps source Any (alone (global_scope source))
keeps_alone {source = source} s st = record { stay = stay_same s.store; sound = record { now = memory_alone source s.store s.scope st.now; past = λ l m e. absurd cc }; gives = tt }

pub keeps_mark : {source : TranslationUnit} (label : Option ℕ) → Keeps source Any (mark label)
keeps_mark {source = source} label s st = record { stay = stay_same s.store; sound = record { now = st.now; past = λ l m e. by l m (same_label l label) e }; gives = tt }
  where
    by : (l : Option ℕ) (m : Mark) (t : Bool) → cond t (Some (record { label = label; scope = s.scope; store = s.store })) (mark_of l s.marks) ≡ Some m → IsSoundMemory source m.store m.scope
    by l m true e = let same : (record { label = label; scope = s.scope; store = s.store }) ≡ m = cc in subst (λ (x : Mark). IsSoundMemory source x.store x.scope) same st.now
    by l m false e = st.past l m e

frame_after : {source : TranslationUnit} (s : State) (t : Bool) → IsSoundState source s → After {A = Unit {0}} source Any s (cond t (Normal tt (record s { calls = s.calls + 1 })) (Stop (Over (Full Frames)) s))
frame_after s true st = record { stay = stay_same s.store; sound = record { now = st.now; past = st.past }; gives = tt }
frame_after s false st = after_over Any s (Full Frames) st

pub keeps_frame : {source : TranslationUnit} → Keeps source Any frame
keeps_frame s st = frame_after s (nat_lt s.calls 65536) st

-- ---- births

size_small : (size taken : ℕ) → nat_lt 1048576 (taken + rounded size) ≡ false → size ≤ 2 ^ 32
size_small size taken e = let le = ltb-false _ _ e in omega (arith, le)

pub room_small : (store : Store) (size : ℕ) → full_at_stack_birth standard_sizes store size ≡ None → size ≤ 2 ^ 32
room_small store size e = by (nat_le greatest_number (length store)) (nat_lt 1048576 (stack_taken store + rounded size)) refl e
  where
    by : (a b : Bool) → nat_lt 1048576 (stack_taken store + rounded size) ≡ b → (if a then Some segment.Numbers else (if b then Some segment.Stack else None)) ≡ None → size ≤ 2 ^ 32
    by true b q e = absurd cc
    by false true q e = absurd cc
    by false false q e = size_small size (stack_taken store) q

birth_after : {source : TranslationUnit} (s : State) (o : Option Segment) (d : Declaration) → IsAmong d (declarations source) → full_at_stack_birth standard_sizes s.store (size_of source.structs d.ctype) ≡ o → IsSoundState source s
    → After source Any s (birth_of o d.place.offset (size_of source.structs d.ctype) s)
birth_after s (Some full) d among e st = after_over Any s (Full full) st
birth_after {source = source} s None d among e st =
    let size = size_of source.structs d.ctype in
    let c = new_block block.Stack size in
    let sound = filled_born s.store c size Unwritten st.now.blocks tt refl refl (room_small s.store size e) in
    record { stay = stay_born s.store c; sound = record { now = memory_born source s.store s.scope c d among (omega arith) sound st.now; past = st.past }; gives = tt }

pub keeps_birth : {source : TranslationUnit} (d : Declaration) → IsAmong d (declarations source) → Keeps source Any (birth source.structs d)
keeps_birth {source = source} d among s st = birth_after s (full_at_stack_birth standard_sizes s.store (size_of source.structs d.ctype)) d among refl st

pub keeps_births : {source : TranslationUnit} (ds : List Declaration) → Declares source ds → Keeps source Any (births source.structs ds)
keeps_births [] among = keeps_done
keeps_births {source = source} (d ∷ ds) among =
    keeps_then Any Any (birth source.structs d) (births source.structs ds) (keeps_birth d (among d (inl refl))) (keeps_births ds (λ e h. among e (inr h)))

-- ---- loops

after_body_any : {source : TranslationUnit} (s : State) (o : Outcome (Unit {0})) (again : Evaluation (Unit {0})) → After source Any s o → Keeps source Any again → After source Any s (after_body o again)
after_body_any s (Normal u t) again h k = let r = k t h.sound in record { stay = stay_onward s.store t.store _ h.stay r.stay; sound = r.sound; gives = r.gives }
after_body_any s (Stop (Leaves Continues) t) again h k = let r = k t h.sound in record { stay = stay_onward s.store t.store _ h.stay r.stay; sound = r.sound; gives = r.gives }
after_body_any s (Stop (Leaves Breaks) t) again h k = record { stay = h.stay; sound = h.sound; gives = tt }
after_body_any s (Stop (Leaves (Returns v)) t) again h k = record { stay = h.stay; sound = h.sound; gives = h.gives }
after_body_any s (Stop (Over e) t) again h k = record { stay = h.stay; sound = h.sound; gives = tt }
after_body_any s (Stop Stuck t) again h k = record { stay = h.stay; sound = h.sound; gives = tt }

pub after_switch_any : {source : TranslationUnit} (s : State) (o : Outcome (Unit {0})) → After source Any s o → After source Any s (after_switch o)
after_switch_any s (Normal u t) h = h
after_switch_any s (Stop (Leaves Breaks) t) h = record { stay = h.stay; sound = h.sound; gives = tt }
after_switch_any s (Stop (Leaves Continues) t) h = h
after_switch_any s (Stop (Leaves (Returns v)) t) h = h
after_switch_any s (Stop (Over e) t) h = h
after_switch_any s (Stop Stuck t) h = h

pub keeps_choose : {source : TranslationUnit} {A : Type 0} (v : Value) (a b : Evaluation A) → Keeps source Any a → Keeps source Any b → Keeps source Any (choose v a b)
keeps_choose v a b h k s st = after_cond Any s (is_zero v) b a (k s st) (h s st)

keeps_body : {source : TranslationUnit} (body again : Evaluation (Unit {0})) → Keeps source Any body → Keeps source Any again → Keeps source Any (λ s. after_body (body s) again)
keeps_body body again h k s st = after_body_any s (body s) again (h s st) k

pub keeps_turn : {source : TranslationUnit} (v : Option (Annotation × LogicTerm)) (body behind again : Evaluation (Unit {0})) → Keeps source Any body → Keeps source Any behind → Keeps source Any again
    → Keeps source Any (turn_with v body behind again)
keeps_turn None body behind again b h g = keeps_body body (behind >> again) b (keeps_then Any Any behind again h g)
keeps_turn (Some v) body behind again b h g =
    keeps_bind Any Any (value_of v.0 v.1) (λ old s. after_body (body s) (behind >> (value_of v.0 v.1 >>= compared v.0 old) >> again)) (keeps_value v.0 v.1) (λ old t su _.
    keeps_body body (behind >> (value_of v.0 v.1 >>= compared v.0 old) >> again) b
    (keeps_then Any Any (behind >> (value_of v.0 v.1 >>= compared v.0 old)) again
    (keeps_then Any Any behind (value_of v.0 v.1 >>= compared v.0 old) h (keeps_bind Any Any (value_of v.0 v.1) (compared v.0 old) (keeps_value v.0 v.1) (λ new w sw _. keeps_compared v.0 old new w sw))) g) t su)

keeps_spent : {source : TranslationUnit} {A : Type 0} → Keeps {A = A} source Any (stop (Over Spent))
keeps_spent s st = after_over Any s Spent st

pub keeps_turns : {source : TranslationUnit} (n : ℕ) (test : Evaluation Value) (turn : Evaluation (Unit {0}) → Evaluation (Unit {0})) → Keeps source Any test
    → ((again : Evaluation (Unit {0})) → Keeps source Any again → Keeps source Any (turn again)) → Keeps source Any (turns n test turn)
keeps_turns zero test turn t b = keeps_spent
keeps_turns (suc n) test turn t b =
    keeps_bind Any Any test (λ v. choose v (step >> turn (turns n test turn)) done) t
    (λ v u su _. keeps_choose v (step >> turn (turns n test turn)) done (keeps_then Any Any step (turn (turns n test turn)) keeps_step (b (turns n test turn) (keeps_turns n test turn t b))) keeps_done u su)

pub keeps_do_turns : {source : TranslationUnit} (n : ℕ) (test : Evaluation Value) (body : Evaluation (Unit {0})) → Keeps source Any test → Keeps source Any body → Keeps source Any (do_turns n test body)
keeps_do_turns zero test body t b = keeps_spent
keeps_do_turns (suc n) test body t b =
    keeps_then Any Any step (λ s. after_body (body s) (test >>= λ v. choose v (do_turns n test body) done)) keeps_step
    (keeps_body body (test >>= λ v. choose v (do_turns n test body) done) b
    (keeps_bind Any Any test (λ v. choose v (do_turns n test body) done) t (λ v u su _. keeps_choose v (do_turns n test body) done (keeps_do_turns n test body t b) keeps_done u su)))

-- ---- bytes without pieces

-- bytes that are written, of which none is a piece
pub record ArePlain (bytes : List Byte) : Type 0 where
  pub sound : (store : Store) → AreSoundBytes store bytes
  pub none : (i k : ℕ) (p : Pointer) → get_or bytes i Unwritten ≡ Piece p k → ⊥

pub no_bytes : ArePlain []
no_bytes = record { sound = λ store i. tt; none = λ i k p e. absurd cc }

pub one_more : (b : ℕ) (bs : List Byte) → b < 256 → ArePlain bs → ArePlain (NumberByte b ∷ bs)
one_more b bs lt h = record { sound = sound; none = none }
  where
    sound : (store : Store) → AreSoundBytes store (NumberByte b ∷ bs)
    sound store zero = lt
    sound store (suc i) = h.sound store i

    none : (i k : ℕ) (p : Pointer) → get_or (NumberByte b ∷ bs) i Unwritten ≡ Piece p k → ⊥
    none zero k p e = absurd cc
    none (suc i) k p e = h.none i k p e

pub zeros_plain : (n : ℕ) → ArePlain (zeros n)
zeros_plain zero = no_bytes
zeros_plain (suc n) = one_more 0 (zeros n) (omega arith) (zeros_plain n)

pub after_plain : {source : TranslationUnit} (s : State) (at : Place) (p : Pointer) (bytes : List Byte) → IsSoundState source s → ArePlain bytes → After source Any s (write_bytes at p bytes s)
after_plain s at p bytes st h =
    after_changed s at (λ store. save_bytes store p (length bytes) bytes) st
    (λ store e. (stay_saved s.store store p (length bytes) bytes e, plain_saved s.store store p (length bytes) bytes st.now.blocks (omega arith) (h.sound s.store) h.none e))
