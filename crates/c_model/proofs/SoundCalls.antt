-- Calls leave sound states, and so do whole runs.
use Rattle.std.proofs.Common.{◌≡◌, ℕ, zero, suc, ◌+◌, ◌*◌, ◌≤◌, pos, Bool, true, false, ◌&&◌, if◌then◌else◌, nat_eq, List, [], ◌∷◌, ◌++◌, length, replicate, Option, Some, None, slice_get, codes, bytes_eq, refl, sym}
use Rattle.std.proofs.Common.{arith}
use Rattle.c_syntax.specs.declared.place.Place.{Place}
use Rattle.c_syntax.specs.declared.types.Segment.TheVariants.{Frames}
use Rattle.c_syntax.specs.Ctypes.{PlainType}
use Rattle.c_syntax.specs.Statements.{Declaration}
use Rattle.c_syntax.specs.Programs.{FunctionContract, Function, TranslationUnit}
use Rattle.c_syntax.specs.declared.types.CInt.TheVariants.{U64}
use Rattle.c_syntax.specs.Layouts.{Scalar, scalar_of}
use Rattle.c_model.specs.Integers.{bits_of, byte_of}
use Rattle.c_model.specs.Memory.{Pointer, Null, Into, Value, Integer, Points, NoValue, Byte, Store, standard_sizes}
use Rattle.c_model.specs.Memory.{Unwritten, Number as NumberByte, Room, At, NoRoom, heap_room, heap_block, freed}
use Rattle.c_model.specs.State.{InputTail, EndOfInput, InputFault, ReadFault, Exits, print, print_all, read_byte, State, Breaks, Continues, Returns, Leaves, Over, Stuck, Undefined, Spent, Full, Outcome, Normal, Stop, Evaluation}
use Rattle.c_model.specs.State.{◌>>=◌, ◌>>◌, give, stop, defined, as_scalar, step, changed, birth, births}
use Rattle.c_model.specs.State.{heap_birth, allocate}
use Rattle.c_model.specs.Strings.{string_at}
use Rattle.c_model.specs.Formats.{Piece, Bytes, Number as NumberPiece, Character, String, pieces_of}
use Rattle.c_model.specs.Printing.{at_end_of_string, print_string, print_pieces}
use Rattle.std.specs.Fmt.{signed_decimal}
use Rattle.c_model.specs.State.{write_youngest, alone, frame, mark, called}
use Rattle.c_model.specs.ContractChecks.{entry, ending}
use Rattle.c_model.specs.Meaning.{Tables, Callee, is_of_library}
use Rattle.c_model.specs.Meaning.{fill, initialise_all}
use Rattle.c_model.specs.Meaning.{parameters, body_with, put_char, get_char, exit_with, malloc_with}
use Rattle.c_model.specs.Meaning.{calloc_with, free_with, text_at_pointer, printf_with, library_call, at_close, returned_by, call_with, after_main}
use Rattle.c_model.specs.Meaning.{call_of, tables_of, global_scope}
use Rattle.c_model.specs.Meaning.{definition_at, main_with, function_named}
use Rattle.std.proofs.Common.{◌^◌, nat_le, subst}
use Rattle.std.proofs.lemmas.Bool.{and_parts, leb-true}
use Rattle.c_syntax.specs.declared.types.Segment.TheVariants as segment
use Rattle.c_model.specs.Meaning.{text_at}
use Rattle.c_model.specs.Memory.{units, greatest_number, heap_place, room_at}
use Rattle.c_model.specs.FullExpressions.{EachIn}
use Rattle.c_model.specs.SoundStates.{IsSound, IsSoundState, AreDirect, After, Any, declared_by, Declares, Placed, AllPlaced, CallsKeepSound, BodiesDirect, IsDirect}
use Rattle.c_model.specs.ReadTree.{AreBytes}
use Rattle.c_model.specs.Formed.{declared_in_body}
use Rattle.c_model.proofs.HeapBlocks.{block_at-youngest}
use Rattle.c_model.proofs.SoundMemory.{memory_onward, among_left, among_right}
use Rattle.c_model.proofs.HeapPlaces.{heap_place-passes}
use Rattle.c_model.proofs.BlocksLast.{stay_same, stay_onward, stay_born, stay_freed}
use Rattle.c_model.proofs.SoundStores.{value_onward, filled_born, IsPlain, sound_freed}
use Rattle.c_model.proofs.SoundRuns.{vals_onward, after_bind, after_give, after_over, after_cond, after_changed, after_write, after_scalar, after_stuck}
use Rattle.c_model.specs.Memory.{standard_sizes}
use Rattle.c_model.specs.TypedTrees.{WhereAny}
use Rattle.c_model.proofs.SoundSteps.{Keeps, keeps_bind, keeps_then, keeps_done, keeps_step, keeps_entry, keeps_ending, keeps_alone, keeps_mark, keeps_frame, keeps_birth, keeps_births}
use Rattle.c_model.specs.Memory.{Room}
use Rattle.c_model.specs.Meaning.{result_with, is_definition}
use Rattle.c_model.proofs.SoundSteps.{answered_after, answered_any}
use Rattle.std.proofs.lemmas.List.{length-replicate}
use Rattle.std.proofs.Common.{◌⊎◌, inl, inr}
use Rattle.c_model.specs.Meaning.{has_name, whole}
use Rattle.c_model.proofs.SoundStatements.{keeps_body_of, keeps_initialise_all}

-- ---- the library

keeps_over : {source : TranslationUnit} {A : Type 0} (P : A → State → Type 0) (e : _) → Keeps source P (stop (Over e))
keeps_over P e s st = after_over P s e st

keeps_undefined : {source : TranslationUnit} {A : Type 0} (P : A → State → Type 0) (at : Place) → Keeps source P (stop (Over (Undefined at)))
keeps_undefined P at = keeps_over P (Undefined at)

keeps_put_char : {source : TranslationUnit} (at : Place) (vs : List Value) → Keeps source Placed (put_char at vs)
keeps_put_char at [] = keeps_undefined Placed at
keeps_put_char at (NoValue ∷ []) = keeps_undefined Placed at
keeps_put_char at (Points p ∷ []) = keeps_undefined Placed at
keeps_put_char at (Integer z ∷ []) =
    keeps_then Any Placed (print (byte_of z)) (give (Integer (pos (byte_of z)))) (λ s st. record { stay = stay_same s.store; sound = record { now = st.now; past = st.past }; gives = tt })
    (λ s st. after_give Placed s (Integer (pos (byte_of z))) st tt)
keeps_put_char at (v ∷ w ∷ vs) = keeps_undefined Placed at

keeps_read_byte : {source : TranslationUnit} (bytes : List ℕ) (tail : InputTail) → Keeps source Placed (read_byte bytes tail)
keeps_read_byte [] EndOfInput = λ s st. after_give Placed s _ st tt
keeps_read_byte [] InputFault = keeps_over Placed ReadFault
keeps_read_byte (b ∷ bs) tail = λ s st. record { stay = stay_same s.store; sound = record { now = st.now; past = st.past }; gives = tt }

keeps_get_char : {source : TranslationUnit} (at : Place) (vs : List Value) → Keeps source Placed (get_char at vs)
keeps_get_char at [] = λ s st. keeps_read_byte s.input.bytes s.input.tail s st
keeps_get_char at (v ∷ vs) = keeps_undefined Placed at

keeps_exit : {source : TranslationUnit} (at : Place) (vs : List Value) → Keeps source Placed (exit_with at vs)
keeps_exit at [] = keeps_undefined Placed at
keeps_exit at (NoValue ∷ []) = keeps_undefined Placed at
keeps_exit at (Points p ∷ []) = keeps_undefined Placed at
keeps_exit at (Integer z ∷ []) = keeps_over Placed (Exits z)
keeps_exit at (v ∷ w ∷ vs) = keeps_undefined Placed at

fits_small : (u count : ℕ) (t : Bool) → (nat_le (u + count) 1048576 && t) ≡ true → count ≤ 1048576
fits_small u count t e = let le = leb-true _ _ (and_parts (nat_le (u + count) 1048576) t e).0 in omega (arith, le)

heap_small : (store : Store) (n place : ℕ) → heap_room standard_sizes store n ≡ At place → n ≤ 2 ^ 32
heap_small store n place e = by (nat_le greatest_number (length store)) e
  where
    placed : (o : Option ℕ) → heap_place 1048576 store (units n) ≡ o → room_at o ≡ At place → n ≤ 2 ^ 32
    placed None at e = absurd cc
    placed (Some u) at e = let le = fits_small u (units n) _ (heap_place-passes 1048576 store (units n) u at) in omega (arith, le)

    by : (t : Bool) → (if t then NoRoom segment.Numbers else room_at (heap_place 1048576 store (units n))) ≡ At place → n ≤ 2 ^ 32
    by true e = absurd cc
    by false e = placed (heap_place 1048576 store (units n)) refl e

abbrev IsFill : Byte → Type 0
IsFill b = (b ≡ Unwritten) ⊎ (b ≡ NumberByte 0)

heap_sound : {source : TranslationUnit} (s : State) (n place : ℕ) (b : Byte) → IsFill b → IsSoundState source s → n ≤ 2 ^ 32 → IsSound (s.store ++ heap_block place (replicate n b) ∷ [])
heap_sound s n place b full st le = filled_born s.store (heap_block place (replicate n b)) n b st.now.blocks (plain full) refl (length-replicate n b) le
  where
    plain : IsFill b → IsPlain b
    plain (inl e) = subst IsPlain (sym e) tt
    plain (inr e) = subst IsPlain (sym e) (omega arith)

after_heap_birth : {source : TranslationUnit} (s : State) (room : Room) (n : ℕ) (b : Byte) → heap_room standard_sizes s.store n ≡ room → IsFill b → IsSoundState source s → After source Placed s (heap_birth room (replicate n b) s)
after_heap_birth s (NoRoom full) n b e fill st = after_over Placed s (Full full) st
after_heap_birth {source = source} s (At place) n b e fill st =
    let c = heap_block place (replicate n b) in
    let sound = heap_sound s n place b fill st (heap_small s.store n place e) in
    record {
      stay = stay_born s.store c;
      sound = record { now = memory_onward source s.store (s.store ++ c ∷ []) s.scope (stay_born s.store c) sound st.now; past = st.past };
      gives = (c, block_at-youngest s.store c, omega arith);
    }

keeps_allocate : {source : TranslationUnit} (n : ℕ) (b : Byte) → IsFill b → Keeps source Placed (allocate n b)
keeps_allocate n b fill s st =
    after_cond Placed s (nat_eq n 0) (give (Points Null)) (λ s. heap_birth (heap_room standard_sizes s.store n) (replicate n b) s) (after_give Placed s (Points Null) st tt)
    (after_heap_birth s (heap_room standard_sizes s.store n) n b refl fill st)

keeps_malloc : {source : TranslationUnit} (at : Place) (vs : List Value) → Keeps source Placed (malloc_with at vs)
keeps_malloc at (Integer n ∷ []) = keeps_allocate (bits_of U64 n) Unwritten (inl refl)
keeps_malloc at _ = keeps_undefined Placed at

keeps_calloc : {source : TranslationUnit} (at : Place) (vs : List Value) → Keeps source Placed (calloc_with at vs)
keeps_calloc at (Integer n ∷ Integer m ∷ []) = keeps_allocate (bits_of U64 n * bits_of U64 m) (NumberByte 0) (inr refl)
keeps_calloc at _ = keeps_undefined Placed at

keeps_free : {source : TranslationUnit} (at : Place) (vs : List Value) → Keeps source Placed (free_with at vs)
keeps_free at (Points p ∷ []) =
    keeps_then Any Placed (changed at (λ store. freed store p)) (give NoValue)
    (λ s st. after_changed s at (λ store. freed store p) st (λ store e. (stay_freed s.store store p e, sound_freed s.store store p st.now.blocks e))) (λ s st. after_give Placed s NoValue st tt)
keeps_free at _ = keeps_undefined Placed at

keeps_if : {source : TranslationUnit} {A : Type 0} (P : A → State → Type 0) (t : Bool) (a b : Evaluation A) → Keeps source P a → Keeps source P b → Keeps source P (if t then a else b)
keeps_if P true a b f g = f
keeps_if P false a b f g = g

keeps_print : {source : TranslationUnit} (b : ℕ) → Keeps source Any (print b)
keeps_print b s st = record { stay = stay_same s.store; sound = record { now = st.now; past = st.past }; gives = tt }

keeps_print_all : {source : TranslationUnit} (bytes : List ℕ) → Keeps source Any (print_all bytes)
keeps_print_all [] = keeps_done
keeps_print_all (b ∷ bs) = keeps_then Any Any (print b) (print_all bs) (keeps_print b) (keeps_print_all bs)

keeps_end_of_string : {source : TranslationUnit} (at : Place) (ends : Bool) → Keeps source Any (at_end_of_string at ends)
keeps_end_of_string at true = keeps_done
keeps_end_of_string at false = keeps_undefined Any at

keeps_string : {source : TranslationUnit} (at : Place) (p : Pointer) → Keeps source Any (print_string at p)
keeps_string at p s =
    let string = string_at s.store p in keeps_then Any Any (print_all string.0) (at_end_of_string at string.1) (keeps_print_all string.0) (keeps_end_of_string at string.1) s

keeps_pieces : {source : TranslationUnit} (at : Place) (ps : List Piece) (vs : List Value) → Keeps source Placed (print_pieces at ps vs)
keeps_pieces at [] vs = λ s st. after_give Placed s NoValue st tt
keeps_pieces at (Bytes bs ∷ ps) vs = keeps_then Any Placed (print_all bs) (print_pieces at ps vs) (keeps_print_all bs) (keeps_pieces at ps vs)
keeps_pieces at (NumberPiece k ∷ ps) (Integer z ∷ vs) = keeps_then Any Placed (print_all (signed_decimal z)) (print_pieces at ps vs) (keeps_print_all (signed_decimal z)) (keeps_pieces at ps vs)
keeps_pieces at (Character ∷ ps) (Integer z ∷ vs) = keeps_then Any Placed (print (byte_of z)) (print_pieces at ps vs) (keeps_print (byte_of z)) (keeps_pieces at ps vs)
keeps_pieces at (String ∷ ps) (Points p ∷ vs) = keeps_then Any Placed (print_string at p) (print_pieces at ps vs) (keeps_string at p) (keeps_pieces at ps vs)
keeps_pieces at (piece ∷ ps) _ = keeps_undefined Placed at

keeps_defined : {source : TranslationUnit} {A : Type 0} (at : Place) (o : Option A) → Keeps source Any (defined at o)
keeps_defined at None = keeps_undefined Any at
keeps_defined at (Some a) = λ s st. after_give Any s a st tt

keeps_printf : {source : TranslationUnit} (T : Tables) (at : Place) (vs : List Value) → Keeps source Placed (printf_with T at vs)
keeps_printf T at (Points p ∷ vs) =
    keeps_bind Any Placed (defined at (text_at_pointer T p)) _ (keeps_defined at (text_at_pointer T p)) (λ bytes t st u.
    keeps_bind Any Placed (defined at (pieces_of bytes)) (λ ps. print_pieces at ps vs) (keeps_defined at (pieces_of bytes)) (λ ps t st u. keeps_pieces at ps vs t st) t st)
keeps_printf T at _ = keeps_undefined Placed at

keeps_library : {source : TranslationUnit} (T : Tables) (at : Place) (name : Option (List ℕ)) (vs : List Value) → Keeps source Placed (library_call T at name vs)
keeps_library T at None vs = keeps_undefined Placed at
keeps_library T at (Some name) vs =
    keeps_if Placed (bytes_eq name (codes "putchar")) _ _ (keeps_put_char at vs)
    (keeps_if Placed (bytes_eq name (codes "getchar")) _ _ (keeps_get_char at vs)
    (keeps_if Placed (bytes_eq name (codes "exit")) _ _ (keeps_exit at vs)
    (keeps_if Placed (bytes_eq name (codes "malloc")) _ _ (keeps_malloc at vs)
    (keeps_if Placed (bytes_eq name (codes "calloc")) _ _ (keeps_calloc at vs)
    (keeps_if Placed (bytes_eq name (codes "free")) _ _ (keeps_free at vs)
    (keeps_if Placed (bytes_eq name (codes "printf")) _ _ (keeps_printf T at vs) (keeps_undefined Placed at)))))))

-- ---- calls

keeps_at_close : {source : TranslationUnit} (close : Place) (t : PlainType) → Keeps source Placed (at_close close t)
keeps_at_close {source = source} close t = by (scalar_of t)
  where
    by : (o : Option Scalar) → Keeps source Placed (elim o [ None ↦ give NoValue | Some k ↦ stop (Over (Undefined close)) ])
    by None = λ s st. after_give Placed s NoValue st tt
    by (Some k) = keeps_undefined Placed close

pub after_returned : {source : TranslationUnit} (f : Function) (s : State) (o : Outcome (Unit {0})) → After source Any s o → After source Placed s (returned_by f o)
after_returned f s (Normal u t) h = let r = keeps_at_close f.close f.result t h.sound in record { stay = stay_onward s.store t.store _ h.stay r.stay; sound = r.sound; gives = r.gives }
after_returned f s (Stop (Leaves Breaks) t) h = record { stay = h.stay; sound = h.sound; gives = tt }
after_returned f s (Stop (Leaves Continues) t) h = record { stay = h.stay; sound = h.sound; gives = tt }
after_returned f s (Stop (Leaves (Returns None)) t) h = record { stay = h.stay; sound = h.sound; gives = tt }
after_returned f s (Stop (Leaves (Returns (Some v))) t) h = record { stay = h.stay; sound = h.sound; gives = h.gives }
after_returned f s (Stop (Over e) t) h = record { stay = h.stay; sound = h.sound; gives = tt }
after_returned f s (Stop Stuck t) h = record { stay = h.stay; sound = h.sound; gives = tt }

after_main_any : {source : TranslationUnit} (c : Option FunctionContract) (hs : List Bool) (s : State) (o : Outcome (Unit {0})) → After source Any s o → After source Any s (after_main c hs o)
after_main_any c hs s (Normal u t) h = let r = keeps_ending c hs (Integer (pos 0)) t h.sound in record { stay = stay_onward s.store t.store _ h.stay r.stay; sound = r.sound; gives = r.gives }
after_main_any c hs s (Stop (Leaves Breaks) t) h = h
after_main_any c hs s (Stop (Leaves Continues) t) h = h
after_main_any c hs s (Stop (Leaves (Returns None)) t) h =
    let r = after_bind Any Any t (ending c hs NoValue t) (λ _. stop {A = Unit {0}} (Leaves (Returns None))) (keeps_ending c hs NoValue t h.sound) (λ a u stay su _. record { stay = stay_same u.store; sound = su; gives = tt }) in
    record { stay = stay_onward s.store t.store _ h.stay r.stay; sound = r.sound; gives = r.gives }
after_main_any c hs s (Stop (Leaves (Returns (Some v))) t) h =
    let r = after_bind Any Any t (ending c hs v t) (λ _. stop {A = Unit {0}} (Leaves (Returns (Some v)))) (keeps_ending c hs v t h.sound)
    (λ a u stay su _. record { stay = stay_same u.store; sound = su; gives = value_onward t.store u.store v stay h.gives }) in
    record { stay = stay_onward s.store t.store _ h.stay r.stay; sound = r.sound; gives = r.gives }
after_main_any c hs s (Stop (Over e) t) h = h
after_main_any c hs s (Stop Stuck t) h = h

-- a function of the program: its addresses are those of lvalues, and what it declares is the program's
pub record IsOwn (p : TranslationUnit) (f : Function) : Type 0 where
  pub body : WhereAny (EachIn AreDirect) f.body
  pub params : Declares p f.params
  pub variables : Declares p (declared_in_body f.body)

module _ {source : TranslationUnit} (call : Callee) (c : CallsKeepSound source call) (octets : (n : ℕ) → AreBytes (text_at (tables_of source).texts n)) where
  abbrev T : Tables
  T = tables_of source

  pub after_parameters : (at : Place) (ds : List Declaration) (vs : List Value) → Declares source ds
      → (s : State) → IsSoundState source s → AllPlaced vs s → After source Any s (parameters T at ds vs s)
  after_parameters at [] [] own s st h = after_give Any s tt st tt
  after_parameters at [] (v ∷ vs) own s st h = after_over Any s (Undefined at) st
  after_parameters at (d ∷ ds) [] own s st h = after_over Any s (Undefined at) st
  after_parameters at (d ∷ ds) (v ∷ vs) own s st h =
      after_bind Any Any s _ (λ _. parameters T at ds vs)
      (after_bind Any Any s (birth T.structs d s) (λ _. as_scalar (scalar_of d.ctype) (λ k. write_youngest at k v)) (keeps_birth d (own d (inl refl)) s st)
      (λ a u stay su g. after_scalar Any u (scalar_of d.ctype) (λ k. write_youngest at k v) su (λ k. after_write u at (Into (length u.store) 0) k v su (value_onward s.store u.store v stay h.0))))
      (λ a u stay su g. after_parameters at ds vs (λ e m. own e (inr m)) u su (vals_onward s u vs stay h.1))

  keeps_result : (f : Function) (hs : List Bool) (n : ℕ) → IsOwn source f → Keeps source Placed (result_with T f hs call n)
  keeps_result f hs n own =
      keeps_bind Placed Placed (λ s. returned_by f (body_with T f.body call n s)) (λ v. ending f.contract hs v >> give v)
      (λ s st. after_returned f s (body_with T f.body call n s) (keeps_body_of call c octets f.body own.body own.variables n s st))
      (λ v t su g. after_bind Any Placed t (ending f.contract hs v t) (λ _. give v) (keeps_ending f.contract hs v t su) (λ a u stay su2 _. after_give Placed u v su2 (value_onward t.store u.store v stay g)))

  after_call_with : (f : Option Function) (n : ℕ) (at : Place) (vs : List Value) → WhereAny (IsOwn source) f
      → (s : State) → IsSoundState source s → AllPlaced vs s → After source Placed s (call_with T (global_scope source) f call n at vs s)
  after_call_with None n at vs own s st g = after_over Placed s (Undefined at) st
  after_call_with (Some f) n at vs own s st g =
      after_bind Any Placed s (step s) (λ _. called inner) (keeps_step s st) (λ a u stay su _. after_called u su (vals_onward s u vs stay g))
    where
      begun : Evaluation (Unit {0})
      begun = frame >> alone (global_scope source)

      inner : Evaluation Value
      inner = begun >> parameters T at f.params vs >> mark None >> (entry f.contract >>= λ hs. result_with T f hs call n)

      after_called : (u : State) → IsSoundState source u → AllPlaced vs u → After source Placed u (called inner u)
      after_called u su k =
          answered_after u (inner u) su
          (after_bind Any Placed u ((begun >> parameters T at f.params vs >> mark None) u) (λ _. entry f.contract >>= λ hs. result_with T f hs call n)
          (after_bind Any Any u ((begun >> parameters T at f.params vs) u) (λ _. mark None)
          (after_bind Any Any u (begun u) (λ _. parameters T at f.params vs) (keeps_then Any Any frame (alone (global_scope source)) keeps_frame keeps_alone u su)
          (λ a w stay sw _. after_parameters at f.params vs own.params w sw (vals_onward u w vs stay k)))
          (λ a w stay sw _. keeps_mark None w sw))
          (λ a w stay sw _. keeps_bind Any Placed (entry f.contract) (λ hs. result_with T f hs call n) (keeps_entry f.contract) (λ hs z sz _. keeps_result f hs n own z sz) w sw))

  -- `main`, where it is defined
  keeps_main : (f : Option Function) (n : ℕ) → WhereAny (IsOwn source) f → Keeps source Any (main_with T f call n)
  keeps_main None n own = λ s st. after_stuck Any s st
  keeps_main (Some f) n own = λ s st.
      answered_any s _ st
      (keeps_then Any Any (frame >> births T.structs f.params >> mark None) (entry f.contract >>= λ hs s. after_main f.contract hs (body_with T f.body call n s))
      (keeps_then Any Any (frame >> births T.structs f.params) (mark None) (keeps_then Any Any frame (births T.structs f.params) keeps_frame (keeps_births f.params own.params)) (keeps_mark None))
      (keeps_bind Any Any (entry f.contract) (λ hs s. after_main f.contract hs (body_with T f.body call n s)) (keeps_entry f.contract)
      (λ hs t su _. after_main_any f.contract hs t (body_with T f.body call n t) (keeps_body_of call c octets f.body own.body own.variables n t su))) s st)

-- ---- functions of the program

own_function : (p : TranslationUnit) (f : Function) (fs : List Function) → WhereAny (EachIn AreDirect) f.body → Declares p (declared_by (f ∷ fs)) → IsOwn p f
own_function p f fs direct own = record {
  body = direct;
  params = λ d m. own d (among_left d f.params (declared_in_body f.body ++ declared_by fs) m);
  variables = λ d m. own d (among_right d f.params (declared_in_body f.body ++ declared_by fs) (among_left d (declared_in_body f.body) (declared_by fs) m));
}

behind_function : (p : TranslationUnit) (f : Function) (fs : List Function) → Declares p (declared_by (f ∷ fs)) → Declares p (declared_by fs)
behind_function p f fs own d m = own d (among_right d f.params (declared_in_body f.body ++ declared_by fs) (among_right d (declared_in_body f.body) (declared_by fs) m))

either_own : (p : TranslationUnit) (t : Bool) (f g : Option Function) → WhereAny (IsOwn p) f → WhereAny (IsOwn p) g → WhereAny (IsOwn p) (if t then f else g)
either_own p true f g h k = h
either_own p false f g h k = k

pub own_at : (p : TranslationUnit) (n : ℕ) (fs : List Function) → BodiesDirect fs → Declares p (declared_by fs) → WhereAny (IsOwn p) (definition_at n fs)
own_at p n [] h own = tt
own_at p n (f ∷ fs) h own =
    either_own p (is_definition f && nat_eq f.place.offset n) (Some f) (definition_at n fs) (own_function p f fs h.0 own) (own_at p n fs h.1 (behind_function p f fs own))

pub own_indexed : (p : TranslationUnit) (i : ℕ) (f : Function) (fs : List Function) → BodiesDirect fs → Declares p (declared_by fs) → slice_get fs i ≡ Some f → IsOwn p f
own_indexed p i f [] h own e = absurd cc
own_indexed p zero f (g ∷ fs) h own e = let same : g ≡ f = cc in subst (IsOwn p) same (own_function p g fs h.0 own)
own_indexed p (suc i) f (g ∷ fs) h own e = own_indexed p i f fs h.1 (behind_function p g fs own) e

pub own_named : (p : TranslationUnit) (name : List ℕ) (fs : List Function) → BodiesDirect fs → Declares p (declared_by fs) → WhereAny (IsOwn p) (function_named p name fs)
own_named p name [] h own = tt
own_named p name (f ∷ fs) h own =
    either_own p (is_definition f && has_name (slice_get p.names f.name) name) (Some f) (function_named p name fs) (own_function p f fs h.0 own) (own_named p name fs h.1 (behind_function p f fs own))

pub in_functions : (p : TranslationUnit) → Declares p (declared_by p.funcs)
in_functions p d m = among_right d p.globals (declared_by p.funcs) m

after_if : {source : TranslationUnit} {A : Type 0} (P : A → State → Type 0) (s : State) (t : Bool) (m n : Evaluation A) → After source P s (m s) → After source P s (n s) → After source P s ((if t then m else n) s)
after_if P s true m n h k = h
after_if P s false m n h k = k

pub calls_keep_sound : (p : TranslationUnit) → IsDirect p → (n : ℕ) → CallsKeepSound p (call_of p n)
calls_keep_sound p d zero at f vs s st g = keeps_if Placed (is_of_library f) _ _ (keeps_library (tables_of p) at (slice_get p.names f.name) vs) (keeps_over Placed Spent) s st
calls_keep_sound p d (suc n) at f vs s st g =
    after_if Placed s (is_of_library f) (library_call (tables_of p) at (slice_get p.names f.name) vs) (call_with (tables_of p) (global_scope p) (definition_at f.decl p.funcs) (call_of p n) n at vs)
    (keeps_library (tables_of p) at (slice_get p.names f.name) vs s st)
    (after_call_with (call_of p n) (calls_keep_sound p d n) d.octets (definition_at f.decl p.funcs) n at vs (own_at p f.decl p.funcs d.bodies (in_functions p)) s st g)

-- ---- whole runs

pub whole_keeps_sound : (p : TranslationUnit) → IsDirect p → (n : ℕ) → Keeps p Any (whole p n)
whole_keeps_sound p d n =
    keeps_then Any Any (initialise_all (tables_of p) p.globals (call_of p n)) (main_with (tables_of p) (function_named p (codes "main") p.funcs) (call_of p n) n)
    (keeps_initialise_all (call_of p n) (calls_keep_sound p d n) d.octets p.globals d.globals)
    (keeps_main (call_of p n) (calls_keep_sound p d n) d.octets (function_named p (codes "main") p.funcs) n (own_named p (codes "main") p.funcs d.bodies (in_functions p)))
