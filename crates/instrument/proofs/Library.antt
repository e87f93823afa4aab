-- Calls of the library: putchar, getchar, exit, malloc, calloc, free and printf.
use Rattle.std.proofs.Common.{◌≡◌, ℕ, zero, suc, ◌+◌, ◌*◌, ◌%◌, ◌^◌, ◌<◌, ◌≤◌, ℤ, pos, negsuc, Bool, true, false, cond, if◌then◌else◌, nat_eq, List, [], ◌∷◌, ◌++◌, length, replicate, Option, Some, None, refl, sym, ap, ◌∙◌, subst, arith}
use Rattle.std.proofs.lemmas.List.{append-nil, length-append, length-replicate}
use Rattle.std.proofs.lemmas.Bool.{lt-ltb}
use Rattle.std.specs.Prelude.{slice_get, bytes_eq, codes}
use Rattle.c_syntax.specs.declared.place.Place.{Place}
use Rattle.c_syntax.specs.declared.types.CInt.TheVariants.{I8, I32, U64 as UnsignedLong}
use Rattle.c_syntax.specs.declared.expression.Use.{Use}
use Rattle.c_syntax.specs.Ctypes.{PlainType, Void, Int, Ptr, int_type}
use Rattle.c_model.specs.Integers.{fits, bits_of, byte_of}
use Rattle.c_model.specs.Memory.{Piece as PieceByte}
use Rattle.c_model.specs.Memory.{Pointer, Null, Into, Value, Integer, Points, NoValue, Byte, Unwritten, Number, Store, Room, At, NoRoom, heap_room, heap_block, standard_sizes, freed}
use Rattle.c_model.specs.State.{State, Input, InputTail, EndOfInput, InputFault, Spent, Exits, Full, ReadFault, Over, Outcome, on_outcome, ◌>>=◌, stop, defined, give, put_store, read_byte, allocate, heap_birth}
use Rattle.c_syntax.specs.Expressions.{Expressions}
use Rattle.c_syntax.specs.Programs.{StringLiteral}
use Rattle.c_model.specs.StaticObjects.{static_objects}
use Rattle.c_model.specs.Formats.{Piece, pieces_of, types_of}
use Rattle.c_model.specs.TypedTrees.{literal_in}
use Rattle.c_effects.specs.Expressions.{object_of_literal}
use Rattle.c_simulation.proofs.Printing as printing
use Rattle.c_model.specs.Meaning.{Tables, literal, tables_of, global_scope, library_call, definition_at, call_with, is_of_library, call_of}
use Rattle.c_model.specs.ExpressionTyping.{name_at}
use Rattle.mon_syntax.specs.declared.tree.MonType.TheVariants.{U64}
use Rattle.mon_syntax.specs.declared.tree.MemoryCall.{MemoryCall}
use Rattle.mon_syntax.specs.declared.tree.MemoryCall.TheVariants.{Malloc, Calloc, Free}
use Rattle.mon_syntax.specs.Arithmetic.{lowest_bits}
use Rattle.c_model.specs.MonitoredRuns as machine
use Rattle.mon_syntax.specs.Meaning.{Result, Done, Stops, Next, then_do, replied, given_to, got, with_read, with_value, eval, eval_all}
use Rattle.mon_syntax.specs.Meaning.{◌>>=◌ as bind}
use Rattle.mon_syntax.specs.BlockMemory.{Blocks, integer_of, over_blocks, act_on_blocks, becomes}
use Rattle.mon_syntax.specs.BlockMemory as blocks
use Rattle.mon_syntax.specs.Memory as memory
use Rattle.mon_syntax.specs.Trees.{MonExpression, PutChar, GetChar, Exit, Act, Call}
use Rattle.c_effects.specs.Expressions.{one}
use Rattle.c_effects.specs.Effects as effects
use Rattle.c_effects.specs.Effects.{index_of, call}
use Rattle.c_simulation.proofs.Results.{one_is}
use Rattle.c_simulation.specs.Standing.{Setting, Target, runs, Has, IsSmall, IsByte, AreBytes, Bounded}
use Rattle.c_model.specs.Together.{AreTogether}
use Rattle.c_model.proofs.SoundStores.{none_together}
use Rattle.c_simulation.proofs.Bounds.{replicated_bytes, replicated_none}
use Rattle.instrument.proofs.Heap.{live_with_heap, bounded_with_heap, room_small, freed_saved}
use Rattle.c_simulation.proofs.Following.{later_same}
use Rattle.c_simulation.proofs.Calls.{Even, Called, Gives, EndsRun, HasNoMeaning, AreOf, HaveAll, Begin, takes, CallDoes, DoesCall, AllDo}
use Rattle.instrument.proofs.LibraryNames.{name_there}
use Rattle.c_simulation.proofs.Places.{of_integer, of_pointer}

-- ---- numbers

byte_fits : (n : ℕ) → n < 256 → fits I32 (pos n) ≡ true
byte_fits n lt = lt-ltb n 2147483648 (omega (arith, lt))

byte_below : (z : ℤ) → byte_of z < 256
byte_below (pos n) = omega arith
byte_below (negsuc n) = omega arith

-- a number of bytes is the same on both sides
same_bits : (z : ℤ) → fits UnsignedLong z ≡ true → lowest_bits U64 z ≡ bits_of UnsignedLong z
same_bits (pos n) f = refl
same_bits (negsuc n) f = absurd cc

-- the one argument
first_has : (w : Setting) (args : List MonExpression) (regs : List Value) (mem : Blocks) (v : Value) → HaveAll w args regs mem (v ∷ []) → Has w (effects.first_of args) regs mem v
first_has w [] regs mem v e = absurd cc
first_has w (a ∷ args) regs mem v e = by (eval over_blocks w.globals a regs mem) refl e
  where
    all : (u : Value) (o : Option (List Value)) → bind o (λ vs. Some (u ∷ vs)) ≡ Some (v ∷ []) → u ≡ v
    all u None f = absurd cc
    all u (Some vs) f = let both : u ∷ vs ≡ v ∷ [] = cc in cc

    by : (o : Option Value) → eval over_blocks w.globals a regs mem ≡ o → bind o (λ u. bind (eval_all over_blocks w.globals args regs mem) (λ vs. Some (u ∷ vs))) ≡ Some (v ∷ []) → eval over_blocks w.globals a regs mem ≡ Some v
    by None g f = absurd cc
    by (Some u) g f = g ∙ ap Some (all u (eval_all over_blocks w.globals args regs mem) f)

-- ---- what the runtime does on the heap

-- what a call of the runtime answers in a state
abbrev Answers : Target → MemoryCall → List Value → Result Target Value
Answers t f vs = replied over_blocks (act_on_blocks f vs t.mem) t

module _ (s : State) (t : Target) (even : Even s t) (bounded : Bounded s.store) where
  -- a birth, where there is room for so many bytes
  born : (room : Room) (bytes : List Byte) → ((place : ℕ) → room ≡ At place → length bytes ≤ 2 ^ 32) → AreBytes bytes → AreTogether bytes
      → Called s (Ptr Void) (heap_birth room bytes s) (replied over_blocks (blocks.heap_birth room bytes t.mem) t)
  born (NoRoom full) bytes small are apart = EndsRun (Full full) (machine.Full full) s [] refl refl (sym (append-nil s.output)) (ap (λ k. Stops (machine.Full full) k []) even.steps)
  born (At place) bytes small are apart =
      let v = Points (Into (length s.store + 1) 0) in
      let to : State = record s { store = s.store ++ heap_block place bytes ∷ [] } in
      let there : Target = record t { mem = record t.mem { store = t.mem.store ++ heap_block place bytes ∷ [] } } in
      Gives (Some v) v to there [] (Into (length s.store + 1) 0, refl, omega arith) refl
      (record {
        scope = refl;
        calls = refl;
        live = live_with_heap s.store place bytes;
        longer = omega (arith, length-append s.store (heap_block place bytes ∷ []));
        bounded = bounded_with_heap s.store place bytes bounded (small place refl) are apart;
        spent = omega arith;
        output = sym (append-nil s.output);
        marks = refl;
      })
      (record { store_is = ap (λ store. store ++ heap_block place bytes ∷ []) even.store_is; frames = even.frames; steps = even.steps; input = even.input })
      refl (ap (λ (store : Store). Done (Points (Into (length store + 1) 0)) there []) even.store_is)

  allocated : (n : ℕ) (b : Byte) → IsByte b → ((k : ℕ) (p : Pointer) → b ≡ PieceByte p k → ⊥) → Called s (Ptr Void) (allocate n b s) (replied over_blocks (blocks.allocate n b t.mem) t)
  allocated n b is none = by (nat_eq n 0)
    where
      room : Store → Room
      room store = heap_room standard_sizes store n

      small : (place : ℕ) → room s.store ≡ At place → length (replicate n b) ≤ 2 ^ 32
      small place e = omega (arith, room_small s.store n place e, length-replicate n b)

      by : (zero : Bool)
          → Called s (Ptr Void) (cond zero (give (Points Null)) (λ s. heap_birth (room s.store) (replicate n b) s) s)
          (replied over_blocks (if zero then memory.Gives (Points Null) t.mem else blocks.heap_birth (room t.mem.store) (replicate n b) t.mem) t)
      by true = Gives (Some (Points Null)) (Points Null) s t [] (Null, refl, tt) refl (later_same s bounded) even refl refl
      by false =
          subst (λ store. Called s (Ptr Void) (heap_birth (room s.store) (replicate n b) s) (replied over_blocks (blocks.heap_birth (room store) (replicate n b) t.mem) t)) (sym even.store_is)
          (born (room s.store) (replicate n b) small (replicated_bytes n b is) (none_together (replicate n b) (replicated_none n b none)))

  ended : (T : Tables) (p : Pointer) (at : Place) → Called s Void (library_call T at (Some (codes "free")) (Points p ∷ []) s) (replied over_blocks (becomes t.mem (freed t.mem.store p)) t)
  ended T p at =
      subst (λ store. Called s Void (after (freed s.store p)) (replied over_blocks (becomes t.mem (freed store p)) t)) (sym even.store_is) (by (freed s.store p) refl)
    where
      after : Option Store → Outcome Value
      after o = on_outcome ((defined at o >>= put_store) s) (λ _. give NoValue)

      by : (o : Option Store) → freed s.store p ≡ o → Called s Void (after o) (replied over_blocks (becomes t.mem o) t)
      by None e = HasNoMeaning at s [] refl (sym (append-nil s.output)) (record { rest = []; is = refl })
      by (Some store) e =
          let kept = freed_saved s.store store p bounded e in
          Gives None (Integer (pos 0)) (record s { store = store }) (record t { mem = record t.mem { store = store } }) [] tt tt
          (record { scope = refl; calls = refl; live = kept.live; longer = omega (arith, kept.long); bounded = kept.bounded; spent = omega arith; output = sym (append-nil s.output); marks = refl })
          (record { store_is = refl; frames = even.frames; steps = even.steps; input = even.input })
          refl refl

-- ---- calls by name

-- a call of the library in the source, and its statements
module _ (w : Setting) (n depth : ℕ) (calls : w.call ≡ call_of w.unit depth) (f : Use) (library : is_of_library f ≡ true) (es : Expressions) where
  abbrev names : List (List ℕ)
  names = w.unit.names

  abbrev name : List ℕ
  name = name_at names f.name

  source_is : (at : Place) (vs : List Value) (s : State) → w.call at f vs s ≡ library_call (tables_of w.unit) at (slice_get names f.name) vs s
  source_is at vs s = ap (λ c. c at f vs s) calls ∙ by depth
    where
      by : (k : ℕ) → call_of w.unit k at f vs s ≡ library_call (tables_of w.unit) at (slice_get names f.name) vs s
      by zero = ap (λ b. (if b then library_call (tables_of w.unit) at (slice_get names f.name) vs else stop (Over Spent)) s) library
      by (suc k) = ap (λ b. (if b then library_call (tables_of w.unit) at (slice_get names f.name) vs else call_with (tables_of w.unit) (global_scope w.unit) (definition_at f.decl w.unit.funcs) (call_of w.unit k) k at vs) s) library

  code_is : (into : Option ℕ) (args : List MonExpression) → call w.unit into f es args ≡ effects.named_call w.unit into name es args
  code_is into args = ap (λ b. if b then effects.named_call w.unit into name es args else one (Call into (index_of f.decl w.unit.funcs) args)) library

  -- what a call of the function y does with these values
  abbrev CallsWith : List ℕ → List Value → PlainType → Type 0
  CallsWith y vs result = (s : State) (t : Target) → Even s t → Bounded s.store → (at : Place) (into : Option ℕ) (regs : List Value) (args : List MonExpression) → HaveAll w args regs t.mem vs → Begin w es args
      → CallDoes s result (library_call (tables_of w.unit) at (Some y) vs s) into regs (runs w n t (effects.named_call w.unit into y es args) regs)

  by_name : (y : List ℕ) (types : List PlainType) (result : PlainType) → bytes_eq y [] ≡ false → name ≡ y → ((vs : List Value) → AreOf types vs → CallsWith y vs result) → AllDo w n f es result types
  by_name y types result some is h vs are s t even bounded le at into regs args has begin =
      subst (λ r. CallDoes s result r into regs (runs w n t (call w.unit into f es args) regs)) (sym (source_is at vs s ∙ ap (λ o. library_call (tables_of w.unit) at o vs s) (name_there names f.name y some is)))
      (subst (λ a. CallDoes s result (library_call (tables_of w.unit) at (Some y) vs s) into regs (runs w n t a regs)) (sym (code_is into args ∙ ap (λ x. effects.named_call w.unit into x es args) is))
      (h vs are s t even bounded at into regs args has begin))

  -- one argument, and two
  with_one : (y : List ℕ) (u result : PlainType) → ((v : Value) → AreOf (u ∷ []) (v ∷ []) → CallsWith y (v ∷ []) result) → (vs : List Value) → AreOf (u ∷ []) vs → CallsWith y vs result
  with_one y u result h [] are = absurd are
  with_one y u result h (v ∷ []) are = h v are
  with_one y u result h (v ∷ x ∷ vs) are = absurd are.1

  with_two : (y : List ℕ) (u1 u2 result : PlainType) → ((v x : Value) → AreOf (u1 ∷ u2 ∷ []) (v ∷ x ∷ []) → CallsWith y (v ∷ x ∷ []) result) → (vs : List Value) → AreOf (u1 ∷ u2 ∷ []) vs → CallsWith y vs result
  with_two y u1 u2 result h [] are = absurd are
  with_two y u1 u2 result h (v ∷ []) are = absurd are.1
  with_two y u1 u2 result h (v ∷ x ∷ []) are = h v x are
  with_two y u1 u2 result h (v ∷ x ∷ z ∷ vs) are = absurd are.1.1

  -- ---- putchar

  pub putchar_does : name ≡ codes "putchar" → AllDo w n f es int_type (int_type ∷ [])
  putchar_does is = by_name (codes "putchar") (int_type ∷ []) int_type refl is (with_one (codes "putchar") int_type int_type (λ v are. of_integer I32 (λ v. CallsWith (codes "putchar") (v ∷ []) int_type) v are.0 (λ z f. prints z)))
    where
      prints : (z : ℤ) → CallsWith (codes "putchar") (Integer z ∷ []) int_type
      prints z s t even bounded at into regs args has begin =
          let byte = byte_of z in
          let v = Integer (pos byte) in
          let to : State = record s { output = s.output ++ byte ∷ [] } in
          DoesCall (Done v t (byte ∷ []))
          (one_is w.globals (PutChar into (effects.first_of args)) w.calls n regs t
          ∙ ap (λ o. with_value (bind o integer_of) t.steps (λ i. Done (Next (given_to into (Integer (pos (byte_of i))) regs)) t (byte_of i ∷ []))) (first_has w args regs t.mem (Integer z) has))
          (Gives (Some v) v to t (byte ∷ []) (pos byte, refl, byte_fits byte (byte_below z)) refl
          (record { scope = refl; calls = refl; live = refl; longer = omega arith; bounded = bounded; spent = omega arith; output = refl; marks = refl })
          (record { store_is = even.store_is; frames = even.frames; steps = even.steps; input = even.input })
          refl refl)

  -- ---- getchar

  abbrev reads : List ℕ → InputTail → Target → Result Target Value
  reads bytes tail t = with_read (got bytes tail) t.steps (λ z input. Done (Integer z) (record t { input = input }) [])

  read_follows : (bytes : List ℕ) (tail : InputTail) (s : State) (t : Target) → Even s t → Bounded s.store → s.input ≡ record { bytes = bytes; tail = tail } → Called s int_type (read_byte bytes tail s) (reads bytes tail t)
  read_follows [] EndOfInput s t even bounded e =
      Gives (Some (Integer (negsuc 0))) (Integer (negsuc 0)) s (record t { input = record { bytes = []; tail = EndOfInput } }) [] (negsuc 0, refl, refl) refl (later_same s bounded)
      (record { store_is = even.store_is; frames = even.frames; steps = even.steps; input = sym e }) refl refl
  read_follows [] InputFault s t even bounded e = EndsRun ReadFault machine.ReadFault s [] refl refl (sym (append-nil s.output)) (ap (λ k. Stops machine.ReadFault k []) even.steps)
  read_follows (b ∷ bytes) tail s t even bounded e =
      let rest : Input = record { bytes = bytes; tail = tail } in
      let v = Integer (pos (b % 256)) in
      Gives (Some v) v (record s { input = rest }) (record t { input = rest }) [] (pos (b % 256), refl, byte_fits (b % 256) (omega arith)) refl
      (record { scope = refl; calls = refl; live = refl; longer = omega arith; bounded = bounded; spent = omega arith; output = sym (append-nil s.output); marks = refl })
      (record { store_is = even.store_is; frames = even.frames; steps = even.steps; input = refl }) refl refl

  read_runs : (o : Option (ℤ × Input)) (t : Target) (into : Option ℕ) (regs : List Value) → with_read o t.steps (λ z input. Done (Next (given_to into (Integer z) regs)) (record t { input = input }) []) ≡ then_do
      (with_read o t.steps (λ z input. Done (Integer z) (record t { input = input }) [])) (takes into regs)
  read_runs None t into regs = refl
  read_runs (Some (z, input)) t into regs = refl

  pub getchar_does : name ≡ codes "getchar" → AllDo w n f es int_type []
  getchar_does is = by_name (codes "getchar") [] int_type refl is by
    where
      by : (vs : List Value) → AreOf [] vs → CallsWith (codes "getchar") vs int_type
      by (v ∷ vs) are = absurd are
      by [] are = λ s t even bounded at into regs args has begin.
          DoesCall (reads s.input.bytes s.input.tail t)
          (one_is w.globals (GetChar into) w.calls n regs t
          ∙ ap (λ (i : Input). with_read (got i.bytes i.tail) t.steps (λ z input. Done (Next (given_to into (Integer z) regs)) (record t { input = input }) [])) even.input
          ∙ read_runs (got s.input.bytes s.input.tail) t into regs)
          (read_follows s.input.bytes s.input.tail s t even bounded refl)

  -- ---- exit

  pub exit_does : name ≡ codes "exit" → AllDo w n f es Void (int_type ∷ [])
  exit_does is = by_name (codes "exit") (int_type ∷ []) Void refl is (with_one (codes "exit") int_type Void (λ v are. of_integer I32 (λ v. CallsWith (codes "exit") (v ∷ []) Void) v are.0 (λ z f. exits z)))
    where
      exits : (z : ℤ) → CallsWith (codes "exit") (Integer z ∷ []) Void
      exits z s t even bounded at into regs args has begin =
          DoesCall (Stops (machine.Exits z) t.steps [])
          (one_is w.globals (Exit (effects.first_of args)) w.calls n regs t
          ∙ ap (λ o. with_value (bind o integer_of) t.steps (λ i. Stops (machine.Exits i) t.steps [])) (first_has w args regs t.mem (Integer z) has))
          (EndsRun (Exits z) (machine.Exits z) s [] refl refl (sym (append-nil s.output)) (ap (λ k. Stops (machine.Exits z) k []) even.steps))

  -- ---- malloc, calloc and free

  -- a call of the runtime, whose arguments have these values
  acts : (g : MemoryCall) (into : Option ℕ) (args : List MonExpression) (vs : List Value) (t : Target) (regs : List Value) → HaveAll w args regs t.mem vs → runs w n t (one (Act into g args)) regs ≡ then_do (Answers t g vs) (takes into regs)
  acts g into args vs t regs has =
      one_is w.globals (Act into g args) w.calls n regs t
      ∙ ap (λ o. with_value o t.steps (λ vs. then_do (Answers t g vs) (takes into regs))) has

  pub malloc_does : name ≡ codes "malloc" → AllDo w n f es (Ptr Void) (Int UnsignedLong ∷ [])
  malloc_does is =
      by_name (codes "malloc") (Int UnsignedLong ∷ []) (Ptr Void) refl is
      (with_one (codes "malloc") (Int UnsignedLong) (Ptr Void) (λ v are. of_integer UnsignedLong (λ v. CallsWith (codes "malloc") (v ∷ []) (Ptr Void)) v are.0 by))
    where
      by : (z : ℤ) → fits UnsignedLong z ≡ true → CallsWith (codes "malloc") (Integer z ∷ []) (Ptr Void)
      by z fit s t even bounded at into regs args has begin =
          DoesCall (Answers t Malloc (Integer z ∷ [])) (acts Malloc into args (Integer z ∷ []) t regs has)
          (subst (λ size. Called s (Ptr Void) (allocate (bits_of UnsignedLong z) Unwritten s) (replied over_blocks (blocks.allocate size Unwritten t.mem) t)) (sym (same_bits z fit))
          (allocated s t even bounded (bits_of UnsignedLong z) Unwritten tt (λ k p f. absurd cc)))

  pub calloc_does : name ≡ codes "calloc" → AllDo w n f es (Ptr Void) (Int UnsignedLong ∷ Int UnsignedLong ∷ [])
  calloc_does is =
      by_name (codes "calloc") (Int UnsignedLong ∷ Int UnsignedLong ∷ []) (Ptr Void) refl is
      (with_two (codes "calloc") (Int UnsignedLong) (Int UnsignedLong) (Ptr Void) (λ v x are.
      of_integer UnsignedLong (λ v. CallsWith (codes "calloc") (v ∷ x ∷ []) (Ptr Void)) v are.0 (λ i f. of_integer UnsignedLong (λ x. CallsWith (codes "calloc") (Integer i ∷ x ∷ []) (Ptr Void)) x are.1.0 (λ j g. by i j f g))))
    where
      by : (i j : ℤ) → fits UnsignedLong i ≡ true → fits UnsignedLong j ≡ true → CallsWith (codes "calloc") (Integer i ∷ Integer j ∷ []) (Ptr Void)
      by i j f g s t even bounded at into regs args has begin =
          let size = bits_of UnsignedLong i * bits_of UnsignedLong j in
          let same : lowest_bits U64 i * lowest_bits U64 j ≡ size = ap (λ a. a * lowest_bits U64 j) (same_bits i f) ∙ ap (λ b. bits_of UnsignedLong i * b) (same_bits j g) in
          DoesCall (Answers t Calloc (Integer i ∷ Integer j ∷ [])) (acts Calloc into args (Integer i ∷ Integer j ∷ []) t regs has)
          (subst (λ k. Called s (Ptr Void) (allocate size (Number 0) s) (replied over_blocks (blocks.allocate k (Number 0) t.mem) t)) (sym same)
          (allocated s t even bounded size (Number 0) (omega arith) (λ k p f. absurd cc)))

  pub free_does : name ≡ codes "free" → AllDo w n f es Void (Ptr Void ∷ [])
  free_does is =
      by_name (codes "free") (Ptr Void ∷ []) Void refl is
      (with_one (codes "free") (Ptr Void) Void (λ v are. of_pointer (λ v. CallsWith (codes "free") (v ∷ []) Void) v are.0 by))
    where
      by : (p : Pointer) → IsSmall p → CallsWith (codes "free") (Points p ∷ []) Void
      by p small s t even bounded at into regs args has begin =
          DoesCall (Answers t Free (Points p ∷ [])) (acts Free into args (Points p ∷ []) t regs has) (ended s t even bounded (tables_of w.unit) p at)

  -- ---- printf

  pub printf_does : name ≡ codes "printf" → (k : ℕ) (l : StringLiteral) (ps : List Piece) → literal_in es ≡ Some k → slice_get w.unit.texts k ≡ Some l → pieces_of l.bytes ≡ Some ps
      → slice_get w.globals (object_of_literal k (static_objects w.unit)) ≡ Some (Points (literal (tables_of w.unit) k)) → AllDo w n f es Void (Ptr (Int I8) ∷ types_of ps)
  printf_does is k l ps first there pieces stands =
      by_name (codes "printf") (Ptr (Int I8) ∷ types_of ps) Void refl is (λ vs are s t even bounded at into regs args has begin.
      printing.printf_does w n es k l ps first there pieces stands vs are s t even bounded at into regs args has begin)
