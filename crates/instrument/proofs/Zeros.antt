-- Parts of an object that are left out of a list of initialisers are zeros on both sides. The source writes them scalar by scalar, the target in rows: it
-- stores a row once the source is behind it.
use Rattle.std.proofs.Common.{◌≡◌, ℕ, zero, suc, ◌+◌, ◌-◌, ◌<◌, ◌≤◌, pos, Bool, true, false, if◌then◌else◌, nat_eq, nat_lt, List, [], ◌∷◌, ◌++◌, length, Option, Some, None, slice_get, slice_set, refl, sym, ap, ◌∙◌, subst, arith}
use Rattle.std.proofs.lemmas.Bool.{eqb-true, ltb-false, ltb-true}
use Rattle.std.proofs.lemmas.List.{append-nil, length-replicate}
use Rattle.c_syntax.specs.declared.place.Place.{Place}
use Rattle.c_syntax.specs.declared.types.CInt.{CInt}
use Rattle.c_syntax.specs.declared.types.CInt.TheVariants.{I8, U8, I16, U16, I32, U32, I64, U64}
use Rattle.c_syntax.specs.Ctypes.{PlainType}
use Rattle.c_syntax.specs.Programs.{StructType}
use Rattle.c_syntax.specs.Layouts.{Scalar, IntegerType, PointerType, int_size, scalar_size, scalars_of}
use Rattle.c_model.specs.Integers.{fits}
use Rattle.c_model.specs.Memory.{Pointer, Value, Integer, Points, Store, save, save_bytes, bytes_from, shifted}
use Rattle.c_model.specs.Memory.{Number as NumberByte}
use Rattle.c_model.specs.State.{State, Outcome, Normal, Stop, Evaluation, defined, on_outcome, ◌>>=◌, put_store, write, write_bytes}
use Rattle.c_model.specs.Meaning.{zeros, zero_scalars, zero_parts}
use Rattle.mon_syntax.specs.Meaning.{Done, Next, then_do, at_next}
use Rattle.mon_syntax.specs.Trees.{MonExpression, Register, Constant, MonStatements}
use Rattle.mon_syntax.specs.Trees as tree
use Rattle.c_effects.specs.Expressions.{before, one, set, farther, register_type}
use Rattle.c_effects.specs.Effects.{moved, scalars_in, stored_at, widest, zeros_at, zeros_from}
use Rattle.c_effects.specs.Effects as translation
use Rattle.c_effects.proofs.ZeroRuns.{widest_is, zero_at}
use Rattle.track_scopes.specs.Lives.{with_store}
use Rattle.c_simulation.specs.SameRegisters.{Same}
use Rattle.c_simulation.proofs.Integers.{is_number}
use Rattle.c_model.proofs.Together.{no_pieces_fit}
use Rattle.c_simulation.proofs.Bounds.{replicated_bytes, replicated_none, saved_bytes}
use Rattle.c_simulation.proofs.Values.{constant_has}
use Rattle.c_simulation.proofs.Results.{before_is, writes_none}
use Rattle.c_simulation.specs.Following.{written}
use Rattle.c_simulation.specs.Standing.{Setting, Target, runs, Has, IsOf, Bounded, Beside}
use Rattle.c_simulation.proofs.Registers.{same_all, same_set, same_trans, get-set_same}
use Rattle.c_simulation.proofs.Following.{later_same}
use Rattle.c_simulation.specs.Following.{Later}
use Rattle.c_simulation.specs.Reaching.{Reaches, Arrives, IsUndefined, Anything}
use Rattle.c_simulation.proofs.Reaching.{reached_onward, reaches_behind, undefined_now}
use Rattle.c_simulation.proofs.Pointers.{saved_inside, shifted_twice}
use Rattle.c_simulation.specs.Standing.{IsInside}
use Rattle.c_simulation.proofs.PointerValues.{scalar_register, reaches}
use Rattle.c_simulation.proofs.Evaluating.{behind_setup, set_runs}
use Rattle.c_simulation.proofs.Stores.{store_runs, write_reaches}
use Rattle.instrument.proofs.ZeroBytes.{AreZeroed, IsAligned, midway, saved_zeros, wide_saved, zeros_all, zeros_first, zeros_join, zeros_rest}

-- ---- the zeros that are left out, scalar by scalar

scalar_some : (k : Scalar) → 0 < scalar_size k
scalar_some (IntegerType I8) = omega arith
scalar_some (IntegerType U8) = omega arith
scalar_some (IntegerType I16) = omega arith
scalar_some (IntegerType U16) = omega arith
scalar_some (IntegerType I32) = omega arith
scalar_some (IntegerType U32) = omega arith
scalar_some (IntegerType I64) = omega arith
scalar_some (IntegerType U64) = omega arith
scalar_some PointerType = omega arith

then_again : (r : Outcome (Unit {0})) (f g : Evaluation (Unit {0})) → on_outcome (on_outcome r (λ _. f)) (λ _. g) ≡ on_outcome r (λ _ s. on_outcome (f s) (λ _. g))
then_again (Normal a s) f g = refl
then_again (Stop e s) f g = refl

zeroed_behind : (xs ys : List (ℕ × Scalar)) (at : Place) (p : Pointer) (s : State) → zero_scalars at p (xs ++ ys) s ≡ on_outcome (zero_scalars at p xs s) (λ _. zero_scalars at p ys)
zeroed_behind [] ys at p s = refl
zeroed_behind (x ∷ xs) ys at p s =
    let first = write_bytes at (shifted p x.0) (zeros (scalar_size x.1)) s in
    (λ i. on_outcome first (λ _ t. zeroed_behind xs ys at p t i)) ∙ sym (then_again first (zero_scalars at p xs) (zero_scalars at p ys))

zeroed_farther : (cs : List (ℕ × Scalar)) (at : Place) (p : Pointer) (d : ℕ) (s : State) → zero_scalars at (shifted p d) cs s ≡ zero_scalars at p (moved d cs) s
zeroed_farther [] at p d s = refl
zeroed_farther (c ∷ cs) at p d s =
    λ i. on_outcome (write_bytes at (shifted_twice p d c.0 i) (zeros (scalar_size c.1)) s) (λ _ t. zeroed_farther cs at p d t i)

zeroed_parts : (structs : List StructType) (cs : List (ℕ × PlainType)) (at : Place) (p : Pointer) (d : ℕ) (s : State) → zero_parts structs at (shifted p d) cs s ≡ zero_scalars at p (scalars_in structs d cs) s
zeroed_parts structs [] at p d s = refl
zeroed_parts structs (c ∷ cs) at p d s =
    let xs = scalars_of structs c.1 in
    (λ i. on_outcome (zero_scalars at (shifted_twice p d c.0 i) xs s) (λ _ t. zeroed_parts structs cs at p d t i))
    ∙ ap (λ r. on_outcome r (λ _. zero_scalars at p (scalars_in structs d cs))) (zeroed_farther xs at p (d + c.0) s)
    ∙ sym (zeroed_behind (moved (d + c.0) xs) (scalars_in structs d cs) at p s)

-- ---- how far the target is behind: no byte, or a row of zeros

pub data Lags (store saved : Store) (p : Pointer) (n : ℕ) : Type 0 where
  Even : n ≡ 0 → store ≡ saved → Lags store saved p n
  Behind : AreZeroed store saved p n → Lags store saved p n

-- after its first store
left_behind : (store saved : Store) (p : Pointer) (d n m : ℕ) (z : AreZeroed store saved (shifted p d) n) → 0 < m → m ≤ n → Lags (midway store saved (shifted p d) n z m) saved (shifted p (suc d + (m - 1))) (n - m)
left_behind store saved p d n m z some fits = by (nat_lt m n) refl
  where
    by : (t : Bool) → nat_lt m n ≡ t → Lags (midway store saved (shifted p d) n z m) saved (shifted p (suc d + (m - 1))) (n - m)
    by true e =
        let less = ltb-true m n e in
        let there : d + m ≡ suc d + (m - 1) = omega (arith, some) in
        Behind (subst (λ q. AreZeroed (midway store saved (shifted p d) n z m) saved q (n - m)) (shifted_twice p d m ∙ ap (shifted p) there) (zeros_rest store saved (shifted p d) n m (n - m) z (omega (arith, less)) (omega (arith, less))))
    by false e = let more = ltb-false m n e in Even (omega (arith, more)) (zeros_all store saved (shifted p d) n m z (omega (arith, more, fits)))

-- after more zeros in the source that go on in the row
longer_lag : (store mid saved : Store) (p : Pointer) (d e m n : ℕ) → Lags store mid (shifted p d) m → e ≡ d + m → AreZeroed mid saved (shifted p e) n → Lags store saved (shifted p d) (m + n)
longer_lag store mid saved p d e m n (Even none same) on z =
    let here : e ≡ d = omega (arith, on, none) in
    let all : n ≡ m + n = omega (arith, none) in
    Behind (subst (AreZeroed store saved (shifted p d)) all (subst (λ x. AreZeroed store saved (shifted p x) n) here (subst (λ x. AreZeroed x saved (shifted p e) n) (sym same) z)))
longer_lag store mid saved p d e m n (Behind y) on z = Behind (zeros_join store mid saved (shifted p d) m n y (subst (λ q. AreZeroed mid saved q n) (ap (shifted p) on ∙ sym (shifted_twice p d m)) z))

module _ (w : Setting) (n : ℕ) (low : ℕ) where
  -- a value at an offset from where the first register points, through the second
  pub stored_at_reaches : (at : Place) (k : Scalar) (p : Pointer) (r j d : ℕ) (v : Value) (s : State) (t : Target) (regs : List Value) (e : MonExpression) → Bounded s.store → Beside w s.store s t → slice_get regs r ≡ Some (Points p)
      → low ≤ j → j < length regs → IsOf k v → ((after : List Value) → Same j regs after → Has w e after t.mem v)
      → Reaches w Anything low regs s (write at (shifted p d) k v s) (runs w n t (stored_at r j d (scalar_register k) e) regs)
  stored_at_reaches at k p r j d v s t regs e bounded b points above room f has = by (save s.store (shifted p d) k v) refl
    where
      code : MonStatements
      code = stored_at r j d (scalar_register k) e

      by : (o : Option Store) → save s.store (shifted p d) k v ≡ o → Reaches w Anything low regs s (write at (shifted p d) k v s) (runs w n t code regs)
      by None saves = undefined_now w Anything low regs s (write at (shifted p d) k v s) (runs w n t code regs) at (ap (λ o. (defined at o >>= put_store) s) saves)
      by (Some saved) saves =
          let there = subst (λ store. IsInside store (shifted p d)) (sym b.store_is) (saved_inside s.store saved (shifted p d) (scalar_size k) (bytes_from k v) saves) in
          let after = slice_set regs j (Points (shifted p d)) in
          reaches_behind w n Anything low regs after s t (write at (shifted p d) k v s) (set j (farther (Register r) d)) (one (tree.Store j (scalar_register k) e)) bounded (same_set low j regs (Points (shifted p d)) above)
          (set_runs w n t j (farther (Register r) d) regs (Points (shifted p d)) (reaches w regs t.mem r p d points there))
          (write_reaches w n low at k (shifted p d) j v s t after e bounded b (get-set_same regs j (Points (shifted p d)) room) f (has after (same_set j j regs (Points (shifted p d)) (omega arith))))

  zero_fits : (k : CInt) → fits k (pos 0) ≡ true
  zero_fits I8 = refl
  zero_fits U8 = refl
  zero_fits I16 = refl
  zero_fits U16 = refl
  zero_fits I32 = refl
  zero_fits U32 = refl
  zero_fits I64 = refl
  zero_fits U64 = refl

  -- a zero of an integer type, which can be saved there
  zero_stored : (k : CInt) (p : Pointer) (r d : ℕ) (t : Target) (regs : List Value) (saved : Store) → slice_get regs r ≡ Some (Points p) → low < length regs → save t.mem.store (shifted p d) (IntegerType k) (Integer (pos 0)) ≡ Some saved
      → runs w n t (zero_at r low d (register_type k)) regs ≡ Done (Next (slice_set regs low (Points (shifted p d)))) (with_store saved t) []
  zero_stored k p r d t regs saved points room saves =
      let m = register_type k in
      let q = shifted p d in
      let after = slice_set regs low (Points q) in
      let there = saved_inside t.mem.store saved q (int_size k) (bytes_from (IntegerType k) (Integer (pos 0))) saves in
      behind_setup w n t (set low (farther (Register r) d)) (one (tree.Store low m (Constant m (pos 0)))) regs after (set_runs w n t low (farther (Register r) d) regs (Points q) (reaches w regs t.mem r p d points there))
      ∙ store_runs w n low (IntegerType k) low q (Integer (pos 0)) t after (Constant m (pos 0)) saved (get-set_same regs low (Points q) room) (pos 0, refl, zero_fits k) (constant_has w after t.mem m (pos 0) (is_number k)) saves

  -- the target's zeros in bytes that are zeros in the source already
  record CatchesUp (t : Target) (saved : Store) (code : MonStatements) (regs : List Value) : Type 0 where
    pub after : List Value
    pub same : Same low regs after
    pub run : runs w n t code regs ≡ Done (Next after) (with_store saved t) []

  zeros_run : (count stored m d : ℕ) (p : Pointer) (r : ℕ) (t : Target) (regs : List Value) (saved : Store) → count ≡ stored + m → IsAligned p → slice_get regs r ≡ Some (Points p) → r < low → low < length regs
      → Lags t.mem.store saved (shifted p (d + stored)) m → CatchesUp t saved (zeros_from r low d stored count) regs
  zeros_run zero stored m d p r t regs saved e aligned points below room (Even none same) = record { after = regs; same = same_all low regs; run = ap (λ store. Done (Next regs) (with_store store t) []) same }
  zeros_run zero stored m d p r t regs saved e aligned points below room (Behind z) = absurd (omega (arith, e, z.some))
  zeros_run (suc count) zero m d p r t regs saved e aligned points below room (Even none same) = absurd (omega (arith, e, none))
  zeros_run (suc count) zero m d p r t regs saved e aligned points below room (Behind y) =
      let all = suc count in
      let k = widest d all in
      let size = int_size k in
      let q = shifted p d in
      let wide = widest_is d all (omega arith) in
      let some = wide.some in
      let fits = wide.fits in
      let here : d + 0 ≡ d = omega arith in
      let whole : m ≡ all = omega (arith, e) in
      let z = subst (AreZeroed t.mem.store saved q) whole (subst (λ x. AreZeroed t.mem.store saved (shifted p x) m) here y) in
      let mid = midway t.mem.store saved q all z size in
      let saves = wide_saved t.mem.store mid p d all k aligned wide (zeros_first t.mem.store saved q all size z some fits) in
      let code = zero_at r low d (register_type k) in
      let rest = zeros_from r low (suc d) (size - 1) count in
      let u = with_store mid t in
      let after = slice_set regs low (Points q) in
      let kept = same_set low low regs (Points q) (omega arith) in
      let later = zeros_run count (size - 1) (all - size) (suc d) p r u after saved (omega (arith, some, fits)) aligned (kept.below r below ∙ points) below (omega (arith, room, kept.long)) (left_behind t.mem.store saved p d all size z some fits) in
      record {
        after = later.after;
        same = same_trans low low regs after later.after (omega arith) kept later.same;
        run = before_is w.globals code rest w.calls n regs t ∙ ap (λ x. then_do x (at_next (λ r2 v. runs w n v rest r2))) (zero_stored k p r d t regs mid points room saves) ∙ writes_none (runs w n u rest after) ∙ later.run;
      }
  zeros_run (suc count) (suc stored) m d p r t regs saved e aligned points below room lag =
      let there : d + suc stored ≡ suc d + stored = omega arith in
      zeros_run count stored m (suc d) p r t regs saved (omega (arith, e)) aligned points below room (subst (λ x. Lags t.mem.store saved (shifted p x) m) there lag)

  -- a row of them, where the source has gone on since
  row_run : (m d : ℕ) (p : Pointer) (r : ℕ) (s : State) (t : Target) (regs : List Value) (saved : Store) → IsAligned p → slice_get regs r ≡ Some (Points p) → r < low → low < length regs → Beside w s.store s t → Lags s.store saved (shifted p d) m
      → CatchesUp t saved (zeros_from r low d 0 m) regs
  row_run m d p r s t regs saved aligned points below room b lag =
      let here : d ≡ d + 0 = omega arith in
      zeros_run m 0 m d p r t regs saved (omega arith) aligned points below room (subst (λ x. Lags t.mem.store saved (shifted p x) m) here (subst (λ store. Lags store saved (shifted p d) m) (sym b.store_is) lag))

  -- zeros in scalars in order, after a row of zero bytes that the target hasn't stored yet
  pub zeros_reach : (cs : List (ℕ × Scalar)) (at : Place) (p : Pointer) (r d m : ℕ) (s : State) (store : Store) (t : Target) (regs : List Value) → IsAligned p → slice_get regs r ≡ Some (Points p) → r < low → low < length regs → Beside w s.store s t
      → Later s (record s { store = store }) [] → Lags s.store store (shifted p d) m → Reaches w Anything low regs s (zero_scalars at p cs (record s { store = store })) (runs w n t (zeros_at r low d m cs) regs)
  zeros_reach [] at p r d m s store t regs aligned points below room b later lag =
      let c = row_run m d p r s t regs store aligned points below room b lag in
      Arrives tt (record s { store = store }) c.after (with_store store t) [] c.same later (record { store_is = refl; frames = b.frames; steps = b.steps; input = b.input }) refl c.run tt
  zeros_reach (c ∷ cs) at p r d m s store t regs aligned points below room b later lag = by (zeros_reach cs at p r) (save_bytes store q size (zeros size)) refl
    where
      size : ℕ
      size = scalar_size c.1

      q : Pointer
      q = shifted p c.0

      now : State
      now = record s { store = store }

      others : MonStatements
      others = zeros_at r low c.0 size cs

      source : (o : Option Store) → save_bytes store q size (zeros size) ≡ o → zero_scalars at p (c ∷ cs) now ≡ on_outcome ((defined at o >>= put_store) now) (λ _. zero_scalars at p cs)
      source o saves =
          let long : length (zeros size) ≡ size = length-replicate size (NumberByte 0) in
          ap (λ x. on_outcome ((defined at (save_bytes store q x (zeros size)) >>= put_store) now) (λ _. zero_scalars at p cs)) long
          ∙ ap (λ x. on_outcome ((defined at x >>= put_store) now) (λ _. zero_scalars at p cs)) saves

      -- the same of the scalars behind it
      Others : Type 0
      Others = (d m : ℕ) (s : State) (store : Store) (t : Target) (regs : List Value) → IsAligned p → slice_get regs r ≡ Some (Points p) → r < low → low < length regs → Beside w s.store s t → Later s (record s { store = store }) []
          → Lags s.store store (shifted p d) m → Reaches w Anything low regs s (zero_scalars at p cs (record s { store = store })) (runs w n t (zeros_at r low d m cs) regs)

      go : Others → (saved : Store) → Later s (record s { store = saved }) [] → Later now (record s { store = saved }) [] → AreZeroed store saved q size → (on : Bool) → nat_eq c.0 (d + m) ≡ on
          → Reaches w Anything low regs s (zero_scalars at p cs (record s { store = saved })) (runs w n t (if on then zeros_at r low d (m + size) cs else before (zeros_from r low d 0 m) others) regs)
      go goes saved since here z true on = goes d (m + size) s saved t regs aligned points below room b since (longer_lag s.store store saved p d c.0 m size lag (eqb-true c.0 (d + m) on) z)
      go goes saved since here z false on =
          let u = with_store store t in
          let row = row_run m d p r s t regs store aligned points below room b lag in
          let rest = goes c.0 size now saved u row.after aligned (row.same.below r below ∙ points) below (omega (arith, room, row.same.long)) (record { store_is = refl; frames = b.frames; steps = b.steps; input = b.input }) here (Behind z) in
          subst (λ x. Reaches w Anything low regs s (zero_scalars at p cs (record s { store = saved })) x)
          (sym (before_is w.globals (zeros_from r low d 0 m) others w.calls n regs t ∙ ap (λ x. then_do x (at_next (λ r2 v. runs w n v others r2))) row.run))
          (reached_onward w Anything low regs row.after s now [] (zero_scalars at p cs (record s { store = saved })) (runs w n u others row.after) row.same later rest)

      by : Others → (o : Option Store) → save_bytes store q size (zeros size) ≡ o → Reaches w Anything low regs s (zero_scalars at p (c ∷ cs) now) (runs w n t (zeros_at r low d m (c ∷ cs)) regs)
      by goes None saves = IsUndefined at now [] (source None saves) (sym (append-nil s.output)) (record { rest = written (runs w n t (zeros_at r low d m (c ∷ cs)) regs); is = refl })
      by goes (Some saved) saves =
          let kept = saved_bytes store saved q size (zeros size) later.bounded (replicated_bytes size (NumberByte 0) (omega arith)) (let l = length-replicate size (NumberByte 0) in omega (arith, l))
          (λ i aligned. no_pieces_fit (zeros size) i (replicated_none size (NumberByte 0) (λ k p f. absurd cc))) saves in
          subst (λ x. Reaches w Anything low regs s x (runs w n t (zeros_at r low d m (c ∷ cs)) regs)) (sym (source (Some saved) saves))
          (go goes saved
          (record { scope = refl; calls = refl; live = kept.live ∙ later.live; longer = omega (arith, later.longer, kept.long); bounded = kept.bounded; spent = omega arith; output = sym (append-nil s.output); marks = refl })
          (record { scope = refl; calls = refl; live = kept.live; longer = omega (arith, kept.long); bounded = kept.bounded; spent = omega arith; output = sym (append-nil s.output); marks = refl })
          (saved_zeros store saved q size (scalar_some c.1) saves) (nat_eq c.0 (d + m)) refl)

  -- from the first of them on
  pub zeros_begin : (cs : List (ℕ × Scalar)) (at : Place) (p : Pointer) (r d : ℕ) (s : State) (t : Target) (regs : List Value) → IsAligned p → Bounded s.store → Beside w s.store s t → slice_get regs r ≡ Some (Points p) → r < low → low < length regs
      → Reaches w Anything low regs s (zero_scalars at p cs s) (runs w n t (zeros_at r low d 0 cs) regs)
  zeros_begin cs at p r d s t regs aligned bounded b points below room = zeros_reach cs at p r d 0 s s.store t regs aligned points below room b (later_same s bounded) (Even refl refl)

  -- parts that are left out
  pub zero_parts_reach : (structs : List StructType) (cs : List (ℕ × PlainType)) (at : Place) (p : Pointer) (r d : ℕ) (s : State) (t : Target) (regs : List Value) → IsAligned p → Bounded s.store → Beside w s.store s t
      → slice_get regs r ≡ Some (Points p) → r < low → low < length regs → Reaches w Anything low regs s (zero_parts structs at (shifted p d) cs s) (runs w n t (translation.zero_parts structs r low d cs) regs)
  zero_parts_reach structs cs at p r d s t regs aligned bounded b points below room =
      subst (λ x. Reaches w Anything low regs s x (runs w n t (translation.zero_parts structs r low d cs) regs)) (sym (zeroed_parts structs cs at p d s)) (zeros_begin (scalars_in structs d cs) at p r d s t regs aligned bounded b points below room)
