-- Parameters are born in order, each with its argument, whose value stands in a register from the beginning of the call on.
use Rattle.std.proofs.Common.{◌≡◌, ℕ, suc, ◌+◌, ◌^◌, ◌<◌, ◌≤◌, nat_eq, false, List, [], ◌∷◌, length, length-append, Option, Some, None, slice_get, refl, sym, ap, ◌∙◌, subst, arith}
use Rattle.std.proofs.lemmas.List.{append-nil}
use Rattle.c_syntax.specs.declared.place.Place.{Place}
use Rattle.c_syntax.specs.declared.types.CInt.{CInt}
use Rattle.c_syntax.specs.declared.types.CInt.TheVariants.{I8, U8, I16, U16, I32, U32, I64, U64}
use Rattle.c_syntax.specs.declared.types.Segment.{Segment}
use Rattle.c_syntax.specs.Ctypes.{PlainType, Int, Ptr as PointerTo}
use Rattle.c_syntax.specs.Programs.{StructType}
use Rattle.c_syntax.specs.Statements.{Declaration}
use Rattle.c_syntax.specs.Layouts.{Scalar, scalar_of, size_of}
use Rattle.c_model.specs.TypedTrees.{IsScalar}
use Rattle.c_model.specs.Formed.{number_of}
use Rattle.c_model.specs.Memory.{Value, Points, Into, Store, save}
use Rattle.c_model.specs.State.{State, Full, Undefined, Over, Outcome, Normal, Stop, on_outcome, ◌>>=◌, done, defined, put_store, birth, births, as_scalar, write, write_youngest}
use Rattle.c_model.specs.Meaning.{Tables, tables_of, parameters}
use Rattle.mon_syntax.specs.declared.tree.MonType.TheVariants.{Ptr}
use Rattle.mon_syntax.specs.Registers.{RegisterTable}
use Rattle.c_model.specs.MonitoredRuns as machine
use Rattle.mon_syntax.specs.Meaning.{Done, Stops, Next, then_do, at_next, exec}
use Rattle.mon_syntax.specs.BlockMemory.{over_blocks}
use Rattle.mon_syntax.specs.LiveBlocks.{LiveBlock}
use Rattle.mon_syntax.specs.Trees as tree
use Rattle.c_effects.specs.Expressions.{value_type}
use Rattle.track_scopes.specs.Blocks.{with_pointer, entered}
use Rattle.track_scopes.specs.Blocks as target_blocks
use Rattle.track_scopes.specs.Lives as lives
use Rattle.track_scopes.specs.Lives.{Births, AllAre, OneIsFull, PointToBorn, with_store}
use Rattle.instrument.specs.Translation.{Spot, with_variables}
use Rattle.instrument.specs.Translation as target
use Rattle.c_simulation.specs.Standing.{Target, Did, Setting, runs, IsOf, Here, Beside}
use Rattle.track_scopes.proofs.Births.{births_enter}
use Rattle.c_simulation.proofs.Results.{writes_none, one_is}
use Rattle.c_simulation.proofs.Registers.{same_all}
use Rattle.c_simulation.proofs.Bounds.{saved_value}
use Rattle.c_simulation.proofs.PointerValues.{scalar_register, value_type_is}
use Rattle.c_simulation.proofs.Stores.{store_runs}
use Rattle.c_simulation.specs.Following.{Later, IsResult, IsResultOf}
use Rattle.instrument.proofs.Births.{with_numbers, behind_births}
use Rattle.instrument.proofs.Blocks.{Meets, meets_later, meets_inside}
use Rattle.instrument.proofs.Own.{AreOwn}

abbrev pub AreScalars : List Declaration → Type 0
AreScalars [] = Unit {0}
AreScalars (d ∷ ds) = IsScalar d.ctype × AreScalars ds

-- a scalar has few bytes
int_small : (structs : List StructType) (k : CInt) → size_of structs (Int k) < 2 ^ 64
int_small structs I8 = omega arith
int_small structs U8 = omega arith
int_small structs I16 = omega arith
int_small structs U16 = omega arith
int_small structs I32 = omega arith
int_small structs U32 = omega arith
int_small structs I64 = omega arith
int_small structs U64 = omega arith

scalar_small : (structs : List StructType) (t : PlainType) (k : Scalar) → scalar_of t ≡ Some k → size_of structs t < 2 ^ 64
scalar_small structs (Int i) k e = int_small structs i
scalar_small structs (PointerTo t) k e = omega arith
scalar_small structs _ k e = absurd cc

-- registers from this one on hold the values of parameters, which are of their types
abbrev pub HoldInOrder : List Value → ℕ → List Declaration → List Value → Type 0
HoldInOrder regs a [] [] = Unit {0}
HoldInOrder regs a [] (v ∷ vs) = ⊥
HoldInOrder regs a (d ∷ ds) [] = ⊥
HoldInOrder regs a (d ∷ ds) (v ∷ vs) = IsResult d.ctype (Some v) × (slice_get regs a ≡ Some v) × HoldInOrder regs (suc a) ds vs

hold_same : (p a : ℕ) (regs after : List Value) (ds : List Declaration) (vs : List Value) → a + length ds ≤ p → ((j : ℕ) → j < p → slice_get after j ≡ slice_get regs j) → HoldInOrder regs a ds vs → HoldInOrder after a ds vs
hold_same p a regs after [] [] le same h = tt
hold_same p a regs after [] (v ∷ vs) le same h = absurd h
hold_same p a regs after (d ∷ ds) [] le same h = absurd h
hold_same p a regs after (d ∷ ds) (v ∷ vs) le same h = (h.0, same a (omega (arith, le)) ∙ h.1, hold_same p (suc a) regs after ds vs (omega (arith, le)) same h.2)

-- what was written and spent before a later state
pub record Since (s to : State) : Type 0 where
  pub spent : to.steps ≤ s.steps
  pub output : to.output ≡ s.output
  pub longer : length s.store ≤ length to.store

-- all are born on both sides with their values, or something is full on both
pub data BearsAll (w : Setting) (h : Here) (spot : Spot) (p : ℕ) (r : RegisterTable) (living : List ℕ) (at : Place) (ds : List Declaration) (vs : List Value) (s : State) (q : Did) : Type 0 where
  AllBorn : (to : State) (after : List Value) (u : Target) (blocks : List LiveBlock) → parameters (tables_of w.unit) at ds vs s ≡ Normal tt to → q ≡ Done (Next after) u []
      → Meets w (record h { inner = blocks }) (with_variables p ds spot) (p + length ds) (entered ds r).bound (with_numbers ds living) after to u → Since s to → BearsAll w h spot p r living at ds vs s q
  SomeFull : (g : Segment) (to : State) → parameters (tables_of w.unit) at ds vs s ≡ Stop (Over (Full g)) to → to.output ≡ s.output → q ≡ Stops (machine.Full g) to.steps [] → BearsAll w h spot p r living at ds vs s q
  SomeUndefined : (x : Place) (to : State) → parameters (tables_of w.unit) at ds vs s ≡ Stop (Over (Undefined x)) to → to.output ≡ s.output → BearsAll w h spot p r living at ds vs s q

end_done : (r : Outcome (Unit {0})) → on_outcome r (λ _. done) ≡ r
end_done (Normal u s) = refl
end_done (Stop e s) = refl

module _ (w : Setting) (n : ℕ)
    (at : Place) where
  abbrev T : Tables
  T = tables_of w.unit

  -- one parameter, whose birth and value are followed by the others
  module _ (h : Here) (spot : Spot) (r : RegisterTable) (living : List ℕ) (d : Declaration) (ds : List Declaration) (v : Value) (vs : List Value) (regs : List Value) (s : State) (t : Target) (a : ℕ)
      (m : Meets w h spot (length r.kinds) r.bound living regs s t) (own : nat_eq (number_of d) 4294967295 ≡ false) (object : IsScalar d.ctype) (is : IsResult d.ctype (Some v)) (there : slice_get regs a ≡ Some v)
      (less : suc a + length ds ≤ length r.kinds) where
    abbrev p : ℕ
    p = length r.kinds

    abbrev k : Scalar
    k = object.scalar

    abbrev rest : List Value → Target → Did
    rest after u = runs w n u (target.parameters w.unit (suc p) (suc a) ds) after

    abbrev code : Did
    code = runs w n t (target.parameters w.unit p a (d ∷ ds)) regs

    abbrev born : State
    born = lives.with_variables w.unit.structs (d ∷ []) s

    abbrev target_born : Target
    target_born = with_store born.store t

    abbrev Bear : Did → Type 0
    Bear q = BearsAll w h spot p r living at (d ∷ ds) (v ∷ vs) s q

    abbrev Others : List Value → State → Target → Type 0
    Others after to u = BearsAll w (behind_births w.unit.structs h s (d ∷ [])) (with_variables p (d ∷ []) spot) (suc p) (with_pointer d r) (with_numbers (d ∷ []) living) at ds vs to (rest after u)

    is_scalar : IsOf k v
    is_scalar = subst (λ o. IsResultOf o (Some v)) object.is is

    -- the store with its value
    abbrev written : Store → State
    written saved = record born { store = saved }

    module _ (go : (after : List Value) (to : State) (u : Target) → Meets w (behind_births w.unit.structs h s (d ∷ [])) (with_variables p (d ∷ []) spot) (p + length (d ∷ [])) (with_pointer d r).bound (with_numbers (d ∷ []) living) after to u
        → ((j : ℕ) → j < p → slice_get after j ≡ slice_get regs j) → Others after to u) where
      abbrev source_rest : Outcome (Unit {0}) → Outcome (Unit {0})
      source_rest r = on_outcome (on_outcome r (λ _. as_scalar (scalar_of d.ctype) (λ c. write_youngest at c v))) (λ _. parameters T at ds vs)

      abbrev target_rest : Did → Did
      target_rest q = then_do q (at_next (λ r u. then_do (exec over_blocks w.globals (tree.Store p (value_type d.ctype) (tree.Register a)) w.calls n r u) (at_next (λ r u. rest r u))))

      number : length born.store ≡ length s.store + 1
      number = length-append s.store _

      write_is : as_scalar (scalar_of d.ctype) (λ c. write_youngest at c v) born ≡ write at (Into (length born.store) 0) k v born
      write_is = ap (λ o. as_scalar o (λ c. write_youngest at c v) born) object.is

      with_others : (to : State) (after : List Value) (u : Target) → Since s to → source_rest (birth w.unit.structs d s) ≡ parameters T at ds vs to → code ≡ rest after u → Others after to u → Bear code
      with_others to after u since e f (AllBorn to2 after2 u2 blocks e2 f2 m2 l2) =
          let sum : suc p + length ds ≡ p + suc (length ds) = omega arith in
          AllBorn to2 after2 u2 blocks (e ∙ e2) (f ∙ f2)
          (subst (λ low. Meets w (record h { inner = blocks }) (with_variables p (d ∷ ds) spot) low (entered (d ∷ ds) r).bound (with_numbers (d ∷ ds) living) after2 to2 u2) sum m2)
          (record { spent = omega (arith, since.spent, l2.spent); output = l2.output ∙ since.output; longer = omega (arith, since.longer, l2.longer) })
      with_others to after u since e f (SomeFull g to2 e2 o f2) = SomeFull g to2 (e ∙ e2) (o ∙ since.output) (f ∙ f2)
      with_others to after u since e f (SomeUndefined x to2 e2 o) = SomeUndefined x to2 (e ∙ e2) (o ∙ since.output)

      -- its value is written
      by_save : (after : List Value) → births w.unit.structs (d ∷ []) s ≡ Normal tt born → runs w n t (target_blocks.births w.unit.structs p (d ∷ [])) regs ≡ Done (Next after) target_born [] → PointToBorn p (d ∷ []) s.store regs after
          → (o : Option Store) → save born.store (Into (length born.store) 0) k v ≡ o → Bear code
      by_save after e f b None saves =
          SomeUndefined at born
          (ap source_rest (sym (end_done (birth w.unit.structs d s)) ∙ e)
          ∙ ap (λ r. on_outcome r (λ _. parameters T at ds vs)) (write_is ∙ ap (λ o. (defined at o >>= put_store) born) saves))
          refl
      by_save after e f b (Some saved) saves =
          let points : slice_get after p ≡ Some (Points (Into (length born.store) 0)) = b.point.0 ∙ ap (λ i. Some (Points (Into i 0))) (sym number) in
          let holds : slice_get after a ≡ Some v = b.before a (omega (arith, less)) ∙ there in
          let m1 = meets_inside w h spot p r living (d ∷ []) (omega arith) regs s t m (own, tt) after e b in
          let kept = saved_value born.store saved (Into (length born.store) 0) k v m1.standing.bounded is_scalar saves in
          let later : Later born (written saved) [] = record {
            scope = refl;
            calls = refl;
            live = kept.live;
            longer = omega (arith, kept.long);
            bounded = kept.bounded;
            spent = omega arith;
            output = sym (append-nil s.output);
            marks = refl;
          } in
          let beside : Beside w saved (written saved) (with_store saved target_born) = record { store_is = refl; frames = m1.beside.frames; steps = m1.beside.steps; input = m1.beside.input } in
          let m2 = meets_later w (behind_births w.unit.structs h s (d ∷ [])) (with_variables p (d ∷ []) spot) (p + length (d ∷ [])) (with_pointer d r).bound (with_numbers (d ∷ []) living) after after born (written saved) target_born
          (with_store saved target_born) [] (same_all (p + length (d ∷ [])) after) later beside m1 in
          with_others (written saved) after (with_store saved target_born)
          (record { spent = omega arith; output = refl; longer = omega (arith, kept.long, number) })
          (ap source_rest (sym (end_done (birth w.unit.structs d s)) ∙ e)
          ∙ ap (λ r. on_outcome r (λ _. parameters T at ds vs)) (write_is ∙ ap (λ o. (defined at o >>= put_store) born) saves))
          (ap target_rest (sym (one_is w.globals (target_blocks.birth w.unit.structs p d) w.calls n regs t) ∙ f)
          ∙ writes_none _
          ∙ ap (λ q. then_do q (at_next (λ r u. rest r u)))
          (ap (λ y. exec over_blocks w.globals (tree.Store p y (tree.Register a)) w.calls n after target_born) (value_type_is d.ctype k object.is)
          ∙ sym (one_is w.globals (tree.Store p (scalar_register k) (tree.Register a)) w.calls n after target_born)
          ∙ store_runs w n p k p (Into (length born.store) 0) v target_born after (tree.Register a) saved points is_scalar holds saves)
          ∙ writes_none _)
          (go after (written saved) (with_store saved target_born) m2 b.before)

      parameter_follows : Births w.unit.structs p (d ∷ []) regs s t (runs w n t (target_blocks.births w.unit.structs p (d ∷ [])) regs) → Bear code
      parameter_follows (OneIsFull g to e o steps f) =
          SomeFull g to
          (ap source_rest (sym (end_done (birth w.unit.structs d s)) ∙ e))
          o
          (ap target_rest (sym (one_is w.globals (target_blocks.birth w.unit.structs p d) w.calls n regs t) ∙ f) ∙ ap (λ i. Stops (machine.Full g) i []) (m.beside.steps ∙ sym steps))
      parameter_follows (AllAre after e f b) = by_save after e f b (save born.store (Into (length born.store) 0) k v) refl

  pub parameters_follow : (ds : List Declaration) (vs : List Value) (h : Here) (spot : Spot) (p a : ℕ) (r : RegisterTable) (living : List ℕ) (regs : List Value) (s : State) (t : Target) → length r.kinds ≡ p → Meets w h spot p r.bound living regs s t
      → AreScalars ds → AreOwn ds → HoldInOrder regs a ds vs → a + length ds ≤ p → p + length ds ≤ w.registers → BearsAll w h spot p r living at ds vs s (runs w n t (target.parameters w.unit p a ds) regs)
  parameters_follow [] [] h spot p a r living regs s t e m objects own holds less room =
      let sum : p ≡ p + 0 = omega arith in
      AllBorn s regs t h.inner refl refl (subst (λ low. Meets w h spot low r.bound living regs s t) sum m) (record { spent = omega arith; output = refl; longer = omega arith })
  parameters_follow [] (v ∷ vs) h spot p a r living regs s t e m objects own holds less room = absurd holds
  parameters_follow (d ∷ ds) [] h spot p a r living regs s t e m objects own holds less room = absurd holds
  parameters_follow (d ∷ ds) (v ∷ vs) h spot p a r living regs s t e m objects own holds less room =
      subst (λ p. BearsAll w h spot p r living at (d ∷ ds) (v ∷ vs) s (runs w n t (target.parameters w.unit p a (d ∷ ds)) regs)) e
      (parameter_follows h spot r living d ds v vs regs s t a (subst (λ p. Meets w h spot p r.bound living regs s t) (sym e) m) own.0 objects.0 holds.0 holds.1 (omega (arith, e, less))
      (λ after to u m2 before.
      parameters_follow ds vs (behind_births w.unit.structs h s (d ∷ [])) (with_variables (length r.kinds) (d ∷ []) spot) (suc (length r.kinds)) (suc a) (with_pointer d r) (with_numbers (d ∷ []) living) after to u
      (length-append r.kinds (Ptr ∷ []) ∙ omega arith)
      (let sum : length r.kinds + length (d ∷ []) ≡ suc (length r.kinds) = omega arith in
      subst (λ low. Meets w (behind_births w.unit.structs h s (d ∷ [])) (with_variables (length r.kinds) (d ∷ []) spot) low (with_pointer d r).bound (with_numbers (d ∷ []) living) after to u) sum m2)
      objects.1 own.1 (hold_same (length r.kinds) (suc a) regs after ds vs (omega (arith, e, less)) before holds.2) (omega (arith, e, less)) (omega (arith, e, room)))
      (births_enter w.unit.structs (length r.kinds) (d ∷ []) (scalar_small w.unit.structs d.ctype objects.0.scalar objects.0.is, tt) w.globals w.calls n regs s t m.beside.store_is (omega (arith, e, room, m.standing.registers))))
