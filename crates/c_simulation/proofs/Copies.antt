-- The scalars of a struct that is assigned: the target copies what the source copies.
use Rattle.std.proofs.Common.{◌≡◌, ℕ, ◌+◌, ◌≤◌, List, [], ◌∷◌, Option, Some, None, slice_get, refl, sym, ap, ◌∙◌, arith}
use Rattle.std.proofs.lemmas.List.{append-nil}
use Rattle.c_syntax.specs.declared.place.Place.{Place}
use Rattle.c_syntax.specs.declared.types.CInt.TheVariants.{I8, U8, I16, U16, I32, U32, I64, U64}
use Rattle.c_syntax.specs.Layouts.{Scalar, IntegerType, PointerType, scalar_size}
use Rattle.c_model.specs.Memory.{Pointer, Value, Points, Store, copy, copy_all, shifted}
use Rattle.c_model.specs.HeapLaws.{sizes_of}
use Rattle.c_model.specs.SoundStates.{AreScalarSizes}
use Rattle.c_model.proofs.StructCopies.{first_copy}
use Rattle.c_model.specs.State.{State, defined, ◌>>=◌, put_store, copy_object}
use Rattle.mon_syntax.specs.declared.tree.MemoryCall.TheVariants.{Copy}
use Rattle.mon_syntax.specs.Arithmetic.{copy_bytes}
use Rattle.mon_syntax.specs.Meaning.{Done, Next, then_do, at_next, replied, with_value, eval_all}
use Rattle.mon_syntax.specs.Meaning.{◌>>=◌ as bind}
use Rattle.mon_syntax.specs.Meaning as monitored
use Rattle.mon_syntax.specs.BlockMemory.{over_blocks, act_on_blocks, becomes}
use Rattle.mon_syntax.specs.Trees.{MonExpression, Register, Act}
use Rattle.c_effects.specs.Expressions.{farther}
use Rattle.c_effects.specs.Effects.{copy_size, copies_at}
use Rattle.track_scopes.specs.Lives.{with_store}
use Rattle.c_simulation.proofs.Results.{writes_none}
use Rattle.c_simulation.specs.Standing.{Setting, Target, Did, runs, Has, Bounded, Beside}
use Rattle.c_simulation.proofs.Registers.{same_all}
use Rattle.c_simulation.specs.Reaching.{Reaches, Arrives, Anything}
use Rattle.c_simulation.proofs.Reaching.{undefined_now}
use Rattle.c_simulation.proofs.Calls.{takes}
use Rattle.c_simulation.proofs.Bounds.{copied_all_saved}
use Rattle.c_simulation.proofs.Pointers.{copied_inside, shifted_twice}
use Rattle.c_simulation.proofs.PointerValues.{reaches}

copied_size : (k : Scalar) → copy_bytes (copy_size k) ≡ scalar_size k
copied_size (IntegerType I8) = refl
copied_size (IntegerType U8) = refl
copied_size (IntegerType I16) = refl
copied_size (IntegerType U16) = refl
copied_size (IntegerType I32) = refl
copied_size (IntegerType U32) = refl
copied_size (IntegerType I64) = refl
copied_size (IntegerType U64) = refl
copied_size PointerType = refl

-- each has 8 bytes at most
few_bytes : (k : Scalar) → scalar_size k ≤ 8
few_bytes (IntegerType I8) = omega arith
few_bytes (IntegerType U8) = omega arith
few_bytes (IntegerType I16) = omega arith
few_bytes (IntegerType U16) = omega arith
few_bytes (IntegerType I32) = omega arith
few_bytes (IntegerType U32) = omega arith
few_bytes (IntegerType I64) = omega arith
few_bytes (IntegerType U64) = omega arith
few_bytes PointerType = omega arith

sizes_few : (cs : List (ℕ × Scalar)) → AreScalarSizes (sizes_of cs)
sizes_few [] = tt
sizes_few (c ∷ cs) = (few_bytes c.1, sizes_few cs)

module _ (w : Setting) (n : ℕ) where
  copy_runs : (k : Scalar) (x y : MonExpression) (p q : Pointer) (t : Target) (regs : List Value) (saved : Store) → Has w x regs t.mem (Points p) → Has w y regs t.mem (Points q) → copy t.mem.store p q (scalar_size k) ≡ Some saved
      → monitored.exec over_blocks w.globals (Act None (Copy (copy_size k)) (x ∷ y ∷ [])) w.calls n regs t ≡ Done (Next regs) (with_store saved t) []
  copy_runs k x y p q t regs saved x_has y_has copies =
      ap (λ o. with_value o t.steps (λ vs. then_do (replied over_blocks (act_on_blocks (Copy (copy_size k)) vs t.mem) t) (takes None regs))) both
      ∙ ap (λ size. done (copy t.mem.store p q size)) (copied_size k)
      ∙ ap done copies
    where
      done : Option Store → Did
      done o = then_do (replied over_blocks (becomes t.mem o) t) (takes None regs)

      both : eval_all over_blocks w.globals (x ∷ y ∷ []) regs t.mem ≡ Some (Points p ∷ Points q ∷ [])
      both =
          ap (λ o. bind o (λ v. bind (eval_all over_blocks w.globals (y ∷ []) regs t.mem) (λ vs. Some (v ∷ vs)))) x_has
          ∙ ap (λ o. bind (bind o (λ v. Some (v ∷ []))) (λ vs. Some (Points p ∷ vs))) y_has

  copies_run : (cs : List (ℕ × Scalar)) (to from : Pointer) (r d q e : ℕ) (t : Target) (regs : List Value) (saved : Store) → slice_get regs r ≡ Some (Points to) → slice_get regs q ≡ Some (Points from)
      → copy_all t.mem.store (shifted to d) (shifted from e) (sizes_of cs) ≡ Some saved → runs w n t (copies_at r d q e cs) regs ≡ Done (Next regs) (with_store saved t) []
  copies_run [] to from r d q e t regs saved points others copies = let same : t.mem.store ≡ saved = cc in ap (λ store. Done (Next regs) (with_store store t) []) same
  copies_run (c ∷ cs) to from r d q e t regs saved points others copies =
      let f = first_copy t.mem.store saved (shifted to d) (shifted from e) (c.0, scalar_size c.1) (sizes_of cs) copies in
      let p = shifted to (d + c.0) in
      let s = shifted from (e + c.0) in
      let here : copy t.mem.store p s (scalar_size c.1) ≡ Some f.next =
      ap (λ a. copy t.mem.store a s (scalar_size c.1)) (sym (shifted_twice to d c.0)) ∙ ap (λ b. copy t.mem.store (shifted (shifted to d) c.0) b (scalar_size c.1)) (sym (shifted_twice from e c.0)) ∙ f.is in
      let inside = copied_inside t.mem.store f.next p s (scalar_size c.1) here in
      ap (λ o. then_do o (at_next (λ r2 u. runs w n u (copies_at r d q e cs) r2)))
      (copy_runs c.1 (farther (Register r) (d + c.0)) (farther (Register q) (e + c.0)) p s t regs f.next
      (reaches w regs t.mem r to (d + c.0) points inside.0) (reaches w regs t.mem q from (e + c.0) others inside.1) here)
      ∙ writes_none (runs w n (with_store f.next t) (copies_at r d q e cs) regs)
      ∙ copies_run cs to from r d q e (with_store f.next t) regs saved points others f.rest

  -- where a copy isn't defined, nothing is owed
  pub copies_reach : (low : ℕ) (at : Place) (cs : List (ℕ × Scalar)) (to from : Pointer) (r d q e : ℕ) (s : State) (t : Target) (regs : List Value) → Bounded s.store → Beside w s.store s t
      → slice_get regs r ≡ Some (Points to) → slice_get regs q ≡ Some (Points from)
      → Reaches w Anything low regs s (copy_object at (shifted to d) (shifted from e) (sizes_of cs) s) (runs w n t (copies_at r d q e cs) regs)
  copies_reach low at cs to from r d q e s t regs bounded b points others = by (copy_all s.store (shifted to d) (shifted from e) (sizes_of cs)) refl
    where
      code : Did
      code = runs w n t (copies_at r d q e cs) regs

      source : (o : Option Store) → copy_all s.store (shifted to d) (shifted from e) (sizes_of cs) ≡ o → copy_object at (shifted to d) (shifted from e) (sizes_of cs) s ≡ (defined at o >>= put_store) s
      source o copies = ap (λ o. (defined at o >>= put_store) s) copies

      by : (o : Option Store) → copy_all s.store (shifted to d) (shifted from e) (sizes_of cs) ≡ o → Reaches w Anything low regs s (copy_object at (shifted to d) (shifted from e) (sizes_of cs) s) code
      by None copies = undefined_now w Anything low regs s (copy_object at (shifted to d) (shifted from e) (sizes_of cs) s) code at (source None copies)
      by (Some saved) copies =
          let kept = copied_all_saved s.store saved (shifted to d) (shifted from e) (sizes_of cs) bounded (sizes_few cs) copies in
          Arrives tt (record s { store = saved }) regs (with_store saved t) [] (same_all low regs)
          (record { scope = refl; calls = refl; live = kept.live; longer = omega (arith, kept.long); bounded = kept.bounded; spent = omega arith; output = sym (append-nil s.output); marks = refl })
          (record { store_is = refl; frames = b.frames; steps = b.steps; input = b.input })
          (source (Some saved) copies)
          (copies_run cs to from r d q e t regs saved points others (ap (λ store. copy_all store (shifted to d) (shifted from e) (sizes_of cs)) b.store_is ∙ copies))
          tt
