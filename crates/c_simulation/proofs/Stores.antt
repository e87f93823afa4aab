-- What is written in the source is stored in the target, through a register that points to the object, or to the object of which it is a member.
use Rattle.std.proofs.Common.{◌≡◌, ℕ, List, [], Option, Some, None, slice_get, refl, sym, ap, ◌∙◌, arith}
use Rattle.std.proofs.lemmas.List.{append-nil}
use Rattle.c_syntax.specs.declared.place.Place.{Place}
use Rattle.c_syntax.specs.Layouts.{Scalar, IntegerType, PointerType}
use Rattle.c_model.specs.Memory.{Pointer, Value, Points, Store, save}
use Rattle.c_model.specs.State.{State, defined, ◌>>=◌, put_store, write}
use Rattle.mon_syntax.specs.Meaning.{Done, Next, with_value, eval}
use Rattle.mon_syntax.specs.BlockMemory.{Blocks, over_blocks, save_scalar, stored_in, store_value}
use Rattle.mon_syntax.specs.Trees.{MonExpression, Register, MonStatements}
use Rattle.mon_syntax.specs.Trees as tree
use Rattle.c_effects.specs.Expressions.{one}
use Rattle.c_effects.specs.Effects.{store}
use Rattle.track_scopes.specs.Lives.{with_store}
use Rattle.c_simulation.proofs.Results.{one_is}
use Rattle.c_simulation.specs.Standing.{Setting, Target, Did, runs, Has, IsOf, Bounded, Beside}
use Rattle.c_simulation.proofs.Registers.{same_all}
use Rattle.c_simulation.specs.Reaching.{Reaches, Arrives, Anything}
use Rattle.c_simulation.proofs.Reaching.{undefined_now}
use Rattle.c_simulation.proofs.Bounds.{saved_value}
use Rattle.c_simulation.proofs.PointerValues.{scalar_register, scalar_is}
use Rattle.c_simulation.proofs.Places.{of_integer, of_pointer}

module _ (w : Setting) (n : ℕ) (low : ℕ) where
  saves_scalar : (k : Scalar) (store saved : Store) (p : Pointer) (v : Value) → IsOf k v → save store p k v ≡ Some saved → save_scalar (Some k) store p v ≡ Some saved
  saves_scalar (IntegerType k) store saved p v f e =
      of_integer k (λ v. save store p (IntegerType k) v ≡ Some saved → save_scalar (Some (IntegerType k)) store p v ≡ Some saved) v f (λ z fit e. e) e
  saves_scalar PointerType store saved p v f e =
      of_pointer (λ v. save store p PointerType v ≡ Some saved → save_scalar (Some PointerType) store p v ≡ Some saved) v f (λ q small e. e) e

  pub store_runs : (k : Scalar) (r : ℕ) (p : Pointer) (v : Value) (t : Target) (regs : List Value) (e : MonExpression) (saved : Store) → slice_get regs r ≡ Some (Points p) → IsOf k v → Has w e regs t.mem v
      → save t.mem.store p k v ≡ Some saved → runs w n t (one (tree.Store r (scalar_register k) e)) regs ≡ Done (Next regs) (with_store saved t) []
  store_runs k r p v t regs e saved points f has saves =
      one_is w.globals (tree.Store r (scalar_register k) e) w.calls n regs t
      ∙ ap (λ o. with_value o t.steps (λ p. with_value (eval over_blocks w.globals e regs t.mem) t.steps (λ v. after (store_value (scalar_register k) p v t.mem)))) points
      ∙ ap (λ o. with_value o t.steps (λ v. after (store_value (scalar_register k) (Points p) v t.mem))) has
      ∙ ap (λ (o : Option Scalar). after (stored_in t.mem (save_scalar o t.mem.store p v))) (scalar_is k)
      ∙ ap (λ o. after (stored_in t.mem o)) (saves_scalar k t.mem.store saved p v f saves)
    where
      after : Option Blocks → Did
      after o = with_value o t.steps (λ m. Done (Next regs) (record t { mem = m }) [])

  -- what was written in the source is stored in the target
  pub write_reaches : (at : Place) (k : Scalar) (p : Pointer) (r : ℕ) (v : Value) (s : State) (t : Target) (regs : List Value) (e : MonExpression) → Bounded s.store → Beside w s.store s t → slice_get regs r ≡ Some (Points p)
      → IsOf k v → Has w e regs t.mem v → Reaches w Anything low regs s (write at p k v s) (runs w n t (one (tree.Store r (scalar_register k) e)) regs)
  write_reaches at k p r v s t regs e bounded b points f has = by (save s.store p k v) refl
    where
      code : Did
      code = runs w n t (one (tree.Store r (scalar_register k) e)) regs

      write_is : (o : Option Store) → save s.store p k v ≡ o → write at p k v s ≡ (defined at o >>= put_store) s
      write_is o saves = ap (λ o. (defined at o >>= put_store) s) saves

      by : (o : Option Store) → save s.store p k v ≡ o → Reaches w Anything low regs s (write at p k v s) code
      by None saves = undefined_now w Anything low regs s (write at p k v s) code at (write_is None saves)
      by (Some saved) saves =
          let kept = saved_value s.store saved p k v bounded f saves in
          Arrives tt (record s { store = saved }) regs (with_store saved t) [] (same_all low regs)
          (record { scope = refl; calls = refl; live = kept.live; longer = omega (arith, kept.long); bounded = kept.bounded; spent = omega arith; output = sym (append-nil s.output); marks = refl })
          (record { store_is = refl; frames = b.frames; steps = b.steps; input = b.input })
          (write_is (Some saved) saves)
          (store_runs k r p v t regs e saved points f has (ap (λ store. save store p k v) b.store_is ∙ saves))
          tt
