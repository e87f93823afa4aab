-- The variant of a loop: its value is kept after the step, and compared with the new one at the end of a turn, as in the source.
use Rattle.std.proofs.Common.{◌≡◌, ℤ, ℕ, ◌<◌, ◌≤◌, pos, Bool, true, false, List, [], ◌∷◌, length, Option, Some, None, slice_get, int_le, int_lt, sym, ap, ◌∙◌, subst, refl, arith}
use Rattle.std.proofs.lemmas.List.{append-nil}
use Rattle.c_syntax.specs.declared.types.How.TheVariants as how
use Rattle.c_syntax.specs.Logic.{LogicTerm, ClauseBody, Raw, Holds, Behaviors, Annotation}
use Rattle.c_syntax.specs.Logic as logic
use Rattle.c_model.specs.Integers.{truth}
use Rattle.c_model.specs.Logic.{TermValue, Mathematical, Addressed, Says}
use Rattle.c_model.specs.Logic as source
use Rattle.c_model.specs.Memory.{Value, Integer}
use Rattle.c_model.specs.MonitoredRuns as machine
use Rattle.c_model.specs.Predicates.{compared, is_smaller, term, valued, value_of, variant, variant_in}
use Rattle.c_model.specs.State.{State, Scope, Broken, Outcome, ◌>>=◌}
use Rattle.c_model.specs.TermRanges.{TermRanged}
use Rattle.c_model.specs.Unranged.{ClauseRanged, AnnotationsRanged}
use Rattle.mon_syntax.specs.declared.tree.MonType.{MonType}
use Rattle.mon_syntax.specs.declared.tree.MonType.TheVariants.{I32}
use Rattle.mon_syntax.specs.declared.tree.MonOp.TheVariants.{And, Le, Lt}
use Rattle.mon_syntax.specs.Arithmetic.{is_pointer}
use Rattle.mon_syntax.specs.BlockMemory.{is_some, over_blocks}
use Rattle.mon_syntax.specs.Meaning.{Done, Stops, Next, then_do, at_next}
use Rattle.mon_syntax.specs.Meaning as monitored
use Rattle.mon_syntax.specs.Registers.{Bindings}
use Rattle.mon_syntax.specs.Trees.{Assert, Binary, Constant, Register}
use Rattle.c_effects.specs.Expressions.{one}
use Rattle.c_simulation.specs.Keeping.{Kept}
use Rattle.c_simulation.specs.Reaching.{Reaches, Arrives, Anything}
use Rattle.c_simulation.specs.Reaching as reaching
use Rattle.c_simulation.specs.SameRegisters.{Same}
use Rattle.c_simulation.specs.Standing.{Setting, Target, Did, runs, Bounded, Here, Standing, Beside}
use Rattle.c_simulation.proofs.Following.{later_same}
use Rattle.c_simulation.proofs.Reaching.{reaches_before}
use Rattle.c_simulation.proofs.Registers.{same_all, same_less}
use Rattle.c_simulation.proofs.Results.{before_is, writes_none}
use Rattle.c_simulation.proofs.Values.{HasNumber}
use Rattle.annot_simulation.specs.Beside.{AreHeld, judging}
use Rattle.annot_simulation.specs.Code.{Valuation, valuation}
use Rattle.annot_simulation.specs.Does as code
use Rattle.annot_simulation.specs.Does.{Finishes, IsValued, TermFound}
use Rattle.annot_simulation.proofs.Beside.{ranges_hold, stands_anchored}
use Rattle.annot_simulation.proofs.Parts.{both_are}
use Rattle.annot_simulation.proofs.Steps.{constant_has, operation}
use Rattle.annot_simulation.proofs.Outcomes.{code_values}
use Rattle.instrument.specs.LoopClauses.{wanted, smaller, compared_with}
use Rattle.instrument.proofs.Asserts.{assert_runs}
use Rattle.instrument.proofs.Passages.{ClauseFound, AnnotationsFound}

-- ---- the variant among the annotations of a loop

pub variant_ranged : (annots : List Annotation) (v : Annotation × LogicTerm) → variant annots ≡ Some v → AnnotationsRanged [] annots → TermRanged [] v.1
variant_ranged [] v e h = absurd cc
variant_ranged (a ∷ rest) v e h = by (λ f. variant_ranged rest v f h.1) a.body e h.0
  where
    by : (variant rest ≡ Some v → TermRanged [] v.1) → (c : ClauseBody) → variant_in a c (variant rest) ≡ Some v → ClauseRanged [] c → TermRanged [] v.1
    by others (Raw f) e r = others e
    by others (Holds p) e r = others e
    by others (logic.Value t) e r = let same : t ≡ v.1 = cc in subst (TermRanged []) same r
    by others (Behaviors names) e r = others e

pub variant_found : (annots : List Annotation) (v : Annotation × LogicTerm) (ks : List Kept) (scope : Scope) → variant annots ≡ Some v → AnnotationsFound ks scope annots → TermFound ks scope [] v.1
variant_found [] v ks scope e h = absurd cc
variant_found (a ∷ rest) v ks scope e h = by (λ f. variant_found rest v ks scope f h.1) a.body e h.0
  where
    by : (variant rest ≡ Some v → TermFound ks scope [] v.1) → (c : ClauseBody) → variant_in a c (variant rest) ≡ Some v → ClauseFound ks scope c → TermFound ks scope [] v.1
    by others (Raw f) e r = others e
    by others (Holds p) e r = others e
    by others (logic.Value t) e r = let same : t ≡ v.1 = cc in subst (TermFound ks scope []) same r
    by others (Behaviors names) e r = others e

-- ---- its value

module _ (w : Setting) (n : ℕ) (h : Here) (low : ℕ) (bound : Bindings) (a : Annotation) (v : LogicTerm) (ranged : TermRanged [] v) (rs : List MonType) (behind : low ≤ length rs) where
  -- the code of the value
  abbrev value_code : Valuation
  value_code = valuation w.unit bound w.plan [] v rs

  -- the value stands in its register
  abbrev pub IsThere : ℕ → ℤ → List Value → State → Target → Type 0
  IsThere x z after s t = slice_get after x ≡ Some (Integer z)

  -- registers below those of the code stay besides
  abbrev pub IsThereBeside : List Value → ℤ → List Value → State → Target → Type 0
  IsThereBeside regs z after s t = IsThere value_code.value z after s t × Same (length rs) regs after

  module _ (regs : List Value) (s : State) (t : Target) (few : s.steps ≤ n) (found : TermFound w.plan s.scope [] v) (room : length value_code.used ≤ length regs) (m : Standing w h low bound regs s) (b : Beside w s.store s t) where
    abbrev asked : code.Setting
    asked = judging w n low bound [] [] [] s t regs

    none_held : AreHeld asked
    none_held x o e = absurd cc

    did : Finishes asked value_code.stmts (length rs) t.steps (IsValued value_code.flag value_code.value (term v s []))
    did =
        code_values asked v rs (stands_anchored w n low bound [] [] [] s t regs b.store_is m.bounded m.anchored m.kept none_held) (ranges_hold s m.bounded m.kept.keeps.past) ranged found
        (omega (arith, b.steps, few)) behind room

    abbrev ended : ℤ → ℤ → Did
    ended d j = monitored.judged over_blocks d j (machine.Broken a.number a.place.line a.kind how.Undefined) (machine.Broken a.number a.place.line a.kind how.False) (Done (Next did.after) t []) t.steps

    -- the statements, and the assertion that there is a value
    wanted_runs : runs w n t (wanted a value_code) regs ≡ ended (truth (is_some (term v s []))) (pos 1)
    wanted_runs =
        let ask = one (Assert (Register value_code.flag) (Constant I32 (pos 1)) a.number a.place.line a.kind) in
        before_is w.globals value_code.stmts ask w.calls n regs t ∙ ap (λ q. then_do q (at_next (λ r u. runs w n u ask r))) did.is ∙ writes_none (runs w n t ask did.after)
        ∙ assert_runs w n low bound s t a t (Register value_code.flag) (Constant I32 (pos 1)) (truth (is_some (term v s []))) (pos 1) did.after did.holds.flag_is refl

    by_value : (o : Option TermValue) → term v s [] ≡ o → Reaches w (IsThereBeside regs) low regs s (valued a o s) (ended (truth (is_some o)) (pos 1))
    by_value None e =
        reaching.IsOver (Broken a.number a.place.line a.kind how.Undefined) (machine.Broken a.number a.place.line a.kind how.Undefined) s [] refl refl (sym (append-nil s.output))
        (ap (λ k. Stops (machine.Broken a.number a.place.line a.kind how.Undefined) k []) b.steps)
    by_value (Some x) e = there x (did.holds.value_is x e)
      where
        there : (x : TermValue) → (z : ℤ) × (x ≡ Mathematical z) × (slice_get did.after value_code.value ≡ Some (Integer z)) → Reaches w (IsThereBeside regs) low regs s (valued a (Some x) s) (ended (pos 1) (pos 1))
        there x g =
            subst (λ y. Reaches w (IsThereBeside regs) low regs s (valued a (Some y) s) (ended (pos 1) (pos 1))) (sym g.1)
            (Arrives g.0 s did.after t [] (same_less low (length rs) regs did.after behind did.same) (later_same s m.bounded) b refl refl (g.2, did.same))

    -- the value that the source has, where it has one
    pub wanted_reaches : Reaches w (IsThereBeside regs) low regs s (value_of a v s) (runs w n t (wanted a value_code) regs)
    wanted_reaches = subst (λ q. Reaches w (IsThereBeside regs) low regs s (value_of a v s) q) (sym wanted_runs) (by_value (term v s []) refl)

    pub kept_reaches : Reaches w (IsThere value_code.value) low regs s (value_of a v s) (runs w n t (wanted a value_code) regs)
    kept_reaches = by (value_of a v s) (runs w n t (wanted a value_code) regs) wanted_reaches
      where
        by : (r : Outcome ℤ) (q : Did) → Reaches w (IsThereBeside regs) low regs s r q → Reaches w (IsThere value_code.value) low regs s r q
        by r q (Arrives z to after u o same l be e f p) = Arrives z to after u o same l be e f p.0
        by r q (reaching.IsOver x z to o d e l f) = reaching.IsOver x z to o d e l f
        by r q (reaching.IsUndefined at to o e l ext) = reaching.IsUndefined at to o e l ext

    -- ---- the comparison with an old one

    module _ (k : MonType) (plain : is_pointer k ≡ false) (x : ℕ) (old : ℤ) (below : x < length rs) (has : slice_get regs x ≡ Some (Integer old)) where
      smaller_has : (new : ℤ) (after : List Value) (u : Target) → Same (length rs) regs after → IsThere value_code.value new after s u → HasNumber w after u.mem (smaller k x value_code.value) (truth (is_smaller old new))
      smaller_has new after u same there =
          let here = judging w n low bound [] [] [] s u after in
          let old_is = same.below x below ∙ has in
          operation here And I32 (Binary Le k (Constant k (pos 0)) (Register x)) (Binary Lt k (Register value_code.value) (Register x)) after (truth (int_le (pos 0) old)) (truth (int_lt new old)) (truth (is_smaller old new)) refl
          (operation here Le k (Constant k (pos 0)) (Register x) after (pos 0) old (truth (int_le (pos 0) old)) plain (constant_has here k (pos 0) after plain) old_is refl)
          (operation here Lt k (Register value_code.value) (Register x) after new old (truth (int_lt new old)) plain there old_is refl)
          (both_are (int_le (pos 0) old) (int_lt new old))

      comparison : (new : ℤ) (to : State) (after : List Value) (u : Target) → Bounded to.store → Beside w to.store to u → Same (length rs) regs after → IsThere value_code.value new after to u
          → Reaches w Anything low after to (compared a old new to) (runs w n u (one (Assert (Constant I32 (pos 1)) (smaller k x value_code.value) a.number a.place.line a.kind)) after)
      comparison new to after u bounded be same there =
          subst (λ q. Reaches w Anything low after to (compared a old new to) q)
          (sym (assert_runs w n low bound s t a u (Constant I32 (pos 1)) (smaller k x value_code.value) (pos 1) (truth (is_smaller old new)) after refl (smaller_has new after u same there)))
          (by (is_smaller old new))
        where
          by : (b : Bool) → Reaches w Anything low after to (source.judged a (Says b to.steps) to)
              (monitored.judged over_blocks (pos 1) (truth b) (machine.Broken a.number a.place.line a.kind how.Undefined) (machine.Broken a.number a.place.line a.kind how.False) (Done (Next after) u []) u.steps)
          by true = Arrives tt to after u [] (same_all low after) (later_same to bounded) be refl refl tt
          by false =
              reaching.IsOver (Broken a.number a.place.line a.kind how.False) (machine.Broken a.number a.place.line a.kind how.False) to [] refl refl (sym (append-nil to.output))
              (ap (λ k. Stops (machine.Broken a.number a.place.line a.kind how.False) k []) be.steps)

      pub compared_reaches : Reaches w Anything low regs s ((value_of a v >>= compared a old) s) (runs w n t (compared_with a k x value_code) regs)
      compared_reaches =
          reaches_before w n (IsThereBeside regs) Anything low regs s t (value_of a v s) (wanted a value_code) (one (Assert (Constant I32 (pos 1)) (smaller k x value_code.value) a.number a.place.line a.kind)) (compared a old)
          wanted_reaches (λ new to after u o same l be p. comparison new to after u l.bounded be p.1 p.0)
