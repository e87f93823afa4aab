-- Assertions, and the invariants of a loop: the target judges each annotation as the source does, and stops at the first that is undefined or false.
use Rattle.std.proofs.Common.{◌≡◌, ℤ, ℕ, suc, ◌≤◌, pos, Bool, true, false, List, [], ◌∷◌, ◌++◌, length, Option, Some, None, slice_set, sym, ap, ◌∙◌, subst, refl, arith}
use Rattle.std.proofs.lemmas.List.{append-nil, length-append}
use Rattle.c_syntax.specs.declared.types.How.TheVariants as how
use Rattle.c_syntax.specs.Logic.{LogicTerm, ClauseBody, Raw, Holds, Behaviors, Annotation}
use Rattle.c_syntax.specs.Logic as logic
use Rattle.c_model.specs.Formed.{IsShortClause}
use Rattle.c_model.specs.Integers.{truth}
use Rattle.c_model.specs.Memory.{Value, Integer}
use Rattle.c_model.specs.State.{State, Broken, Spent}
use Rattle.c_model.specs.MonitoredRuns as machine
use Rattle.c_model.specs.Logic.{Answer, Says, SaysNothing, OutOfSteps}
use Rattle.c_model.specs.Logic as source
use Rattle.c_model.specs.Predicates.{pred, clause, check, checks, invariant, invariants}
use Rattle.c_syntax.specs.Programs.{TranslationUnit}
use Rattle.c_simulation.specs.Keeping.{Kept}
use Rattle.c_model.proofs.Along.{steps_of, steps_pred}
use Rattle.c_model.specs.Unranged.{ClauseRanged}
use Rattle.mon_syntax.specs.declared.tree.MonType.{MonType}
use Rattle.mon_syntax.specs.declared.tree.MonType.TheVariants.{I32}
use Rattle.mon_syntax.specs.Registers.{Bindings}
use Rattle.mon_syntax.specs.Meaning.{Done, Next, then_do, at_next, with_value}
use Rattle.mon_syntax.specs.Meaning.{◌>>=◌ as bind}
use Rattle.mon_syntax.specs.Meaning as monitored
use Rattle.mon_syntax.specs.BlockMemory.{integer_of, is_some, over_blocks}
use Rattle.mon_syntax.specs.Trees.{MonExpression, Constant, Register, Assert, If}
use Rattle.c_effects.specs.Expressions.{one, set}
use Rattle.annot_simulation.specs.Code.{Judgement, judgement, clause_judgement, nothing_said, term_code, type_of, valuation, asserted, assertion, behind_assertion, assertions, behind_assertions}
use Rattle.annot_simulation.specs.Does as code
use Rattle.annot_simulation.specs.Does.{Finishes, IsJudged, Judges, is_true}
use Rattle.annot_simulation.specs.Beside.{AreHeld, judging}
use Rattle.annot_simulation.specs.Held.{Held}
use Rattle.c_simulation.specs.SameRegisters.{Same}
use Rattle.annot_simulation.proofs.Asserted.{assertion_grows, behind_grows}
use Rattle.annot_simulation.proofs.Beside.{stands_anchored, ranges_hold}
use Rattle.annot_simulation.proofs.Steps.{after_runs, get-set_same, if_false, same_set, same_trans, set_runs}
use Rattle.annot_simulation.proofs.Outcomes.{code_judges}
use Rattle.annot_simulation.proofs.Grows.{term_grows}
use Rattle.instrument.proofs.Passages.{ClauseFound, AnnotationsFound}
use Rattle.instrument.proofs.RangedTrees.{AreRangedAsserts, AreRangedClauses}
use Rattle.instrument.specs.LoopClauses.{invariant_code, behind_invariant, invariants_code, behind_invariants}
use Rattle.c_simulation.proofs.Results.{one_is, before_is, writes_none}
use Rattle.c_simulation.specs.Standing.{Setting, Target, Did, runs, Bounded, Anchored, Here, IsKept, Standing, Beside}
use Rattle.c_simulation.proofs.Registers.{same_less, stays_same}
use Rattle.c_simulation.proofs.Following.{kept_same, stays, follows_then, standing_after}
use Rattle.c_simulation.specs.Following.{Follows, GoesOn, IsOver, Later}
use Rattle.c_simulation.proofs.Values.{HasNumber}

-- ---- what isn't judged by itself

nothing_judged : (w : code.Setting) (rs : List MonType) (k : ℕ) → w.target.steps ≡ k → length (nothing_said rs).used ≤ length w.regs → Judges w rs (nothing_said rs) (SaysNothing k)
nothing_judged w rs k steps room =
    let r = length rs in
    let q = length (rs ++ I32 ∷ []) in
    let long = length-append rs (I32 ∷ []) in
    let more = length-append (rs ++ I32 ∷ []) (I32 ∷ []) in
    let none = Constant I32 (pos 0) in
    let first = slice_set w.regs r (Integer (pos 0)) in
    let second = slice_set first q (Integer (pos 0)) in
    let same1 = same_set r r w.regs (Integer (pos 0)) (omega arith) in
    let same2 = same_set q q first (Integer (pos 0)) (omega arith) in
    record {
      after = second;
      same = same_trans r q w.regs first second (omega (arith, long)) same1 same2;
      is = after_runs w (set r none) (one (If (Register r) (set q none) (set q none))) w.regs first (set_runs w r none w.regs (pos 0) refl)
          ∙ if_false w (Register r) (set q none) (set q none) first (get-set_same w.regs r (Integer (pos 0)) (omega (arith, long, more, room)))
          ∙ set_runs w q none first (pos 0) refl
          ∙ ap (λ k. Done (Next second) (record w.target { steps = k }) []) steps;
      holds = record {
        flag_is = same2.below r (omega (arith, long)) ∙ get-set_same w.regs r (Integer (pos 0)) (omega (arith, long, more, room));
        truth_is = get-set_same first q (Integer (pos 0)) (omega (arith, long, more, room, same1.long));
      };
    }

-- ---- registers that are taken

-- the register of a value comes behind those that were taken before, and is the last of those that are taken then
pub value_behind : (p : TranslationUnit) (bound : Bindings) (plan : List Kept) (held : List Held) (t : LogicTerm) (rs : List MonType)
    → (length rs ≤ (valuation p bound plan held t rs).value) × (suc (valuation p bound plan held t rs).value ≡ length (valuation p bound plan held t rs).used)
value_behind p bound plan held t rs =
    let c = term_code p bound plan t held [] rs in
    (omega (arith, term_grows p bound plan t held [] rs), omega (arith, length-append c.used (I32 ∷ type_of t ∷ [])))

pub valuation_grows : (p : TranslationUnit) (bound : Bindings) (plan : List Kept) (held : List Held) (t : LogicTerm) (rs : List MonType) → length rs ≤ length (valuation p bound plan held t rs).used
valuation_grows p bound plan held t rs = let place = value_behind p bound plan held t rs in omega (arith, place.0, place.1)

pub invariant_grows : (p : TranslationUnit) (bound : Bindings) (plan : List Kept) (rs : List MonType) (a : Annotation) (c : ClauseBody) → length rs ≤ length (behind_invariant p bound plan rs a c)
invariant_grows p bound plan rs a (Raw f) = assertion_grows p bound plan [] rs a
invariant_grows p bound plan rs a (Holds q) = assertion_grows p bound plan [] rs a
invariant_grows p bound plan rs a (logic.Value c) = omega arith
invariant_grows p bound plan rs a (Behaviors names) = assertion_grows p bound plan [] rs a

pub invariants_grow : (p : TranslationUnit) (bound : Bindings) (plan : List Kept) (rs : List MonType) (annots : List Annotation) → length rs ≤ length (behind_invariants p bound plan rs annots)
invariants_grow p bound plan rs [] = omega arith
invariants_grow p bound plan rs (a ∷ annots) =
    let x = invariant_grows p bound plan rs a a.body in
    let y = invariants_grow p bound plan (behind_invariant p bound plan rs a a.body) annots in
    omega (arith, x, y)

-- ---- assertions

module _ (w : Setting) (n : ℕ) (low : ℕ) (bound : Bindings) (s : State) (t : Target) where
  -- where the code of a predicate runs
  abbrev asked : List Value → code.Setting
  asked regs = judging w n low bound [] [] [] s t regs

  -- with so many steps left
  abbrev stepped : Target → ℕ → Target
  stepped u k = record u { steps = k }

  -- what an assertion comes to
  pub assert_runs : (a : Annotation) (u : Target) (d v : MonExpression) (i j : ℤ) (regs : List Value) → HasNumber w regs u.mem d i → HasNumber w regs u.mem v j
      → runs w n u (one (Assert d v a.number a.place.line a.kind)) regs
      ≡ monitored.judged over_blocks i j (machine.Broken a.number a.place.line a.kind how.Undefined) (machine.Broken a.number a.place.line a.kind how.False) (Done (Next regs) u []) u.steps
  assert_runs a u d v i j regs p q =
      let judges = λ (i j : ℤ). monitored.judged over_blocks i j (machine.Broken a.number a.place.line a.kind how.Undefined) (machine.Broken a.number a.place.line a.kind how.False) (Done (Next regs) u []) u.steps in
      one_is w.globals (Assert d v a.number a.place.line a.kind) w.calls n regs u
      ∙ ap (λ o. with_value (bind o integer_of) u.steps (λ i. with_value (monitored.eval_number over_blocks w.globals v regs u.mem) u.steps (λ j. judges i j))) p
      ∙ ap (λ o. with_value (bind o integer_of) u.steps (λ j. judges i j)) q

  module _ (h : Here) (b : Beside w s.store s t) (bounded : Bounded s.store) (few : s.steps ≤ n) where
    -- a judgement that is said, or not, with so many steps left
    abbrev judged_later : Annotation → ℕ → ℤ → ℤ → List Value → Did
    judged_later a k d v regs =
        monitored.judged over_blocks d v (machine.Broken a.number a.place.line a.kind how.Undefined) (machine.Broken a.number a.place.line a.kind how.False) (Done (Next regs) (stepped t k) []) k

    later_steps : (k : ℕ) → k ≤ s.steps → Later s (record s { steps = k }) []
    later_steps k le = record { scope = refl; calls = refl; live = refl; longer = omega arith; bounded = bounded; spent = le; output = sym (append-nil s.output); marks = refl }

    says_follows : (a : Annotation) (regs after : List Value) (says : Bool) (k : ℕ) → k ≤ s.steps → IsKept w low s.marks regs → Same low regs after
        → Follows w h low regs Next s (source.judged a (Says says k) s) (judged_later a k (pos 1) (truth says) after)
    says_follows a regs after true k le kept same =
        GoesOn (record s { steps = k }) after (stepped t k) [] (stays_same w.plan_from w.plan_to low regs after same)
        (kept_same w low s.marks regs after same kept).keeps (later_steps k le) (record { store_is = b.store_is; frames = b.frames; steps = refl; input = b.input }) refl refl
    says_follows a regs after false k le kept same =
        IsOver (Broken a.number a.place.line a.kind how.False) (machine.Broken a.number a.place.line a.kind how.False) (record s { steps = k }) [] refl refl (sym (append-nil s.output)) refl

    nothing_follows : (a : Annotation) (regs after : List Value) (v : ℤ) (k : ℕ) → Follows w h low regs Next s (source.judged a (SaysNothing k) s) (judged_later a k (pos 0) v after)
    nothing_follows a regs after v k =
        IsOver (Broken a.number a.place.line a.kind how.Undefined) (machine.Broken a.number a.place.line a.kind how.Undefined) (record s { steps = k }) [] refl refl (sym (append-nil s.output)) refl

    -- what is asked after the statements of a judgement
    asked_runs : (a : Annotation) (j : Judgement) (rs : List MonType) (k : ℕ) (says : Option Bool) (regs : List Value) → (f : Finishes (asked regs) j.stmts (length rs) k (IsJudged j.flag j.truth says))
        → runs w n t (asserted a j) regs ≡ judged_later a k (truth (is_some says)) (truth (is_true says)) f.after
    asked_runs a j rs k says regs f =
        let ask = one (Assert (Register j.flag) (Register j.truth) a.number a.place.line a.kind) in
        before_is w.globals j.stmts ask w.calls n regs t ∙ ap (λ q. then_do q (at_next (λ r u. runs w n u ask r))) f.is ∙ writes_none (runs w n (stepped t k) ask f.after)
        ∙ assert_runs a (stepped t k) (Register j.flag) (Register j.truth) (truth (is_some says)) (truth (is_true says)) f.after f.holds.flag_is f.holds.truth_is

    answer_follows : (a : Annotation) (j : Judgement) (rs : List MonType) (regs : List Value) (q : Answer) → low ≤ length rs → IsKept w low s.marks regs → steps_of q ≤ s.steps → Judges (asked regs) rs j q
        → Follows w h low regs Next s (source.judged a q s) (runs w n t (asserted a j) regs)
    answer_follows a j rs regs (Says says k) behind kept le f =
        subst (Follows w h low regs Next s (source.judged a (Says says k) s)) (sym (asked_runs a j rs k (Some says) regs f)) (says_follows a regs f.after says k le kept (same_less low (length rs) regs f.after behind f.same))
    answer_follows a j rs regs (SaysNothing k) behind kept le f =
        subst (Follows w h low regs Next s (source.judged a (SaysNothing k) s)) (sym (asked_runs a j rs k None regs f)) (nothing_follows a regs f.after (pos 0) k)
    answer_follows a j rs regs OutOfSteps behind kept le f =
        let ask = one (Assert (Register j.flag) (Register j.truth) a.number a.place.line a.kind) in
        IsOver Spent machine.Spent (record s { steps = 0 }) [] refl refl (sym (append-nil s.output)) (before_is w.globals j.stmts ask w.calls n regs t ∙ ap (λ q. then_do q (at_next (λ r u. runs w n u ask r))) f)

    -- no name of annotations is known
    none_held : (regs : List Value) → AreHeld (asked regs)
    none_held regs x o e = absurd cc

    clause_follows : (a : Annotation) (c : ClauseBody) → ClauseFound w.plan s.scope c → IsShortClause c → ClauseRanged [] c → (rs : List MonType) → low ≤ length rs → (regs : List Value)
        → length (clause_judgement w.unit bound w.plan [] c rs).used ≤ length regs → IsKept w low s.marks regs → Anchored w low bound regs s.scope
        → Follows w h low regs Next s (source.judged a (clause c s [] s.steps) s) (runs w n t (asserted a (clause_judgement w.unit bound w.plan [] c rs)) regs)
    clause_follows a (Raw f) found p r rs behind regs room kept anchored = absurd p
    clause_follows a (logic.Value c) found p r rs behind regs room kept anchored =
        answer_follows a (nothing_said rs) rs regs (SaysNothing s.steps) behind kept (omega arith) (nothing_judged (asked regs) rs s.steps b.steps room)
    clause_follows a (Behaviors names) found p r rs behind regs room kept anchored = absurd p
    clause_follows a (Holds c) found p r rs behind regs room kept anchored =
        let j = judgement w.unit bound w.plan [] c rs in
        subst (λ i. Follows w h low regs Next s (source.judged a (pred c s [] i) s) (runs w n t (asserted a j) regs)) b.steps
        (answer_follows a j rs regs (pred c s [] t.steps) behind kept (subst (λ i. steps_of (pred c s [] t.steps) ≤ i) b.steps (steps_pred c s [] t.steps))
        (code_judges (asked regs) c rs (stands_anchored w n low bound [] [] [] s t regs b.store_is bounded anchored kept (none_held regs)) (ranges_hold s bounded kept.keeps.past) r found (omega (arith, b.steps, few)) behind room))

    pub assertion_follows : (a : Annotation) → ClauseFound w.plan s.scope a.body → IsShortClause a.body → ClauseRanged [] a.body → (rs : List MonType) → low ≤ length rs
        → (regs : List Value) → length (behind_assertion w.unit bound w.plan [] rs a) ≤ length regs → IsKept w low s.marks regs → Anchored w low bound regs s.scope
        → Follows w h low regs Next s (check a s) (runs w n t (assertion w.unit bound w.plan [] rs a) regs)
    assertion_follows a found p r rs behind regs room kept anchored = clause_follows a a.body found p r rs behind regs room kept anchored

module _ (w : Setting) (n : ℕ) (h : Here) (low : ℕ) (bound : Bindings) where
  pub assertions_follow : (annots : List Annotation) → AreRangedAsserts annots → (rs : List MonType) → low ≤ length rs → length (behind_assertions w.unit bound w.plan [] rs annots) ≤ w.registers
      → (regs : List Value) (s : State) (t : Target) → s.steps ≤ n → AnnotationsFound w.plan s.scope annots → Standing w h low bound regs s → Beside w s.store s t
      → Follows w h low regs Next s (checks annots s) (runs w n t (assertions w.unit bound w.plan [] rs annots) regs)
  assertions_follow [] p rs behind room regs s t few found m b = stays w h low regs s t m.bounded m.kept.keeps b
  assertions_follow (a ∷ annots) p rs behind room regs s t few found m b =
      let here = behind_assertion w.unit bound w.plan [] rs a in
      let more = behind_grows w.unit bound w.plan [] here annots in
      let this = assertion_grows w.unit bound w.plan [] rs a in
      let first = assertion w.unit bound w.plan [] rs a in
      let others = assertions w.unit bound w.plan [] here annots in
      subst (λ q. Follows w h low regs Next s (checks (a ∷ annots) s) q) (sym (before_is w.globals first others w.calls n regs t))
      (follows_then w h low regs Next s (check a s) (runs w n t first regs) (checks annots) (λ r u. runs w n u others r)
      (assertion_follows w n low bound s t h b m.bounded few a found.0 p.are.0.body p.ranged.0 rs behind regs (omega (arith, more, room, m.registers)) m.kept m.anchored)
      (λ to after u o same keeps la be.
      assertions_follow annots (record { are = p.are.1; ranged = p.ranged.1 }) here (omega (arith, behind, this)) room after to u (omega (arith, few, la.spent))
      (subst (λ scope. AnnotationsFound w.plan scope annots) (sym la.scope) found.1)
      (standing_after w h low bound regs after s to o same keeps la m) be))

  -- the invariants of a loop, among which its variant is passed over
  invariant_follows : (a : Annotation) (c : ClauseBody) → IsShortClause a.body → ClauseRanged [] a.body → (rs : List MonType) → low ≤ length rs → length (behind_invariant w.unit bound w.plan rs a c) ≤ w.registers
      → (regs : List Value) (s : State) (t : Target) → s.steps ≤ n → ClauseFound w.plan s.scope a.body → Standing w h low bound regs s → Beside w s.store s t
      → Follows w h low regs Next s (invariant a c s) (runs w n t (invariant_code w.unit bound w.plan rs a c) regs)
  invariant_follows a (Raw f) p r rs behind room regs s t few found m b = assertion_follows w n low bound s t h b m.bounded few a found p r rs behind regs (omega (arith, room, m.registers)) m.kept m.anchored
  invariant_follows a (Holds q) p r rs behind room regs s t few found m b = assertion_follows w n low bound s t h b m.bounded few a found p r rs behind regs (omega (arith, room, m.registers)) m.kept m.anchored
  invariant_follows a (logic.Value c) p r rs behind room regs s t few found m b = stays w h low regs s t m.bounded m.kept.keeps b
  invariant_follows a (Behaviors names) p r rs behind room regs s t few found m b = assertion_follows w n low bound s t h b m.bounded few a found p r rs behind regs (omega (arith, room, m.registers)) m.kept m.anchored

  pub invariants_follow : (annots : List Annotation) → AreRangedClauses annots → (rs : List MonType) → low ≤ length rs → length (behind_invariants w.unit bound w.plan rs annots) ≤ w.registers
      → (regs : List Value) (s : State) (t : Target) → s.steps ≤ n → AnnotationsFound w.plan s.scope annots → Standing w h low bound regs s → Beside w s.store s t
      → Follows w h low regs Next s (invariants annots s) (runs w n t (invariants_code w.unit bound w.plan rs annots) regs)
  invariants_follow [] p rs behind room regs s t few found m b = stays w h low regs s t m.bounded m.kept.keeps b
  invariants_follow (a ∷ annots) p rs behind room regs s t few found m b =
      let here = behind_invariant w.unit bound w.plan rs a a.body in
      let more = invariants_grow w.unit bound w.plan here annots in
      let this = invariant_grows w.unit bound w.plan rs a a.body in
      let first = invariant_code w.unit bound w.plan rs a a.body in
      let others = invariants_code w.unit bound w.plan here annots in
      subst (λ q. Follows w h low regs Next s (invariants (a ∷ annots) s) q) (sym (before_is w.globals first others w.calls n regs t))
      (follows_then w h low regs Next s (invariant a a.body s) (runs w n t first regs) (invariants annots) (λ r u. runs w n u others r)
      (invariant_follows a a.body p.are.0.body p.ranged.0 rs behind (omega (arith, more, room)) regs s t few found.0 m b)
      (λ to after u o same keeps la be.
      invariants_follow annots (record { are = p.are.1; ranged = p.ranged.1 }) here (omega (arith, behind, this)) room after to u (omega (arith, few, la.spent))
      (subst (λ scope. AnnotationsFound w.plan scope annots) (sym la.scope) found.1)
      (standing_after w h low bound regs after s to o same keeps la m) be))
