-- Calls anywhere: arguments, of which those are kept after which an effect comes, and the call, which does what the induction hypothesis on calls says.
use Rattle.std.proofs.Common.{◌≡◌, ℕ, suc, ◌<◌, ◌≤◌, Bool, true, false, not, ◌&&◌, if◌then◌else◌, List, [], ◌∷◌, ◌++◌, length, Option, Some, None, slice_set, refl, sym, ap, ◌∙◌, subst, arith}
use Rattle.std.proofs.lemmas.List.{append-nil, length-append}
use Rattle.c_syntax.specs.declared.place.Place.{Place}
use Rattle.c_syntax.specs.declared.expression.Use.{Use}
use Rattle.c_syntax.specs.Ctypes.{PlainType}
use Rattle.c_syntax.specs.Expressions.{Expression, Node, Call, Cast, Text, Expressions, NoExpression, Following, type_of}
use Rattle.c_syntax.specs.Layouts.{Scalar, scalar_of}
use Rattle.c_model.specs.Memory.{Value}
use Rattle.c_model.specs.State.{State, Outcome, Evaluation, on_outcome, ◌>>=◌, give}
use Rattle.c_model.specs.Meaning.{Tables, tables_of, eval_with, evals_with, is_array}
use Rattle.c_model.specs.ExpressionTyping.{Sight}
use Rattle.c_model.specs.TypedTrees.{HaveTypes, AreWellTyped}
use Rattle.c_model.specs.AcceptedPrograms.{AreScalar}
use Rattle.c_model.proofs.Agreement.{extends_trans}
use Rattle.mon_syntax.specs.declared.tree.MonType.{MonType}
use Rattle.mon_syntax.specs.Registers.{Bindings}
use Rattle.mon_syntax.specs.Checking.{same_type}
use Rattle.mon_syntax.specs.Meaning.{Done, Next, then_do, eval_all}
use Rattle.mon_syntax.specs.Meaning.{◌>>=◌ as bind}
use Rattle.mon_syntax.specs.BlockMemory.{Blocks, over_blocks}
use Rattle.mon_syntax.specs.Trees.{MonExpression, Register, MonStatements}
use Rattle.c_effects.specs.Expressions.{value_type, before, set, literal, converted}
use Rattle.c_effects.specs.Effects.{call}
use Rattle.c_effects.specs.Full.{are_pure, is_settled, kept_value, keeps_all, takes, all_takes, result, all_results, prepare, prepare_all}
use Rattle.c_simulation.specs.SameRegisters.{Same}
use Rattle.c_simulation.specs.Standing.{Setting, Target, Did, runs, Has, IsOf, Here, Standing, Beside}
use Rattle.c_simulation.specs.Following.{Later, IsResultOf, written}
use Rattle.c_simulation.specs.Reaching.{Reaches, Arrives, IsOver, IsUndefined, Valued}
use Rattle.c_simulation.specs.Calls.{AreOf, HaveAll, CallDoes, DoesCall, CallsNothing, Called, Gives, EndsRun, HasNoMeaning, Begin, IsCalled, value_of, takes as takes_value}
use Rattle.c_simulation.proofs.Results.{written_then}
use Rattle.c_simulation.proofs.Registers.{same_all, same_trans, same_set, get-set_same, longer}
use Rattle.c_simulation.proofs.Following.{later_same}
use Rattle.c_simulation.proofs.Calls.{even, beside_even}
use Rattle.c_simulation.proofs.Reaching.{MadeValue, undefined_now, reached_lower, reaches_before, reaches_made}
use Rattle.c_simulation.proofs.Settled.{settled_stays}
use Rattle.c_simulation.proofs.Unchanged.{values_leave}
use Rattle.c_simulation.proofs.Operands.{FromHere, Computes, Acts, Kinded, result_kind, reached_with, beside_same, stands_after, reaches_set}

-- ---- lists of values

-- values of these types, that stay while registers below a number stay
abbrev pub AreValued : Setting → List PlainType → ℕ → List MonExpression → List Value → List Value → State → Target → Type 0
AreValued w us high es vs after s t = AreOf us vs × ((later : List Value) → Same high after later → HaveAll w es later t.mem vs)

-- the same, where another value still is there
abbrev pub Others : Setting → List PlainType → ℕ → MonExpression → List MonExpression → Value → List Value → List Value → State → Target → Type 0
Others w us high x es i vs after s t = AreOf us vs × ((later : List Value) → Same high after later → Has w x later t.mem i × HaveAll w es later t.mem vs)

-- the first and then the others
pub list_reach : (w : Setting) (n : ℕ) (k : Scalar) (u : PlainType) (us : List PlainType) (is : scalar_of u ≡ Some k) (low high last : ℕ) (regs : List Value) (s : State) (t : Target) (r : Outcome Value) (m : Evaluation (List Value))
    (a b : MonStatements)
    (x : MonExpression) (es : List MonExpression) → low ≤ high
    → Reaches w (Valued w k high x) low regs s r (runs w n t a regs)
    → ((i : Value) (to : State) (after : List Value) (v : Target) (o : List ℕ) → Same low regs after → Later s to o → Beside w to.store to v → IsOf k i → ((later : List Value) → Same high after later → Has w x later v.mem i)
    → Reaches w (Others w us last x es i) high after to (m to) (runs w n v b after))
    → Reaches w (AreValued w (u ∷ us) last (x ∷ es)) low regs s (on_outcome r (λ i. m >>= λ vs. give (i ∷ vs))) (runs w n t (before a b) regs)
list_reach w n k u us is low high last regs s t r m a b x es le first second =
    reaches_before w n (Valued w k high x) (AreValued w (u ∷ us) last (x ∷ es)) low regs s t r a b (λ i. m >>= λ vs. give (i ∷ vs)) first (λ i to after v o same later be p.
    reaches_made w (Others w us last x es i) (AreValued w (u ∷ us) last (x ∷ es)) low after to (m to) (runs w n v b after) (λ vs. give (i ∷ vs))
    (reached_lower w (Others w us last x es i) low high after to (m to) (runs w n v b after) le (second i to after v o same later be p.0 p.1)) (λ vs to2 after2 z o2 same2 later2 be2 q.
    MadeValue (i ∷ vs) refl (
      (subst (λ o. IsResultOf o (Some i)) (sym is) p.0, q.0),
      λ more same3.
          let h = q.1 more same3 in
          ap (λ o. bind o (λ v. bind (eval_all over_blocks w.globals es more z.mem) (λ vs. Some (v ∷ vs)))) h.0 ∙ ap (λ o. bind o (λ vs. Some (i ∷ vs))) h.1,
    )))

module _ (w : Setting) (n : ℕ) (h : Here) (low : ℕ) (bound : Bindings) where
  abbrev T : Tables
  T = tables_of w.unit

  abbrev pub kept_for : Bool → Expression → List MonType
  kept_for c e = if c then takes w.unit e ++ value_type (type_of e) ∷ [] else takes w.unit e

  -- each argument follows, after any registers
  abbrev pub EachComputes : Expressions → Type 0
  EachComputes NoExpression = Unit {0}
  EachComputes (Following e es) = ((k : Scalar) (rs : List MonType) → scalar_of (type_of e) ≡ Some k → low ≤ length rs → Computes w n h low bound e k rs) × EachComputes es

  abbrev pub AllCompute : List PlainType → Expressions → List MonType → Type 0
  AllCompute us es rs =
      (s : State) (t : Target) (regs : List Value) → s.steps ≤ n → Standing w h low bound regs s → Beside w s.store s t → length (rs ++ all_takes w.unit es) ≤ w.registers
      → Reaches w (AreValued w us (length (rs ++ all_takes w.unit es)) (all_results w.unit bound rs es)) (length rs) regs s (evals_with T es w.call s) (runs w n t (prepare_all w.unit bound rs es) regs)

  -- what depends on no later effect stays
  stays_over_all : (e : Expression) (es : Expressions) (rs : List MonType) → keeps_all e es ≡ false → (later : List Value) (mem mem2 : Blocks) (i : Value) → (are_pure es ≡ true → mem2 ≡ mem) → Has w (result w.unit bound rs e) later mem i
      → Has w (result w.unit bound rs e) later mem2 i
  stays_over_all e es rs free later mem mem2 i quiet has = by (are_pure es) refl
    where
      unkept : (c : Bool) → (not c && true) ≡ false → c ≡ true
      unkept true q = refl
      unkept false q = absurd cc

      by : (c : Bool) → are_pure es ≡ c → Has w (result w.unit bound rs e) later mem2 i
      by true p = subst (λ m. Has w (result w.unit bound rs e) later m i) (sym (quiet p)) has
      by false p = settled_stays w bound rs e (unkept (is_settled e) (ap (λ c. not (is_settled e) && not c) (sym p) ∙ free)) later mem mem2 i has

  -- one more argument in front
  following_reach : (e : Expression) (es : Expressions) (u : PlainType) (us : List PlainType) (rs : List MonType) → AreScalar (u ∷ us) → HaveTypes (u ∷ us) (Following e es)
      → EachComputes (Following e es) → low ≤ length rs → ((c : Bool) → AllCompute us es (rs ++ kept_for c e)) → AllCompute (u ∷ us) (Following e es) rs
  following_reach e es u us rs scalars types each behind others s t regs le m be room = by (keeps_all e es) refl
    where
      k : Scalar
      k = scalars.0.scalar

      e_is : scalar_of (type_of e) ≡ Some k
      e_is = ap scalar_of types.0 ∙ scalars.0.is

      r : ℕ
      r = length (rs ++ takes w.unit e)

      Goal : Bool → Type 0
      Goal c =
          Reaches w (AreValued w (u ∷ us) (length (rs ++ (kept_for c e ++ all_takes w.unit es))) ((if c then Register r else result w.unit bound rs e) ∷ all_results w.unit bound (rs ++ kept_for c e) es)) (length rs) regs s
          (evals_with T (Following e es) w.call s)
          (runs w n t (before (if c then before (prepare w.unit bound rs e) (set r (result w.unit bound rs e)) else prepare w.unit bound rs e) (prepare_all w.unit bound (rs ++ kept_for c e) es)) regs)

      size : (c : Bool) → length (rs ++ (kept_for c e ++ all_takes w.unit es)) ≡ length (rs ++ kept_for c e ++ all_takes w.unit es)
      size c = omega (arith, length-append rs (kept_for c e ++ all_takes w.unit es), length-append (kept_for c e) (all_takes w.unit es), length-append (rs ++ kept_for c e) (all_takes w.unit es), length-append rs (kept_for c e))

      room_for : (c : Bool) → keeps_all e es ≡ c → length (rs ++ kept_for c e ++ all_takes w.unit es) ≤ w.registers
      room_for c is = let most : length (rs ++ (kept_for c e ++ all_takes w.unit es)) ≤ w.registers = subst (λ c. length (rs ++ (kept_for c e ++ all_takes w.unit es)) ≤ w.registers) is room in omega (arith, most, size c)

      first : (most : r ≤ w.registers) → Reaches w (Valued w k r (result w.unit bound rs e)) (length rs) regs s (eval_with T e w.call s) (runs w n t (prepare w.unit bound rs e) regs)
      first most = each.0 k rs e_is behind s t regs le m be most

      rest : (c : Bool) (to : State) (after : List Value) (v : Target) (o : List ℕ) → Same (length rs) regs after → Later s to o → Beside w to.store to v → length (rs ++ kept_for c e ++ all_takes w.unit es) ≤ w.registers
          → Reaches w (AreValued w us (length (rs ++ kept_for c e ++ all_takes w.unit es)) (all_results w.unit bound (rs ++ kept_for c e) es)) (length (rs ++ kept_for c e)) after to (evals_with T es w.call to)
          (runs w n v (prepare_all w.unit bound (rs ++ kept_for c e) es) after)
      rest c to after v o same later be2 most =
          others c to v after (omega (arith, le, later.spent)) (stands_after w n h low bound rs regs after s to o behind same later m) be2
          most

      kept : keeps_all e es ≡ true → Goal true
      kept c =
          let rs2 = rs ++ kept_for true e in
          let last = length (rs2 ++ all_takes w.unit es) in
          let long : length rs2 ≡ suc r = omega (arith, length-append rs (takes w.unit e ++ value_type (type_of e) ∷ []), length-append (takes w.unit e) (value_type (type_of e) ∷ []), length-append rs (takes w.unit e)) in
          let fits : suc r ≤ w.registers = omega (arith, room_for true c, longer rs2 (all_takes w.unit es), long) in
          rw (size true)
          (list_reach w n k u us scalars.0.is (length rs) (length rs2) last regs s t (eval_with T e w.call s) (evals_with T es w.call) (before (prepare w.unit bound rs e) (set r (result w.unit bound rs e)))
          (prepare_all w.unit bound rs2 es) (Register r) (all_results w.unit bound rs2 es) (longer rs (kept_for true e))
          (subst (λ x. Reaches w (Valued w k x (Register r)) (length rs) regs s (eval_with T e w.call s) (runs w n t (before (prepare w.unit bound rs e) (set r (result w.unit bound rs e))) regs)) (sym long)
          (reaches_set w n k (length rs) r r regs s t (eval_with T e w.call s) (prepare w.unit bound rs e) (result w.unit bound rs e) (longer rs (takes w.unit e)) (omega arith) (omega (arith, fits, m.registers)) (first (omega (arith, fits)))))
          (λ i to after v o same later be2 f has.
          reached_with w (AreValued w us last (all_results w.unit bound rs2 es)) (Others w us last (Register r) (all_results w.unit bound rs2 es) i) (length rs2) after to (evals_with T es w.call to)
          (runs w n v (prepare_all w.unit bound rs2 es) after) (rest true to after v o same later be2 (room_for true c)) (λ vs to2 after2 z same2 be3 eq p.
          (p.0, λ more same3. (has more (same_trans (length rs2) last after after2 more (longer rs2 (all_takes w.unit es)) same2 same3), p.1 more same3)))))

      free : keeps_all e es ≡ false → ((i : Value) (to : State) (after : List Value) (v : Target) (o : List ℕ) → Same (length rs) regs after → Later s to o → Beside w to.store to v → IsOf k i
          → ((later : List Value) → Same r after later → Has w (result w.unit bound rs e) later v.mem i)
          → Reaches w (Others w us (length (rs ++ takes w.unit e ++ all_takes w.unit es)) (result w.unit bound rs e) (all_results w.unit bound (rs ++ takes w.unit e) es) i) r after to (evals_with T es w.call to)
          (runs w n v (prepare_all w.unit bound (rs ++ takes w.unit e) es) after)) → Goal false
      free c second =
          rw (size false)
          (list_reach w n k u us scalars.0.is (length rs) r (length (rs ++ takes w.unit e ++ all_takes w.unit es)) regs s t (eval_with T e w.call s) (evals_with T es w.call) (prepare w.unit bound rs e)
          (prepare_all w.unit bound (rs ++ takes w.unit e) es) (result w.unit bound rs e) (all_results w.unit bound (rs ++ takes w.unit e) es) (longer rs (takes w.unit e))
          (first (omega (arith, room_for false c, longer (rs ++ takes w.unit e) (all_takes w.unit es)))) second)

      by : (c : Bool) → keeps_all e es ≡ c → Reaches w (AreValued w (u ∷ us) (length (rs ++ all_takes w.unit (Following e es))) (all_results w.unit bound rs (Following e es))) (length rs) regs s
          (evals_with T (Following e es) w.call s) (runs w n t (prepare_all w.unit bound rs (Following e es)) regs)
      by true c = subst Goal (sym c) (kept c)
      by false c =
          let rs2 = rs ++ takes w.unit e in
          let last = length (rs2 ++ all_takes w.unit es) in
          subst Goal (sym c) (free c (λ i to after v o same later be2 f has.
          reached_with w (AreValued w us last (all_results w.unit bound rs2 es)) (Others w us last (result w.unit bound rs e) (all_results w.unit bound rs2 es) i) r after to (evals_with T es w.call to)
          (runs w n v (prepare_all w.unit bound rs2 es) after) (rest false to after v o same later be2 (room_for false c)) (λ vs to2 after2 z same2 be3 eq p. (
            p.0,
            λ more same3. (
              stays_over_all e es rs c more v.mem z.mem i (λ pure. beside_same w to to2 v z (values_leave T w.call to es pure vs to2 eq) be2 be3)
                  (has more (same_trans r last after after2 more (longer rs2 (all_takes w.unit es)) same2 same3)),
              p.1 more same3,
            ),
          ))))

  pub arguments_reach : (es : Expressions) (us : List PlainType) (rs : List MonType) → AreScalar us → HaveTypes us es → EachComputes es → low ≤ length rs → AllCompute us es rs
  arguments_reach NoExpression [] rs scalars types each behind s t regs le m be room = Arrives [] s regs t [] (same_all (length rs) regs) (later_same s m.bounded) be refl refl (tt, λ later same. refl)
  arguments_reach NoExpression (u ∷ us) rs scalars types each behind s t regs le m be room = absurd types
  arguments_reach (Following e es) [] rs scalars types each behind s t regs le m be room = absurd types
  arguments_reach (Following e es) (u ∷ us) rs scalars types each behind s t regs le m be room =
      following_reach e es u us rs scalars types each behind (λ c. arguments_reach es us (rs ++ kept_for c e) scalars.1 types.1 each.1 (omega (arith, behind, longer rs (kept_for c e)))) s t regs le m be room

  -- ---- the call

  module _ (u : PlainType) (s : State) (x : Outcome Value) (least : ℕ) (after : List Value) (d : Did) (active : s.calls ≡ w.active) where
    -- what a call comes to, whose value goes to the register r
    called_reaches : (k : Scalar) (is : scalar_of u ≡ Some k) (r : ℕ) → least ≤ r → r < length after → CallDoes s u x (Some r) after d → Reaches w (Valued w k (suc r) (Register r)) least after s x d
    called_reaches k is r le room (CallsNothing at e) = undefined_now w (Valued w k (suc r) (Register r)) least after s x d at e
    called_reaches k is r le room (DoesCall q d_is c) = subst (λ d. Reaches w (Valued w k (suc r) (Register r)) least after s x d) (sym d_is) (by c)
      where
        by : Called s u x q → Reaches w (Valued w k (suc r) (Register r)) least after s x (then_do q (takes_value (Some r) after))
        by (Gives None v to z o i like later is_even e f) = absurd (subst (λ o. IsResultOf o None) is i)
        by (Gives (Some y) v to z o i like later is_even e f) =
            Arrives y to (slice_set after r v) z o (same_set least r after v le) later (beside_even w to z (later.calls ∙ active) is_even) e
            (ap (λ q. then_do q (takes_value (Some r) after)) f ∙ ap (Done (Next (slice_set after r v)) z) (append-nil o))
            (subst (λ o. IsResultOf o (Some y)) is i, λ more same. same.below r (omega arith) ∙ get-set_same after r v room ∙ ap Some like)
        by (EndsRun e z to o d2 a l f) = IsOver e z to o d2 a l (ap (λ q. then_do q (takes_value (Some r) after)) f)
        by (HasNoMeaning at to o a l ext) = IsUndefined at to o a l (extends_trans o (written q) _ ext (written_then q (takes_value (Some r) after)))

    -- one whose value nothing takes
    called_alone : CallDoes s u x None after d → Reaches w (Kinded (scalar_of u)) least after s x d
    called_alone (CallsNothing at e) = undefined_now w (Kinded (scalar_of u)) least after s x d at e
    called_alone (DoesCall q d_is c) = subst (λ d. Reaches w (Kinded (scalar_of u)) least after s x d) (sym d_is) (by c)
      where
        by : Called s u x q → Reaches w (Kinded (scalar_of u)) least after s x (then_do q (takes_value None after))
        by (Gives y v to z o i like later is_even e f) =
            Arrives (value_of y) to after z o (same_all least after) later (beside_even w to z (later.calls ∙ active) is_even) e
            (ap (λ q. then_do q (takes_value None after)) f ∙ ap (Done (Next after) z) (append-nil o)) (result_kind (scalar_of u) y i)
        by (EndsRun e z to o d2 a l f) = IsOver e z to o d2 a l (ap (λ q. then_do q (takes_value None after)) f)
        by (HasNoMeaning at to o a l ext) = IsUndefined at to o a l (extends_trans o (written q) _ ext (written_then q (takes_value None after)))

  -- the address of a literal is the value of an argument as it stands
  pub begins : (sight : Sight) (es : Expressions) → AreWellTyped sight es → (rs : List MonType) → Begin w es (all_results w.unit bound rs es)
  begins sight (Following (Node at t (Cast to (Node at2 u (Text j)))) es) well rs k e =
      let same : j ≡ k = cc in
      let array : is_array u ≡ true = ap is_array well.0.0.ctype in
      ap (λ b. kept_value (not (if b then true else (same_type (value_type u) (value_type to) && true)) && not (are_pure es)) (length (rs ++ [])) (if b then literal w.unit j else converted u to (literal w.unit j))) array
      ∙ ap (literal w.unit) same
  begins sight _ well rs k e = absurd cc

  module _ (at : Place) (u : PlainType) (f : Use) (es : Expressions) (rs : List MonType) (behind : low ≤ length rs) (called : IsCalled w n f u es) (each : EachComputes es)
      (begin : Begin w es (all_results w.unit bound rs es)) where
    abbrev r : ℕ
    r = length (rs ++ all_takes w.unit es)

    abbrev this : Expression
    this = Node at u (Call f es)

    -- the arguments, and then the call
    call_reaches : (P : Value → List Value → State → Target → Type 0) (into : Option ℕ)
        → ((x : Outcome Value) (to : State) (after : List Value) (d : Did) → to.calls ≡ w.active → length after ≡ w.registers → CallDoes to u x into after d → Reaches w P (length rs) after to x d)
        → FromHere w n h low bound P r rs (eval_with T this w.call) (before (prepare_all w.unit bound rs es) (call w.unit into f es (all_results w.unit bound rs es)))
    call_reaches P into go s t regs le m be room =
        reaches_before w n (AreValued w called.types r (all_results w.unit bound rs es)) P (length rs) regs s t (evals_with T es w.call s) (prepare_all w.unit bound rs es) (call w.unit into f es (all_results w.unit bound rs es))
        (λ vs. w.call at f vs) (arguments_reach es called.types rs called.scalars called.arguments each behind s t regs le m be room) (λ vs to after v o same later be2 p.
        let active : to.calls ≡ w.active = later.calls ∙ m.active in
        go (w.call at f vs to) to after (runs w n v (call w.unit into f es (all_results w.unit bound rs es)) after) active (same.long ∙ m.registers)
        (called.does vs p.0 to v (even w to v active be2) later.bounded (omega (arith, le, later.spent)) at into after (all_results w.unit bound rs es) (p.1 after (same_all r after)) begin))

    pub call_computes : (k : Scalar) → scalar_of u ≡ Some k → Computes w n h low bound this k rs
    call_computes k is s t regs le m be room =
        let size : length (rs ++ (all_takes w.unit es ++ value_type u ∷ [])) ≡ suc r =
        omega (arith, length-append rs (all_takes w.unit es ++ value_type u ∷ []), length-append (all_takes w.unit es) (value_type u ∷ []), length-append rs (all_takes w.unit es)) in
        subst (λ x. Reaches w (Valued w k x (Register r)) (length rs) regs s (eval_with T this w.call s) (runs w n t (prepare w.unit bound rs this) regs)) (sym size)
        (call_reaches (Valued w k (suc r) (Register r)) (Some r) (λ x to after d active wide does.
        called_reaches u to x (length rs) after d active k is r (longer rs (all_takes w.unit es)) (omega (arith, size, room, wide)) does) s t regs le m be (omega (arith, size, room)))

    pub call_acts : Acts w n h low bound this rs
    call_acts s t regs le m be room = call_reaches (Kinded (scalar_of u)) None (λ x to after d active wide does. called_alone u to x (length rs) after d active does) s t regs le m be room
