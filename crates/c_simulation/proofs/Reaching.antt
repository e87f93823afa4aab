-- How parts that reach something follow one another, and what reaches the next statement.
use Rattle.std.proofs.Common.{◌≡◌, ℕ, ◌≤◌, ℤ, pos, Bool, List, [], ◌++◌, refl, sym, ap, ◌∙◌, subst, arith, append_assoc}
use Rattle.std.proofs.lemmas.List.{append-nil}
use Rattle.std.specs.Ordering.{int_eq}
use Rattle.c_syntax.specs.declared.place.Place.{Place}
use Rattle.c_syntax.specs.Layouts.{Scalar}
use Rattle.c_model.specs.Memory.{Pointer, Value}
use Rattle.c_model.specs.State.{State, Outcome, Normal, Stop, Over, Undefined, Evaluation, on_outcome, done}
use Rattle.c_model.specs.Meaning.{is_zero}
use Rattle.c_model.proofs.Agreement.{extends_trans}
use Rattle.mon_syntax.specs.Meaning.{Done, Flow, Next, then_do, at_next, writes, choose}
use Rattle.mon_syntax.specs.Trees.{MonExpression, If, MonStatements}
use Rattle.c_effects.specs.Expressions.{before, one}
use Rattle.c_simulation.specs.SameRegisters.{Same}
use Rattle.c_simulation.specs.Standing.{Setting, Target, Did, runs, Bounded, Here, IsKept, Beside}
use Rattle.c_simulation.specs.Following.{Later, Evaluates, HasValue, HasNone, Places, HasPlace, HasNoPlace, Tests, HasTest, HasNoTest, Follows, GoesOn, written}
use Rattle.c_simulation.specs.Following as following
use Rattle.c_simulation.specs.Reaching.{Reaches, Arrives, IsOver, IsUndefined, Anything, Valued, Placed, Tested}
use Rattle.c_simulation.proofs.Results.{written_writes, written_then, before_is, writes_none}
use Rattle.c_simulation.proofs.Registers.{same_all, stays_same, same_less, same_trans}
use Rattle.c_simulation.proofs.Following.{kept_later, later_same, later_trans, onward_same, passes_later}
use Rattle.c_simulation.proofs.Evaluating.{behind_setup, if_runs}

module _ (w : Setting) where
  -- what was done before is in front
  pub reached_onward : {A : Type 0} (P : A → List Value → State → Target → Type 0) (low : ℕ) (regs mid : List Value) (from s : State) (o : List ℕ) (r : Outcome A) (q : Did) → Same low regs mid → Later from s o → Reaches w P low mid s r q
      → Reaches w P low regs from r (writes o q)
  reached_onward P low regs mid from s o r q same l (Arrives a u after t p m k b e f h) =
      Arrives a u after t (o ++ p) (same_trans low low regs mid after (omega arith) same m) (later_trans from s u o p l k) b e (ap (writes o) f) h
  reached_onward P low regs mid from s o r q same l (IsOver x z u p d e k f) = IsOver x z u (o ++ p) d e (k ∙ ap (λ y. y ++ p) l.output ∙ append_assoc from.output o p) (ap (writes o) f)
  reached_onward P low regs mid from s o r q same l (IsUndefined at u p e k x) =
      IsUndefined at u (o ++ p) e (k ∙ ap (λ y. y ++ p) l.output ∙ append_assoc from.output o p)
      (record { rest = x.rest; is = written_writes o q ∙ ap (λ y. o ++ y) x.is ∙ sym (append_assoc o p x.rest) })

  -- an undefined operation at once
  pub undefined_now : {A : Type 0} (P : A → List Value → State → Target → Type 0) (low : ℕ) (regs : List Value) (s : State) (r : Outcome A) (q : Did) (at : Place) → r ≡ Stop (Over (Undefined at)) s → Reaches w P low regs s r q
  undefined_now P low regs s r q at e = IsUndefined at s [] e (sym (append-nil s.output)) (record { rest = written q; is = refl })

  -- nothing is done
  pub reached_here : (low : ℕ) (regs : List Value) (s : State) (t : Target) → Bounded s.store → Beside w s.store s t → Reaches w Anything low regs s (done s) (Done (Next regs) t [])
  reached_here low regs s t bounded b = Arrives tt s regs t [] (same_all low regs) (later_same s bounded) b refl refl tt

  -- one part and then another
  pub reaches_then : {A B : Type 0} (P : A → List Value → State → Target → Type 0) (Q : B → List Value → State → Target → Type 0) (low : ℕ) (regs : List Value) (from : State) (r : Outcome A) (q : Did) (f : A → Evaluation B)
      (g : List Value → Target → Did) → Reaches w P low regs from r q
      → ((a : A) (s : State) (after : List Value) (t : Target) (o : List ℕ) → Same low regs after → Later from s o → Beside w s.store s t → P a after s t → Reaches w Q low after s (f a s) (g after t))
      → Reaches w Q low regs from (on_outcome r f) (then_do q (at_next g))
  reaches_then P Q low regs from r q f g (Arrives a s after t o m l b e e' h) k =
      subst (λ r. Reaches w Q low regs from (on_outcome r f) (then_do q (at_next g))) (sym e)
      (subst (λ q. Reaches w Q low regs from (f a s) (then_do q (at_next g))) (sym e')
      (reached_onward Q low regs after from s o (f a s) (g after t) m l (k a s after t o m l b h)))
  reaches_then P Q low regs from r q f g (IsOver x z s o d e l e') k = IsOver x z s o d (ap (λ r. on_outcome r f) e) l (ap (λ q. then_do q (at_next g)) e')
  reaches_then P Q low regs from r q f g (IsUndefined at s o e l ext) k =
      IsUndefined at s o (ap (λ r. on_outcome r f) e) l (extends_trans o (written q) _ ext (written_then q (at_next g)))

  -- registers that are kept above a number are kept below it
  pub reached_lower : {A : Type 0} (P : A → List Value → State → Target → Type 0) (least low : ℕ) (regs : List Value) (from : State) (r : Outcome A) (q : Did) → least ≤ low → Reaches w P low regs from r q → Reaches w P least regs from r q
  reached_lower P least low regs from r q le (Arrives a s after t o m l b e e' h) = Arrives a s after t o (same_less least low regs after le m) l b e e' h
  reached_lower P least low regs from r q le (IsOver x z s o d e l e') = IsOver x z s o d e l e'
  reached_lower P least low regs from r q le (IsUndefined at s o e l ext) = IsUndefined at s o e l ext

  -- what is made of an answer without statements: an answer, or an undefined operation
  pub data Made {A : Type 0} (Q : A → List Value → State → Target → Type 0) (after : List Value) (s : State) (t : Target) (r : Outcome A) : Type 0 where
    MadeValue : (a : A) → r ≡ Normal a s → Q a after s t → Made Q after s t r
    MadeNone : (at : Place) → r ≡ Stop (Over (Undefined at)) s → Made Q after s t r

  pub reaches_made : {A B : Type 0} (P : A → List Value → State → Target → Type 0) (Q : B → List Value → State → Target → Type 0) (low : ℕ) (regs : List Value) (from : State) (r : Outcome A) (q : Did) (f : A → Evaluation B)
      → Reaches w P low regs from r q
      → ((a : A) (s : State) (after : List Value) (t : Target) (o : List ℕ) → Same low regs after → Later from s o → Beside w s.store s t → P a after s t → Made Q after s t (f a s)) → Reaches w Q low regs from (on_outcome r f) q
  reaches_made P Q low regs from r q f (Arrives a s after t o m l b e e' h) k = by (k a s after t o m l b h)
    where
      by : Made Q after s t (f a s) → Reaches w Q low regs from (on_outcome r f) q
      by (MadeValue c x y) = Arrives c s after t o m l b (ap (λ r. on_outcome r f) e ∙ x) e' y
      by (MadeNone at x) =
          IsUndefined at s o (ap (λ r. on_outcome r f) e ∙ x) l.output (record { rest = []; is = ap written e' ∙ sym (append-nil o) })
  reaches_made P Q low regs from r q f (IsOver x z s o d e l e') k = IsOver x z s o d (ap (λ r. on_outcome r f) e) l e'
  reaches_made P Q low regs from r q f (IsUndefined at s o e l ext) k = IsUndefined at s o (ap (λ r. on_outcome r f) e) l ext

  -- where nothing is made of an answer
  pub reached_done : {A : Type 0} (P : A → List Value → State → Target → Type 0) (low : ℕ) (regs : List Value) (from : State) (r : Outcome A) (q : Did) → Reaches w P low regs from r q → Reaches w Anything low regs from (on_outcome r (λ _. done)) q
  reached_done P low regs from r q h = reaches_made P Anything low regs from r q (λ _. done) h (λ a s after t o m l b p. MadeValue tt refl tt)

  -- ---- where nothing is changed

  pub value_reaches : (k : Scalar) (s : State) (t : Target) (r : Outcome Value) (regs : List Value) (low high : ℕ) (q : Did) (e : MonExpression) → Bounded s.store → Beside w s.store s t → Evaluates w k s t r regs low high q e
      → Reaches w (Valued w k high e) low regs s r q
  value_reaches k s t r regs low high q e bounded b (HasValue v fit x after same run has) = Arrives v s after t [] same (later_same s bounded) b x run (fit, has)
  value_reaches k s t r regs low high q e bounded b (HasNone at x) = undefined_now (Valued w k high e) low regs s r q at x

  pub place_reaches : (checked : Bool) (s : State) (t : Target) (r : Outcome Pointer) (regs : List Value) (low high : ℕ) (q : Did) (e : MonExpression) → Bounded s.store → Beside w s.store s t → Places w checked s t r regs low high q e
      → Reaches w (Placed w checked high e) low regs s r q
  place_reaches checked s t r regs low high q e bounded b (HasPlace p small x after same run has) = Arrives p s after t [] same (later_same s bounded) b x run (small, has)
  place_reaches checked s t r regs low high q e bounded b (HasNoPlace at x) = undefined_now (Placed w checked high e) low regs s r q at x

  pub test_reaches : (s : State) (t : Target) (r : Outcome Value) (regs : List Value) (low high : ℕ) (q : Did) (c : MonExpression) → Bounded s.store → Beside w s.store s t → Tests w s t r regs low high q c
      → Reaches w (Tested w high c) low regs s r q
  test_reaches s t r regs low high q c bounded b (HasTest u x after same run has) = Arrives u s after t [] same (later_same s bounded) b x run has
  test_reaches s t r regs low high q c bounded b (HasNoTest at x) = undefined_now (Tested w high c) low regs s r q at x

  -- ---- statements

  -- what reaches the next statement is followed
  pub reached_follows : (h : Here) (P : Unit {0} → List Value → State → Target → Type 0) (low : ℕ) (regs : List Value) (from : State) (r : Outcome (Unit {0})) (q : Did) → IsKept w low from.marks regs → Reaches w P low regs from r q
      → Follows w h low regs Next from r q
  reached_follows h P low regs from r q kept (Arrives tt s after t o m l b e f p) =
      GoesOn s after t o (stays_same w.plan_from w.plan_to low regs after m) (kept_later w low regs after from s o m l kept).keeps (passes_later from s o l) b e f
  reached_follows h P low regs from r q kept (IsOver x z s o d e l f) = following.IsOver x z s o d e l f
  reached_follows h P low regs from r q kept (IsUndefined at s o e l ext) = following.IsUndefined at s o e l ext

  -- and then statements, which may go on in any way
  pub follows_reached : {A : Type 0} (h : Here) (P : A → List Value → State → Target → Type 0) (low : ℕ) (regs : List Value) (on : List Value → Flow Value) (from : State) (r : Outcome A) (q : Did) (f : A → Evaluation (Unit {0}))
      (g : List Value → Target → Did) → Reaches w P low regs from r q
      → ((a : A) (s : State) (after : List Value) (t : Target) (o : List ℕ) → Same low regs after → Later from s o → Beside w s.store s t → P a after s t → Follows w h low after on s (f a s) (g after t))
      → Follows w h low regs on from (on_outcome r f) (then_do q (at_next g))
  follows_reached h P low regs on from r q f g (Arrives a s after t o m l b e e' p) k =
      subst (λ r. Follows w h low regs on from (on_outcome r f) (then_do q (at_next g))) (sym e)
      (subst (λ q. Follows w h low regs on from (f a s) (then_do q (at_next g))) (sym e')
      (onward_same w h low regs after on from s o (f a s) (g after t) m l (k a s after t o m l b p)))
  follows_reached h P low regs on from r q f g (IsOver x z s o d e l e') k = following.IsOver x z s o d (ap (λ r. on_outcome r f) e) l (ap (λ q. then_do q (at_next g)) e')
  follows_reached h P low regs on from r q f g (IsUndefined at s o e l ext) k =
      following.IsUndefined at s o (ap (λ r. on_outcome r f) e) l (extends_trans o (written q) _ ext (written_then q (at_next g)))

  module _ (n : ℕ) where
    abbrev code_then : MonStatements → List Value → Target → Did
    code_then b regs t = runs w n t b regs

    -- statements after others
    pub reaches_before : {A B : Type 0} (P : A → List Value → State → Target → Type 0) (Q : B → List Value → State → Target → Type 0) (low : ℕ) (regs : List Value) (from : State) (t : Target)
        (r : Outcome A) (a b : MonStatements) (f : A → Evaluation B)
        → Reaches w P low regs from r (runs w n t a regs)
        → ((x : A) (s : State) (after : List Value) (u : Target) (o : List ℕ) → Same low regs after → Later from s o → Beside w s.store s u → P x after s u → Reaches w Q low after s (f x s) (runs w n u b after))
        → Reaches w Q low regs from (on_outcome r f) (runs w n t (before a b) regs)
    reaches_before P Q low regs from t r a b f h k =
        subst (λ q. Reaches w Q low regs from (on_outcome r f) q) (sym (before_is w.globals a b w.calls n regs t))
        (reaches_then P Q low regs from r (runs w n t a regs) f (code_then b) h k)

    -- statements that change registers alone, and what follows
    pub reaches_behind : {A : Type 0} (Q : A → List Value → State → Target → Type 0) (low : ℕ) (regs after : List Value) (s : State) (t : Target) (r : Outcome A) (a b : MonStatements) → Bounded s.store → Same low regs after
        → runs w n t a regs ≡ Done (Next after) t [] → Reaches w Q low after s r (runs w n t b after) → Reaches w Q low regs s r (runs w n t (before a b) regs)
    reaches_behind Q low regs after s t r a b bounded same run h =
        subst (λ q. Reaches w Q low regs s r q) (writes_none (runs w n t b after) ∙ sym (behind_setup w n t a b regs after run))
        (reached_onward Q low regs after s s [] r (runs w n t b after) same (later_same s bounded) h)

    -- what reaches something, and then statements
    pub follows_before : {A : Type 0} (h : Here) (P : A → List Value → State → Target → Type 0) (low : ℕ) (regs : List Value) (on : List Value → Flow Value) (from : State) (t : Target)
        (r : Outcome A) (a b : MonStatements) (f : A → Evaluation (Unit {0}))
        → Reaches w P low regs from r (runs w n t a regs)
        → ((x : A) (s : State) (after : List Value) (u : Target) (o : List ℕ) → Same low regs after → Later from s o → Beside w s.store s u → P x after s u → Follows w h low after on s (f x s) (runs w n u b after))
        → Follows w h low regs on from (on_outcome r f) (runs w n t (before a b) regs)
    follows_before h P low regs on from t r a b f x k =
        subst (λ q. Follows w h low regs on from (on_outcome r f) q) (sym (before_is w.globals a b w.calls n regs t))
        (follows_reached h P low regs on from r (runs w n t a regs) f (code_then b) x k)

    -- statements that change registers alone, and what follows
    pub follows_behind : (h : Here) (low : ℕ) (regs after : List Value) (on : List Value → Flow Value) (s : State) (t : Target) (r : Outcome (Unit {0})) (a b : MonStatements) → Bounded s.store → Same low regs after
        → runs w n t a regs ≡ Done (Next after) t [] → Follows w h low after on s r (runs w n t b after) → Follows w h low regs on s r (runs w n t (before a b) regs)
    follows_behind h low regs after on s t r a b bounded same run x =
        subst (λ q. Follows w h low regs on s r q) (writes_none (runs w n t b after) ∙ sym (behind_setup w n t a b regs after run))
        (onward_same w h low regs after on s s [] r (runs w n t b after) same (later_same s bounded) x)

    -- a condition is tested, after which the target chooses as the source does
    pub test_runs : (high : ℕ) (c : MonExpression) (a b : MonStatements) (v : Value) (regs : List Value) (s : State) (t : Target) → Tested w high c v regs s t
        → (i : ℤ) × (int_eq i (pos 0) ≡ is_zero v) × (runs w n t (one (If c a b)) regs ≡ choose i (runs w n t a regs) (runs w n t b regs))
    test_runs high c a b v regs s t test =
        let is = test regs (same_all high regs) in
        (is.number, is.alike, if_runs w n t c a b regs is.number is.has)
