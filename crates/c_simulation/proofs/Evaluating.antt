-- How the translation of an expression follows it, and how this goes on from part to part: the statements before a value change
-- temporary registers alone, and then the value is the source's.
use Rattle.std.proofs.Common.{◌≡◌, ℕ, suc, ◌<◌, ◌≤◌, ℤ, pos, Bool, true, false, cond, List, [], length, if◌then◌else◌, sym, ap, ◌∙◌, subst, arith}
use Rattle.std.specs.Ordering.{int_eq}
use Rattle.std.specs.Prelude.{slice_set}
use Rattle.c_syntax.specs.declared.place.Place.{Place}
use Rattle.c_syntax.specs.Layouts.{Scalar}
use Rattle.c_model.specs.Memory.{Pointer, Value, Integer, Points}
use Rattle.c_model.specs.State.{State, Outcome, Normal, Stop, Over, Undefined, Evaluation, on_outcome, ◌>>=◌}
use Rattle.c_model.specs.Meaning.{choose, is_zero}
use Rattle.mon_syntax.specs.Meaning.{Done, Next, then_do, at_next, with_value}
use Rattle.mon_syntax.specs.Meaning.{◌>>=◌ as bind}
use Rattle.mon_syntax.specs.Meaning as monitored
use Rattle.mon_syntax.specs.BlockMemory.{integer_of, over_blocks}
use Rattle.mon_syntax.specs.Trees.{MonExpression, Register, Set, MonStatements}
use Rattle.mon_syntax.specs.Trees as tree
use Rattle.c_effects.specs.Expressions.{before, one, set}
use Rattle.c_simulation.specs.SameRegisters.{Same}
use Rattle.c_simulation.proofs.Results.{one_is, before_is, writes_none}
use Rattle.c_simulation.specs.Standing.{Setting, Target, Did, runs, Has, IsSmall, IsOf}
use Rattle.c_simulation.specs.Following.{Evaluates, HasValue, HasNone, Places, HasPlace, HasNoPlace, Tests, HasTest, HasNoTest}
use Rattle.c_simulation.proofs.Registers.{same_all, same_less, same_trans, same_set, get-set_same}

-- registers below a lower number stay too
pub lower_same : (w : Setting) (k : Scalar) (s : State) (t : Target) (r : Outcome Value) (regs : List Value) (low least high : ℕ) (q : Did) (e : MonExpression) → least ≤ low → Evaluates w k s t r regs low high q e
    → Evaluates w k s t r regs least high q e
lower_same w k s t r regs low least high q e le (HasNone at x) = HasNone at x
lower_same w k s t r regs low least high q e le (HasValue v fit x after same run has) = HasValue v fit x after (same_less least low regs after le same) run has

module _ (w : Setting) (n : ℕ) (t : Target) where
  -- ---- statements after others

  pub behind_setup : (a b : MonStatements) (regs after : List Value) → runs w n t a regs ≡ Done (Next after) t [] → runs w n t (before a b) regs ≡ runs w n t b after
  behind_setup a b regs after e =
      before_is w.globals a b w.calls n regs t
      ∙ ap (λ q. then_do q (at_next (monitored.exec_all over_blocks w.globals b w.calls n))) e
      ∙ writes_none (runs w n t b after)

  pub set_runs : (r : ℕ) (e : MonExpression) (regs : List Value) (v : Value) → Has w e regs t.mem v → runs w n t (set r e) regs ≡ Done (Next (slice_set regs r v)) t []
  set_runs r e regs v h =
      one_is w.globals (Set r e) w.calls n regs t
      ∙ ap (λ q. with_value q t.steps (λ v. Done (Next (slice_set regs r v)) t [])) h

  pub if_runs : (e : MonExpression) (a b : MonStatements) (regs : List Value) (z : ℤ) → Has w e regs t.mem (Integer z) → runs w n t (one (tree.If e a b)) regs ≡ monitored.choose z (runs w n t a regs) (runs w n t b regs)
  if_runs e a b regs z h =
      one_is w.globals (tree.If e a b) w.calls n regs t
      ∙ ap (λ q. with_value (bind q integer_of) t.steps (λ i. monitored.choose i (runs w n t a regs) (runs w n t b regs))) h

  module _ (s : State) where
    abbrev pub Evaluated : Scalar → Outcome Value → List Value → ℕ → ℕ → Did → MonExpression → Type 0
    Evaluated k r regs low high q e = Evaluates w k s t r regs low high q e

    -- an expression, and what follows its value
    pub onward_value : (k l : Scalar) (r : Outcome Value) (f : Value → Evaluation Value) (regs : List Value) (low mid high : ℕ) (a b : MonStatements) (e e' : MonExpression) → low ≤ mid → Evaluated k r regs low mid (runs w n t a regs) e
        → ((v : Value) → IsOf k v → (after : List Value) → Same low regs after → ((later : List Value) → Same mid after later → Has w e later t.mem v) → Evaluated l (f v s) after mid high (runs w n t b after) e')
        → Evaluated l (on_outcome r f) regs low high (runs w n t (before a b) regs) e'
    onward_value k l r f regs low mid high a b e e' le (HasNone at x) go = HasNone at (ap (λ r. on_outcome r f) x)
    onward_value k l r f regs low mid high a b e e' le (HasValue u fit x after same run has) go = by (go u fit after same has)
      where
        by : Evaluated l (f u s) after mid high (runs w n t b after) e' → Evaluated l (on_outcome r f) regs low high (runs w n t (before a b) regs) e'
        by (HasNone at y) = HasNone at (ap (λ r. on_outcome r f) x ∙ y)
        by (HasValue v fit2 y after2 same2 run2 has2) =
            HasValue v fit2 (ap (λ r. on_outcome r f) x ∙ y) after2 (same_trans low mid regs after after2 le same same2) (behind_setup a b regs after run ∙ run2) has2

    -- two expressions, one after the other
    pub data Pair (k l : Scalar) (r : Outcome Value) (m : Evaluation Value) (regs : List Value) (low high : ℕ) (q : Did) (x y : MonExpression) : Type 0 where
      HasBoth : (i j : Value) → IsOf k i → IsOf l j → r ≡ Normal i s → m s ≡ Normal j s → (after : List Value) → Same low regs after → q ≡ Done (Next after) t []
          → ((later : List Value) → Same high after later → Has w x later t.mem i × Has w y later t.mem j) → Pair k l r m regs low high q x y
      HasNoLeft : (at : Place) → r ≡ Stop (Over (Undefined at)) s → Pair k l r m regs low high q x y
      HasNoRight : (i : Value) (at : Place) → r ≡ Normal i s → m s ≡ Stop (Over (Undefined at)) s → Pair k l r m regs low high q x y

    pub pairs : (k l : Scalar) (r : Outcome Value) (m : Evaluation Value) (regs : List Value) (low mid high : ℕ) (a b : MonStatements) (x y : MonExpression) → low ≤ mid → mid ≤ high → Evaluated k r regs low mid (runs w n t a regs) x
        → ((after : List Value) → Same low regs after → Evaluated l (m s) after mid high (runs w n t b after) y) → Pair k l r m regs low high (runs w n t (before a b) regs) x y
    pairs k l r m regs low mid high a b x y le le2 (HasNone at e) go = HasNoLeft at e
    pairs k l r m regs low mid high a b x y le le2 (HasValue i fit e after same run has) go = by (go after same)
      where
        by : Evaluated l (m s) after mid high (runs w n t b after) y → Pair k l r m regs low high (runs w n t (before a b) regs) x y
        by (HasNone at f) = HasNoRight i at e f
        by (HasValue j fit2 f after2 same2 run2 has2) =
            HasBoth i j fit fit2 e f after2 (same_trans low mid regs after after2 le same same2) (behind_setup a b regs after run ∙ run2)
            (λ later same3. (has later (same_trans mid high after after2 later le2 same2 same3), has2 later same3))

    -- what is made of a value, without further statements
    pub data Makes (l : Scalar) (o : Outcome Value) (P : List Value → Type 0) (e' : MonExpression) : Type 0 where
      MakesValue : (v : Value) → IsOf l v → o ≡ Normal v s → ((later : List Value) → P later → Has w e' later t.mem v) → Makes l o P e'
      MakesNone : (at : Place) → o ≡ Stop (Over (Undefined at)) s → Makes l o P e'

    pub changed : (k l : Scalar) (r : Outcome Value) (f : Value → Evaluation Value) (regs : List Value) (low high : ℕ) (q : Did) (e e' : MonExpression) → Evaluated k r regs low high q e
        → ((v : Value) → IsOf k v → (after : List Value) → Same low regs after → Makes l (f v s) (λ later. Same high after later × Has w e later t.mem v) e') → Evaluated l (on_outcome r f) regs low high q e'
    changed k l r f regs low high q e e' (HasNone at x) go = HasNone at (ap (λ r. on_outcome r f) x)
    changed k l r f regs low high q e e' (HasValue u fit x after same run has) go = by (go u fit after same)
      where
        by : Makes l (f u s) (λ later. Same high after later × Has w e later t.mem u) e' → Evaluated l (on_outcome r f) regs low high q e'
        by (MakesNone at y) = HasNone at (ap (λ r. on_outcome r f) x ∙ y)
        by (MakesValue v fit2 y has2) = HasValue v fit2 (ap (λ r. on_outcome r f) x ∙ y) after same run (λ later sm. has2 later (sm, has later sm))

    -- what is made of two
    pub changed_pair : (k l m : Scalar) (r : Outcome Value) (right : Evaluation Value) (f : Value → Value → Evaluation Value) (regs : List Value) (low high : ℕ) (q : Did) (x y e : MonExpression) → Pair k l r right regs low high q x y
        → ((i j : Value) → IsOf k i → IsOf l j → Makes m (f i j s) (λ later. Has w x later t.mem i × Has w y later t.mem j) e) → Evaluated m (on_outcome r (λ i. right >>= λ j. f i j)) regs low high q e
    changed_pair k l m r right f regs low high q x y e (HasNoLeft at g) go = HasNone at (ap (λ r. on_outcome r (λ i. right >>= λ j. f i j)) g)
    changed_pair k l m r right f regs low high q x y e (HasNoRight i at g h) go = HasNone at (ap (λ r. on_outcome r (λ i. right >>= λ j. f i j)) g ∙ ap (λ r. on_outcome r (λ j. f i j)) h)
    changed_pair k l m r right f regs low high q x y e (HasBoth i j fit fit2 g h after same run has) go = by (go i j fit fit2)
      where
        leads : on_outcome r (λ i. right >>= λ j. f i j) ≡ f i j s
        leads = ap (λ r. on_outcome r (λ i. right >>= λ j. f i j)) g ∙ ap (λ r. on_outcome r (λ j. f i j)) h

        by : Makes m (f i j s) (λ later. Has w x later t.mem i × Has w y later t.mem j) e → Evaluated m (on_outcome r (λ i. right >>= λ j. f i j)) regs low high q e
        by (MakesNone at d) = HasNone at (leads ∙ d)
        by (MakesValue v fit3 d has2) = HasValue v fit3 (leads ∙ d) after same run (λ later same2. has2 later (has later same2))

    -- a place that is made of two
    pub data MakesAt (o : Outcome Pointer) (P : List Value → Type 0) (e : MonExpression) : Type 0 where
      MakesPlace : (p : Pointer) → IsSmall p → o ≡ Normal p s → ((later : List Value) → P later → Has w e later t.mem (Points p)) → MakesAt o P e
      MakesNoPlace : (at : Place) → o ≡ Stop (Over (Undefined at)) s → MakesAt o P e

    pub placed_pair : (k l : Scalar) (r : Outcome Value) (right : Evaluation Value) (f : Value → Value → Evaluation Pointer) (regs : List Value) (low high : ℕ) (q : Did) (x y e : MonExpression) → Pair k l r right regs low high q x y
        → ((i j : Value) → IsOf k i → IsOf l j → MakesAt (f i j s) (λ later. Has w x later t.mem i × Has w y later t.mem j) e) → Places w false s t (on_outcome r (λ i. right >>= λ j. f i j)) regs low high q e
    placed_pair k l r right f regs low high q x y e (HasNoLeft at g) go = HasNoPlace at (ap (λ r. on_outcome r (λ i. right >>= λ j. f i j)) g)
    placed_pair k l r right f regs low high q x y e (HasNoRight i at g h) go = HasNoPlace at (ap (λ r. on_outcome r (λ i. right >>= λ j. f i j)) g ∙ ap (λ r. on_outcome r (λ j. f i j)) h)
    placed_pair k l r right f regs low high q x y e (HasBoth i j fit fit2 g h after same run has) go = by (go i j fit fit2)
      where
        leads : on_outcome r (λ i. right >>= λ j. f i j) ≡ f i j s
        leads = ap (λ r. on_outcome r (λ i. right >>= λ j. f i j)) g ∙ ap (λ r. on_outcome r (λ j. f i j)) h

        by : MakesAt (f i j s) (λ later. Has w x later t.mem i × Has w y later t.mem j) e → Places w false s t (on_outcome r (λ i. right >>= λ j. f i j)) regs low high q e
        by (MakesNoPlace at d) = HasNoPlace at (leads ∙ d)
        by (MakesPlace p small d has2) = HasPlace p (λ c. small) (leads ∙ d) after same run (λ inside later same2. has2 later (has later same2))

    -- ---- temporary registers

    -- a value in a temporary register
    pub stored : (l : Scalar) (o : Outcome Value) (regs : List Value) (mid r : ℕ) (e' : MonExpression) (v : Value) → r < length regs → mid ≤ r → IsOf l v → o ≡ Normal v s → Has w e' regs t.mem v
        → Evaluated l o regs mid (suc r) (runs w n t (set r e') regs) (Register r)
    stored l o regs mid r e' v lt le fit x h =
        HasValue v fit x (slice_set regs r v) (same_set mid r regs v le) (set_runs r e' regs v h)
        (λ later same. same.below r (omega arith) ∙ get-set_same regs r v lt)

    -- the value of an expression in a temporary register, or what is made of it
    pub then_stored : (k l : Scalar) (r : Outcome Value) (f : Value → Evaluation Value) (regs : List Value) (low mid u : ℕ) (a : MonStatements) (e e' : MonExpression) → low ≤ mid → mid ≤ u → u < length regs
        → Evaluated k r regs low mid (runs w n t a regs) e → ((v : Value) → IsOf k v → (later : List Value) → Has w e later t.mem v → (v2 : Value) × IsOf l v2 × (f v s ≡ Normal v2 s) × Has w e' later t.mem v2)
        → Evaluated l (on_outcome r f) regs low (suc u) (runs w n t (before a (set u e')) regs) (Register u)
    then_stored k l r f regs low mid u a e e' le lt long h go =
        onward_value k l r f regs low mid (suc u) a (set u e') e (Register u) le h (λ v fit after same has.
        let m = go v fit after (has after (same_all mid after)) in
        stored l (f v s) after mid u e' m.0 (omega (arith, same.long)) lt m.1 m.2 m.3)

    -- 0 chooses the second on both sides
    pub chosen : (l : Scalar) (v : Value) (z : ℤ) (a b : Evaluation Value) (regs : List Value) (low high : ℕ) (p q : Did) (e : MonExpression) → int_eq z (pos 0) ≡ is_zero v → Evaluated l (a s) regs low high p e
        → Evaluated l (b s) regs low high q e → Evaluated l (choose v a b s) regs low high (monitored.choose z p q) e
    chosen l v z a b regs low high p q e same h g =
        subst (λ t. Evaluated l (choose v a b s) regs low high (if t then q else p) e) (sym same) (by (is_zero v))
      where
        by : (t : Bool) → Evaluated l (cond t b a s) regs low high (if t then q else p) e
        by true = g
        by false = h

    -- the condition of an `if`, and a temporary register that both its parts set
    pub through_if : (l : Scalar) (r : Outcome Value) (x y : Evaluation Value) (regs : List Value) (low mid high : ℕ) (a b c : MonStatements) (test e : MonExpression) → low ≤ mid → Tests w s t r regs low mid (runs w n t a regs) test
        → ((after : List Value) → Same low regs after → Evaluated l (x s) after mid high (runs w n t b after) e) → ((after : List Value) → Same low regs after → Evaluated l (y s) after mid high (runs w n t c after) e)
        → Evaluated l (on_outcome r (λ v. choose v x y)) regs low high (runs w n t (before a (one (tree.If test b c))) regs) e
    through_if l r x y regs low mid high a b c test e le (HasNoTest at f) go on = HasNone at (ap (λ r. on_outcome r (λ v. choose v x y)) f)
    through_if l r x y regs low mid high a b c test e le (HasTest u f after same run tested) go on =
        let i = tested after (same_all mid after) in
        by (subst (λ q. Evaluated l (choose u x y s) after mid high q e) (sym (if_runs test b c after i.number i.has))
        (chosen l u i.number x y after mid high (runs w n t b after) (runs w n t c after) e i.alike (go after same) (on after same)))
      where
        by : Evaluated l (choose u x y s) after mid high (runs w n t (one (tree.If test b c)) after) e → Evaluated l (on_outcome r (λ v. choose v x y)) regs low high (runs w n t (before a (one (tree.If test b c))) regs) e
        by (HasNone at g) = HasNone at (ap (λ r. on_outcome r (λ v. choose v x y)) f ∙ g)
        by (HasValue v fit g after2 same2 run2 has2) =
            HasValue v fit (ap (λ r. on_outcome r (λ v. choose v x y)) f ∙ g) after2 (same_trans low mid regs after after2 le same same2) (behind_setup a (one (tree.If test b c)) regs after run ∙ run2) has2
