-- Registers that stay the same and those that are set, and statements one after the other.
use Rattle.std.proofs.Common.{◌≡◌, ℕ, zero, suc, ◌<◌, ◌≤◌, ℤ, pos, Bool, true, false, ◌&&◌, List, [], ◌∷◌, ◌++◌, length, length-set, Some, slice_get, slice_set, refl, sym, ◌∙◌, arith, ap, append_assoc, if◌then◌else◌}
use Rattle.std.proofs.lemmas.List.{append-nil}
use Rattle.std.specs.Ordering.{int_eq}
use Rattle.c_model.specs.Integers.{truth}
use Rattle.c_model.specs.Memory.{Null, Value, Integer, Points}
use Rattle.c_model.proofs.Blocks.{slice_get-slice_set_same, slice_get-slice_set_other}
use Rattle.mon_syntax.specs.declared.tree.MonType.{MonType}
use Rattle.mon_syntax.specs.declared.tree.MonOp.{MonOp}
use Rattle.mon_syntax.specs.Arithmetic.{is_pointer, wrap, operate}
use Rattle.mon_syntax.specs.BlockMemory.{over_blocks, integer_of, pointed_block}
use Rattle.mon_syntax.specs.Meaning.{Result, Done, Stops, Next, Goes, Returns, writes, then_do, at_next, eval, with_value, choose, number_or_none, on_numbers}
use Rattle.mon_syntax.specs.Meaning.{◌>>=◌ as bind}
use Rattle.mon_syntax.specs.Meaning as monitored
use Rattle.mon_syntax.specs.Trees.{MonExpression, Constant, Binary, Cast, Set, If, MonStatements, NoStatement, Then}
use Rattle.mon_syntax.specs.Checking.{same_type}
use Rattle.c_effects.specs.Expressions.{before, one, set, in_type}
use Rattle.c_model.specs.MonitoredRuns.{Final}
use Rattle.annot_simulation.specs.Does.{Target, Did, Setting, runs, with_steps}
use Rattle.c_simulation.specs.SameRegisters.{Same}

-- ---- lists

pub get-some : {A : Type 0} (l : List A) (k : ℕ) → k < length l → (a : A) × (slice_get l k ≡ Some a)
get-some [] k lt = absurd (omega arith)
get-some (b ∷ l) zero lt = (b, refl)
get-some (b ∷ l) (suc k) lt = get-some l k (omega arith)

pub get-set_same : {A : Type 0} (l : List A) (k : ℕ) (a : A) → k < length l → slice_get (slice_set l k a) k ≡ Some a
get-set_same l k a lt = let h = get-some l k lt in slice_get-slice_set_same l k h.0 a h.1

-- ---- registers below a number

pub same_all : (n : ℕ) (regs : List Value) → Same n regs regs
same_all n regs = record { long = refl; below = λ j lt. refl }

pub same_less : (m n : ℕ) (regs after : List Value) → m ≤ n → Same n regs after → Same m regs after
same_less m n regs after le h = record { long = h.long; below = λ j lt. h.below j (omega (arith, lt, le)) }

pub same_trans : (m n : ℕ) (a b c : List Value) → m ≤ n → Same m a b → Same n b c → Same m a c
same_trans m n a b c le h g = record { long = g.long ∙ h.long; below = λ j lt. g.below j (omega (arith, lt, le)) ∙ h.below j lt }

-- a register from n on gets a value
pub same_set : (n r : ℕ) (regs : List Value) (v : Value) → n ≤ r → Same n regs (slice_set regs r v)
same_set n r regs v le = record { long = length-set regs r v; below = λ j lt. slice_get-slice_set_other regs r j v (λ e. omega (arith, e, lt, le)) }

-- ---- what is written

pub writes_none : {S A : Type 0} (q : Result S A) → writes [] q ≡ q
writes_none (Done a s p) = refl
writes_none (Stops e n p) = refl

writes_writes : {S A : Type 0} (o p : List ℕ) (q : Result S A) → writes (o ++ p) q ≡ writes o (writes p q)
writes_writes o p (Done a s r) = ap (Done a s) (append_assoc o p r)
writes_writes o p (Stops e n r) = ap (Stops e n) (append_assoc o p r)

then_writes : {S A B : Type 0} (o : List ℕ) (q : Result S A) (go : A → S → Result S B) → then_do (writes o q) go ≡ writes o (then_do q go)
then_writes o (Done a s p) go = writes_writes o p (go a s)
then_writes o (Stops e n p) go = refl

-- what a part leads to, by way of its rest or at once
rest_first : (q : Did) (whole rest behind : monitored.Does over_blocks) → ((r : List Value) (t : Target) → whole r t ≡ then_do (rest r t) (at_next behind))
    → then_do q (at_next whole) ≡ then_do (then_do q (at_next rest)) (at_next behind)
rest_first (Done (Next r) t o) whole rest behind h = ap (writes o) (h r t) ∙ sym (then_writes o (rest r t) (at_next behind))
rest_first (Done (Goes l r) t o) whole rest behind h = sym (ap (Done (Goes l r) t) (append-nil (o ++ [])))
rest_first (Done (Returns v) t o) whole rest behind h = sym (ap (Done (Returns v) t) (append-nil (o ++ [])))
rest_first (Stops e n o) whole rest behind h = refl

module _ (w : Setting) where
  -- ---- statements

  pub before_is : (a b : MonStatements) (regs : List Value) (t : Target)
      → monitored.exec_all over_blocks w.globals (before a b) w.calls w.turns regs t ≡ then_do (monitored.exec_all over_blocks w.globals a w.calls w.turns regs t) (at_next (monitored.exec_all over_blocks w.globals b w.calls w.turns))
  before_is NoStatement b regs t = sym (writes_none (monitored.exec_all over_blocks w.globals b w.calls w.turns regs t))
  before_is (Then a rest) b regs t =
      rest_first (monitored.exec over_blocks w.globals a w.calls w.turns regs t) (monitored.exec_all over_blocks w.globals (before rest b) w.calls w.turns) (monitored.exec_all over_blocks w.globals rest w.calls w.turns)
      (monitored.exec_all over_blocks w.globals b w.calls w.turns) (λ r t. before_is rest b r t)

  pub after_runs : (a b : MonStatements) (regs after : List Value) → runs w a regs ≡ Done (Next after) w.target [] → runs w (before a b) regs ≡ runs w b after
  after_runs a b regs after e =
      before_is a b regs w.target
      ∙ ap (λ q. then_do q (at_next (monitored.exec_all over_blocks w.globals b w.calls w.turns))) e
      ∙ writes_none (runs w b after)

  -- the same where steps were taken
  pub after_to : (k : ℕ) (a b : MonStatements) (regs after : List Value) → runs w a regs ≡ Done (Next after) (record w.target { steps = k }) [] → runs w (before a b) regs ≡ runs (with_steps k w) b after
  after_to k a b regs after e =
      before_is a b regs w.target
      ∙ ap (λ q. then_do q (at_next (monitored.exec_all over_blocks w.globals b w.calls w.turns))) e
      ∙ writes_none (runs (with_steps k w) b after)

  -- where code stops, nothing behind it is done
  pub stopped : (a b : MonStatements) (regs : List Value) (e : Final) (k : ℕ) → runs w a regs ≡ Stops e k [] → runs w (before a b) regs ≡ Stops e k []
  stopped a b regs e k h = before_is a b regs w.target ∙ ap (λ q. then_do q (at_next (monitored.exec_all over_blocks w.globals b w.calls w.turns))) h

  -- the expression has this number
  abbrev pub HasNumber : MonExpression → List Value → ℤ → Type 0
  HasNumber e regs z = eval over_blocks w.globals e regs w.target.mem ≡ Some (Integer z)

  pub set_first : (r : ℕ) (e : MonExpression) (b : MonStatements) (regs : List Value) (z : ℤ) → HasNumber e regs z → runs w (Then (Set r e) b) regs ≡ runs w b (slice_set regs r (Integer z))
  set_first r e b regs z h =
      ap (λ q. then_do (with_value q w.target.steps (λ v. Done (Next (slice_set regs r v)) w.target [])) (at_next (monitored.exec_all over_blocks w.globals b w.calls w.turns))) h
      ∙ writes_none (runs w b (slice_set regs r (Integer z)))

  pub set_runs : (r : ℕ) (e : MonExpression) (regs : List Value) (z : ℤ) → HasNumber e regs z → runs w (set r e) regs ≡ Done (Next (slice_set regs r (Integer z))) w.target []
  set_runs r e regs z h = set_first r e NoStatement regs z h

  pub last_is : (q : Did) → then_do q (at_next (λ r t. Done (Next r) t [])) ≡ q
  last_is (Done (Next r) t o) = ap (Done (Next r) t) (append-nil o)
  last_is (Done (Goes l r) t o) = ap (Done (Goes l r) t) (append-nil o)
  last_is (Done (Returns v) t o) = ap (Done (Returns v) t) (append-nil o)
  last_is (Stops e n o) = refl

  pub if_runs : (e : MonExpression) (a b : MonStatements) (regs : List Value) (z : ℤ) → HasNumber e regs z → runs w (one (If e a b)) regs ≡ choose z (runs w a regs) (runs w b regs)
  if_runs e a b regs z h =
      last_is (monitored.exec over_blocks w.globals (If e a b) w.calls w.turns regs w.target)
      ∙ ap (λ q. with_value (bind q integer_of) w.target.steps (λ i. choose i (runs w a regs) (runs w b regs))) h

  pub if_true : (e : MonExpression) (a b : MonStatements) (regs : List Value) → HasNumber e regs (truth true) → runs w (one (If e a b)) regs ≡ runs w a regs
  if_true e a b regs h = if_runs e a b regs (pos 1) h

  pub if_false : (e : MonExpression) (a b : MonStatements) (regs : List Value) → HasNumber e regs (truth false) → runs w (one (If e a b)) regs ≡ runs w b regs
  if_false e a b regs h = if_runs e a b regs (pos 0) h

  -- ---- expressions

  -- an operator on two values
  pub operation : (op : MonOp) (t : MonType) (a b : MonExpression) (regs : List Value) (x y z : ℤ) → is_pointer t ≡ false → HasNumber a regs x → HasNumber b regs y → operate op t x y ≡ Some z → HasNumber (Binary op t a b) regs z
  operation op t a b regs x y z plain e f g =
      ap (λ q. bind q (λ u. bind (eval over_blocks w.globals b regs w.target.mem) (λ v. if is_pointer t then pointed_block op u v w.target.mem else on_numbers over_blocks op t u v))) e
      ∙ ap (λ q. bind q (λ v. if is_pointer t then pointed_block op (Integer x) v w.target.mem else on_numbers over_blocks op t (Integer x) v)) f
      ∙ ap (λ p. if p then pointed_block op (Integer x) (Integer y) w.target.mem else on_numbers over_blocks op t (Integer x) (Integer y)) plain
      ∙ ap (number_or_none over_blocks) g

  pub constant_has : (t : MonType) (z : ℤ) (regs : List Value) → is_pointer t ≡ false → HasNumber (Constant t z) regs z
  constant_has t z regs plain = ap (λ p. Some (if p && int_eq z (pos 0) then Points Null else Integer z)) plain

  pub cast_has : (to : MonType) (e : MonExpression) (regs : List Value) (z y : ℤ) → wrap to z ≡ y → HasNumber e regs z → HasNumber (Cast to e) regs y
  cast_has to e regs z y f h = ap (λ q. bind q (λ x. bind (integer_of x) (λ i. Some (Integer (wrap to i))))) h ∙ ap (λ v. Some (Integer v)) f

  -- a value that the second type has
  pub in_type_has : (from to : MonType) (e : MonExpression) (regs : List Value) (z : ℤ) → wrap to z ≡ z → HasNumber e regs z → HasNumber (in_type from to e) regs z
  in_type_has from to e regs z f h = by (same_type from to)
    where
      by : (t : Bool) → HasNumber (if t then e else Cast to e) regs z
      by true = h
      by false = cast_has to e regs z z f h
