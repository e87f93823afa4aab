-- A call of a function with a contract, from where its parameters live and the label `Pre` was passed: what the contract asks at the beginning, the body, what
-- it asks at the end, the deaths of the parameters, and what the call gives.
use Rattle.std.proofs.Common.{◌≡◌, ◌⊎◌, inl, inr, ℕ, suc, ◌+◌, ◌<◌, ◌≤◌, Bool, List, [], ◌∷◌, ◌++◌, length, append_assoc, Option, Some, None, slice_get, refl, sym, ap, ◌∙◌, subst, arith}
use Rattle.std.proofs.lemmas.List.{append-nil}
use Rattle.c_syntax.specs.declared.place.Place.{Place}
use Rattle.c_syntax.specs.Ctypes.{PlainType, Void, Int, Ptr, Array, Struct, Named, StructTag, EnumTag}
use Rattle.c_syntax.specs.Layouts.{Scalar, scalar_of}
use Rattle.c_syntax.specs.Programs.{FunctionContract, Function}
use Rattle.c_model.specs.ContractChecks.{all_checked, all_hold, entry_checks, leave_checks, result_is, entry, ending}
use Rattle.c_model.specs.Memory.{Value, NoValue, kill_from}
use Rattle.c_model.specs.Meaning.{returned_by, at_close}
use Rattle.c_model.specs.MonitoredRuns.{machine_end}
use Rattle.c_model.specs.MonitoredRuns as machine
use Rattle.c_model.specs.Reports.{Extends}
use Rattle.c_model.specs.State.{State, Scope, Final, Leaves, Returns, Over, Undefined, Outcome, Normal, Stop, stop, Evaluation, on_outcome, ◌>>=◌, ◌>>◌, done, give, answered, back_from_call}
use Rattle.c_model.proofs.Agreement.{extends_trans}
use Rattle.mon_syntax.specs.Registers.{Bindings}
use Rattle.mon_syntax.specs.Meaning.{Result, Done, Stops, Flow, Next, Goes, writes, then_do, at_next, at_label, at_return, left_frame, zero_result, exec_all, with_value}
use Rattle.mon_syntax.specs.Meaning as monitored
use Rattle.mon_syntax.specs.BlockMemory.{over_blocks}
use Rattle.mon_syntax.specs.LiveBlocks.{LiveBlock, live_in}
use Rattle.mon_syntax.specs.Trees.{MonStatements, NoStatement, Then, Labelled}
use Rattle.mon_syntax.specs.Trees as tree
use Rattle.c_effects.specs.Expressions.{before, one}
use Rattle.track_scopes.specs.Blocks.{deaths}
use Rattle.track_scopes.specs.Lives as lives
use Rattle.track_scopes.specs.Lives.{AreFrom, AreBefore, with_store}
pub use Rattle.annot_simulation.specs.ContractDoes.{Flagged}
use Rattle.instrument.specs.Translation.{Spot, outermost, result_of, last_return}
use Rattle.c_simulation.specs.Keeping.{Kept, StandBelow}
use Rattle.c_simulation.specs.Labels.{leave_label}
use Rattle.c_simulation.specs.SameRegisters.{Stays}
use Rattle.c_simulation.specs.Standing.{Target, Did, Setting, runs, Keeps, Here, Beside, IsAnchored, InRegister, AtGlobal, Anchored}
use Rattle.c_simulation.specs.Following.{Later, Passes, IsResult, IsResultOf, HoldsResult, Follows, GoesOn, Breaks, Continues, IsLeft, IsOver, IsUndefined, written}
use Rattle.c_simulation.proofs.Results.{writes_none, written_then, before_is, one_is}
use Rattle.c_simulation.proofs.Registers.{same_all, keeps_same, stays_same}
use Rattle.c_simulation.proofs.Following.{later_same, passes_later, passes_trans}
use Rattle.c_simulation.proofs.Calls.{Even, Called, EndsRun, HasNoMeaning, value_of}
use Rattle.c_simulation.proofs.Calls as calls
use Rattle.instrument.proofs.Births.{pointed_point, pointed_same}
use Rattle.instrument.proofs.Blocks.{Meets, meets_after}
use Rattle.instrument.proofs.Deaths.{all_before, kill_none}
use Rattle.instrument.proofs.CallEnds.{at_body, zero_of, came_back, even_there}

-- ---- flags of behaviors

-- they stay as long as their registers do
pub flagged_same : (h : ℕ) (hs : List Bool) (regs after : List Value) → ((j : ℕ) → h ≤ j → j < h + length hs → slice_get after j ≡ slice_get regs j) → Flagged h hs regs → Flagged h hs after
flagged_same h [] regs after same f = tt
flagged_same h (b ∷ hs) regs after same f = (
  same h (omega arith) (omega arith) ∙ f.0,
  flagged_same (suc h) hs regs after (λ j le lt. same j (omega (arith, le)) (omega (arith, lt))) f.1,
)

-- What checks of a contract do on both sides: they go on with the behaviors that hold then, whose flags say so, or one stops the run. Of the registers
-- below `low` only the flags change, which stand from h on and below m.
pub data ChecksDo (h m low : ℕ) (regs : List Value) (s : State) (t : Target) (r : Outcome (List Bool)) (q : Did) : Type 0 where
  ChecksPass : (k : ℕ) (held : List Bool) (after : List Value) → k ≤ s.steps → h + length held ≡ m → Flagged h held after → Stays h m low regs after
      → r ≡ Normal held (record s { steps = k }) → q ≡ Done (Next after) (record t { steps = k }) [] → ChecksDo h m low regs s t r q
  ChecksStop : (e : Final) (z : machine.Final) (k : ℕ) → machine_end e ≡ Some z → r ≡ Stop (Over e) (record s { steps = k }) → q ≡ Stops z k []
      → ChecksDo h m low regs s t r q

-- ---- the plan

pub below_more : (n m : ℕ) (ks : List Kept) → n ≤ m → StandBelow n ks → StandBelow m ks
below_more n m [] le h = tt
below_more n m (k ∷ ks) le h = (omega (arith, le, h.0), below_more n m ks le h.1)

-- what was done before is in front
written_first : (from s to : State) (o p : List ℕ) → Passes from s o → to.output ≡ s.output ++ p → to.output ≡ from.output ++ (o ++ p)
written_first from s to o p l e = e ∙ ap (λ x. x ++ p) l.output ∙ append_assoc from.output o p

-- fewer steps are left
pub passes_fewer : (from s : State) (o : List ℕ) (k : ℕ) → k ≤ s.steps → Passes from s o → Passes from (record s { steps = k }) o
passes_fewer from s o k le l =
    record { scope = l.scope; calls = l.calls; live = l.live; longer = l.longer; bounded = l.bounded; spent = omega (arith, le, l.spent); output = l.output; marks = refl }

pub beside_fewer : (w : Setting) (s : State) (t : Target) (k : ℕ) → Beside w s.store s t → Beside w s.store (record s { steps = k }) (record t { steps = k })
beside_fewer w s t k b = record { store_is = b.store_is; frames = b.frames; steps = refl; input = b.input }

-- ---- the body

-- The setting of a body whose contract is checked behind it: it begins where so many blocks were born, and what it gives goes into the register r. The flags
-- of behaviors, from h on, are none of its registers.
abbrev pub inside : Setting → ℕ → ℕ → State → Setting
inside w r h s = record w { base = length s.store; around = live_in s.store; plan_to = h; result = Some r }

abbrev pub here_inside : State → PlainType → Here
here_inside s result = at_body (length s.store) [] result

module _ (w : Setting) (r h low : ℕ) where
  -- what a body comes to, with the label behind it: what it gives stands in its register
  pub data Answers (f : Function) (from : State) (regs : List Value) (x : Outcome Value) (q : Did) : Type 0 where
    Answer : (z : Option Value) (to : State) (after : List Value) (t : Target) (o : List ℕ) → IsResult f.result z → Stays w.plan_from h low regs after → Keeps w.plan to.marks after
        → HoldsResult (Some r) z after → Passes from to o → Beside w to.store to t → x ≡ Normal (value_of z) to → q ≡ Done (Next after) t o → Answers f from regs x q
    EndsHere : (e : Final) (z : machine.Final) (to : State) (o : List ℕ) → machine_end e ≡ Some z → x ≡ Stop (Over e) to → to.output ≡ from.output ++ o → q ≡ Stops z to.steps o
        → Answers f from regs x q
    NoAnswer : (at : Place) (to : State) (o : List ℕ) → x ≡ Stop (Over (Undefined at)) to → to.output ≡ from.output ++ o → Extends o (written q) → Answers f from regs x q

module _ (w : Setting) (r h low : ℕ) (planned : StandBelow r w.plan) (from_there : w.plan_from ≤ r) (lt : r < h) (within : h ≤ w.plan_to) where
  anchored_inside : (bound : Bindings) (regs : List Value) (s : State) (scope : Scope) → Anchored w low bound regs scope → Anchored (inside w r h s) low bound regs scope
  anchored_inside bound regs s scope a x number e = let i = a x number e in record { own = i.own; anchor = of_anchor i.anchor }
    where
      of_anchor : IsAnchored w low bound regs x number → IsAnchored (inside w r h s) low bound regs x number
      of_anchor (InRegister k is_bound below behind points) = InRegister k is_bound below (omega (arith, behind, within)) points
      of_anchor (AtGlobal free is_global points) = AtGlobal free is_global points

  -- where the body begins
  pub meets_inside : (here : Here) (spot : Spot) (bound : Bindings) (living : List ℕ) (result : PlainType) (regs : List Value) (s : State) (t : Target) → Meets w here spot low bound living regs s t
      → Meets (inside w r h s) (here_inside s result) (outermost (Some r) []) low bound living regs s t
  meets_inside here spot bound living result regs s t m = record {
    standing = record {
      anchored = anchored_inside bound regs s s.scope m.standing.anchored;
      active = m.standing.active;
      live = refl;
      since_left = tt;
      before_left = all_before s.store;
      since_loop = tt;
      before_loop = all_before s.store;
      since_call = tt;
      before_call = all_before s.store;
      nested = omega arith;
      deeper = omega arith;
      longer = omega arith;
      bounded = m.standing.bounded;
      registers = m.standing.registers;
      kept = record {
        below = omega (arith, within, m.standing.kept.below);
        planned = below_more r h w.plan (omega (arith, lt)) planned;
        given = (planned, from_there, lt);
        keeps = m.standing.kept.keeps;
      };
    };
    beside = record { store_is = m.beside.store_is; frames = m.beside.frames; steps = m.beside.steps; input = m.beside.input };
    inside = tt;
    between = tt;
    outside = tt;
    names = m.names;
    result = refl;
  }

  module _ (f : Function) (from : State) (regs : List Value) where
    abbrev labelled : Did → Did
    labelled q = then_do q (at_label leave_label)

    -- the blocks that live where the body begins live behind it, and no others do
    pub beside_behind : (to : State) (o : List ℕ) (t : Target) → Passes from to o → Beside (inside w r h from) (kill_from (length from.store) to.store) to t → Beside w to.store to t
    beside_behind to o t l b = record {
      store_is = b.store_is ∙ kill_none (length from.store) to.store (subst (AreBefore (length from.store)) (sym l.live) (all_before from.store));
      frames = b.frames;
      steps = b.steps;
      input = b.input;
    }

    pub body_answers : (x : Outcome (Unit {0})) (q : Did) → Follows (inside w r h from) (here_inside from f.result) low regs Next from x q → Answers w r h low f from regs (returned_by f x) (labelled q)
    body_answers x q (GoesOn to after t o same keeps l b e g) =
        subst (λ y. Answers w r h low f from regs (returned_by f y) (labelled q)) (sym e) (by (scalar_of f.result) refl)
      where
        goes : labelled q ≡ Done (Next after) t o
        goes = ap labelled g ∙ ap (Done (Next after) t) (append-nil o)

        by : (k : Option Scalar) → scalar_of f.result ≡ k → Answers w r h low f from regs (at_close f.close f.result to) (labelled q)
        by None k =
            Answer None to after t o (subst (λ u. IsResultOf u None) (sym k) tt) same keeps tt l (record { store_is = b.store_is; frames = b.frames; steps = b.steps; input = b.input })
            (ap (λ u. (elim u as (λ _. Evaluation Value) [ None ↦ give NoValue | Some i ↦ stop (Over (Undefined f.close)) ]) to) k) goes
        by (Some i) k =
            NoAnswer f.close to o (ap (λ u. (elim u as (λ _. Evaluation Value) [ None ↦ give NoValue | Some i ↦ stop (Over (Undefined f.close)) ]) to) k) l.output
            (record { rest = []; is = ap written goes ∙ sym (append-nil o) })
    body_answers x q (Breaks to after t o i m keeps l b e g) = absurd cc
    body_answers x q (Continues to after t o i m keeps l b e g) = absurd cc
    body_answers x q (IsLeft z to after t o i same keeps holds l b e g) =
        Answer z to after t o i same keeps holds l (beside_behind to o t l b) (ap (returned_by f) e ∙ by z) (ap labelled g ∙ ap (Done (Next after) t) (append-nil o))
      where
        by : (z : Option Value) → returned_by f (Stop (Leaves (Returns z)) to) ≡ Normal (value_of z) to
        by None = refl
        by (Some v) = refl
    body_answers x q (IsOver e z to o d c l g) = EndsHere e z to o d (ap (returned_by f) c) l (ap labelled g)
    body_answers x q (IsUndefined at to o c l ext) = NoAnswer at to o (ap (returned_by f) c) l (extends_trans o (written q) (written (labelled q)) ext (written_then q (at_label leave_label)))

-- ---- the call

-- Where a call begins, with a frame, and where its parameters live; as in a function without a contract. The registers of the plan, of what is given and of
-- flags are the function's own.
module _ (w : Setting) (s from : State) (base : w.base ≡ length s.store) (around : w.around ≡ live_in s.store) (active : w.active ≡ s.calls + 1) (f : Function) (ps : List ℕ) (blocks : List LiveBlock) (n : ℕ) (leave : lives.EndLives ps (deaths ps))
    (low : ℕ) (regs : List Value) (t0 : Target) (spot : Spot) (here : spot.inside ≡ ps) (bound : Bindings) (living : List ℕ) (m0 : Meets w (at_body w.base blocks f.result) spot low bound living regs from t0)
    (longer : length s.store ≤ length from.store) (spent : from.steps ≤ s.steps) (output : from.output ≡ s.output)
    (r h m : ℕ) (planned : StandBelow r w.plan) (from_there : w.plan_from ≤ r) (lt : r < h) (flags : h ≤ m) (own : m ≤ w.plan_to) (there : r < low) where
  within : h ≤ w.plan_to
  within = omega (arith, flags, own)

  abbrev last : MonStatements
  last = last_return r (result_of f.result)

  abbrev dies : MonStatements
  dies = before (deaths ps) last

  abbrev returning : Did → Result Target Value
  returning q = then_do q (at_return over_blocks (zero_of f))

  wider : (a b c : List Value) → Stays w.plan_from w.plan_to low a b → Stays w.plan_from h low b c → Stays w.plan_from w.plan_to low a c
  wider a b c st su = record { long = su.long ∙ st.long; kept = λ j below apart. su.kept j below (by j apart) ∙ st.kept j below apart }
    where
      by : (j : ℕ) → (j < w.plan_from) ⊎ (w.plan_to ≤ j) → (j < w.plan_from) ⊎ (h ≤ j)
      by j (inl before) = inl before
      by j (inr behind) = inr (omega (arith, behind, flags, own))

  by_flags : (a b c : List Value) → Stays w.plan_from w.plan_to low a b → Stays h m low b c → Stays w.plan_from w.plan_to low a c
  by_flags a b c st su = record { long = su.long ∙ st.long; kept = λ j below apart. su.kept j below (by j apart) ∙ st.kept j below apart }
    where
      by : (j : ℕ) → (j < w.plan_from) ⊎ (w.plan_to ≤ j) → (j < h) ⊎ (m ≤ j)
      by j (inl before) = inl (omega (arith, before, from_there, lt))
      by j (inr behind) = inr (omega (arith, behind, own))

  -- ---- the parameters die, and the value is given

  module _ (to : State) (after : List Value) (t : Target) (o : List ℕ) (same : Stays w.plan_from w.plan_to low regs after) (l : Passes from to o) (b : Beside w to.store to t) where
    abbrev dead : Target
    dead = with_store (kill_from w.base t.mem.store) t

    beside_dead : Beside w (kill_from w.base to.store) to dead
    beside_dead = record { store_is = ap (kill_from w.base) b.store_is; frames = b.frames; steps = b.steps; input = b.input }

    deaths_run : exec_all over_blocks w.globals (deaths ps) w.calls n after t ≡ Done (Next after) dead []
    deaths_run =
        leave w.globals w.calls n w.base after t blocks w.around (ap live_in b.store_is ∙ l.live ∙ m0.standing.live) (subst (AreFrom w.base) (append-nil blocks) m0.standing.since_call) m0.standing.before_call
        (subst (λ xs. lives.Point after xs blocks) here (pointed_point w.plan_to low after spot.inside blocks (pointed_same w.plan_to low low regs after spot.inside blocks (omega arith) (λ j lt more. same.kept j lt (inr more)) m0.inside)))

    abbrev ended_by : Value → MonStatements → Result Target Value
    ended_by zero a = then_do (writes o (runs w n t (before (deaths ps) a) after)) (at_return over_blocks zero)

    behind_deaths : (zero : Value) (a : MonStatements) (flow : Flow Value) → runs w n dead a after ≡ Done flow dead [] → ended_by zero a ≡ then_do (Done flow dead (o ++ [])) (at_return over_blocks zero)
    behind_deaths zero a flow e =
        ap (λ q. then_do (writes o q) (at_return over_blocks zero))
        (before_is w.globals (deaths ps) a w.calls n after t ∙ ap (λ q. then_do q (at_next (exec_all over_blocks w.globals a w.calls n))) deaths_run ∙ writes_none (runs w n dead a after) ∙ e)

    returns : (v : Value) → slice_get after r ≡ Some v → runs w n dead (one (tree.Return (Some (tree.Register r)))) after ≡ Done (monitored.Returns (Some v)) dead []
    returns v e = one_is w.globals (tree.Return (Some (tree.Register r))) w.calls n after dead ∙ ap (λ y. with_value y dead.steps (λ z. Done (monitored.Returns (Some z)) dead [])) e

    back : Later s (back_from_call s to) o
    back = came_back w s from base around active f blocks low regs t0 spot bound living m0 longer spent output to o l

    alike : Even (back_from_call s to) (left_frame over_blocks dead)
    alike = even_there w s from base around active f blocks low regs t0 spot bound living m0 longer spent output to o l dead beside_dead

    with_value_given : (k : PlainType) (v zero : Value) → IsResult k (Some v) → slice_get after r ≡ Some v → Called s k (answered s (Normal v to)) (ended_by zero (one (tree.Return (Some (tree.Register r)))))
    with_value_given k v zero is holds =
        calls.Gives (Some v) v (back_from_call s to) (left_frame over_blocks dead) o is refl back alike refl
        (behind_deaths zero (one (tree.Return (Some (tree.Register r)))) (monitored.Returns (Some v)) (returns v holds) ∙ ap (Done v (left_frame over_blocks dead)) (append-nil (o ++ []) ∙ append-nil o))

    without_value : (k : PlainType) (zero : Value) → IsResult k None → Called s k (answered s (Normal NoValue to)) (ended_by zero NoStatement)
    without_value k zero is =
        calls.Gives None zero (back_from_call s to) (left_frame over_blocks dead) o is tt back alike refl
        (behind_deaths zero NoStatement (Next after) refl ∙ ap (Done zero (left_frame over_blocks dead)) (append-nil (o ++ []) ∙ append-nil o))

    given : (k : PlainType) (z : Option Value) → IsResult k z → HoldsResult (Some r) z after
        → Called s k (answered s (Normal (value_of z) to)) (ended_by (zero_result over_blocks (result_of k)) (last_return r (result_of k)))
    given (Int i) None is holds = absurd is
    given (Ptr i) None is holds = absurd is
    given (Int i) (Some v) is holds = with_value_given (Int i) v (zero_result over_blocks (result_of (Int i))) is holds
    given (Ptr i) (Some v) is holds = with_value_given (Ptr i) v (zero_result over_blocks (result_of (Ptr i))) is holds
    given Void (Some v) is holds = absurd is
    given Void None is holds = without_value Void (zero_result over_blocks (result_of Void)) is
    given (Array i k) (Some v) is holds = absurd is
    given (Array i k) None is holds = without_value (Array i k) (zero_result over_blocks (result_of (Array i k))) is
    given (Struct k) (Some v) is holds = absurd is
    given (Struct k) None is holds = without_value (Struct k) (zero_result over_blocks (result_of (Struct k))) is
    given (Named k) (Some v) is holds = absurd is
    given (Named k) None is holds = without_value (Named k) (zero_result over_blocks (result_of (Named k))) is
    given (StructTag k at) (Some v) is holds = absurd is
    given (StructTag k at) None is holds = without_value (StructTag k at) (zero_result over_blocks (result_of (StructTag k at))) is
    given (EnumTag k at) (Some v) is holds = absurd is
    given (EnumTag k at) None is holds = without_value (EnumTag k at) (zero_result over_blocks (result_of (EnumTag k at))) is

  -- ---- what the contract asks at the end

  module _ (c : FunctionContract) (leave_code : MonStatements) where
    -- the demands on what is given, and it
    abbrev asks_at_end : List Bool → Value → Evaluation Value
    asks_at_end hs v = ending (Some c) hs v >> give v

    abbrev LeaveDoes : List Bool → Option Value → State → List Value → Target → Type 0
    LeaveDoes hs z to after t = ChecksDo h m low after to t (all_checked c.behaviors (result_is (value_of z)) (leave_checks c) hs to) (runs w n t leave_code after)

    held_still : (z : Option Value) (after later : List Value) → Stays h m low after later → HoldsResult (Some r) z after → HoldsResult (Some r) z later
    held_still None after later st holds = tt
    held_still (Some v) after later st holds = st.kept r there (inl lt) ∙ holds

    leaves : (hs : List Bool) (z : Option Value) (to : State) (after : List Value) (t : Target) (o : List ℕ) → IsResult f.result z → HoldsResult (Some r) z after → Stays w.plan_from w.plan_to low regs after
        → Passes from to o → Beside w to.store to t → LeaveDoes hs z to after t → Called s f.result (answered s (asks_at_end hs (value_of z) to)) (returning (writes o (runs w n t (before leave_code dies) after)))
    leaves hs z to after t o is holds same l b (ChecksPass k held later le long fl st e g) =
        subst (λ q. Called s f.result (answered s (on_outcome (on_outcome q (λ _. done)) (λ _. give (value_of z)))) (returning (writes o (runs w n t (before leave_code dies) after)))) (sym e)
        (subst (λ q. Called s f.result (answered s (Normal (value_of z) (record to { steps = k }))) (returning (writes o q)))
        (sym (before_is w.globals leave_code dies w.calls n after t ∙ ap (λ q. then_do q (at_next (exec_all over_blocks w.globals dies w.calls n))) g ∙ writes_none (runs w n (record t { steps = k }) dies later)))
        (given (record to { steps = k }) later (record t { steps = k }) o (by_flags regs after later same st) (passes_fewer from to o k le l) (beside_fewer w to t k b) f.result z is (held_still z after later st holds)))
    leaves hs z to after t o is holds same l b (ChecksStop e v k d x g) =
        EndsRun e v (back_from_call s (record to { steps = k })) o d
        (ap (λ q. answered s (on_outcome (on_outcome q (λ _. done)) (λ _. give (value_of z)))) x)
        (l.output ∙ ap (λ x. x ++ o) output)
        (ap (λ q. returning (writes o q)) (before_is w.globals leave_code dies w.calls n after t ∙ ap (λ q. then_do q (at_next (exec_all over_blocks w.globals dies w.calls n))) g) ∙ ap (Stops v k) (append-nil o))

    -- ---- the body, whose contract is checked behind it, and what it comes to

    module _ (body_code : MonStatements) (gives : Evaluation Value) where
      abbrev behind_entry_code : MonStatements
      behind_entry_code = Then (Labelled body_code leave_label) (before leave_code dies)

      abbrev result_of_call : List Bool → Evaluation Value
      result_of_call hs = gives >>= asks_at_end hs

      abbrev labelled_runs : List Value → Target → Did
      labelled_runs regs2 t2 = then_do (runs w n t2 body_code regs2) (at_label leave_label)

      -- from where the body begins
      ran : (hs : List Bool) (begins : State) (regs2 : List Value) (t2 : Target) → Passes from begins [] → Stays w.plan_from w.plan_to low regs regs2 → h + length hs ≡ m → Flagged h hs regs2
          → ((z : Option Value) (to : State) (after : List Value) (t : Target) (o : List ℕ) → IsResult f.result z → HoldsResult (Some r) z after → Keeps w.plan to.marks after → Flagged h hs after
          → Stays w.plan_from h low regs2 after → Passes begins to o → Beside w to.store to t → LeaveDoes hs z to after t)
          → Answers w r h low f begins regs2 (gives begins) (labelled_runs regs2 t2)
          → Called s f.result (answered s (result_of_call hs begins)) (returning (runs w n t2 behind_entry_code regs2))
      ran hs begins regs2 t2 p st long fl leave_does (Answer z to after t o is same keeps holds l b e g) =
          subst (λ q. Called s f.result (answered s (on_outcome q (asks_at_end hs))) (returning (runs w n t2 behind_entry_code regs2))) (sym e)
          (subst (λ q. Called s f.result (answered s (asks_at_end hs (value_of z) to)) (returning (then_do q (at_next (exec_all over_blocks w.globals (before leave_code dies) w.calls n))))) (sym g)
          (leaves hs z to after t o is holds (wider regs regs2 after st same) (passes_trans from begins to [] o p l) b
          (leave_does z to after t o is holds keeps
          (flagged_same h hs regs2 after (λ j le below. same.kept j (omega (arith, below, long, own, m0.standing.kept.below)) (inr le)) fl) same l b)))
      ran hs begins regs2 t2 p st long fl leave_does (EndsHere e z to o d c l g) =
          EndsRun e z (back_from_call s to) o d (ap (λ q. answered s (on_outcome q (asks_at_end hs))) c) (l ∙ ap (λ x. x ++ o) (p.output ∙ append-nil from.output ∙ output))
          (ap (λ q. returning (then_do q (at_next (exec_all over_blocks w.globals (before leave_code dies) w.calls n)))) g)
      ran hs begins regs2 t2 p st long fl leave_does (NoAnswer at to o c l ext) =
          let q = labelled_runs regs2 t2 in
          let g = at_next (exec_all over_blocks w.globals (before leave_code dies) w.calls n) in
          HasNoMeaning at (back_from_call s to) o (ap (λ q. answered s (on_outcome q (asks_at_end hs))) c) (l ∙ ap (λ x. x ++ o) (p.output ∙ append-nil from.output ∙ output))
          (extends_trans o (written q) (written (returning (then_do q g))) ext
          (extends_trans (written q) (written (then_do q g)) (written (returning (then_do q g))) (written_then q g) (written_then (then_do q g) (at_return over_blocks (zero_of f)))))

      -- the whole, from where the parameters live
      module _ (entry_code : MonStatements) where
        abbrev pub EntryDoes : Type 0
        EntryDoes = ChecksDo h m low regs from t0 (all_checked c.behaviors [] (entry_checks c) (all_hold c.behaviors) from) (runs w n t0 entry_code regs)

        -- the body comes to an answer on both sides, from where it begins
        abbrev pub BodyAnswers : Type 0
        BodyAnswers =
            (regs2 : List Value) (begins : State) (t2 : Target) → Meets (inside w r h begins) (here_inside begins f.result) (outermost (Some r) []) low bound living regs2 begins t2 → begins.steps ≤ from.steps
            → Answers w r h low f begins regs2 (gives begins) (labelled_runs regs2 t2)

        -- what the contract asks at the end is asked of what is given
        abbrev pub LeavesDo : Type 0
        LeavesDo =
            (hs : List Bool) (z : Option Value) (to : State) (after : List Value) (t : Target) (o : List ℕ) → h + length hs ≡ m → IsResult f.result z → HoldsResult (Some r) z after
            → Keeps w.plan to.marks after → Flagged h hs after → Stays w.plan_from w.plan_to low regs after → Passes from to o → Beside w to.store to t → LeaveDoes hs z to after t

        pub contract_follows : EntryDoes → BodyAnswers → LeavesDo
            → Called s f.result (answered s ((entry (Some c) >>= result_of_call) from)) (returning (runs w n t0 (before entry_code behind_entry_code) regs))
        contract_follows (ChecksPass k hs regs2 le long fl st e g) body leaves_do =
            subst (λ q. Called s f.result (answered s (on_outcome q result_of_call)) (returning (runs w n t0 (before entry_code behind_entry_code) regs))) (sym e)
            (subst (λ q. Called s f.result (answered s (result_of_call hs begins)) (returning q))
            (sym (before_is w.globals entry_code behind_entry_code w.calls n regs t0 ∙ ap (λ q. then_do q (at_next (exec_all over_blocks w.globals behind_entry_code w.calls n))) g ∙ writes_none (runs w n t2 behind_entry_code regs2)))
            (ran hs begins regs2 t2 passes same long fl
            (λ z to after t o is holds keeps flagged st2 l b. leaves_do hs z to after t o long is holds keeps flagged (wider regs regs2 after same st2) (passes_trans from begins to [] o passes l) b)
            (body regs2 begins t2 (meets_inside w r h low planned from_there lt within (at_body w.base blocks f.result) spot bound living f.result regs2 begins t2 meets) le)))
          where
            begins : State
            begins = record from { steps = k }

            t2 : Target
            t2 = record t0 { steps = k }

            passes : Passes from begins []
            passes = passes_fewer from from [] k le (passes_later from from [] (later_same from m0.standing.bounded))

            same : Stays w.plan_from w.plan_to low regs regs2
            same = by_flags regs regs regs2 (stays_same w.plan_from w.plan_to low regs regs (same_all low regs)) st

            keeps : Keeps w.plan from.marks regs2
            keeps =
                keeps_same r r w.plan from.marks regs regs2 (omega arith) planned (record { long = st.long; below = λ j before. st.kept j (omega (arith, before, there)) (inl (omega (arith, before, lt))) })
                m0.standing.kept.keeps

            meets : Meets w (at_body w.base blocks f.result) spot low bound living regs2 begins t2
            meets = meets_after w (at_body w.base blocks f.result) spot low bound living regs regs2 from begins t0 t2 [] same keeps passes (beside_fewer w from t0 k m0.beside) m0
        contract_follows (ChecksStop e v k d y g) body leaves_do =
            EndsRun e v (back_from_call s (record from { steps = k })) [] d
            (ap (λ q. answered s (on_outcome q result_of_call)) y)
            (output ∙ sym (append-nil s.output))
            (ap returning (before_is w.globals entry_code behind_entry_code w.calls n regs t0 ∙ ap (λ q. then_do q (at_next (exec_all over_blocks w.globals behind_entry_code w.calls n))) g))
