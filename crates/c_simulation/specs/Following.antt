-- How the target follows the source: through an expression to its value, its place or its test, and through statements.
use Rattle.std.specs.Prelude.{◌≡◌, ℕ, ◌≤◌, ℤ, pos, Bool, true, false, List, [], ◌++◌, length, Option, Some, None, slice_get}
use Rattle.std.specs.Ordering.{int_eq}
use Rattle.c_syntax.specs.declared.place.Place.{Place}
use Rattle.c_syntax.specs.Ctypes.{PlainType}
use Rattle.c_syntax.specs.Layouts.{Scalar, scalar_of}
use Rattle.c_model.specs.Memory.{Pointer, Value, Integer, Points, kill_from}
use Rattle.c_model.specs.State.{State, Final, Undefined, Leaves, Over, Outcome, Normal, Stop}
use Rattle.c_model.specs.State as source
use Rattle.c_model.specs.Meaning.{is_zero}
use Rattle.c_model.specs.Reports.{Extends}
use Rattle.c_model.specs.MonitoredRuns.{machine_end}
use Rattle.c_model.specs.MonitoredRuns as machine
use Rattle.mon_syntax.specs.BlockMemory.{Blocks}
use Rattle.mon_syntax.specs.LiveBlocks.{live_in}
use Rattle.mon_syntax.specs.Meaning.{Result, Done, Stops, Flow, Next, Goes, Returns}
use Rattle.mon_syntax.specs.Trees.{MonExpression}
use Rattle.c_simulation.specs.Labels.{end_label, next_label, leave_label}
use Rattle.c_simulation.specs.SameRegisters.{Same, Stays}
use Rattle.c_simulation.specs.Standing.{Target, Did, Setting, Has, IsSmall, IsOf, IsInside, Bounded, Keeps, Here, Beside}

-- the bytes that a part wrote
abbrev pub written : {S A : Type 0} → Result S A → List ℕ
written (Done a s o) = o
written (Stops e n o) = o

-- An expression of the scalar type in a state of the source, and its translation over these registers: statements that change registers from
-- the number `low` on alone, and then a value that depends on registers below `high` and on the memory alone. Where the source has none, nothing is owed.
pub data Evaluates (w : Setting) (k : Scalar) (s : State) (t : Target) (r : Outcome Value) (regs : List Value) (low high : ℕ) (q : Did) (e : MonExpression)
    : Type 0 where
  HasValue : (v : Value) → IsOf k v → r ≡ Normal v s → (after : List Value) → Same low regs after → q ≡ Done (Next after) t []
      → ((later : List Value) → Same high after later → Has w e later t.mem v) → Evaluates w k s t r regs low high q e
  HasNone : (at : Place) → r ≡ Stop (Over (Undefined at)) s → Evaluates w k s t r regs low high q e

-- The same of the place of an object, to which the target has the pointer: to that of a member only where it is inside a live block, or one after its
-- end, since the target asks that of each step.
pub data Places (w : Setting) (checked : Bool) (s : State) (t : Target) (r : Outcome Pointer) (regs : List Value) (low high : ℕ) (q : Did) (e : MonExpression)
    : Type 0 where
  HasPlace : (p : Pointer) → (checked ≡ false → IsSmall p) → r ≡ Normal p s → (after : List Value) → Same low regs after → q ≡ Done (Next after) t []
      → ((checked ≡ true → IsInside t.mem.store p) → (later : List Value) → Same high after later → Has w e later t.mem (Points p))
      → Places w checked s t r regs low high q e
  HasNoPlace : (at : Place) → r ≡ Stop (Over (Undefined at)) s → Places w checked s t r regs low high q e

-- a number that is 0 where the value is
pub record IsTest (w : Setting) (c : MonExpression) (regs : List Value) (mem : Blocks) (u : Value) : Type 0 where
  pub number : ℤ
  pub has : Has w c regs mem (Integer number)
  pub alike : int_eq number (pos 0) ≡ is_zero u

-- the same of a condition, by what it tests
pub data Tests (w : Setting) (s : State) (t : Target) (r : Outcome Value) (regs : List Value) (low high : ℕ) (q : Did) (c : MonExpression) : Type 0 where
  HasTest : (u : Value) → r ≡ Normal u s → (after : List Value) → Same low regs after → q ≡ Done (Next after) t []
      → ((later : List Value) → Same high after later → IsTest w c later t.mem u) → Tests w s t r regs low high q c
  HasNoTest : (at : Place) → r ≡ Stop (Over (Undefined at)) s → Tests w s t r regs low high q c

-- a later state of the source, at the same names, with the same variables alive and no label passed: what was written since
pub record Later (from to : State) (o : List ℕ) : Type 0 where
  pub scope : to.scope ≡ from.scope
  pub calls : to.calls ≡ from.calls
  pub live : live_in to.store ≡ live_in from.store
  pub longer : length from.store ≤ length to.store
  pub bounded : Bounded to.store
  pub spent : to.steps ≤ from.steps
  pub output : to.output ≡ from.output ++ o
  pub marks : to.marks ≡ from.marks

-- the same where labels may have been passed
abbrev pub Passes : State → State → List ℕ → Type 0
Passes from to o = Later (record from { marks = to.marks }) to o

-- a value of a scalar type, and none of another type
abbrev pub IsResultOf : Option Scalar → Option Value → Type 0
IsResultOf None None = Unit {0}
IsResultOf None (Some v) = ⊥
IsResultOf (Some k) None = ⊥
IsResultOf (Some k) (Some v) = IsOf k v

abbrev pub IsResult : PlainType → Option Value → Type 0
IsResult t v = IsResultOf (scalar_of t) v

-- how a call is left: by a `return`, or at the end of its body, where its contract is checked behind that
abbrev pub left_by : Option ℕ → Option Value → List Value → Flow Value
left_by None v after = Returns v
left_by (Some r) v after = Goes leave_label after

-- where it is checked, the register of the result has what is given
abbrev pub HoldsResult : Option ℕ → Option Value → List Value → Type 0
HoldsResult None v after = Unit {0}
HoldsResult (Some r) None after = Unit {0}
HoldsResult (Some r) (Some v) after = slice_get after r ≡ Some v

-- From a state, and over these registers, of which those below `low` are kept but for the plan's, the target's statements did what the source's did, where
-- the source goes on, leaves a loop, a switch or a loop's body, returns, or is over; the plan's registers have what the marks then say. The target has the
-- source's blocks; where it leaves these or the call, what was born inside is dead there already. After an undefined operation the target may do anything.
pub data Follows (w : Setting) (h : Here) (low : ℕ) (regs : List Value) (on : List Value → Flow Value) (from : State) (r : Outcome (Unit {0})) (q : Did)
    : Type 0 where
  GoesOn : (s : State) (after : List Value) (t : Target) (o : List ℕ) → Stays w.plan_from w.plan_to low regs after → Keeps w.plan s.marks after
      → Passes from s o → Beside w s.store s t → r ≡ Normal tt s → q ≡ Done (on after) t o → Follows w h low regs on from r q
  Breaks : (s : State) (after : List Value) (t : Target) (o : List ℕ) → h.breaks ≡ true → Stays w.plan_from w.plan_to low regs after
      → Keeps w.plan s.marks after → Passes from s o → Beside w (kill_from h.left s.store) s t → r ≡ Stop (Leaves source.Breaks) s
      → q ≡ Done (Goes (end_label h.levels) after) t o → Follows w h low regs on from r q
  Continues : (s : State) (after : List Value) (t : Target) (o : List ℕ) → h.looped ≡ true → Stays w.plan_from w.plan_to low regs after
      → Keeps w.plan s.marks after → Passes from s o → Beside w (kill_from h.loop s.store) s t → r ≡ Stop (Leaves source.Continues) s
      → q ≡ Done (Goes (next_label h.innermost) after) t o → Follows w h low regs on from r q
  IsLeft : (v : Option Value) (s : State) (after : List Value) (t : Target) (o : List ℕ) → IsResult h.result v → Stays w.plan_from w.plan_to low regs after
      → Keeps w.plan s.marks after → HoldsResult w.result v after → Passes from s o → Beside w (kill_from w.base s.store) s t
      → r ≡ Stop (Leaves (source.Returns v)) s → q ≡ Done (left_by w.result v after) t o → Follows w h low regs on from r q
  IsOver : (e : Final) (z : machine.Final) (s : State) (o : List ℕ) → machine_end e ≡ Some z → r ≡ Stop (Over e) s → s.output ≡ from.output ++ o
      → q ≡ Stops z s.steps o → Follows w h low regs on from r q
  IsUndefined : (at : Place) (s : State) (o : List ℕ) → r ≡ Stop (Over (Undefined at)) s → s.output ≡ from.output ++ o → Extends o (written q)
      → Follows w h low regs on from r q
