-- What an evaluation of the source comes to, and statements of the target beside it: one relation for values, places, lists of values and what gives nothing.
use Rattle.std.specs.Prelude.{◌≡◌, ℕ, Bool, true, false, List, ◌++◌, Some}
use Rattle.c_syntax.specs.declared.place.Place.{Place}
use Rattle.c_syntax.specs.Layouts.{Scalar}
use Rattle.c_model.specs.Memory.{Pointer, Value, Points}
use Rattle.c_model.specs.State.{State, Final, Undefined, Over, Outcome, Normal, Stop}
use Rattle.c_model.specs.Reports.{Extends}
use Rattle.c_model.specs.MonitoredRuns.{machine_end}
use Rattle.c_model.specs.MonitoredRuns as machine
use Rattle.mon_syntax.specs.Meaning.{Done, Stops, Next}
use Rattle.mon_syntax.specs.Trees.{MonExpression}
use Rattle.c_simulation.specs.SameRegisters.{Same}
use Rattle.c_simulation.specs.Standing.{Target, Did, Setting, Has, IsSmall, IsOf, IsInside, Beside}
use Rattle.c_simulation.specs.Following.{Later, IsTest, written}

-- From a state, and over these registers, of which those below `low` are kept. The source comes to an answer, of which this holds, and the target to the
-- next statement with the source's blocks; or both are over, with the same end and output; or the source does an undefined operation, after which the
-- target may do anything but take back what was written.
pub data Reaches {A : Type 0} (w : Setting) (P : A → List Value → State → Target → Type 0) (low : ℕ) (regs : List Value) (from : State) (r : Outcome A)
    (q : Did) : Type 0 where
  Arrives : (a : A) (s : State) (after : List Value) (t : Target) (o : List ℕ) → Same low regs after → Later from s o → Beside w s.store s t → r ≡ Normal a s
      → q ≡ Done (Next after) t o → P a after s t → Reaches w P low regs from r q
  IsOver : (e : Final) (z : machine.Final) (s : State) (o : List ℕ) → machine_end e ≡ Some z → r ≡ Stop (Over e) s → s.output ≡ from.output ++ o
      → q ≡ Stops z s.steps o → Reaches w P low regs from r q
  IsUndefined : (at : Place) (s : State) (o : List ℕ) → r ≡ Stop (Over (Undefined at)) s → s.output ≡ from.output ++ o → Extends o (written q)
      → Reaches w P low regs from r q

-- ---- what holds of the answer; what is said of registers stays while those below `high` do

-- anything may: what is evaluated for its effect alone
abbrev pub Anything : {A : Type 0} → A → List Value → State → Target → Type 0
Anything a after s t = Unit {0}

-- a value of the scalar type, which the target's expression has
abbrev pub Valued : Setting → Scalar → ℕ → MonExpression → Value → List Value → State → Target → Type 0
Valued w k high e v after s t = IsOf k v × ((later : List Value) → Same high after later → Has w e later t.mem v)

-- the place of an object, to which the target has the pointer: to that of a member only where it is inside a live block, or one after its end
abbrev pub Placed : Setting → Bool → ℕ → MonExpression → Pointer → List Value → State → Target → Type 0
Placed w checked high e p after s t =
    (checked ≡ false → IsSmall p) × ((checked ≡ true → IsInside t.mem.store p) → (later : List Value) → Same high after later → Has w e later t.mem (Points p))

-- what a condition tests, where the target's number is 0 if it is
abbrev pub Tested : Setting → ℕ → MonExpression → Value → List Value → State → Target → Type 0
Tested w high c u after s t = (later : List Value) → Same high after later → IsTest w c later t.mem u
