-- What a call does on both sides: where the source's comes back, so does the target's, with the same value and the same blocks. And what is known of the
-- functions that are called where a part of the program stands.
use Rattle.std.specs.Prelude.{◌≡◌, ℕ, ◌≤◌, List, [], ◌∷◌, ◌++◌, Option, Some, None}
use Rattle.c_syntax.specs.declared.place.Place.{Place}
use Rattle.c_syntax.specs.declared.expression.Use.{Use}
use Rattle.c_syntax.specs.Ctypes.{PlainType}
use Rattle.c_syntax.specs.Expressions.{Expressions}
use Rattle.c_model.specs.Memory.{Value, NoValue}
use Rattle.c_model.specs.State.{State, Final, Undefined, Over, Outcome, Normal, Stop}
use Rattle.c_model.specs.MonitoredRuns.{machine_end}
use Rattle.c_model.specs.MonitoredRuns as machine
use Rattle.c_model.specs.Reports.{Extends}
use Rattle.c_model.specs.ExpressionTyping.{Sight}
use Rattle.c_model.specs.TypedTrees.{HaveTypes, Calls, literal_in}
use Rattle.c_model.specs.AcceptedPrograms.{AreScalar}
use Rattle.mon_syntax.specs.Meaning.{Result, Done, Stops, Next, then_do, given_to, eval_all}
use Rattle.mon_syntax.specs.BlockMemory.{Blocks, over_blocks}
use Rattle.mon_syntax.specs.Trees.{MonExpression}
use Rattle.c_effects.specs.Expressions.{literal}
use Rattle.c_effects.specs.Effects.{call, first_of}
use Rattle.c_simulation.specs.Following.{written, Later, IsResult}
use Rattle.c_simulation.specs.Standing.{Target, Did, Setting, Knows, runs, Bounded}

-- two states with the same blocks
pub record Even (s : State) (t : Target) : Type 0 where
  pub store_is : t.mem.store ≡ s.store
  pub frames : t.mem.frames ≡ s.calls
  pub steps : t.steps ≡ s.steps
  pub input : t.input ≡ s.input

-- the value of a call, which a void function doesn't give
abbrev pub value_of : Option Value → Value
value_of None = NoValue
value_of (Some v) = v

abbrev pub Alike : Option Value → Value → Type 0
Alike None v = Unit {0}
Alike (Some z) v = v ≡ z

-- from these states a call of the source and one of the target do the same
pub data Called (s : State) (result : PlainType) (r : Outcome Value) (q : Result Target Value) : Type 0 where
  Gives : (z : Option Value) (v : Value) (to : State) (u : Target) (o : List ℕ) → IsResult result z → Alike z v → Later s to o → Even to u
      → r ≡ Normal (value_of z) to → q ≡ Done v u o → Called s result r q
  EndsRun : (e : Final) (z : machine.Final) (to : State) (o : List ℕ) → machine_end e ≡ Some z → r ≡ Stop (Over e) to → to.output ≡ s.output ++ o
      → q ≡ Stops z to.steps o → Called s result r q
  HasNoMeaning : (at : Place) (to : State) (o : List ℕ) → r ≡ Stop (Over (Undefined at)) to → to.output ≡ s.output ++ o → Extends o (written q)
      → Called s result r q

-- values of these types
abbrev pub AreOf : List PlainType → List Value → Type 0
AreOf [] [] = Unit {0}
AreOf [] (v ∷ vs) = ⊥
AreOf (t ∷ ts) [] = ⊥
AreOf (t ∷ ts) (v ∷ vs) = IsResult t (Some v) × AreOf ts vs

-- arguments have these values over the registers and the memory
abbrev pub HaveAll : Setting → List MonExpression → List Value → Blocks → List Value → Type 0
HaveAll w args regs mem vs = eval_all over_blocks w.globals args regs mem ≡ Some vs

-- the register that is named takes the value
abbrev pub takes : Option ℕ → List Value → Value → Target → Did
takes r regs v u = Done (Next (given_to r v regs)) u []

-- what the statements of a call do, where its arguments have these values
pub data CallDoes (s : State) (result : PlainType) (r : Outcome Value) (into : Option ℕ) (regs : List Value) (d : Did) : Type 0 where
  DoesCall : (q : Result Target Value) → d ≡ then_do q (takes into regs) → Called s result r q → CallDoes s result r into regs d
  CallsNothing : (at : Place) → r ≡ Stop (Over (Undefined at)) s → CallDoes s result r into regs d

-- the values of these arguments begin with the address of a literal, where the first of them is that
abbrev pub Begin : Setting → Expressions → List MonExpression → Type 0
Begin w es args = (k : ℕ) → literal_in es ≡ Some k → first_of args ≡ literal w.unit k

-- what a call with these arguments, of these types, does
abbrev pub AllDo : Setting → ℕ → Use → Expressions → PlainType → List PlainType → Type 0
AllDo w n f es result types =
    (vs : List Value) → AreOf types vs → (s : State) (t : Target) → Even s t → Bounded s.store → s.steps ≤ n → (at : Place) (into : Option ℕ)
    (regs : List Value) (args : List MonExpression) → HaveAll w args regs t.mem vs → Begin w es args
    → CallDoes s result (w.call at f vs s) into regs (runs w n t (call w.unit into f es args) regs)

-- a function that is called with arguments of these types
pub record IsCalled (w : Setting) (n : ℕ) (f : Use) (result : PlainType) (es : Expressions) : Type 0 where
  pub types : List PlainType
  pub scalars : AreScalar types
  pub arguments : HaveTypes types es
  pub does : AllDo w n f es result types

-- where a part of the program stands: what typing knows of the program there, and that the functions in sight do what the source's calls do
pub record Scene (w : Setting) (n : ℕ) (sight : Sight) : Type 0 where
  pub knows : Knows w sight
  pub calls : (f : Use) (t : PlainType) (es : Expressions) → Calls sight f t es → IsCalled w n f t es
