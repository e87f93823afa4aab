-- Lifetimes are those of C99 6.2.4; the relation is ours.
-- What births and deaths do where monitored C has the blocks of the program: where scopes are entered and left, it has them again.
use Rattle.std.specs.Prelude.{◌≡◌, ℕ, suc, ◌+◌, ◌<◌, ◌≤◌, List, [], ◌∷◌, ◌++◌, length, reverse, Some, slice_get}
use Rattle.c_syntax.specs.declared.types.Segment.{Segment}
use Rattle.c_syntax.specs.declared.types.BlockKind.TheVariants.{Stack}
use Rattle.c_syntax.specs.Programs.{StructType}
use Rattle.c_syntax.specs.Statements.{Declaration}
use Rattle.c_syntax.specs.Layouts.{size_of}
use Rattle.c_model.specs.Formed.{number_of}
use Rattle.c_model.specs.Memory.{Store, Into, Value, Points, new_block, kill_from}
use Rattle.c_model.specs.State.{State, Full, Over, Normal, Stop, births}
use Rattle.c_model.specs.MonitoredRuns as machine
use Rattle.mon_syntax.specs.Trees.{MonStatements}
use Rattle.mon_syntax.specs.Meaning.{Result, Done, Stops, Flow, Next, exec_all}
use Rattle.mon_syntax.specs.Meaning as monitored
use Rattle.mon_syntax.specs.BlockMemory.{Blocks, over_blocks}
use Rattle.mon_syntax.specs.LiveBlocks.{LiveBlock, live_in}

-- a state of monitored C, and what statements of it did
abbrev pub MonitoredState : Type 0
MonitoredState = monitored.State Blocks

abbrev pub Did : Type 0
Did = Result MonitoredState (Flow Value)

-- the state with these blocks; the rest of it stays
abbrev pub with_store : Store → MonitoredState → MonitoredState
with_store store t = record t { mem = record t.mem { store = store } }

-- ---- the entry of a scope

-- the state of a program after variables were born
abbrev pub with_variables : List StructType → List Declaration → State → State
with_variables structs [] s = s
with_variables structs (d ∷ ds) s = with_variables structs ds (record s {
  store = s.store ++ new_block Stack (size_of structs d.ctype) ∷ [];
  scope = (number_of d, length s.store + 1) ∷ s.scope;
})

-- the registers from one on point to the starts of the blocks from a number on, as many as these variables
abbrev pub PointInOrder : List Value → ℕ → ℕ → List Declaration → Type 0
PointInOrder regs p number [] = Unit {0}
PointInOrder regs p number (d ∷ ds) = (slice_get regs p ≡ Some (Points (Into number 0))) × PointInOrder regs (suc p) (suc number) ds

-- registers after births: those from p on point to the blocks that were born from this store on, and those before p stay
pub record PointToBorn (p : ℕ) (ds : List Declaration) (store : Store) (regs after : List Value) : Type 0 where
  pub point : PointInOrder after p (length store + 1) ds
  pub before : (r : ℕ) → r < p → slice_get after r ≡ slice_get regs r
  pub long : length after ≡ length regs

-- all are born on both sides, or the same is full
pub data Births (structs : List StructType) (p : ℕ) (ds : List Declaration) (regs : List Value) (s : State) (t : MonitoredState) (q : Did) : Type 0 where
  AllAre : (after : List Value) → births structs ds s ≡ Normal tt (with_variables structs ds s)
      → q ≡ Done (Next after) (with_store (with_variables structs ds s).store t) [] → PointToBorn p ds s.store regs after → Births structs p ds regs s t q
  OneIsFull : (g : Segment) (to : State) → births structs ds s ≡ Stop (Over (Full g)) to → to.output ≡ s.output → to.steps ≡ s.steps
      → q ≡ Stops (machine.Full g) t.steps [] → Births structs p ds regs s t q

-- Statements enter the scope of these variables: from the program's blocks on they make those that the program has after the births.
abbrev pub Enters : List StructType → ℕ → List Declaration → MonStatements → Type 0
Enters structs p ds code =
    (gs : List Value) (calls : monitored.Calls over_blocks) (n : ℕ) (regs : List Value) (s : State) (t : MonitoredState) → t.mem.store ≡ s.store
    → p + length ds ≤ length regs
    → Births structs p ds regs s t (exec_all over_blocks gs code calls n regs t)

-- ---- the ways out

-- these registers point to these blocks
abbrev pub Point : List Value → List ℕ → List LiveBlock → Type 0
Point regs [] [] = Unit {0}
Point regs [] (b ∷ bs) = ⊥
Point regs (p ∷ ps) [] = ⊥
Point regs (p ∷ ps) (b ∷ bs) = (slice_get regs p ≡ Some (Points (Into b.number 0))) × Point regs ps bs

-- blocks that stand from this index on
abbrev pub AreFrom : ℕ → List LiveBlock → Type 0
AreFrom base [] = Unit {0}
AreFrom base (b ∷ bs) = (base < b.number) × AreFrom base bs

-- blocks that stand before it
abbrev pub AreBefore : ℕ → List LiveBlock → Type 0
AreBefore base [] = Unit {0}
AreBefore base (b ∷ bs) = (b.number ≤ base) × AreBefore base bs

-- These statements end lives. Where these registers point to the blocks that live on the stack from an index on, the youngest first, just those are
-- dead after the statements.
abbrev pub EndLives : List ℕ → MonStatements → Type 0
EndLives blocks code =
    (gs : List Value) (calls : monitored.Calls over_blocks) (n base : ℕ) (regs : List Value) (t : MonitoredState) (inside outside : List LiveBlock)
    → live_in t.mem.store ≡ inside ++ outside → AreFrom base inside → AreBefore base outside → Point regs blocks inside
    → exec_all over_blocks gs code calls n regs t ≡ Done (Next regs) (with_store (kill_from base t.mem.store) t) []

-- Statements leave scopes, where the registers point to these blocks in order of birth.
abbrev pub Leaves : List ℕ → MonStatements → Type 0
Leaves blocks code = EndLives (reverse blocks) code
