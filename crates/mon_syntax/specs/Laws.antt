-- Ours: laws of the definitions of this crate.
-- Laws that the definitions meet: of arithmetic, of runs over one memory, of runs over two, and of the heap.
use Rattle.std.specs.Prelude.{◌≡◌, ℕ, ◌*◌, ◌/◌, ◌^◌, ◌≤◌, ℤ, pos, ◌+ℤ◌, true, List, [], get_or, Some, None, codes}
use Rattle.c_syntax.specs.Programs.{TranslationUnit}
use Rattle.c_model.specs.Memory.{Pointer, Points}
use Rattle.c_model.specs.State.{Input}
use Rattle.c_model.specs.Meaning as source
use Rattle.c_model.specs.Reports.{Agrees, AgreesToFault}
use Rattle.shadow_segments.specs.declared.BlockNote.{BlockNote}
use Rattle.shadow_segments.specs.Shadow.{AreWhole}
use Rattle.mon_syntax.specs.declared.spot.RegionName.TheVariants.{Heap}
use Rattle.mon_syntax.specs.declared.spot.Spot.TheVariants.{In}
use Rattle.mon_syntax.specs.Trees.{MonStatement, Loop, MonStatements, MonFunction, MonitoredProgram}
use Rattle.mon_syntax.specs.declared.tree.MonType.{MonType}
use Rattle.mon_syntax.specs.Arithmetic.{bit_count, fits, wrap}
use Rattle.mon_syntax.specs.Memory.{Memory}
use Rattle.mon_syntax.specs.Strings.{IsString}
use Rattle.mon_syntax.specs.Meaning.{State, then_do, at_next, step_from, exec, exec_all, body_runs, level, ran, function_named, run}
use Rattle.mon_syntax.specs.BlockMemory.{Blocks, byte_after, string_in, block_run}
use Rattle.mon_syntax.specs.Flat.{Flat, number_in, spot_of, flat_free, flat_byte, flat_string}
use Rattle.mon_syntax.specs.FlatMemory.{flat_run}
use Rattle.mon_syntax.specs.Valid.{IsValid}
use Rattle.mon_syntax.specs.Text.{text_of}
use Rattle.mon_syntax.specs.Spelled.{Spells}
use Rattle.mon_syntax.specs.Translates.{Translates}
use Rattle.mon_syntax.specs.Steps.{steps_after}

-- ---- arithmetic

-- a and b differ by a multiple of n
pub record AreCongruent (n : ℕ) (a b : ℤ) : Type 0 where
  pub first : ℕ
  pub second : ℕ
  pub is : a +ℤ pos (first * n) ≡ b +ℤ pos (second * n)

-- a wrapped value is one of the type
abbrev pub WrappedValuesFit : Type 0
WrappedValuesFit = (t : MonType) (z : ℤ) → fits t (wrap t z) ≡ true

-- it is congruent to what was wrapped, modulo 2 to the bits of the type
abbrev pub WrappedValuesAreCongruent : Type 0
WrappedValuesAreCongruent = (t : MonType) (z : ℤ) → AreCongruent (2 ^ bit_count t) (wrap t z) z

-- a value of the type stays
abbrev pub FittingValuesStand : Type 0
FittingValuesStand = (t : MonType) (z : ℤ) → fits t z ≡ true → wrap t z ≡ z

-- ---- runs over one memory

-- more turns and deeper calls than steps change nothing
abbrev pub FuelIsEnough : Memory → Type 0
FuelIsEnough M = (gs : List M.Val) (fs : List MonFunction) (a : MonStatement) (k n : ℕ) (regs : List M.Val) (s : State M.Mem) → s.steps ≤ k → s.steps ≤ n
    → exec M gs a (level M gs fs k) k regs s ≡ exec M gs a (level M gs fs n) n regs s

-- no step is gained
abbrev pub StepsFall : Memory → Type 0
StepsFall M = (gs : List M.Val) (fs : List MonFunction) (a : MonStatement) (n : ℕ) (regs : List M.Val) (s : State M.Mem) → s.steps ≤ n
    → steps_after (exec M gs a (level M gs fs n) n regs s) ≤ s.steps

-- a loop is one turn and then the loop again: what stands before the step, the step, what stands after it
abbrev pub LoopsTurn : Memory → Type 0
LoopsTurn M = (gs : List M.Val) (fs : List MonFunction) (a b : MonStatements) (n : ℕ) (regs : List M.Val) (s : State M.Mem) → s.steps ≤ n
    → exec M gs (Loop a b) (level M gs fs n) n regs s ≡ then_do (exec_all M gs a (level M gs fs n) n regs s)
    (at_next (λ r t. step_from t.steps (λ k. then_do (exec_all M gs b (level M gs fs n) n r (record t { steps = k }))
    (at_next (exec M gs (Loop a b) (level M gs fs n) n)))))

-- a run is the same with any number of turns and calls from its steps on
abbrev pub RunsNeedNoFuel : Memory → Type 0
RunsNeedNoFuel M = (m : MonitoredProgram) (mem : M.Mem) (input : Input) (n k : ℕ) → n ≤ k
    → run M m mem input n ≡ ran M (body_runs M (M.starts m.globals) (function_named (codes "main") m.functions)
    (level M (M.starts m.globals) m.functions k) k [] (record { mem = mem; steps = n; input = input }))

-- a run leaves no more steps than it had
abbrev pub RunsSpendSteps : Memory → Type 0
RunsSpendSteps M = (m : MonitoredProgram) (mem : M.Mem) (input : Input) (n : ℕ) → (run M m mem input n).left ≤ n

-- ---- runs over two memories

-- a valid program does over flat memory what it does over blocks, up to its first fault there
abbrev pub BlocksAgreeWithFlat : Type 0
BlocksAgreeWithFlat = (m : MonitoredProgram) → IsValid m → (input : Input) (n : ℕ) → AgreesToFault (block_run m input n) (flat_run m input n)

-- a valid program that does over blocks what the source does is a translation of it
abbrev pub AgreementTranslates : Type 0
AgreementTranslates = (p : TranslationUnit) (m : MonitoredProgram) → IsValid m → ((input : Input) (n : ℕ) → Agrees (source.run p input n) (block_run m input n))
    → Translates p m

-- ---- the heap

-- a block that was freed: its record stood where the pointer leads to, and stands at no unit of the heap any more
pub record IsFreed (f g : Flat) (p : ℕ) : Type 0 where
  pub note : BlockNote
  pub number : note.number ≡ number_in p
  pub start : spot_of p ≡ In Heap note.base
  pub there : get_or f.heap.shadow.notes (note.base / 16) None ≡ Some note
  pub gone : (u : ℕ) → get_or g.heap.shadow.notes u None ≡ Some note → ⊥

-- what is freed is in no record, where each record stands at the units of its block alone
abbrev pub FreedBlocksHaveNoRecord : Type 0
FreedBlocksHaveNoRecord = (f g : Flat) (p : ℕ) → AreWhole f.heap.shadow.notes → (p ≡ 0 → ⊥) → flat_free f p ≡ Some g → IsFreed f g p

-- ---- strings

-- what is looked for in a block and in a region is the string: no bound cuts it off
abbrev pub BlockStrings : Type 0
BlockStrings = (p : Pointer) (b : Blocks) → IsString (byte_after b.store p) (string_in (Points p) b)

abbrev pub FlatStrings : Type 0
FlatStrings = (f : Flat) (p : ℕ) → IsString (flat_byte f p) (flat_string f p)

-- ---- texts

-- the text of a valid program spells it
abbrev pub PrintedProgramsAreRead : Type 0
PrintedProgramsAreRead = (m : MonitoredProgram) → IsValid m → Spells (text_of m) m
