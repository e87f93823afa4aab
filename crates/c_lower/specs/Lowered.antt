-- Ours: the theorem of this crate.
-- When code does what a program in monitored C means.
use Rattle.std.specs.Prelude.{◌≡◌, ℕ, ℤ, pos, List, map, Option, Some}
use Rattle.c_model.specs.State.{Input}
use Rattle.mon_syntax.specs.Trees.{MonitoredGlobal, MonitoredProgram, plain_global}
use Rattle.mon_syntax.specs.Memory.{Memory}
use Rattle.mon_syntax.specs.Meaning.{run}
use Rattle.c_lower.specs.declared.code.Code.{Code}
use Rattle.c_lower.specs.declared.code.Entry.{Entry}
use Rattle.c_lower.specs.declared.code.Instr.{Instr}
use Rattle.c_lower.specs.Machine.{CodeRun}

-- the globals and literals of the program whose code it is
abbrev pub globals_of : Code → List MonitoredGlobal
globals_of code = map plain_global code.globals.items

-- each number is a value of the memory, and the null pointer is that of 0
pub record KeepsNumbers (M : Memory) : Type 0 where
  pub numbers : (z : ℤ) → M.number_of (M.number z) ≡ Some z
  pub zero : M.null ≡ M.number (pos 0)

-- from each memory, on each input and with each number of steps, the code's run is the program's
abbrev pub RunsAs : (M : Memory) → MonitoredProgram → List Entry → Option Entry → List Instr → Type 0
RunsAs M m es main code =
    (mem : M.Mem) (input : Input) (n : ℕ) → (turns : ℕ) × CodeRun M (M.starts m.globals) es main code mem input n turns (run M m mem input n)
