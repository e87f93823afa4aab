-- Ours: laws of the runs that Machine defines.
-- Laws that the runs of code meet.
use Rattle.std.specs.Prelude.{◌≡◌, ℕ, List, Option}
use Rattle.c_model.specs.State.{Input}
use Rattle.c_model.specs.MonitoredRuns.{Ran}
use Rattle.c_model.specs.Reports.{Extends}
use Rattle.mon_syntax.specs.Memory.{Memory}
use Rattle.c_lower.specs.declared.code.Entry.{Entry}
use Rattle.c_lower.specs.declared.code.Instr.{Instr}
use Rattle.c_lower.specs.Machine.{CodeRun, begins, written}

-- code runs in one way: it takes so many instructions and ends so
abbrev pub CodeRunsOnce : Memory → Type 0
CodeRunsOnce M = (gs : List M.Val) (es : List Entry) (main : Option Entry) (code : List Instr) (mem : M.Mem) (input : Input) (n t u : ℕ) (r s : Ran)
    → CodeRun M gs es main code mem input n t r → CodeRun M gs es main code mem input n u s → (t ≡ u) × (r ≡ s)

-- what was written up to an instruction begins what the run writes
abbrev pub WritingBegins : Memory → Type 0
WritingBegins M = (gs : List M.Val) (es : List Entry) (main : Option Entry) (code : List Instr) (mem : M.Mem) (input : Input) (n t k : ℕ) (r : Ran)
    → CodeRun M gs es main code mem input n t r → Extends (written (begins M gs es main code k mem input n)) r.output
