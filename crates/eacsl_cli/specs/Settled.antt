-- Ours: steps on the way to the answers of Answers.
-- How a line was said, where there may be no memory for it, and what the end of a run reports.
use Rattle.std.specs.Prelude.{◌≡◌, ℕ, List, Option, Some, None}
use Rattle.c_syntax.specs.Programs.{plain_refusal}
use Rattle.c_model.specs.MonitoredRuns.{Exits, Broken, Fault, Spent, Full, ReadFault}
use Rattle.c_model.specs.Statuses.{exited_status, refused_status, write_fault_status, no_memory_status}
use Rattle.c_model.specs.Reports.{Report, machine_report, line_of, refused_words}
use Rattle.c_machine.specs.declared.stop.Stop.{Stop}
use Rattle.c_machine.specs.declared.stop.Stop.TheVariants as stop
use Rattle.eacsl_engine.specs.declared.ended.Done.{Done}
use Rattle.eacsl_engine.specs.declared.ended.Done.TheVariants as done_as
use Rattle.eacsl_engine.specs.declared.ended.Ended.{Ended}
use Rattle.eacsl_engine.specs.declared.ended.Ended.TheVariants as ended
use Rattle.eacsl_cli.specs.Answers.{Change, IsSaid, memory_line}

-- a line that is made when it is said: it was said with the status, or there was no memory for it, and that was said
pub data IsSettled (line : List ℕ) (status : ℕ) (err : Change) (result : ℕ) : Type 0 where
  Said : IsSaid line status err result → IsSettled line status err result
  Wanting : IsSaid memory_line no_memory_status err result → IsSettled line status err result

-- the report of an end; there is none where the sink refused, and where memory ran out
abbrev pub report_of : Stop → Option Report
report_of (stop.Exit z) = Some (machine_report (Exits z))
report_of (stop.Broken number line kind how) = Some (machine_report (Broken number line kind how))
report_of stop.Spent = Some (machine_report Spent)
report_of (stop.Full segment) = Some (machine_report (Full segment))
report_of stop.Fault = Some (machine_report Fault)
report_of stop.ReadFault = Some (machine_report ReadFault)
report_of stop.WriteFault = None
report_of stop.OutOfMemory = None

-- the report of the end was said, whose line takes no memory
pub record IsTold (end : Stop) (err : Change) (result : ℕ) : Type 0 where
  pub said : Report
  pub is : report_of end ≡ Some said
  pub told : IsSaid said.line said.status err result

-- the report of the end was said, or there was no memory for its line
pub record IsReported (end : Stop) (err : Change) (result : ℕ) : Type 0 where
  pub said : Report
  pub is : report_of end ≡ Some said
  pub settled : IsSettled said.line said.status err result

-- nothing is said beside this status
pub record IsSilent (given : ℕ) (err : Change) (result : ℕ) : Type 0 where
  pub status : result ≡ given
  pub told : err.told' ≡ err.told
  pub faults : err.faults' ≡ err.faults

-- What is said of an end. Only the line of an exit and that of a broken annotation take memory, since numbers stand in them;
-- any other line becomes that of status 9 only by the sink's own answer.
abbrev pub Reported : Stop → Change → ℕ → Type 0
Reported stop.WriteFault err result = IsSilent write_fault_status err result
Reported stop.OutOfMemory err result = IsSaid memory_line no_memory_status err result
Reported (stop.Exit z) err result = IsReported (stop.Exit z) err result
Reported (stop.Broken number line kind how) err result = IsReported (stop.Broken number line kind how) err result
Reported stop.Spent err result = IsTold stop.Spent err result
Reported (stop.Full segment) err result = IsTold (stop.Full segment) err result
Reported stop.Fault err result = IsTold stop.Fault err result
Reported stop.ReadFault err result = IsTold stop.ReadFault err result

-- what is said of how a text was run
abbrev pub EndedSaid : Ended → Change → ℕ → Type 0
EndedSaid (ended.Finished ran annotations monitored code) err result = Reported ran.stop err result
EndedSaid (ended.Refused r) err result = IsSettled (line_of (refused_words (plain_refusal r))) refused_status err result
EndedSaid ended.OutOfMemory err result = IsSaid memory_line no_memory_status err result

-- what is said of how its translation was written
abbrev pub DoneSaid : Done → Change → ℕ → Type 0
DoneSaid done_as.Written err result = IsSilent exited_status err result
DoneSaid (done_as.Refused r) err result = IsSettled (line_of (refused_words (plain_refusal r))) refused_status err result
DoneSaid done_as.WriteFault err result = IsSilent write_fault_status err result
DoneSaid done_as.OutOfMemory err result = IsSaid memory_line no_memory_status err result
