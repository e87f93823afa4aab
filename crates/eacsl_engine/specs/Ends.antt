-- Ours: the words of this crate's theorem.
-- What the calls on a text come to, and what they leave of the source and of the sink.
use Rattle.std.specs.Prelude.{◌≡◌, ◌⊎◌, ℕ, List, Option, Some, None, IfSome}
use Rattle.c_syntax.specs.Programs.{TranslationUnit, plain_refusal}
use Rattle.c_model.specs.Phases.{AcceptedText, RefusedText}
use Rattle.c_model.specs.State.{Input}
use Rattle.c_model.specs.MonitoredRuns.{Final, Exits, Broken, Fault, Spent, Full, ReadFault}
use Rattle.mon_syntax.specs.Trees.{MonitoredProgram, plain_program}
use Rattle.mon_syntax.specs.FlatMemory.{flat_run}
use Rattle.mon_syntax.specs.Text.{text_of}
use Rattle.mon_syntax.specs.Translates.{Translates}
use Rattle.mon_syntax.specs.Spelled.{Spells, IsMonitoredRefusal}
use Rattle.ea_ports.specs.declared.SinkFault.{SinkFault}
use Rattle.ea_ports.specs.declared.SinkFault.TheVariants.{Failed, Memory}
use Rattle.ea_ports.specs.Buffered.{Port, Wrote}
use Rattle.ea_ports.specs.Port.{more}
use Rattle.c_printer.specs.Printing.{PrintCut}
use Rattle.c_lower.specs.declared.code.Code.{Code}
use Rattle.c_machine.specs.declared.stop.Ran.{Ran}
use Rattle.c_machine.specs.declared.stop.Stop.{Stop}
use Rattle.c_machine.specs.declared.stop.Stop.TheVariants as stop
use Rattle.c_machine.specs.Inputs.{Taking, Untouched, IsInput}
use Rattle.c_machine.specs.Whole.{RunOn, RanAs}
use Rattle.eacsl_engine.specs.declared.ended.Done.{Done}
use Rattle.eacsl_engine.specs.declared.ended.Done.TheVariants as done_as
use Rattle.eacsl_engine.specs.declared.ended.Ended.{Ended}
use Rattle.eacsl_engine.specs.declared.ended.Ended.TheVariants as ended
use Rattle.eacsl_engine.specs.Annotations.{annotations_of}

-- the text is accepted, and this program in monitored C translates its program
pub record IsTranslated (text : List ℕ) (m : MonitoredProgram) : Type 0 where
  pub program : TranslationUnit
  pub accepted : AcceptedText text program
  pub translates : Translates program m

-- and so many annotations stand in the text's program
pub record IsCounted (text : List ℕ) (annotations : ℕ) (m : MonitoredProgram) : Type 0 where
  pub translated : IsTranslated text m
  pub count : annotations ≡ annotations_of translated.program

-- on each input and with each number of steps, the code's run is the program's over flat memory
abbrev pub IsCodeOf : Code → MonitoredProgram → Type 0
IsCodeOf code m = (input : Input) (n : ℕ) → (turns : ℕ) × RunOn code input n turns (flat_run m input n)

-- the end of the program's run that a stop is; none where the run was cut, since the sink failed or memory ran out
abbrev pub final_of : Stop → Option Final
final_of (stop.Exit z) = Some (Exits z)
final_of (stop.Broken number line kind how) = Some (Broken number line kind how)
final_of stop.Spent = Some Spent
final_of (stop.Full segment) = Some (Full segment)
final_of stop.Fault = Some Fault
final_of stop.ReadFault = Some ReadFault
final_of stop.WriteFault = None
final_of stop.OutOfMemory = None

-- on the input that the source was, the program's run over flat memory ends so, with these steps left, and what it writes was written
pub record IsFlatRun (source : Taking) (port port' : Port) (steps : ℕ) (m : MonitoredProgram) (ran : Ran) (end : Final) : Type 0 where
  pub input : Input
  pub is_input : IsInput source input
  pub bytes : List ℕ
  pub wrote : Wrote port port' bytes
  pub is : flat_run m input steps ≡ record { final = end; output = bytes; left = ran.left }

-- The code is the program's. What the run came to, its instructions and what was written are those of the code's run, and so those of the program's.
pub record IsRun (source : Taking) (port port' : Port) (steps : ℕ) (m : MonitoredProgram) (code : Code) (ran : Ran) : Type 0 where
  pub lowered : IsCodeOf code m
  pub run : RanAs code steps source port port' ran.stop ran
  pub flat : IfSome (final_of ran.stop) (λ end. IsFlatRun source port port' steps m ran end)

-- nothing was read, and nothing was written
pub record IsUnused (source : Taking) (port port' : Port) : Type 0 where
  pub unread : Untouched source
  pub unwritten : port' ≡ port

-- a program in monitored C was run, or memory ran out before
abbrev pub MachineEnds : Taking → Port → Port → ℕ → ℕ → MonitoredProgram → Ended → Type 0
MachineEnds source port port' steps count m (ended.Finished ran annotations monitored code) =
    (annotations ≡ count) × (plain_program monitored ≡ m) × IsRun source port port' steps m code ran
MachineEnds source port port' steps count m (ended.Refused r) = ⊥
MachineEnds source port port' steps count m ended.OutOfMemory = IsUnused source port port'

-- `run_text`: a program that translates the text's was run, or the text is refused, or memory ran out before the run
abbrev pub RunEnds : Taking → Port → Port → List ℕ → ℕ → Ended → Type 0
RunEnds source port port' text steps (ended.Finished ran annotations monitored code) =
    IsCounted text annotations (plain_program monitored) × IsRun source port port' steps (plain_program monitored) code ran
RunEnds source port port' text steps (ended.Refused r) = RefusedText text (plain_refusal r) × IsUnused source port port'
RunEnds source port port' text steps ended.OutOfMemory = IsUnused source port port'

-- `exec_text`: the program that the text spells was run, or the text is refused, or memory ran out before the run
abbrev pub ExecEnds : Taking → Port → Port → List ℕ → ℕ → Ended → Type 0
ExecEnds source port port' text steps (ended.Finished ran annotations monitored code) =
    Spells text (plain_program monitored) × (annotations ≡ 0) × IsRun source port port' steps (plain_program monitored) code ran
ExecEnds source port port' text steps (ended.Refused r) = IsMonitoredRefusal text (plain_refusal r) × IsUnused source port port'
ExecEnds source port port' text steps ended.OutOfMemory = IsUnused source port port'

-- a part of the text of a translation was written, since the sink refused the rest
abbrev pub IsCut : Port → Port → List ℕ → SinkFault → Type 0
IsCut port port' text fault = (m : MonitoredProgram) × IsTranslated text m × PrintCut (text_of m) port.told port'.told port.faults port'.faults fault

-- `instrument_text`: the text of a program that translates the text's was written, or the text is refused, or the sink failed, or memory ran out
abbrev pub InstrumentEnds : Port → Port → List ℕ → Done → Type 0
InstrumentEnds port port' text done_as.Written =
    (m : MonitoredProgram) × IsTranslated text m × (port'.told ≡ more port.told (text_of m)) × (port'.faults ≡ port.faults)
InstrumentEnds port port' text (done_as.Refused r) = RefusedText text (plain_refusal r) × (port' ≡ port)
InstrumentEnds port port' text done_as.WriteFault = IsCut port port' text Failed
InstrumentEnds port port' text done_as.OutOfMemory = (port' ≡ port) ⊎ IsCut port port' text Memory
