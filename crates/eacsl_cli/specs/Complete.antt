-- Ours: the top theorem in words of the source alone.
-- What a call answers in which no port failed, and which statuses there are.
use Rattle.std.specs.Prelude.{◌≡◌, ◌⊎◌, ℕ, ◌≤◌, ◌<◌, Bool, true, false, List, length, Option, Some, None}
use Rattle.c_syntax.specs.Programs.{TranslationUnit, PlainRefusal}
use Rattle.c_model.specs.declared.job.Job.{Job}
use Rattle.c_model.specs.declared.job.Job.TheVariants.{Run, Instrument, Exec}
use Rattle.c_model.specs.Words.{job_of}
use Rattle.c_model.specs.WordLaws.{file_named}
use Rattle.c_model.specs.Phases.{AcceptedText, RefusedText}
use Rattle.c_model.specs.State.{Input}
use Rattle.c_model.specs.Meaning.{run}
use Rattle.c_model.specs.Statuses.{read_fault_status, write_fault_status, no_memory_status, too_long_status}
use Rattle.c_model.specs.Reports.{Report, report}
use Rattle.mon_syntax.specs.Trees.{MonitoredProgram}
use Rattle.mon_syntax.specs.FlatMemory.{flat_run}
use Rattle.mon_syntax.specs.Translates.{Translates}
use Rattle.mon_syntax.specs.Spelled.{Spells, IsMonitoredRefusal}
use Rattle.ea_ports.specs.Port.{more, Rose}
use Rattle.c_machine.specs.Inputs.{Taking, IsInput, Untouched}
use Rattle.eacsl_cli.specs.Answers.{Answer, AnswersRun, refused_answer, written_answer, file_limit, Change}

-- no fault was counted
abbrev pub Steady : ℕ → ℕ → Type 0
Steady before now = Rose before now → ⊥

-- the whole answer was given
pub record IsGiven (a : Answer) (out err : Change) (status : ℕ) : Type 0 where
  pub status_is : status ≡ a.status
  pub output_is : out.told' ≡ more out.told a.output
  pub line_is : err.told' ≡ more err.told a.line

-- The answer to an accepted program. Where its run has a report, which it has unless it ends undefined: that report, and all
-- that it printed. Else, those of a program in monitored C that translates it; its output goes on from the run's.
abbrev pub answers_source : Option Report → TranslationUnit → Input → ℕ → Answer → Type 0
answers_source (Some said) p input steps a = a ≡ record { status = said.status; output = (run p input steps).output; line = said.line }
answers_source None p input steps a = (m : MonitoredProgram) × Translates p m × AnswersRun (flat_run m input steps) a

abbrev pub AnswersSource : TranslationUnit → Input → ℕ → Answer → Type 0
AnswersSource p input steps a = answers_source (report (run p input steps).final) p input steps a

-- The words have a job on a file that the folder tells, and no port failed.
pub record IsAsked (words : List (List ℕ)) (content : Option (List ℕ → Option (List ℕ))) (before now : ℕ) (out err : Change) (job : Job)
    (text : List ℕ) : Type 0 where
  pub files : List ℕ → Option (List ℕ)
  pub tells : content ≡ Some files
  pub job_is : job_of words ≡ Some job
  pub holds : files (file_named job) ≡ Some text
  pub short : length text ≤ file_limit job
  pub folder : Steady before now
  pub output : Steady out.faults out.faults'
  pub lines : Steady err.faults err.faults'

-- the source was one input, on which the program's answer was given
pub record IsAnswered (source : Taking) (Answers : Input → Answer → Type 0) (out err : Change) (status : ℕ) : Type 0 where
  pub input : Input
  pub was : IsInput source input
  pub answer : Answer
  pub answers : Answers input answer
  pub given : IsGiven answer out err status

-- Of each job and text the answer that is due is given, or else memory ran out.
pub record Complete (words : List (List ℕ)) (content : Option (List ℕ → Option (List ℕ))) (before now : ℕ) (source : Taking) (out err : Change)
    (status : ℕ) : Type 0 where
  -- `run` of an accepted text: its one program's run, on the input that the source was
  pub runs : (file : List ℕ) (steps : ℕ) (text : List ℕ) (p : TranslationUnit) → IsAsked words content before now out err (Run file steps false) text
      → AcceptedText text p → (status ≡ no_memory_status) ⊎ IsAnswered source (λ input a. AnswersSource p input steps a) out err status
  -- `instrument` of an accepted text: the text of a program that translates its one program
  pub instruments : (file : List ℕ) (text : List ℕ) (p : TranslationUnit) → IsAsked words content before now out err (Instrument file false) text
      → AcceptedText text p → (status ≡ no_memory_status) ⊎ ((m : MonitoredProgram) × Translates p m × IsGiven (written_answer m) out err status)
  -- `exec` of a text that spells a program: its run, on the input that the source was
  pub executes : (file : List ℕ) (steps : ℕ) (text : List ℕ) (m : MonitoredProgram) → IsAsked words content before now out err (Exec file steps) text
      → Spells text m → (status ≡ no_memory_status) ⊎ IsAnswered source (λ input a. AnswersRun (flat_run m input steps) a) out err status
  -- any other text: its one refusal
  pub run_refuses : (file : List ℕ) (steps : ℕ) (text : List ℕ) (r : PlainRefusal) → IsAsked words content before now out err (Run file steps false) text
      → RefusedText text r → (status ≡ no_memory_status) ⊎ IsGiven (refused_answer r) out err status
  pub instrument_refuses : (file : List ℕ) (text : List ℕ) (r : PlainRefusal) → IsAsked words content before now out err (Instrument file false) text
      → RefusedText text r → (status ≡ no_memory_status) ⊎ IsGiven (refused_answer r) out err status
  pub exec_refuses : (file : List ℕ) (steps : ℕ) (text : List ℕ) (r : PlainRefusal) → IsAsked words content before now out err (Exec file steps) text
      → IsMonitoredRefusal text r → (status ≡ no_memory_status) ⊎ IsGiven (refused_answer r) out err status

-- a status of the program, and what shows it
pub record IsStatus (before now : ℕ) (source : Taking) (status : ℕ) : Type 0 where
  pub most : status ≤ too_long_status
  -- a read fault comes only where the folder or the source failed
  pub read_fault : status ≡ read_fault_status → Rose before now ⊎ Rose source.faults source.faults'
  -- where the source failed, that is the answer, unless a sink failed or memory ran out
  pub source_fault : source.faults < source.faults' → (status ≡ read_fault_status) ⊎ (status ≡ write_fault_status) ⊎ (status ≡ no_memory_status)

-- the job reads the program's input
abbrev pub reads_input : Option Job → Bool
reads_input None = false
reads_input (Some (Run file steps rte)) = true
reads_input (Some (Instrument file rte)) = false
reads_input (Some (Exec file steps)) = true

-- words without a job leave the source as it was, and so does `instrument`
pub record LeavesSource (job : Option Job) (source : Taking) : Type 0 where
  pub unread : reads_input job ≡ false → Untouched source
