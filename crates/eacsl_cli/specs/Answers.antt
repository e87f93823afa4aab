-- Ours: the words of the top theorem.
-- What the program answers: a status, the bytes on its output and a line on its error output, and what is due for its words.
use Rattle.std.specs.Prelude.{◌≡◌, ◌⊎◌, ℕ, ◌≤◌, ◌<◌, List, [], length, take, Option, Some, None, IfSome, codes}
use Rattle.c_syntax.specs.Programs.{TranslationUnit, PlainRefusal}
use Rattle.c_model.specs.declared.job.Job.{Job}
use Rattle.c_model.specs.declared.job.Job.TheVariants.{Run, Instrument, Exec}
use Rattle.c_model.specs.Limits.{most_annotated, most_monitored}
use Rattle.c_model.specs.Words.{job_of}
use Rattle.c_model.specs.WordLaws.{file_named}
use Rattle.c_model.specs.Phases.{AcceptedText, RefusedText}
use Rattle.c_model.specs.State.{Input, InputFault}
use Rattle.c_model.specs.MonitoredRuns.{ReadFault, Ran}
use Rattle.c_model.specs.Statuses.{exited_status, refused_status, usage_status, read_fault_status, write_fault_status, no_memory_status, no_file_status}
use Rattle.c_model.specs.Statuses.{too_long_status}
use Rattle.c_model.specs.Reports.{machine_report, line_of, refused_words, Extends}
use Rattle.mon_syntax.specs.Trees.{MonitoredProgram}
use Rattle.mon_syntax.specs.FlatMemory.{flat_run}
use Rattle.mon_syntax.specs.Text.{text_of}
use Rattle.mon_syntax.specs.Translates.{Translates}
use Rattle.mon_syntax.specs.Spelled.{Spells, IsMonitoredRefusal}
use Rattle.ea_ports.specs.Port.{more, Rose, RefusalCount}
use Rattle.c_machine.specs.Inputs.{Taking, Gave, IsInput, Untouched, EndsAsRead}

pub record Answer : Type 0 where
  pub status : ℕ
  pub output : List ℕ
  pub line : List ℕ

-- an answer without output
abbrev pub silent : ℕ → List ℕ → Answer
silent status words = record { status = status; output = []; line = line_of words }

abbrev pub usage_answer : Answer
usage_answer = silent usage_status (codes "usage")

abbrev pub read_fault_answer : Answer
read_fault_answer = silent read_fault_status (codes "read fault")

abbrev pub no_file_answer : Answer
no_file_answer = silent no_file_status (codes "no file")

abbrev pub too_long_answer : Answer
too_long_answer = silent too_long_status (codes "file too long")

abbrev pub refused_answer : PlainRefusal → Answer
refused_answer r = silent refused_status (refused_words r)

-- the line of status 9
abbrev pub memory_line : List ℕ
memory_line = line_of (codes "out of memory")

-- the most bytes of a job's file
abbrev pub file_limit : Job → ℕ
file_limit (Run file steps rte) = most_annotated
file_limit (Instrument file rte) = most_annotated
file_limit (Exec file steps) = most_monitored

-- the answer to a run: its report, and all that it printed
abbrev pub reported_answer : Ran → Answer
reported_answer r = record { status = (machine_report r.final).status; output = r.output; line = (machine_report r.final).line }

abbrev pub AnswersRun : Ran → Answer → Type 0
AnswersRun r a = a ≡ reported_answer r

-- the answer that a monitored program was written: its text, and no line
abbrev pub written_answer : MonitoredProgram → Answer
written_answer m = record { status = exited_status; output = text_of m; line = [] }

-- The bytes that a run took from the source. It wanted each of them: on an input that faults in its place the run is a read fault.
pub record TookWanted (source : Taking) (m : MonitoredProgram) (steps : ℕ) : Type 0 where
  pub bytes : List ℕ
  pub gave : Gave source.left source.left' bytes
  pub wanted : (k : ℕ) → k < length bytes → (flat_run m (record { bytes = take k bytes; tail = InputFault }) steps).final ≡ ReadFault

-- the answer to a run of the program on the input that the source was
pub record AnswersOnInput (source : Taking) (m : MonitoredProgram) (steps : ℕ) (a : Answer) : Type 0 where
  pub input : Input
  pub was : IsInput source input
  pub ends : EndsAsRead source (flat_run m input steps).final
  pub took : TookWanted source m steps
  pub answers : AnswersRun (flat_run m input steps) a

-- these bytes begin what the program prints on the input that the source was
pub record BeginsOnInput (source : Taking) (m : MonitoredProgram) (steps : ℕ) (sent : List ℕ) : Type 0 where
  pub input : Input
  pub was : IsInput source input
  pub took : TookWanted source m steps
  pub begins : Extends sent (flat_run m input steps).output

-- ---- what is due for a text

-- `run`: the text is refused, or it is accepted, and the run of a program in monitored C that translates it is reported. Up
-- to the source's first undefined operation this is the source's own run.
pub data RunDue (source : Taking) (text : List ℕ) (steps : ℕ) (a : Answer) : Type 0 where
  RunRefused : (r : PlainRefusal) → RefusedText text r → Untouched source → a ≡ refused_answer r → RunDue source text steps a
  Runs : (p : TranslationUnit) (m : MonitoredProgram) → AcceptedText text p → Translates p m → AnswersOnInput source m steps a → RunDue source text steps a

-- `instrument`: the text is refused, or it is accepted, and a program in monitored C that translates it is written
pub data InstrumentDue (text : List ℕ) (a : Answer) : Type 0 where
  InstrumentRefused : (r : PlainRefusal) → RefusedText text r → a ≡ refused_answer r → InstrumentDue text a
  Writes : (p : TranslationUnit) (m : MonitoredProgram) → AcceptedText text p → Translates p m → a ≡ written_answer m → InstrumentDue text a

-- `exec`: the text is refused, or it spells a program in monitored C, whose run is reported
pub data ExecDue (source : Taking) (text : List ℕ) (steps : ℕ) (a : Answer) : Type 0 where
  ExecRefused : (r : PlainRefusal) → IsMonitoredRefusal text r → Untouched source → a ≡ refused_answer r → ExecDue source text steps a
  Executes : (m : MonitoredProgram) → Spells text m → AnswersOnInput source m steps a → ExecDue source text steps a

-- `instrument` reads no input
abbrev pub TextDue : Taking → Job → List ℕ → Answer → Type 0
TextDue source (Run file steps rte) text a = RunDue source text steps a
TextDue source (Instrument file rte) text a = InstrumentDue text a × Untouched source
TextDue source (Exec file steps) text a = ExecDue source text steps a

-- ---- bytes that begin the output due: none, where the source wasn't asked, or a beginning of what is printed, for what was taken from the source, or of
-- what is written

abbrev pub RunBegins : Taking → List ℕ → ℕ → List ℕ → Type 0
RunBegins source text steps sent =
    ((sent ≡ []) × Untouched source)
    ⊎ ((p : TranslationUnit) × (m : MonitoredProgram) × AcceptedText text p × Translates p m × BeginsOnInput source m steps sent)

abbrev pub InstrumentBegins : List ℕ → List ℕ → Type 0
InstrumentBegins text sent = (sent ≡ []) ⊎ ((p : TranslationUnit) × (m : MonitoredProgram) × AcceptedText text p × Translates p m × Extends sent (text_of m))

abbrev pub ExecBegins : Taking → List ℕ → ℕ → List ℕ → Type 0
ExecBegins source text steps sent =
    ((sent ≡ []) × Untouched source) ⊎ ((m : MonitoredProgram) × Spells text m × BeginsOnInput source m steps sent)

abbrev pub TextBegins : Taking → Job → List ℕ → List ℕ → Type 0
TextBegins source (Run file steps rte) text sent = RunBegins source text steps sent
TextBegins source (Instrument file rte) text sent = InstrumentBegins text sent × Untouched source
TextBegins source (Exec file steps) text sent = ExecBegins source text steps sent

-- ---- what is due for the words of a command line

-- Which answer is due: by the words, the content of the folder with its count of faults before and after, and the source.
pub data IsDue (words : List (List ℕ)) (content : Option (List ℕ → Option (List ℕ))) (before now : ℕ) (source : Taking) (a : Answer) : Type 0 where
  -- the words have no job
  Usage : job_of words ≡ None → now ≡ before → Untouched source → a ≡ usage_answer → IsDue words content before now source a
  -- nothing stands under the name
  NoFile : (job : Job) → job_of words ≡ Some job → IfSome content (λ files. files (file_named job) ≡ None) → RefusalCount content before now → Untouched source
      → a ≡ no_file_answer → IsDue words content before now source a
  -- the file is longer than the limit
  TooLong : (job : Job) → job_of words ≡ Some job → IfSome content (λ files. (bytes : List ℕ) × (files (file_named job) ≡ Some bytes)
      × (file_limit job < length bytes)) → RefusalCount content before now → Untouched source → a ≡ too_long_answer → IsDue words content before now source a
  -- the folder failed
  FolderFault : (job : Job) → job_of words ≡ Some job → Rose before now → Untouched source → a ≡ read_fault_answer → IsDue words content before now source a
  -- what is due for the text of the file
  OfText : (job : Job) (text : List ℕ) → job_of words ≡ Some job → IfSome content (λ files. files (file_named job) ≡ Some text) → length text ≤ file_limit job
      → now ≡ before → TextDue source job text a → IsDue words content before now source a

pub data Begins (words : List (List ℕ)) (content : Option (List ℕ → Option (List ℕ))) (before now : ℕ) (source : Taking) (sent : List ℕ) : Type 0 where
  Nothing : sent ≡ [] → Untouched source → Begins words content before now source sent
  BeginsText : (job : Job) (text : List ℕ) → job_of words ≡ Some job → IfSome content (λ files. files (file_named job) ≡ Some text)
      → length text ≤ file_limit job → now ≡ before → TextBegins source job text sent → Begins words content before now source sent

-- ---- answers

-- a sink before and after: what it tells, and its count of faults
pub record Change : Type 0 where
  pub told : Option (List ℕ)
  pub told' : Option (List ℕ)
  pub faults : ℕ
  pub faults' : ℕ

abbrev pub change : Option (List ℕ) → Option (List ℕ) → ℕ → ℕ → Change
change told told' faults faults' = record { told = told; told' = told'; faults = faults; faults' = faults' }

-- a line that may be put after an output: that of an answer due, whose output this is, or that of status 9
abbrev pub IsLine : (Answer → Type 0) → List ℕ → List ℕ → Type 0
IsLine Due sent line = ((a : Answer) × Due a × (sent ≡ a.output) × (line ≡ a.line)) ⊎ (line ≡ memory_line)

-- How the program answers where these answers are due and these bytes begin the output due: an answer that is due is given,
-- or a sink failed (8), or memory ran out (9). At 8 and 9 the output has a beginning of what is due, and the error
-- output a beginning of a line: none where the output failed, and that of an answer only after the answer's whole output.
pub data Answered (Due : Answer → Type 0) (Begin : List ℕ → Type 0) (out err : Change) (status : ℕ) : Type 0 where
  Given : (a : Answer) → Due a → status ≡ a.status → out.told' ≡ more out.told a.output → out.faults' ≡ out.faults → err.told' ≡ more err.told a.line
      → err.faults' ≡ err.faults → Answered Due Begin out err status
  OutputFault : (sent : List ℕ) → status ≡ write_fault_status → Begin sent → out.told' ≡ more out.told sent → Rose out.faults out.faults' → err.told' ≡ err.told
      → err.faults' ≡ err.faults → Answered Due Begin out err status
  LineFault : (sent line : List ℕ) (k : ℕ) → status ≡ write_fault_status → Begin sent → out.told' ≡ more out.told sent → out.faults' ≡ out.faults
      → IsLine Due sent line → err.told' ≡ more err.told (take k line) → Rose err.faults err.faults' → Answered Due Begin out err status
  NoMemory : (sent line : List ℕ) (k : ℕ) → status ≡ no_memory_status → Begin sent → out.told' ≡ more out.told sent → out.faults' ≡ out.faults
      → IsLine Due sent line → err.told' ≡ more err.told (take k line) → err.faults' ≡ err.faults → Answered Due Begin out err status

-- How one line is put with a status: wholly, or the sink failed (8), or memory ran out (9), with a beginning of the line.
pub data IsSaid (line : List ℕ) (status : ℕ) (err : Change) (result : ℕ) : Type 0 where
  Whole : result ≡ status → err.told' ≡ more err.told line → err.faults' ≡ err.faults → IsSaid line status err result
  Failed : (k : ℕ) → result ≡ write_fault_status → err.told' ≡ more err.told (take k line) → Rose err.faults err.faults' → IsSaid line status err result
  Wanting : (k : ℕ) → result ≡ no_memory_status → err.told' ≡ more err.told (take k line) → err.faults' ≡ err.faults → IsSaid line status err result
