-- Ours: the top theorem, of faults.
-- What shows a fault of the machine. `run` comes to one only where the source's own run comes to an operation that C leaves undefined.
use Rattle.std.specs.Prelude.{◌≡◌, ℕ, List, Option, Some, None, IfSome}
use Rattle.c_syntax.specs.declared.place.Place.{Place}
use Rattle.c_syntax.specs.Programs.{TranslationUnit}
use Rattle.c_model.specs.declared.job.Job.{Job}
use Rattle.c_model.specs.declared.job.Job.TheVariants.{Run, Instrument, Exec}
use Rattle.c_model.specs.Phases.{AcceptedText}
use Rattle.c_model.specs.State.{Input, Undefined}
use Rattle.c_model.specs.Meaning.{run}
use Rattle.c_model.specs.MonitoredRuns.{Fault}
use Rattle.mon_syntax.specs.Trees.{MonitoredProgram}
use Rattle.mon_syntax.specs.FlatMemory.{flat_run}
use Rattle.mon_syntax.specs.Spelled.{Spells}
use Rattle.c_machine.specs.Inputs.{Taking, IsInput}

-- the run of the program of a file's text, on the input that the source was, comes to an undefined operation
pub record RunsUndefined (content : Option (List ℕ → Option (List ℕ))) (source : Taking) (file : List ℕ) (steps : ℕ) : Type 0 where
  pub text : List ℕ
  pub told : IfSome content (λ files. files file ≡ Some text)
  pub program : TranslationUnit
  pub accepted : AcceptedText text program
  pub input : Input
  pub was : IsInput source input
  pub at : Place
  pub ends : (run program input steps).final ≡ Undefined at

-- the run of the monitored program that a file's text spells, on the input that the source was, faults
pub record RunsToFault (content : Option (List ℕ → Option (List ℕ))) (source : Taking) (file : List ℕ) (steps : ℕ) : Type 0 where
  pub text : List ℕ
  pub told : IfSome content (λ files. files file ≡ Some text)
  pub program : MonitoredProgram
  pub spelled : Spells text program
  pub input : Input
  pub was : IsInput source input
  pub ends : (flat_run program input steps).final ≡ Fault

-- the job of the words, where it ends in a fault; `instrument` never does, and no words without a job do
abbrev pub ShowsFault : Option (List ℕ → Option (List ℕ)) → Taking → Option Job → Type 0
ShowsFault content source None = ⊥
ShowsFault content source (Some (Run file steps rte)) = RunsUndefined content source file steps
ShowsFault content source (Some (Instrument file rte)) = ⊥
ShowsFault content source (Some (Exec file steps)) = RunsToFault content source file steps
