-- Where the program answers that the machine faulted.
use Rattle.std.proofs.Common.{◌≡◌, ℕ, List, Option, Some, None, refl, sym, ap, ◌∙◌, subst, arith}
use Rattle.std.specs.Prelude.{IfSome}
use Rattle.c_syntax.specs.declared.place.Place.{Place}
use Rattle.c_syntax.specs.Programs.{TranslationUnit}
use Rattle.c_model.specs.declared.job.Job.{Job}
use Rattle.c_model.specs.declared.job.Job.TheVariants.{Run, Instrument, Exec}
use Rattle.c_model.specs.WordLaws.{file_named}
use Rattle.c_model.specs.Words.{job_of}
use Rattle.c_model.specs.State.{Input}
use Rattle.c_model.specs.State as source
use Rattle.c_model.specs.Meaning.{run}
use Rattle.c_model.specs.MonitoredRuns.{Final, Exits, Broken, Fault, Spent, Full, ReadFault, machine_end}
use Rattle.c_model.specs.Reports.{machine_report, agrees_at}
use Rattle.mon_syntax.specs.Trees.{MonitoredProgram}
use Rattle.mon_syntax.specs.FlatMemory.{flat_run}
use Rattle.mon_syntax.specs.Translates.{Translates}
use Rattle.c_machine.specs.Inputs.{Taking}
use Rattle.eacsl_cli.specs.Answers.{Answer, AnswersRun, Change, IsDue, Usage, NoFile, TooLong, FolderFault, OfText, Begins, TextDue, RunRefused, Runs, InstrumentRefused, Writes, ExecRefused, Executes, Answered, Given, OutputFault, LineFault}
use Rattle.eacsl_cli.specs.Answers.{NoMemory}
use Rattle.eacsl_cli.specs.Faults.{ShowsFault}

-- only a fault is reported as one
fault_reported : (end : Final) → (machine_report end).status ≡ 6 → end ≡ Fault
fault_reported (Exits z) e = absurd cc
fault_reported (Broken n l kind how) e = absurd cc
fault_reported Fault e = refl
fault_reported Spent e = absurd cc
fault_reported (Full segment) e = absurd cc
fault_reported ReadFault e = absurd cc

-- no end of a source that C defines is a fault of the machine
never_fault : (e : source.Final) → machine_end e ≡ Some Fault → ⊥
never_fault (source.Exits z) h = absurd cc
never_fault (source.Broken n l kind how) h = absurd cc
never_fault (source.Undefined at) h = absurd cc
never_fault source.Spent h = absurd cc
never_fault (source.Full segment) h = absurd cc
never_fault source.ReadFault h = absurd cc

undefined_end : (e : source.Final) → machine_end e ≡ None → (at : Place) × (e ≡ source.Undefined at)
undefined_end (source.Exits z) h = absurd cc
undefined_end (source.Broken n l kind how) h = absurd cc
undefined_end (source.Undefined at) h = (at, refl)
undefined_end source.Spent h = absurd cc
undefined_end (source.Full segment) h = absurd cc
undefined_end source.ReadFault h = absurd cc

-- where a translation faults, its source's run is undefined
undefined_source : (p : TranslationUnit) (m : MonitoredProgram) → Translates p m → (input : Input) (steps : ℕ) → (flat_run m input steps).final ≡ Fault → (at : Place) × ((run p input steps).final ≡ source.Undefined at)
undefined_source p m t input steps fault = undefined_end (run p input steps).final (by (machine_end (run p input steps).final) refl (t.agrees input steps))
  where
    by : (o : Option Final) → machine_end (run p input steps).final ≡ o → agrees_at o (run p input steps).output (run p input steps).left (flat_run m input steps) → machine_end (run p input steps).final ≡ None
    by None e g = e
    by (Some end) e g =
        let same : end ≡ Fault = sym (ap (λ r. r.final) g) ∙ fault in
        absurd (never_fault (run p input steps).final (e ∙ ap Some same))

-- ---- what is due where the status is that of a fault

run_faults : (m : MonitoredProgram) (input : Input) (steps : ℕ) (a : Answer) → AnswersRun (flat_run m input steps) a → a.status ≡ 6 → (flat_run m input steps).final ≡ Fault
run_faults m input steps a d e = fault_reported (flat_run m input steps).final (sym (ap (λ (x : Answer). x.status) d) ∙ e)

-- an answer with another status
other : {a b : Answer} → a ≡ b → a.status ≡ 6 → b.status ≡ 6
other e s = sym (ap (λ (x : Answer). x.status) e) ∙ s

module _ (content : Option (List ℕ → Option (List ℕ))) (source : Taking) where
  text_fault : (job : Job) (text : List ℕ) (a : Answer) → IfSome content (λ files. files (file_named job) ≡ Some text) → TextDue source job text a → a.status ≡ 6 → ShowsFault content source (Some job)
  text_fault (Run file steps rte) text a told (RunRefused r h u e) s = let six : 2 ≡ 6 = other e s in absurd cc
  text_fault (Run file steps rte) text a told (Runs p m x t d) s =
      let end = undefined_source p m t d.input steps (run_faults m d.input steps a d.answers s) in
      record { text = text; told = told; program = p; accepted = x; input = d.input; was = d.was; at = end.0; ends = end.1 }
  text_fault (Instrument file rte) text a told (InstrumentRefused r h e, u) s = let six : 2 ≡ 6 = other e s in absurd cc
  text_fault (Instrument file rte) text a told (Writes p m x t e, u) s = let six : 0 ≡ 6 = other e s in absurd cc
  text_fault (Exec file steps) text a told (ExecRefused r h u e) s = let six : 2 ≡ 6 = other e s in absurd cc
  text_fault (Exec file steps) text a told (Executes m x d) s =
      record { text = text; told = told; program = m; spelled = x; input = d.input; was = d.was; ends = run_faults m d.input steps a d.answers s }

module _ {content : Option (List ℕ → Option (List ℕ))} {source : Taking} where
  module _ {words : List (List ℕ)} {before now : ℕ} where
    due_fault : (a : Answer) → IsDue words content before now source a → a.status ≡ 6 → ShowsFault content source (job_of words)
    due_fault a (Usage j n u e) s = let six : 3 ≡ 6 = other e s in absurd cc
    due_fault a (NoFile job j h n u e) s = let six : 10 ≡ 6 = other e s in absurd cc
    due_fault a (TooLong job j h n u e) s = let six : 11 ≡ 6 = other e s in absurd cc
    due_fault a (FolderFault job j n u e) s = let six : 7 ≡ 6 = other e s in absurd cc
    due_fault a (OfText job text j h l n d) s = subst (ShowsFault content source) (sym j) (text_fault content source job text a h d s)

    pub fault_shown : {out err : Change} {status : ℕ} → Answered (IsDue words content before now source) (Begins words content before now source) out err status → status ≡ 6 → ShowsFault content source (job_of words)
    fault_shown (Given a d s t f t' f') e = due_fault a d (sym s ∙ e)
    fault_shown (OutputFault sent s b t f t' f') e = absurd (omega (arith, s, e))
    fault_shown (LineFault sent line k s b t f l t' f') e = absurd (omega (arith, s, e))
    fault_shown (NoMemory sent line k s b t f l t' f') e = absurd (omega (arith, s, e))
