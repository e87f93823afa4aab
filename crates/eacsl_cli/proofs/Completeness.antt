-- Of the answers due, one is left where no port failed.
use Rattle.std.proofs.Common.{◌≡◌, ◌⊎◌, ℕ, ◌≤◌, ◌<◌, List, length, Option, Some, None, sym, ap, ◌∙◌, subst, arith, inl, inr}
use Rattle.std.specs.Prelude.{IfSome, option_map}
use Rattle.c_syntax.specs.Programs.{TranslationUnit, PlainRefusal}
use Rattle.c_model.specs.declared.job.Job.{Job}
use Rattle.c_model.specs.WordLaws.{file_named}
use Rattle.c_model.specs.Phases.{AcceptedText, RefusedText}
use Rattle.c_model.specs.State.{Input}
use Rattle.c_model.specs.Meaning.{run}
use Rattle.c_model.specs.MonitoredRuns.{Final, machine_end}
use Rattle.c_model.specs.Reports.{machine_report, agrees_at}
use Rattle.c_reader.proofs.Texts.{one_program, apart, one_refusal}
use Rattle.mon_syntax.specs.Trees.{MonitoredProgram}
use Rattle.mon_syntax.specs.FlatMemory.{flat_run}
use Rattle.mon_syntax.specs.Translates.{Translates}
use Rattle.mon_syntax.specs.Spelled.{Spells, IsMonitoredRefusal}
use Rattle.mon_reader.proofs.Texts.{one_spelled, spelled_apart, one_monitored_refusal}
use Rattle.c_machine.specs.Inputs.{Taking}
use Rattle.eacsl_cli.specs.Answers.{Answer, reported_answer, AnswersRun, refused_answer, written_answer, file_limit, Change, IsDue, Usage, NoFile, TooLong, FolderFault, OfText, Begins, RunDue, RunRefused, Runs, InstrumentDue, InstrumentRefused}
use Rattle.eacsl_cli.specs.Answers.{Writes, ExecDue}
use Rattle.eacsl_cli.specs.Answers.{ExecRefused, Executes, TextDue, Answered, Given, OutputFault, LineFault, NoMemory}
use Rattle.eacsl_cli.specs.Complete.{Steady, IsGiven, answers_source, AnswersSource, IsAsked, IsAnswered, Complete}

-- ---- the answer to a translation is the answer to its source

module _ (p : TranslationUnit) (m : MonitoredProgram) (t : Translates p m) (input : Input) (steps : ℕ) (a : Answer) (d : AnswersRun (flat_run m input steps) a) where
  -- where the source's end is one of the machine's, the two runs are the same
  by_end : (e : Option Final) → agrees_at e (run p input steps).output (run p input steps).left (flat_run m input steps) → answers_source (option_map machine_report e) p input steps a
  by_end None g = (m, t, d)
  by_end (Some e) g = d ∙ ap reported_answer g

  source_answer : AnswersSource p input steps a
  source_answer = by_end (machine_end (run p input steps).final) (t.agrees input steps)

-- ---- what is due for a text that is asked for

same_job : {job job' : Job} {o : Option Job} → o ≡ Some job → o ≡ Some job' → job' ≡ job
same_job e f = cc

no_job : {job : Job} {o : Option Job} → o ≡ Some job → o ≡ None → ⊥
no_job e f = absurd cc

-- what the folder tells of the one file
told_text : {files : List ℕ → Option (List ℕ)} {content : Option (List ℕ → Option (List ℕ))} {file file' text text' : List ℕ} → content ≡ Some files → files file ≡ Some text → file' ≡ file → IfSome content (λ f. f file' ≡ Some text') → text' ≡ text
told_text {files} {file = file} {file'} {text} {text'} c h e i =
    let j : IfSome (Some files) (λ f. f file' ≡ Some text') = subst (λ o. IfSome o (λ f. f file' ≡ Some text')) c i in
    let k : files file ≡ Some text' = subst (λ x. files x ≡ Some text') e j in
    cc

told_none : {files : List ℕ → Option (List ℕ)} {content : Option (List ℕ → Option (List ℕ))} {file file' text : List ℕ} → content ≡ Some files → files file ≡ Some text → file' ≡ file → IfSome content (λ f. f file' ≡ None) → ⊥
told_none {files} {file = file} {file'} {text} c h e i =
    let j : IfSome (Some files) (λ f. f file' ≡ None) = subst (λ o. IfSome o (λ f. f file' ≡ None)) c i in
    let k : files file ≡ None = subst (λ x. files x ≡ None) e j in
    absurd cc

told_long : {files : List ℕ → Option (List ℕ)} {content : Option (List ℕ → Option (List ℕ))} {file file' text : List ℕ} {limit limit' : ℕ} → content ≡ Some files → files file ≡ Some text → length text ≤ limit → file' ≡ file → limit' ≡ limit
    → IfSome content (λ f. (bytes : List ℕ) × (f file' ≡ Some bytes) × (limit' < length bytes)) → ⊥
told_long {files} {file = file} {file'} {text} {limit} {limit'} c h l e n i =
    let j : IfSome (Some files) (λ f. (bytes : List ℕ) × (f file' ≡ Some bytes) × (limit' < length bytes)) = subst (λ o. IfSome o (λ f. (bytes : List ℕ) × (f file' ≡ Some bytes) × (limit' < length bytes))) c i in
    let k : files file ≡ Some j.0 = subst (λ x. files x ≡ Some j.0) e j.1 in
    let t : text ≡ j.0 = cc in
    let m : limit' < length text = subst (λ x. limit' < length x) (sym t) j.2 in
    absurd (omega (arith, l, m, n))

module _ {words : List (List ℕ)} {content : Option (List ℕ → Option (List ℕ))} {before now : ℕ} {source : Taking} {out err : Change} {job : Job} {text : List ℕ} (asked : IsAsked words content before now out err job text) where
  -- what is due is due for that text
  due_of_text : (a : Answer) → IsDue words content before now source a → TextDue source job text a
  due_of_text a (Usage j n u e) = absurd (no_job asked.job_is j)
  due_of_text a (NoFile job' j h n u e) = absurd (told_none asked.tells asked.holds (ap file_named (same_job asked.job_is j)) h)
  due_of_text a (TooLong job' j h n u e) = absurd (told_long asked.tells asked.holds asked.short (ap file_named (same_job asked.job_is j)) (ap file_limit (same_job asked.job_is j)) h)
  due_of_text a (FolderFault job' j n u e) = absurd (asked.folder n)
  due_of_text a (OfText job' text' j h l n d) =
      let same = same_job asked.job_is j in
      let told : text' ≡ text = told_text asked.tells asked.holds (ap file_named same) h in
      subst (λ x. TextDue source x text a) same (subst (λ x. TextDue source job' x a) told d)

-- where no count rose, an answer that is due was given, or memory ran out
settled : {Due : Answer → Type 0} {Begin : List ℕ → Type 0} {out err : Change} {status : ℕ} → Steady out.faults out.faults' → Steady err.faults err.faults' → Answered Due Begin out err status
    → (status ≡ 9) ⊎ ((a : Answer) × Due a × IsGiven a out err status)
settled o e (Given a d s t f t' f') = inr (a, d, record { status_is = s; output_is = t; line_is = t' })
settled o e (OutputFault sent s b t f t' f') = absurd (o f)
settled o e (LineFault sent line k s b t f l t' f') = absurd (e f')
settled o e (NoMemory sent line k s b t f l t' f') = inl s

-- ---- of what is due for a text

run_answer : {source : Taking} {text : List ℕ} {steps : ℕ} {a : Answer} {out err : Change} {status : ℕ} (p : TranslationUnit) → AcceptedText text p → RunDue source text steps a → IsGiven a out err status
    → IsAnswered source (λ input b. AnswersSource p input steps b) out err status
run_answer {text = text} p x (RunRefused r h u e) g = absurd (apart text p r x h)
run_answer {text = text} {steps} {a} p x (Runs q m y t d) g =
    let same : q ≡ p = one_program text q p y x in
    record { input = d.input; was = d.was; answer = a; answers = subst (λ u. AnswersSource u d.input steps a) same (source_answer q m t d.input steps a d.answers); given = g }

run_refusal : {source : Taking} {text : List ℕ} {steps : ℕ} {a : Answer} (r : PlainRefusal) → RefusedText text r → RunDue source text steps a → a ≡ refused_answer r
run_refusal {text = text} r h (RunRefused s k u e) = e ∙ ap refused_answer (one_refusal text s r k h)
run_refusal {text = text} r h (Runs q m y t d) = absurd (apart text q r y h)

instrument_answer : {text : List ℕ} {a : Answer} (p : TranslationUnit) → AcceptedText text p → InstrumentDue text a → (m : MonitoredProgram) × Translates p m × (a ≡ written_answer m)
instrument_answer {text} p x (InstrumentRefused r h e) = absurd (apart text p r x h)
instrument_answer {text} p x (Writes q m y t e) = (m, subst (λ u. Translates u m) (one_program text q p y x) t, e)

instrument_refusal : {text : List ℕ} {a : Answer} (r : PlainRefusal) → RefusedText text r → InstrumentDue text a → a ≡ refused_answer r
instrument_refusal {text} r h (InstrumentRefused s k e) = e ∙ ap refused_answer (one_refusal text s r k h)
instrument_refusal {text} r h (Writes q m y t e) = absurd (apart text q r y h)

exec_answer : {source : Taking} {text : List ℕ} {steps : ℕ} {a : Answer} {out err : Change} {status : ℕ} (m : MonitoredProgram) → Spells text m → ExecDue source text steps a → IsGiven a out err status
    → IsAnswered source (λ input b. AnswersRun (flat_run m input steps) b) out err status
exec_answer {text = text} m x (ExecRefused r h u e) g = absurd (spelled_apart text m r x h)
exec_answer {text = text} {steps} {a} m x (Executes n y d) g =
    record { input = d.input; was = d.was; answer = a; answers = subst (λ u. AnswersRun (flat_run u d.input steps) a) (one_spelled text n m y x) d.answers; given = g }

exec_refusal : {source : Taking} {text : List ℕ} {steps : ℕ} {a : Answer} (r : PlainRefusal) → IsMonitoredRefusal text r → ExecDue source text steps a → a ≡ refused_answer r
exec_refusal {text = text} r h (ExecRefused s k u e) = e ∙ ap refused_answer (one_monitored_refusal text s r k h)
exec_refusal {text = text} r h (Executes m y d) = absurd (spelled_apart text m r y h)

given_as : {a b : Answer} {out err : Change} {status : ℕ} → a ≡ b → IsGiven a out err status → IsGiven b out err status
given_as {out = out} {err} {status} e g = subst (λ x. IsGiven x out err status) e g

pub complete : {words : List (List ℕ)} {content : Option (List ℕ → Option (List ℕ))} {before now : ℕ} {source : Taking} {out err : Change} {status : ℕ}
    → Answered (IsDue words content before now source) (Begins words content before now source) out err status → Complete words content before now source out err status
complete {words} {content} {before} {now} {source} {out} {err} {status} answered = record {
  runs = λ file steps text p q x. elim (of_text q) [ inl n ↦ inl n | inr (a, d, g) ↦ inr (run_answer p x d g) ];
  instruments = λ file text p q x. elim (of_text q) [ inl n ↦ inl n | inr (a, d, g) ↦ let w = instrument_answer p x d.0 in inr (w.0, w.1, given_as w.2 g) ];
  executes = λ file steps text m q x. elim (of_text q) [ inl n ↦ inl n | inr (a, d, g) ↦ inr (exec_answer m x d g) ];
  run_refuses = λ file steps text r q h. elim (of_text q) [ inl n ↦ inl n | inr (a, d, g) ↦ inr (given_as (run_refusal r h d) g) ];
  instrument_refuses = λ file text r q h. elim (of_text q) [ inl n ↦ inl n | inr (a, d, g) ↦ inr (given_as (instrument_refusal r h d.0) g) ];
  exec_refuses = λ file steps text r q h. elim (of_text q) [ inl n ↦ inl n | inr (a, d, g) ↦ inr (given_as (exec_refusal r h d) g) ];
}
  where
    of_text : {job : Job} {text : List ℕ} → IsAsked words content before now out err job text → (status ≡ 9) ⊎ ((a : Answer) × TextDue source job text a × IsGiven a out err status)
    of_text q = elim (settled q.output q.lines answered) [ inl n ↦ inl n | inr (a, d, g) ↦ inr (a, due_of_text q a d, g) ]
