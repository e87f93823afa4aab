-- Which statuses there are, and what shows them.
use Rattle.std.proofs.Common.{◌≡◌, ◌⊎◌, ℕ, ◌≤◌, ◌<◌, List, Option, refl, sym, subst, arith, inl, inr}
use Rattle.c_model.specs.declared.job.Job.{Job}
use Rattle.c_model.specs.declared.job.Job.TheVariants.{Run, Instrument, Exec}
use Rattle.c_model.specs.Reports.{machine_report}
use Rattle.c_model.specs.MonitoredRuns.{Final, Exits, Broken, Fault, Spent, Full, ReadFault}
use Rattle.mon_syntax.specs.Trees.{MonitoredProgram}
use Rattle.mon_syntax.specs.FlatMemory.{flat_run}
use Rattle.ea_ports.specs.Port.{Rose}
use Rattle.c_machine.specs.Inputs.{Taking, Untouched}
use Rattle.eacsl_cli.specs.Answers.{Answer, Change, AnswersOnInput, IsDue, Usage, NoFile, TooLong, FolderFault, OfText, Begins, TextDue, RunRefused, Runs, InstrumentRefused, Writes, ExecRefused, Executes, Answered, Given, OutputFault, LineFault}
use Rattle.eacsl_cli.specs.Answers.{NoMemory}
use Rattle.eacsl_cli.specs.Complete.{IsStatus}

-- what the status of a report tells of the end
record Shows (end : Final) (status : ℕ) : Type 0 where
  most : status ≤ 11
  seven : status ≡ 7 → end ≡ ReadFault
  read : end ≡ ReadFault → status ≡ 7

shows_other : {end : Final} (status : ℕ) → status ≤ 11 → (status ≡ 7 → ⊥) → (end ≡ ReadFault → ⊥) → Shows end status
shows_other status m n e = record { most = m; seven = λ s. absurd (n s); read = λ r. absurd (e r) }

-- a report has status 0, 1, 4, 5, 6 or 7, and 7 just of a read fault
shows : (end : Final) → Shows end (machine_report end).status
shows (Exits z) = shows_other 0 (omega arith) (λ s. absurd cc) (λ r. absurd cc)
shows (Broken n l kind how) = shows_other 1 (omega arith) (λ s. absurd cc) (λ r. absurd cc)
shows Spent = shows_other 5 (omega arith) (λ s. absurd cc) (λ r. absurd cc)
shows (Full segment) = shows_other 4 (omega arith) (λ s. absurd cc) (λ r. absurd cc)
shows Fault = shows_other 6 (omega arith) (λ s. absurd cc) (λ r. absurd cc)
shows ReadFault = record { most = omega arith; seven = λ s. refl; read = λ r. refl }

not_touched : {source : Taking} → Untouched source → source.faults < source.faults' → ⊥
not_touched u l = absurd (omega (arith, u.faults, l))

module _ {before now : ℕ} {source : Taking} where
  -- a status that is given where the source wasn't asked
  unasked_status : (status : ℕ) → status ≤ 11 → (status ≡ 7 → Rose before now) → Untouched source → IsStatus before now source status
  unasked_status status m r u = record { most = m; read_fault = λ s. inl (r s); source_fault = λ l. absurd (not_touched u l) }

  refused_status : Untouched source → IsStatus before now source 2
  refused_status u = unasked_status 2 (omega arith) (λ s. absurd cc) u

  run_status : {m : MonitoredProgram} {steps : ℕ} {a : Answer} → AnswersOnInput source m steps a → IsStatus before now source a.status
  run_status {m} {steps} d =
      let s = shows (flat_run m d.input steps).final in
      subst (λ (a : Answer). IsStatus before now source a.status) (sym d.answers) (record {
        most = s.most;
        read_fault = λ e. inr (d.ends.failed (s.seven e));
        source_fault = λ l. inl (s.read (d.ends.ends l));
      })

  given_status : {a b : Answer} → a ≡ b → IsStatus before now source b.status → IsStatus before now source a.status
  given_status e s = subst (λ (x : Answer). IsStatus before now source x.status) (sym e) s

  text_status : (job : Job) (text : List ℕ) (a : Answer) → TextDue source job text a → IsStatus before now source a.status
  text_status (Run file steps rte) text a (RunRefused r h u e) = given_status e (refused_status u)
  text_status (Run file steps rte) text a (Runs p m x t d) = run_status d
  text_status (Instrument file rte) text a (InstrumentRefused r h e, u) = given_status e (refused_status u)
  text_status (Instrument file rte) text a (Writes p m x t e, u) = given_status e (unasked_status 0 (omega arith) (λ s. absurd cc) u)
  text_status (Exec file steps) text a (ExecRefused r h u e) = given_status e (refused_status u)
  text_status (Exec file steps) text a (Executes m x d) = run_status d

  other_status : (status : ℕ) → (status ≡ 8) ⊎ (status ≡ 9) → IsStatus before now source status
  other_status status (inl e) = record { most = omega (arith, e); read_fault = λ s. absurd (omega (arith, e, s)); source_fault = λ l. inr (inl e) }
  other_status status (inr e) = record { most = omega (arith, e); read_fault = λ s. absurd (omega (arith, e, s)); source_fault = λ l. inr (inr e) }

  module _ {words : List (List ℕ)} {content : Option (List ℕ → Option (List ℕ))} where
    due_status : (a : Answer) → IsDue words content before now source a → IsStatus before now source a.status
    due_status a (Usage j n u e) = given_status e (unasked_status 3 (omega arith) (λ s. absurd cc) u)
    due_status a (NoFile job j h n u e) = given_status e (unasked_status 10 (omega arith) (λ s. absurd cc) u)
    due_status a (TooLong job j h n u e) = given_status e (unasked_status 11 (omega arith) (λ s. absurd cc) u)
    due_status a (FolderFault job j n u e) = given_status e (unasked_status 7 (omega arith) (λ s. n) u)
    due_status a (OfText job text j h l n d) = text_status job text a d

    pub answered_status : {out err : Change} {status : ℕ} → Answered (IsDue words content before now source) (Begins words content before now source) out err status → IsStatus before now source status
    answered_status (Given a d s t f t' f') = subst (IsStatus before now source) (sym s) (due_status a d)
    answered_status (OutputFault sent s b t f t' f') = other_status _ (inl s)
    answered_status (LineFault sent line k s b t f l t' f') = other_status _ (inl s)
    answered_status (NoMemory sent line k s b t f l t' f') = other_status _ (inr s)
