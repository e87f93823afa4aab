-- The answers to a text, from how its program was run or written and how the line was said.
use Rattle.std.proofs.Common.{◌≡◌, ℕ, List, [], ◌++◌, take, Option, Some, refl, sym, ap, ◌∙◌, subst, append_assoc, inl, inr}
use Rattle.std.proofs.lemmas.List.{append-nil}
use Rattle.c_syntax.specs.Programs.{plain_refusal}
use Rattle.c_model.specs.MonitoredRuns.{Final, ReadFault, Ran}
use Rattle.c_model.proofs.Agreement.{extends_trans}
use Rattle.c_model.specs.Reports.{Report, machine_report, Extends}
use Rattle.mon_syntax.specs.Trees.{MonitoredProgram, plain_program}
use Rattle.mon_syntax.specs.FlatMemory.{over_flat, flat_run}
use Rattle.ea_ports.specs.declared.SinkFault.{SinkFault}
use Rattle.ea_ports.specs.Port.{more}
use Rattle.ea_ports.proofs.Told.{more-nil}
use Rattle.ea_ports.specs.Buffered.{Port, port_of}
use Rattle.c_lower.specs.declared.code.Code.{Code}
use Rattle.c_lower.proofs.Courses.{over_once, writing_begins}
use Rattle.c_machine.specs.declared.stop.Stop.{Stop}
use Rattle.c_machine.specs.declared.stop.Stop.TheVariants as stop
use Rattle.c_machine.specs.declared.stop.Ran as machine
use Rattle.c_machine.specs.Inputs.{Taking, Untouched, EndsAsRead}
use Rattle.c_machine.specs.Reading.{fault_behind}
use Rattle.c_machine.specs.Whole.{starts_of, memory_of, FaultsBehind, TookBytes, RanAs, RanTo, RunCut}
use Rattle.eacsl_engine.specs.declared.ended.Done.{Done}
use Rattle.eacsl_engine.specs.declared.ended.Done.TheVariants as done_as
use Rattle.eacsl_engine.specs.declared.ended.Ended.{Ended}
use Rattle.eacsl_engine.specs.declared.ended.Ended.TheVariants as ended
use Rattle.eacsl_engine.specs.Ends.{IsCodeOf, RunEnds, ExecEnds, InstrumentEnds}
use Rattle.eacsl_engine.proofs.Runs.{run_is}
use Rattle.eacsl_cli.specs.Answers.{Answer, refused_answer, reported_answer, written_answer, Change, change, Answered, Given, OutputFault, TookWanted, AnswersOnInput, BeginsOnInput, RunDue, RunRefused, Runs, RunBegins}
use Rattle.eacsl_cli.specs.Answers.{InstrumentDue, InstrumentRefused, Writes, InstrumentBegins, ExecDue, ExecRefused, Executes, ExecBegins}
use Rattle.eacsl_cli.specs.Settled.{IsSettled, Said, Wanting, Reported, EndedSaid, DoneSaid}
use Rattle.eacsl_cli.proofs.Sayings.{said_answer, said_memory, answered_by}

-- the line of an answer that is due was said, or there was no memory for it
settled_answer : {Due : Answer → Type 0} {Begin : List ℕ → Type 0} {out err : Change} {result : ℕ} (a : Answer) → Due a → Begin a.output → out.told' ≡ more out.told a.output → out.faults' ≡ out.faults → IsSettled a.line a.status err result
    → Answered Due Begin out err result
settled_answer a d b t f (Said s) = said_answer a d b t f s
settled_answer a d b t f (Wanting s) = said_memory a.output b t f s

-- all that a run prints begins with what was sent
begins_with : (all bytes sent lost rest : List ℕ) → all ≡ bytes ++ rest → bytes ≡ sent ++ lost → Extends sent all
begins_with all bytes sent lost rest e b = record { rest = lost ++ rest; is = e ∙ ap (λ l. l ++ rest) b ∙ append_assoc sent lost rest }

-- ---- runs

abbrev answer_of : Report → List ℕ → Answer
answer_of said sent = record { status = said.status; output = sent; line = said.line }

module _ (m : MonitoredProgram) (steps : ℕ) (source : Taking) (told told' : Option (List ℕ)) (faults faults' : ℕ) (code : Code) (lowered : IsCodeOf code m) where
  took : TookBytes code steps source → TookWanted source m steps
  took t = record { bytes = t.read; gave = t.gave; wanted = λ k h. is_fault (take k t.read) (t.asked k h) }
    where
      is_fault : (bytes : List ℕ) → FaultsBehind code steps bytes → (flat_run m (fault_behind bytes) steps).final ≡ ReadFault
      is_fault bytes f =
          let l = lowered (fault_behind bytes) steps in
          ap (λ (x : Ran). x.final) (over_once over_flat (starts_of code) code.entries.items code.main code.instrs.items (memory_of code) (fault_behind bytes) steps l.0 f.turns _ _ l.1 f.run).1 ∙ f.ends

  answers : {end : Final} {ran : machine.Ran} (r : RanTo code steps source (port_of told [] faults) (port_of told' [] faults') end ran) (said : Report) → Some (machine_report end) ≡ Some said
      → AnswersOnInput source m steps (answer_of said r.wrote.sent)
  answers {end} r said e = record {
    input = r.input;
    was = r.is_input;
    ends = subst (λ (x : Ran). EndsAsRead source x.final) (sym (run_is m code lowered r)) r.ends_as_read;
    took = took r.took;
    answers =
        let same : said ≡ machine_report end = cc in
        ap (λ x. answer_of x r.wrote.sent) same ∙ ap (λ l. answer_of (machine_report end) l) (sym (r.wrote.bytes_are ∙ append-nil r.wrote.sent)) ∙ sym (ap reported_answer (run_is m code lowered r));
  }

  sent_begins : {end : Final} {ran : machine.Ran} (r : RanTo code steps source (port_of told [] faults) (port_of told' [] faults') end ran) → BeginsOnInput source m steps r.wrote.sent
  sent_begins r = record {
    input = r.input;
    was = r.is_input;
    took = took r.took;
    begins = begins_with _ r.bytes r.wrote.sent [] [] (ap (λ (x : Ran). x.output) (run_is m code lowered r) ∙ sym (append-nil r.bytes)) r.wrote.bytes_are;
  }

  cut_begins : {f : SinkFault} {ran : machine.Ran} (cut : RunCut code steps source (port_of told [] faults) (port_of told' [] faults') f ran) → BeginsOnInput source m steps cut.lost.sent
  cut_begins cut =
      let l = lowered cut.input steps in
      let w = writing_begins over_flat (starts_of code) code.entries.items code.main code.instrs.items (memory_of code) cut.input steps l.0 cut.begun.0 _ l.1 in
      let all = extends_trans cut.bytes _ _ cut.begun.1 w in
      record { input = cut.input; was = cut.is_input; took = took cut.took; begins = begins_with _ cut.bytes cut.lost.sent cut.lost.lost all.rest all.is cut.lost.bytes_are }

  module _ (err : Change) (result : ℕ) where
    -- the run came to an end, and that was reported
    end_reported : {end : Final} {ran : machine.Ran} → RanTo code steps source (port_of told [] faults) (port_of told' [] faults') end ran → (said : Report) → Some (machine_report end) ≡ Some said → IsSettled said.line said.status err result
        → Answered (AnswersOnInput source m steps) (BeginsOnInput source m steps) (change told told' faults faults') err result
    end_reported r said e s = settled_answer (answer_of said r.wrote.sent) (answers r said e) (sent_begins r) r.wrote.told_is r.wrote.faults_is s

    reported : (end : Stop) (ran : machine.Ran) → RanAs code steps source (port_of told [] faults) (port_of told' [] faults') end ran → Reported end err result
        → Answered (AnswersOnInput source m steps) (BeginsOnInput source m steps) (change told told' faults faults') err result
    reported (stop.Exit z) ran r s = end_reported r s.said s.is s.settled
    reported (stop.Broken number line kind how) ran r s = end_reported r s.said s.is s.settled
    reported stop.Spent ran r s = end_reported r s.said s.is (Said s.told)
    reported (stop.Full segment) ran r s = end_reported r s.said s.is (Said s.told)
    reported stop.Fault ran r s = end_reported r s.said s.is (Said s.told)
    reported stop.ReadFault ran r s = end_reported r s.said s.is (Said s.told)
    reported stop.WriteFault ran cut s = OutputFault cut.lost.sent s.status (cut_begins cut) cut.lost.told_is cut.lost.count s.told s.faults
    reported stop.OutOfMemory ran cut s = said_memory cut.lost.sent (cut_begins cut) cut.lost.told_is cut.lost.count s

    run_reported : (ran : machine.Ran) → RanAs code steps source (port_of told [] faults) (port_of told' [] faults') ran.stop ran → Reported ran.stop err result
        → Answered (AnswersOnInput source m steps) (BeginsOnInput source m steps) (change told told' faults faults') err result
    run_reported ran r s = reported ran.stop ran r s

-- ---- texts

-- nothing was put
module _ {told told' : Option (List ℕ)} {faults faults' : ℕ} (same : port_of told' [] faults' ≡ port_of told [] faults) where
  nothing_told : told' ≡ more told []
  nothing_told = ap (λ (p : Port). p.told) same ∙ sym (more-nil told)

  faults_kept : faults' ≡ faults
  faults_kept = ap (λ (p : Port). p.faults) same

module _ {source : Taking} {text : List ℕ} {steps : ℕ} {told told' : Option (List ℕ)} {faults faults' : ℕ} {err : Change} {result : ℕ} where
  pub run_answered : (e : Ended) → RunEnds source (port_of told [] faults) (port_of told' [] faults') text steps e → EndedSaid e err result
      → Answered (RunDue source text steps) (RunBegins source text steps) (change told told' faults faults') err result
  run_answered (ended.Finished ran annotations monitored code) h s =
      let m = plain_program monitored in
      let t = h.0.translated in
      answered_by (λ _ d. Runs t.program m t.accepted t.translates d) (λ _ b. inr (t.program, m, t.accepted, t.translates, b))
      (run_reported m steps source told told' faults faults' code h.1.lowered err result ran h.1.run s)
  run_answered (ended.Refused r) h s =
      settled_answer (refused_answer (plain_refusal r)) (RunRefused (plain_refusal r) h.0 h.1.unread refl) (inl (refl, h.1.unread)) (nothing_told h.1.unwritten) (faults_kept h.1.unwritten) s
  run_answered ended.OutOfMemory h s = said_memory [] (inl (refl, h.unread)) (nothing_told h.unwritten) (faults_kept h.unwritten) s

  pub exec_answered : (e : Ended) → ExecEnds source (port_of told [] faults) (port_of told' [] faults') text steps e → EndedSaid e err result
      → Answered (ExecDue source text steps) (ExecBegins source text steps) (change told told' faults faults') err result
  exec_answered (ended.Finished ran annotations monitored code) h s =
      let m = plain_program monitored in
      answered_by (λ _ d. Executes m h.0 d) (λ _ b. inr (m, h.0, b)) (run_reported m steps source told told' faults faults' code h.2.lowered err result ran h.2.run s)
  exec_answered (ended.Refused r) h s =
      settled_answer (refused_answer (plain_refusal r)) (ExecRefused (plain_refusal r) h.0 h.1.unread refl) (inl (refl, h.1.unread)) (nothing_told h.1.unwritten) (faults_kept h.1.unwritten) s
  exec_answered ended.OutOfMemory h s = said_memory [] (inl (refl, h.unread)) (nothing_told h.unwritten) (faults_kept h.unwritten) s

module _ {text : List ℕ} {told told' : Option (List ℕ)} {faults faults' : ℕ} {err : Change} {result : ℕ} where
  pub instrument_answered : (d : Done) → InstrumentEnds (port_of told [] faults) (port_of told' [] faults') text d → DoneSaid d err result
      → Answered (InstrumentDue text) (InstrumentBegins text) (change told told' faults faults') err result
  instrument_answered done_as.Written h s =
      let t = h.1 in Given (written_answer h.0) (Writes t.program h.0 t.accepted t.translates refl) s.status h.2 h.3 (s.told ∙ sym (more-nil err.told)) s.faults
  instrument_answered (done_as.Refused r) h s =
      settled_answer (refused_answer (plain_refusal r)) (InstrumentRefused (plain_refusal r) h.0 refl) (inl refl) (nothing_told h.1) (faults_kept h.1) s
  instrument_answered done_as.WriteFault h s =
      let t = h.1 in OutputFault h.2.sent s.status (inr (t.program, h.0, t.accepted, t.translates, h.2.begins)) h.2.told_is h.2.count s.told s.faults
  instrument_answered done_as.OutOfMemory (inl same) s = said_memory [] (inl refl) (nothing_told same) (faults_kept same) s
  instrument_answered done_as.OutOfMemory (inr h) s =
      let t = h.1 in said_memory h.2.sent (inr (t.program, h.0, t.accepted, t.translates, h.2.begins)) h.2.told_is h.2.count s

  -- no input was read besides
  pub unread_besides : {source : Taking} → Untouched source → Answered (InstrumentDue text) (InstrumentBegins text) (change told told' faults faults') err result
      → Answered (λ a. InstrumentDue text a × Untouched source) (λ sent. InstrumentBegins text sent × Untouched source) (change told told' faults faults') err result
  unread_besides u x = answered_by (λ _ d. (d, u)) (λ _ b. (b, u)) x
