-- What the calls come to, from what the machine did.
use Rattle.std.proofs.Common.{◌≡◌, ℕ, List, Option, refl, sym, subst}
use Rattle.std.specs.Prelude.{IfSome}
use Rattle.c_model.specs.MonitoredRuns.{Final}
use Rattle.mon_syntax.specs.Trees.{MonitoredProgram}
use Rattle.mon_syntax.specs.FlatMemory.{over_flat, flat_start, flat_run}
use Rattle.mon_syntax.specs.Spelled.{Spells}
use Rattle.ea_ports.specs.Buffered.{Port}
use Rattle.c_lower.specs.declared.code.Code.{Code}
use Rattle.c_lower.specs.Machine.{CodeRun}
use Rattle.c_lower.specs.Lowered.{RunsAs, globals_of}
use Rattle.c_lower.proofs.Courses.{over_once}
use Rattle.c_machine.specs.declared.stop.Ran.{Ran}
use Rattle.c_machine.specs.declared.stop.Stop.{Stop}
use Rattle.c_machine.specs.declared.stop.Stop.TheVariants as stop
use Rattle.c_machine.specs.Inputs.{Taking, taking}
use Rattle.c_machine.specs.Whole.{starts_of, memory_of, RanAs, RanTo}
use Rattle.eacsl_engine.specs.declared.ended.Ended.{Ended}
use Rattle.eacsl_engine.specs.declared.ended.Ended.TheVariants as ended
use Rattle.eacsl_engine.specs.Ends.{IsCounted, IsCodeOf, final_of, IsFlatRun, IsRun, IsUnused, MachineEnds, RunEnds, ExecEnds}

-- the code begins in the memory in which the program does
pub code_of : (m : MonitoredProgram) (code : Code) → globals_of code ≡ m.globals → RunsAs over_flat m code.entries.items code.main code.instrs.items → IsCodeOf code m
code_of m code globals lowered input n =
    let l = lowered (flat_start m.globals) input n in
    (l.0, subst (λ gs. CodeRun over_flat (over_flat.starts gs) code.entries.items code.main code.instrs.items (flat_start gs) input n l.0 (flat_run m input n)) (sym globals) l.1)

-- its run is the program's
pub run_is : (m : MonitoredProgram) (code : Code) → IsCodeOf code m → {steps : ℕ} {source : Taking} {port port' : Port} {end : Final} {ran : Ran} (r : RanTo code steps source port port' end ran)
    → flat_run m r.input steps ≡ record { final = end; output = r.bytes; left = ran.left }
run_is m code lowered {steps} r =
    let l = lowered r.input steps in
    (over_once over_flat (starts_of code) code.entries.items code.main code.instrs.items (memory_of code) r.input steps l.0 r.turns _ _ l.1 r.run).1

module _ (m : MonitoredProgram) (code : Code) (lowered : IsCodeOf code m) (steps : ℕ) (source : Taking) (port port' : Port) where
  ends_flat : {end : Final} {ran : Ran} → RanTo code steps source port port' end ran → IsFlatRun source port port' steps m ran end
  ends_flat r = record { input = r.input; is_input = r.is_input; bytes = r.bytes; wrote = r.wrote; is = run_is m code lowered r }

  pub ran_flat : (end : Stop) (ran : Ran) → RanAs code steps source port port' end ran → IfSome (final_of end) (λ final. IsFlatRun source port port' steps m ran final)
  ran_flat (stop.Exit z) ran r = ends_flat r
  ran_flat (stop.Broken number line kind how) ran r = ends_flat r
  ran_flat stop.Spent ran r = ends_flat r
  ran_flat (stop.Full segment) ran r = ends_flat r
  ran_flat stop.Fault ran r = ends_flat r
  ran_flat stop.ReadFault ran r = ends_flat r
  ran_flat stop.WriteFault ran r = tt
  ran_flat stop.OutOfMemory ran r = tt

pub unused : {left : Option (List ℕ)} {faults : ℕ} {port : Port} → IsUnused (taking left left faults faults) port port
unused = record { unread = record { left = refl; faults = refl }; unwritten = refl }

module _ (source : Taking) (port port' : Port) (text : List ℕ) (steps : ℕ) where
  pub run_ends : (count : ℕ) (m : MonitoredProgram) (e : Ended) → IsCounted text count m → MachineEnds source port port' steps count m e → RunEnds source port port' text steps e
  run_ends count m (ended.Finished ran annotations monitored code) t h = (
    subst (λ p. IsCounted text annotations p) (sym h.1) (subst (λ k. IsCounted text k m) (sym h.0) t),
    subst (λ p. IsRun source port port' steps p code ran) (sym h.1) h.2,
  )
  run_ends count m (ended.Refused r) t h = absurd h
  run_ends count m ended.OutOfMemory t h = h

  pub exec_ends : (m : MonitoredProgram) (e : Ended) → Spells text m → MachineEnds source port port' steps 0 m e → ExecEnds source port port' text steps e
  exec_ends m (ended.Finished ran annotations monitored code) t h =
      (subst (λ p. Spells text p) (sym h.1) t, h.0, subst (λ p. IsRun source port port' steps p code ran) (sym h.1) h.2)
  exec_ends m (ended.Refused r) t h = absurd h
  exec_ends m ended.OutOfMemory t h = h
