use Rattle.std.proofs.Common.{refl}
use Rattle.mon_syntax.specs.Trees.{MonitoredProgram, plain_program}
use Rattle.eacsl_engine.specs.Ends.{IsCodeOf}
use Rattle.eacsl_engine.proofs.Runs.{code_of, ran_flat, unused}
use Rattle.eacsl_engine.proofs.engine.executed.Goals as goal

pub returns-in-Ok : goal.returns-in-Ok
returns-in-Ok g c =
    let m : MonitoredProgram = plain_program c.args.monitored in
    let lowered : IsCodeOf c.in-Ok.code m = code_of m c.in-Ok.code c.in-Ok.ensures.globals c.in-Ok.ensures.runs in
    (refl, refl, record { lowered = lowered; run = c.run-ran.ensures; flat = ran_flat m c.in-Ok.code lowered _ _ _ _ c.run-ran.result.stop c.run-ran.result c.run-ran.ensures })

pub returns-in-Err : goal.returns-in-Err
returns-in-Err g c = unused
