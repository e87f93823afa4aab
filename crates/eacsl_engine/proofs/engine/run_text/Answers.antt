use Rattle.mon_syntax.specs.Trees.{plain_program}
use Rattle.eacsl_engine.proofs.Runs.{run_ends, unused}
use Rattle.eacsl_engine.proofs.engine.run_text.Goals as goal

pub returns-in-Ok : goal.returns-in-Ok
returns-in-Ok g c = run_ends _ _ _ _ _ c.in-Ok.made.annotations (plain_program c.in-Ok.made.monitored) c.executed.result c.in-Ok.ensures c.executed.ensures

pub returns-in-Err-Refused : goal.returns-in-Err-Refused
returns-in-Err-Refused g c = rw c.in-Err-Refused.field-0-is (rw c.in-Err-Refused.field-0-is at c.in-Err-Refused.ensures, unused)

pub returns-in-Err-Memory : goal.returns-in-Err-Memory
returns-in-Err-Memory g c = unused
