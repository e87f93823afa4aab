use Rattle.std.proofs.Common.{inr}
use Rattle.mon_syntax.specs.Trees.{plain_program}
use Rattle.eacsl_engine.proofs.engine.written.Goals as goal

pub returns-in-Ok : goal.returns-in-Ok
returns-in-Ok g c = λ text t. (plain_program c.args.monitored.now, t, c.in-Ok.ensures.0, c.in-Ok.ensures.1)

pub returns-in-Err-Failed : goal.returns-in-Err-Failed
returns-in-Err-Failed g c = λ text t. (plain_program c.args.monitored.now, t, rw c.in-Err-Failed.field-0-is at c.in-Err-Failed.ensures)

pub returns-in-Err-Memory : goal.returns-in-Err-Memory
returns-in-Err-Memory g c = λ text t. inr (plain_program c.args.monitored.now, t, rw c.in-Err-Memory.field-0-is at c.in-Err-Memory.ensures)
