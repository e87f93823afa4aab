use Rattle.std.proofs.Common.{◌∙◌}
use Rattle.eacsl_cli.specs.Settled.{Said, Wanting}
use Rattle.eacsl_cli.proofs.answer.refuse.Goals as goal

pub returns-in-Ok : goal.returns-in-Ok
returns-in-Ok g c = Said (rw (c.deref.ensures.value ∙ c.in-Ok.ensures) at c.say.ensures)

pub returns-in-Err : goal.returns-in-Err
returns-in-Err g c = Wanting c.out_of_memory.ensures
