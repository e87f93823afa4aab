use Rattle.c_machine.proofs.Pointing.{stored_own}
use Rattle.c_machine.proofs.memory.store_rarely.Goals as goal

pub returns-in_default : goal.returns-in_default
returns-in_default c = stored_own c.args.t c.args.p c.args.z c.args.memory.now c.store_as-in_default.new.memory c.store_as-in_default.result c.ranges.p c.ranges.z c.store_as-in_default.ensures
