use Rattle.c_printer.proofs.Written.{then}
use Rattle.c_printer.proofs.call.set.Goals as goal

pub returns : goal.returns
returns g c = then (rw c.name.ensures at c.write.ensures) c.write-2.ensures
