use Rattle.c_printer.proofs.Written.{then}
use Rattle.c_printer.proofs.line.closing.Goals as goal

pub returns : goal.returns
returns g c = then c.line.ensures c.write.ensures
