use Rattle.c_printer.proofs.Written.{then}
use Rattle.c_printer.proofs.line.line.Goals as goal

pub returns : goal.returns
returns g c = then c.write.ensures c.indent.ensures
