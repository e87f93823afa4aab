use Rattle.c_printer.proofs.Written.{then}
use Rattle.c_printer.proofs.writer.Writer.write_three.Goals as goal

pub returns : goal.returns
returns g c = then c.write.ensures (then c.write-2.ensures c.write-3.ensures)
