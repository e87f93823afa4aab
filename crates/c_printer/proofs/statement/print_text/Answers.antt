use Rattle.c_printer.proofs.Written.{then}
use Rattle.c_printer.proofs.statement.print_text.Goals as goal

pub returns : goal.returns
returns g c = then c.write.ensures (then c.string.ensures c.write-2.ensures)
