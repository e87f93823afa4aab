use Rattle.std.proofs.Common.{refl}
use Rattle.c_printer.specs.Printing.{Cut}
use Rattle.c_printer.proofs.Written.{none_where, still_shut}
use Rattle.c_printer.proofs.writer.Writer.write.Goals as goal

pub returns-in-Err : goal.returns-in-Err
returns-in-Err g c = Cut c.in-Err.fault (none_where c.args.self.now.refusal c.if-is_none.ensures) refl c.in-Err.ensures

pub returns-else-is_none : goal.returns-else-is_none
returns-else-is_none g c = still_shut _ c.args.bytes.now c.if-is_none.ensures
