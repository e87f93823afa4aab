use Rattle.c_printer.proofs.Written.{ends_cut, ends_put}
use Rattle.c_printer.proofs.writer.Writer.finish.Goals as goal

pub returns-in-Some : goal.returns-in-Some
returns-in-Some g c text told faults printed = ends_cut c.in-Some.fault printed c.in-Some.is

pub returns-in-None : goal.returns-in-None
returns-in-None g c text told faults printed =
    ends_put (g.O.Sink.told c.flush.new.out) c.flush.new.self (g.O.Sink.faults c.flush.new.out) c.flush.result printed c.in-None.is c.flush.ensures.none_waits c.flush.ensures.written
