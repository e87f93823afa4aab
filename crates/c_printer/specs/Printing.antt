-- Ours: how the bytes of a part come to a sink.
-- What was written of a text into a sink and its writer.
use Rattle.std.specs.Prelude.{◌≡◌, ℕ, List, [], Option, Some, None}
use Rattle.ea_ports.specs.Port.{more}
use Rattle.ea_ports.specs.Buffered.{Port, port_of, Wrote, Lost, FaultCount}
use Rattle.ea_ports.specs.declared.SinkFault.{SinkFault}
use Rattle.c_model.specs.Reports.{Extends}
use Rattle.c_printer.specs.declared.writer.Writer.{Writer}

-- a sink with what waits for it, and the refusal, where it refused
pub record Pipe : Type 0 where
  pub port : Port
  pub refusal : Option SinkFault

abbrev pub pipe_of : Option (List ℕ) → Writer → ℕ → Pipe
pipe_of told writer faults = record { port = port_of told writer.waiting faults; refusal = writer.refusal }

-- nothing waits, and nothing is refused
abbrev pub begun : Writer
begun = record { waiting = []; refusal = None }

-- what becomes of these bytes
pub data Printed (p q : Pipe) (bytes : List ℕ) : Type 0 where
  -- all of them are written
  Whole : p.refusal ≡ None → q.refusal ≡ None → Wrote p.port q.port bytes → Printed p q bytes
  -- the sink refuses them at some place
  Cut : (fault : SinkFault) → p.refusal ≡ None → q.refusal ≡ Some fault → Lost p.port q.port.told q.port.faults bytes fault → Printed p q bytes
  -- it had refused before, and gets none of them
  Shut : (fault : SinkFault) → p.refusal ≡ Some fault → q ≡ p → Printed p q bytes

-- the sink has a beginning of the text, and counted the fault where it failed
pub record PrintCut (text : List ℕ) (told told' : Option (List ℕ)) (faults faults' : ℕ) (fault : SinkFault) : Type 0 where
  pub sent : List ℕ
  pub begins : Extends sent text
  pub told_is : told' ≡ more told sent
  pub count : FaultCount faults faults' fault
