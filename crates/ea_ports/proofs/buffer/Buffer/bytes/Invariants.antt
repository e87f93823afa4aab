use Rattle.std.proofs.Common.{take}
use Rattle.ea_ports.specs.Buffered.{Wrote, port_of}
use Rattle.ea_ports.proofs.buffer.Buffer.bytes.Given as goal

-- the bytes up to the index are written
abbrev pub invariant-loop-byte : goal.invariant-loop-byte
invariant-loop-byte g l =
    Wrote (port_of (g.O.Sink.told l.initial.out) l.initial.self (g.O.Sink.faults l.initial.out)) (port_of (g.O.Sink.told l.out) l.self (g.O.Sink.faults l.out)) (take l.byte-index l.bytes)
