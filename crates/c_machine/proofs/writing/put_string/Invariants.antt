use Rattle.ea_ports.specs.Buffered.{port_of}
use Rattle.mon_syntax.specs.Flat.{flat_byte, region_length}
use Rattle.c_machine.proofs.Strings.{WroteTo}
use Rattle.c_machine.proofs.writing.put_string.Given as goal

-- the bytes up to the index are written
abbrev pub invariant-loop-at : goal.invariant-loop-at
invariant-loop-at g l =
    WroteTo (flat_byte l.memory l.p) (region_length l.memory l.p) l.at (port_of (g.O.Sink.told l.initial.out) l.initial.waiting (g.O.Sink.faults l.initial.out))
    (port_of (g.O.Sink.told l.out) l.waiting (g.O.Sink.faults l.out))
