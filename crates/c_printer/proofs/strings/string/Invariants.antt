use Rattle.std.proofs.Common.{drop}
use Rattle.mon_syntax.specs.Text.{quoted}
use Rattle.c_printer.specs.Printing.{pipe_of}
use Rattle.c_printer.proofs.Written.{UpTo}
use Rattle.c_printer.proofs.strings.string.Given as goal

-- what stands before the index is written
abbrev pub invariant-bytes : goal.invariant-bytes
invariant-bytes g l =
    UpTo (pipe_of (g.O.Sink.told l.initial.out) l.initial.to (g.O.Sink.faults l.initial.out)) (pipe_of (g.O.Sink.told l.out) l.to (g.O.Sink.faults l.out))
    (quoted (drop l.byte-index l.bytes))
    (quoted l.bytes)
