use Rattle.std.proofs.Common.{drop, map}
use Rattle.mon_syntax.specs.Trees.{plain_register}
use Rattle.mon_syntax.specs.Text.{more_parameters, spelled}
use Rattle.c_printer.specs.Printing.{pipe_of}
use Rattle.c_printer.proofs.Written.{UpTo}
use Rattle.c_printer.proofs.function.more_parameters.Given as goal

-- what stands before the index is written
abbrev pub invariant-list : goal.invariant-list
invariant-list g l =
    UpTo (pipe_of (g.O.Sink.told l.initial.out) l.initial.to (g.O.Sink.faults l.initial.out)) (pipe_of (g.O.Sink.told l.out) l.to (g.O.Sink.faults l.out))
    (spelled (more_parameters (map plain_register (drop l.r-index l.list))))
    (spelled (more_parameters (map plain_register l.list)))
