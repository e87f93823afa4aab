use Rattle.std.proofs.Common.{drop, map}
use Rattle.mon_syntax.specs.Trees.{plain_func, plain_global}
use Rattle.mon_syntax.specs.Text.{functions_pieces, spelled}
use Rattle.c_printer.specs.Printing.{pipe_of}
use Rattle.c_printer.specs.Sight.{names_of}
use Rattle.c_printer.proofs.Written.{UpTo}
use Rattle.c_printer.proofs.function.functions.Given as goal

-- what stands before the index is written
abbrev pub invariant-list : goal.invariant-list
invariant-list g l =
    UpTo (pipe_of (g.O.Sink.told l.initial.out) l.initial.to (g.O.Sink.faults l.initial.out)) (pipe_of (g.O.Sink.told l.out) l.to (g.O.Sink.faults l.out))
    (spelled (functions_pieces (names_of l.list) (map plain_global l.globals) (map plain_func (drop l.f-index l.list))))
    (spelled (functions_pieces (names_of l.list) (map plain_global l.globals) (map plain_func l.list)))
