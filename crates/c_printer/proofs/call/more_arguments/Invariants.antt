use Rattle.std.proofs.Common.{drop, map}
use Rattle.mon_syntax.specs.Trees.{plain_expr}
use Rattle.mon_syntax.specs.Text.{more_arguments, spelled}
use Rattle.c_printer.specs.Printing.{pipe_of}
use Rattle.c_printer.specs.Sight.{in_sight}
use Rattle.c_printer.proofs.Written.{UpTo}
use Rattle.c_printer.proofs.call.more_arguments.Given as goal

-- what stands before the index is written
abbrev pub invariant-list : goal.invariant-list
invariant-list g l =
    UpTo (pipe_of (g.O.Sink.told l.initial.out) l.initial.to (g.O.Sink.faults l.initial.out)) (pipe_of (g.O.Sink.told l.out) l.to (g.O.Sink.faults l.out))
    (spelled (more_arguments (in_sight l.named) (map plain_expr (drop l.e-index l.list))))
    (spelled (more_arguments (in_sight l.named) (map plain_expr l.list)))
