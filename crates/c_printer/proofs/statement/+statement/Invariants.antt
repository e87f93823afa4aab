use Rattle.mon_syntax.specs.Trees.{plain_stmts}
use Rattle.mon_syntax.specs.Text.{spelled, statements_pieces}
use Rattle.std.proofs.Common.{◌+◌, ◌*◌, drop}
use Rattle.std.specs.Prelude.{max}
use Rattle.mon_syntax.specs.declared.tree.MonStmtKind.TheViews.{size-MonStmt}
use Rattle.c_printer.specs.Depths.{depth_of}
use Rattle.c_printer.specs.Printing.{pipe_of}
use Rattle.c_printer.specs.Sight.{functions_of, in_sight}
use Rattle.c_printer.proofs.Written.{UpTo}
use Rattle.c_printer.proofs.statement.+statement.Given as goal
use denote.Param.Weighed.{most}

abbrev pub decreases-statement : goal.decreases-statement
decreases-statement g l = 4 * size-MonStmt l.s.now

abbrev pub decreases-statements : goal.decreases-statements
decreases-statements g l = 4 * most size-MonStmt l.stmts.now + 1

abbrev pub decreases-body : goal.decreases-body
decreases-body g l = 4 * most size-MonStmt l.stmts.now + 2

abbrev pub decreases-labelled : goal.decreases-labelled
decreases-labelled g l = 4 * most size-MonStmt l.stmts.now + 3

abbrev pub decreases-choice : goal.decreases-choice
decreases-choice g l = 4 * max (most size-MonStmt l.first.now) (most size-MonStmt l.second.now) + 3

abbrev pub decreases-repeated : goal.decreases-repeated
decreases-repeated g l = 4 * max (most size-MonStmt l.before.now) (most size-MonStmt l.behind.now) + 3

-- the statements before the index are written
abbrev pub invariant-statements-stmts : goal.invariant-statements-stmts
invariant-statements-stmts g l =
    UpTo (pipe_of (g.O.Sink.told l.initial.out) l.initial.to (g.O.Sink.faults l.initial.out)) (pipe_of (g.O.Sink.told l.out) l.to (g.O.Sink.faults l.out))
    (spelled (statements_pieces (functions_of l.named) (in_sight l.named) (depth_of l.depth) (plain_stmts (drop l.s-index l.stmts))))
    (spelled (statements_pieces (functions_of l.named) (in_sight l.named) (depth_of l.depth) (plain_stmts l.stmts)))
