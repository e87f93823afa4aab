use Rattle.std.proofs.Common.{◌≡◌, drop, map}
use Rattle.c_scopes.specs.Pieces.{plain_piece}
use Rattle.mon_syntax.specs.Trees.{plain_expr, plain_stmts}
use Rattle.c_effects.specs.Expressions.{before}
use Rattle.c_effects.specs.Printing.{prints}
use Rattle.c_effects.proofs.print.prints.Given as goal

abbrev pub invariant-loop-piece : goal.invariant-loop-piece
invariant-loop-piece l =
    before (plain_stmts l.to.items) (prints (map plain_piece (drop l.piece-index l.pieces)) (map plain_expr l.args.items))
    ≡ before (plain_stmts l.initial.to.items) (prints (map plain_piece l.pieces) (map plain_expr l.initial.args.items))
