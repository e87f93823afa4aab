use Rattle.std.proofs.Common.{◌+◌, drop, map, refl, sym, ap, ◌∙◌}
use Rattle.c_scopes.specs.Pieces.{plain_piece}
use Rattle.mon_syntax.specs.Trees.{plain_expr, plain_stmt_kind, plain_stmts}
use Rattle.c_effects.specs.Expressions.{before}
use Rattle.c_effects.specs.Printing.{prints}
use Rattle.c_effects.proofs.Sequences.{all_there, left_at, none_left}
use Rattle.c_effects.proofs.Prints.{print_turn}
use Rattle.c_effects.proofs.print.prints.Goals as goal

pub returns : goal.returns
returns c =
    let args = map plain_expr c.loop-piece.args.items in
    all_there (none_left (λ l. prints (map plain_piece l) args) c.args.pieces.now c.loop-piece.piece-index c.loop-piece-test.false) c.loop-piece.invariant

pub loop-piece-preserved : goal.loop-piece-preserved
loop-piece-preserved c =
    let pieces = c.args.pieces.now in
    let i = c.loop-piece.piece-index in
    let args = map plain_expr c.loop-piece.args.items in
    let to = plain_stmts c.loop-piece.to.items in
    print_turn to (plain_stmts c.then.new.to.items) (plain_stmt_kind c.in_ok-a.a) (plain_piece c.piece-item.result) (map plain_piece (drop (i + 1) pieces)) args (map plain_expr c.print_piece.new.args.items) _
    c.in_ok-then.ensures c.in_ok-a.ensures
    (ap (before to) (sym (left_at (λ l. prints (map plain_piece l) args) pieces i _ _ c.loop-piece-test.true c.piece-item.is refl)) ∙ c.loop-piece.invariant)
