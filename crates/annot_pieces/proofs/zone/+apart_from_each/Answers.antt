use Rattle.mon_syntax.specs.Trees.{plain_expr, plain_stmt, plain_stmts}
use Rattle.c_effects.proofs.Trees.{on_ok_then}
use Rattle.annot_pieces.specs.Plain.{bytes_of}
use Rattle.annot_pieces.proofs.ZonePairs.{apart_more, apart_none}
use Rattle.annot_pieces.proofs.zone.+apart_from_each.Goals as goal

pub returns-in-empty : goal.returns-in-empty
returns-in-empty t c =
    apart_none c.args.others.now c.args.number (bytes_of c.args.z.now) (plain_stmts c.args.to.now.items) c.in-empty.len_below

pub returns-in_ok-then-in-len1-up : goal.returns-in_ok-then-in-len1-up
returns-in_ok-then-in-len1-up t c =
    on_ok_then c.apart_from_each.result
    (λ last. apart_more c.args.others.now c.first-item.result c.args.z.now c.args.number (plain_stmts c.args.to.now.items) (plain_stmts c.then_one.new.to.items) (plain_stmts c.then.new.to.items)
    (plain_stmts c.apart_from_each.new.to.items) (plain_stmt c.in_ok-asked-in-len1-up.asked) (plain_expr c.in_ok-both-in-len1-up.both) (plain_expr c.in_ok-x-in-len1-up.x) (plain_expr c.in_ok-y-in-len1-up.y) c.in-len1-up.len_at_least
    c.first-item.is c.in_ok-asked-in-len1-up.ensures c.in_ok-then_one-in-len1-up.ensures c.in_ok-x-in-len1-up.ensures c.in_ok-y-in-len1-up.ensures c.in_ok-both-in-len1-up.ensures c.in_ok-then-in-len1-up.ensures last)
    c.apart_from_each.ensures
