use Rattle.mon_syntax.specs.Trees.{plain_stmts}
use Rattle.c_effects.proofs.Trees.{on_ok_then}
use Rattle.annot_pieces.proofs.ZonePairs.{pairs_more, pairs_none}
use Rattle.annot_pieces.proofs.zone.+each_pair.Goals as goal

pub returns-in-empty : goal.returns-in-empty
returns-in-empty t c = pairs_none c.args.zones.now c.args.number (plain_stmts c.args.to.now.items) c.in-empty.len_below

pub returns-in_ok-apart_from_each-in-len1-up : goal.returns-in_ok-apart_from_each-in-len1-up
returns-in_ok-apart_from_each-in-len1-up t c =
    on_ok_then c.each_pair.result
    (λ last. pairs_more c.args.zones.now c.first-item.result c.args.number (plain_stmts c.args.to.now.items) (plain_stmts c.apart_from_each.new.to.items) (plain_stmts c.each_pair.new.to.items)
    c.in-len1-up.len_at_least c.first-item.is c.in_ok-apart_from_each-in-len1-up.ensures last)
    c.each_pair.ensures
