use Rattle.mon_syntax.specs.Trees.{Register}
use Rattle.annot_pieces.proofs.Around.{last_binder}
use Rattle.annot_pieces.proofs.binder.+close_binders.Goals as goal

pub returns-in_ok-c-in-Some : goal.returns-in_ok-c-in-Some
returns-in_ok-c-in-Some t c =
    last_binder c.close_binders.result c.args.q c.args.chain.kind (Register c.args.chain.last) c.args.opened.now.items c.pop.new.self.items c.in-Some.b c.args.c c.in_ok-c-in-Some.c c.in-Some.ensures.items
    c.in_ok-c-in-Some.ensures c.close_binders.ensures
