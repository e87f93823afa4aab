use Rattle.annot_pieces.proofs.Around.{last_guard}
use Rattle.annot_pieces.proofs.guard.+close_guards.Goals as goal

pub returns-in_ok-c-in-Some-clause-code : goal.returns-in_ok-c-in-Some-clause-code
returns-in_ok-c-in-Some-clause-code t c =
    last_guard c.close_guards.result c.args.q c.close_guards.new.names.table.kinds c.close_guard.new.names.table.kinds c.args.names.now.table.kinds c.args.opened.now.items c.pop.new.self.items c.in-Some.g c.args.c
    c.in_ok-c-in-Some.c c.in-Some.ensures.items c.in_ok-c-in-Some.ensures.code c.close_guards.ensures.code
