use Rattle.std.proofs.Common.{sym, ◌∙◌}
use Rattle.c_syntax.specs.Ctypes.{plain_type}
use Rattle.mon_syntax.specs.Trees.{plain_expr as plain_monitored, plain_stmts}
use Rattle.c_effects.proofs.Trees.{on_ok_then}
use Rattle.c_initialisers.proofs.InitialiserTrees.{value_done}
use Rattle.c_initialisers.proofs.initialiser.initialise_one.Goals as goal

pub returns-in_ok-found-in-None-clause-code : goal.returns-in_ok-found-in-None-clause-code
returns-in_ok-found-in-None-clause-code c =
    let found = c.in_ok-found-in-None in
    on_ok_then c.store.result
    (value_done c.args.names.now c.args.block (plain_type c.args.t.now) c.args.e.now (plain_monitored found.found) (plain_stmts c.args.to.now.items) (plain_stmts c.value.new.to.items) (plain_stmts c.store.new.to.items)
    (sym c.string_in.ensures ∙ c.in-None.is) found.ensures.value found.ensures.setup)
    c.store.ensures
