use Rattle.std.proofs.Common.{sym, ◌∙◌}
use Rattle.c_syntax.specs.Ctypes.{plain_type}
use Rattle.c_syntax.specs.Expressions.{plain_expr}
use Rattle.mon_syntax.specs.Trees.{plain_expr as plain_monitored, plain_stmts}
use Rattle.c_effects.proofs.Trees.{on_ok_then}
use Rattle.c_initialisers.proofs.InitialiserTrees.{filled_value}
use Rattle.c_initialisers.proofs.initialiser.fill_one.Goals as goal

pub returns-in_ok-pointer-in-None-clause-code : goal.returns-in_ok-pointer-in-None-clause-code
returns-in_ok-pointer-in-None-clause-code c =
    let found = c.in_ok-found-in-None in
    let pointer = c.in_ok-pointer-in-None in
    on_ok_then c.store_in.result
    (filled_value c.args.names.now c.value.new.names c.args.part.object c.args.part.offset pointer.pointer c.value_type.result (plain_type c.args.t.now) (plain_expr c.args.e.now) (plain_monitored found.found)
    (plain_stmts c.args.to.now.items) (plain_stmts c.value.new.to.items) (plain_stmts c.store_in.new.to.items) (sym c.string_in.ensures ∙ c.in-None.is) found.ensures.value found.ensures.setup found.ensures.names pointer.ensures.number
    c.value_type.ensures)
    c.store_in.ensures
