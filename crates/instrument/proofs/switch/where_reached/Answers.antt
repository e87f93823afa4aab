use Rattle.std.proofs.Common.{pos, refl, ap}
use Rattle.mon_syntax.specs.Trees.{Binary, Constant, Register, plain_expr as plain_monitored, plain_stmt_kind, plain_stmts}
use Rattle.mon_syntax.specs.declared.tree.MonOp.TheVariants.{Le}
use Rattle.mon_syntax.specs.declared.tree.MonType.TheVariants.{U64}
use Rattle.mon_syntax.specs.declared.tree.MonStmtKind as kind
use Rattle.mon_syntax.proofs.Rows.{if_is}
use Rattle.c_effects.proofs.Trees.{on_ok_then}
use Rattle.instrument.proofs.SwitchCode.{if_alone}
use Rattle.instrument.proofs.switch.where_reached.Goals as goal

pub returns : goal.returns
returns c =
    let code = plain_stmts c.args.code.items in
    on_ok_then c.then.result
    (if_alone (plain_stmts c.args.to.now.items) (plain_stmts c.then.new.to.items) (plain_stmt_kind (kind.If c.in_ok-test.test c.args.code c.new.result)) (plain_monitored c.in_ok-test.test)
    (Binary Le U64 (Register c.args.chosen) (Constant U64 (pos c.args.index))) code code (plain_stmts c.new.result.items) (if_is c.in_ok-test.test c.args.code c.new.result) c.in_ok-test.ensures refl
    (ap plain_stmts c.new.ensures.items))
    c.then.ensures
