use Rattle.std.proofs.Common.{map, ap, sym, ◌∙◌}
use Rattle.c_syntax.specs.Expressions.{plain_expr}
use Rattle.c_syntax.specs.Programs.{plain_layout}
use Rattle.mon_syntax.specs.Registers.{next_register}
use Rattle.mon_syntax.specs.Trees.{Register, plain_expr as plain_monitored, plain_stmts}
use Rattle.c_effects.specs.Full.{stepped}
use Rattle.c_effects.specs.Named.{unit_of}
use Rattle.c_effects.proofs.Objects.{member_made}
use Rattle.c_effects.proofs.inner.member_in.Goals as goal

pub returns-in_ok-then-clause-setup : goal.returns-in_ok-then-clause-setup
returns-in_ok-then-clause-setup c =
    let a = plain_expr c.args.e.now in
    let n = c.args.names.now in
    member_made (unit_of n).structs c.args.object (next_register n.table) c.in_ok-number.number a (plain_stmts c.args.to.now.items) (plain_stmts c.then.new.to.items)
    (plain_monitored c.in_ok-pointer.pointer) (sym c.is_inner.ensures ∙ c.if-is_inner.true) c.in_ok-number.ensures.number
    (c.in_ok-pointer.ensures ∙ ap (λ l. stepped (map plain_layout l) a (Register c.args.object)) c.layouts.ensures) c.in_ok-then.ensures
