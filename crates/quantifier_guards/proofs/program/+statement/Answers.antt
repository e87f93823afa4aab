use Rattle.std.proofs.Common.{rules}
use Rattle.quantifier_guards.proofs.Places.{in_block, in_switch}
use Rattle.quantifier_guards.proofs.program.+statement.Goals as goal

pub unguarded_in_kind-returns-in-Block : goal.unguarded_in_kind-returns-in-Block
unguarded_in_kind-returns-in-Block t c = λ at.
    let same = in_block at c.args.kind.now c.in-Block.items c.in-Block.is in
    search (rules, same)

pub unguarded_in_kind-returns-in-Switch : goal.unguarded_in_kind-returns-in-Switch
unguarded_in_kind-returns-in-Switch t c = λ at.
    let same = in_switch at c.args.kind.now c.in-Switch.field-0 c.in-Switch.cases c.in-Switch.is in
    search (rules, same)
