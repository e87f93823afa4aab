use Rattle.std.proofs.Common.{refl, ap, ◌∙◌, arith}
use Rattle.c_syntax.specs.Layouts.{int_size}
use Rattle.mon_syntax.specs.Trees.{plain_stmts}
use Rattle.c_effects.specs.Expressions.{register_type}
use Rattle.c_effects.proofs.Sequences.{all_there}
use Rattle.c_effects.proofs.ZeroRuns.{no_zero, width_fits, zero_turn}
use Rattle.c_effects.proofs.zeros.zeros_in.Goals as goal

pub returns : goal.returns
returns c = all_there (no_zero c.args.slot.object c.args.slot.pointer c.stores.offset c.stores.left c.stores-test.false) c.stores.invariant

pub stores-preserved : goal.stores-preserved
stores-preserved c =
    zero_turn c.args.slot.object c.args.slot.pointer c.stores.offset c.stores.left c.register_type.result c.from-width.result _ _ (plain_stmts c.stores.to.items) (plain_stmts c.number_in.new.to.items) c.stores-test.true
    (c.register_type.ensures ∙ ap register_type c.widest-k.ensures) (c.from-width.ensures ∙ c.int_size.ensures ∙ ap int_size c.widest-k.ensures) c.in_ok-offset.ensures refl c.in_ok-number_in.ensures c.stores.invariant

pub overflow_sub-left : goal.overflow_sub-left
overflow_sub-left c =
    let fits = width_fits c.stores.offset c.stores.left c.stores-test.true in
    omega (arith, fits, c.from-width.ensures, c.int_size.ensures, ap int_size c.widest-k.ensures)
