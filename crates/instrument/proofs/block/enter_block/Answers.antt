use Rattle.c_syntax.specs.Statements.{plain_items}
use Rattle.c_model.specs.Meaning.{declared_in}
use Rattle.instrument.proofs.DeclarationCode.{between_is}
use Rattle.instrument.proofs.block.enter_block.Goals as goal

pub returns-clause-own : goal.returns-clause-own
returns-clause-own c =
    between_is c.args.names.now c.enter_items.new.names (declared_in (plain_items c.args.block.now)) c.in_ok-first.first c.in_ok-end.end c.between.result c.in_ok-enter_items.ensures.names c.in_ok-first.ensures.number c.in_ok-end.ensures.number
    c.between.ensures
