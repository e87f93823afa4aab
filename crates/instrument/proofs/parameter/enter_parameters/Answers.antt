use Rattle.std.proofs.Common.{map}
use Rattle.c_syntax.specs.Statements.{plain_decl}
use Rattle.instrument.proofs.DeclarationCode.{between_is}
use Rattle.instrument.proofs.parameter.enter_parameters.Goals as goal

pub returns-clause-own : goal.returns-clause-own
returns-clause-own c =
    between_is c.args.names.now c.enter_all.new.names (map plain_decl c.args.params.now) c.in_ok-first.first c.in_ok-end.end c.between.result c.in_ok-enter_all.ensures.names c.in_ok-first.ensures.number c.in_ok-end.ensures.number
    c.between.ensures
