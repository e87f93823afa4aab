use Rattle.std.proofs.Common.{ap, option_map}
use Rattle.c_syntax.specs.Statements.{plain_stmt}
use Rattle.c_effects.proofs.Sequences.{nothing}
use Rattle.instrument.specs.Options.{body_by, plain_spot, plan_in}
use Rattle.instrument.proofs.contract.statement_of.Goals as goal

pub returns-in-None-clause-code : goal.returns-in-None-clause-code
returns-in-None-clause-code c = nothing _ _ (ap (λ o. body_by (plan_in c.args.spot.now) c.args.names.now (plain_spot c.args.spot.now) (option_map plain_stmt o)) c.in-None.is)
