use Rattle.c_syntax.specs.Programs as source
use Rattle.mon_syntax.specs.Trees.{plain_program}
use Rattle.mon_syntax.proofs.FlatAgreement.{agreement_translates}
use Rattle.eacsl_engine.proofs.engine.translate.Goals as goal

pub returns-clause-translates : goal.returns-clause-translates
returns-clause-translates c =
    agreement_translates (source.plain_program c.args.program.now) (plain_program c.in_ok-monitored.monitored) c.in_ok-monitored.ensures.valid c.in_ok-monitored.ensures.agrees
