use Rattle.mon_syntax.proofs.FlatAgreement.{blocks_agree_with_flat, agreement_translates}
use Rattle.mon_syntax.proofs.laws.agreement.Goals as goal

pub returns-clause-flat : goal.returns-clause-flat
returns-clause-flat c = blocks_agree_with_flat

pub returns-clause-translates : goal.returns-clause-translates
returns-clause-translates c = agreement_translates
