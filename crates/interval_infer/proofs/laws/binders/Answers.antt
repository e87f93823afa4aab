use Rattle.interval_infer.proofs.Binders.{binders_fit, binders_reach, guarded_reaches, guards_fit}
use Rattle.interval_infer.proofs.laws.binders.Goals as goal

pub returns-clause-fit : goal.returns-clause-fit
returns-clause-fit c = binders_fit

pub returns-clause-tried : goal.returns-clause-tried
returns-clause-tried c = binders_reach

pub returns-clause-asked : goal.returns-clause-asked
returns-clause-asked c = guarded_reaches

pub returns-clause-behind : goal.returns-clause-behind
returns-clause-behind c = guards_fit
