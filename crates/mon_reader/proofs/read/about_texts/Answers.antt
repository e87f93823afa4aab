use Rattle.mon_reader.proofs.Texts.{one_spelled, spelled_apart, one_monitored_refusal}
use Rattle.mon_reader.proofs.WithinTexts.{spelled_valid}
use Rattle.mon_reader.proofs.read.about_texts.Goals as goal

pub returns-clause-valid : goal.returns-clause-valid
returns-clause-valid c = spelled_valid

pub returns-clause-one_spelled : goal.returns-clause-one_spelled
returns-clause-one_spelled c = one_spelled

pub returns-clause-spelled_apart : goal.returns-clause-spelled_apart
returns-clause-spelled_apart c = spelled_apart

pub returns-clause-one_monitored_refusal : goal.returns-clause-one_monitored_refusal
returns-clause-one_monitored_refusal c = one_monitored_refusal
