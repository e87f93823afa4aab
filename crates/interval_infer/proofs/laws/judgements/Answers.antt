use Rattle.interval_infer.proofs.InSight.{judged_in_sight}
use Rattle.interval_infer.proofs.Judged.{judged_terms_lie_in_ranges, sound_judgements_fit}
use Rattle.interval_infer.proofs.laws.judgements.Goals as goal

pub returns : goal.returns
returns c = record { fit = sound_judgements_fit; lie = judged_terms_lie_in_ranges; seen = judged_in_sight }
