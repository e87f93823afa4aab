use Rattle.c_model.proofs.JudgedPrograms.{judged_states_are_sound, results_are_fit}
use Rattle.c_model.proofs.SoundJudgements.{judgements_are_sound}
use Rattle.c_model.proofs.laws.judged_states.Goals as goal

pub returns-clause-sound : goal.returns-clause-sound
returns-clause-sound c = judged_states_are_sound

pub returns-clause-judgements : goal.returns-clause-judgements
returns-clause-judgements c = judgements_are_sound

pub returns-clause-results : goal.returns-clause-results
returns-clause-results c = results_are_fit
