use Rattle.c_model.proofs.SoundStarts.{starts_are_settled, starts_are_sound}
use Rattle.c_model.proofs.SoundPrograms.{births_keep_sound, bodies_keep_sound, expressions_keep_sound, items_keep_sound, program_calls_keep_sound, programs_are_direct, runs_are_sound, runs_keep_sound, statements_keep_sound}
use Rattle.c_model.proofs.SoundNumbers.{numbers_are_one}
use Rattle.c_model.proofs.laws.sound_states.Goals as goal

pub returns-clause-direct : goal.returns-clause-direct
returns-clause-direct c = programs_are_direct

pub returns-clause-starts : goal.returns-clause-starts
returns-clause-starts c = starts_are_sound

pub returns-clause-expressions : goal.returns-clause-expressions
returns-clause-expressions c = expressions_keep_sound

pub returns-clause-statements : goal.returns-clause-statements
returns-clause-statements c = statements_keep_sound

pub returns-clause-calls : goal.returns-clause-calls
returns-clause-calls c = program_calls_keep_sound

pub returns-clause-runs : goal.returns-clause-runs
returns-clause-runs c = runs_keep_sound

pub returns-clause-left : goal.returns-clause-left
returns-clause-left c = runs_are_sound

pub returns-clause-births : goal.returns-clause-births
returns-clause-births c = births_keep_sound

pub returns-clause-items : goal.returns-clause-items
returns-clause-items c = items_keep_sound

pub returns-clause-settled : goal.returns-clause-settled
returns-clause-settled c = starts_are_settled

pub returns-clause-bodies : goal.returns-clause-bodies
returns-clause-bodies c = bodies_keep_sound

pub returns-clause-numbers : goal.returns-clause-numbers
returns-clause-numbers c = numbers_are_one
