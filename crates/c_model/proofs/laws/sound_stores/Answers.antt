use Rattle.c_model.proofs.SoundLoads.{placed_are_near, sound_stores_are_whole, sound_stores_read}
use Rattle.c_model.proofs.SoundStores.{all_copied, sound_freed, sound_killed, value_saved}
use Rattle.c_model.proofs.laws.sound_stores.Goals as goal

pub returns-clause-reads : goal.returns-clause-reads
returns-clause-reads c = sound_stores_read

pub returns-clause-near : goal.returns-clause-near
returns-clause-near c = placed_are_near

pub returns-clause-saves : goal.returns-clause-saves
returns-clause-saves c = value_saved

pub returns-clause-copies : goal.returns-clause-copies
returns-clause-copies c = all_copied

pub returns-clause-deaths : goal.returns-clause-deaths
returns-clause-deaths c = sound_killed

pub returns-clause-frees : goal.returns-clause-frees
returns-clause-frees c = sound_freed

pub returns-clause-whole : goal.returns-clause-whole
returns-clause-whole c = sound_stores_are_whole
