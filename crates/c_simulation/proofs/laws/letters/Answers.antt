use Rattle.c_simulation.proofs.EffectLetters.{letters_of_acts, letters_of_values}
use Rattle.c_simulation.proofs.laws.letters.Goals as goal

pub returns : goal.returns
returns c = record { values = letters_of_values; alone = letters_of_acts }
