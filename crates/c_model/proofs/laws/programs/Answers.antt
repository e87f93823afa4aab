use Rattle.c_model.proofs.NeverStuck.{programs_never_stuck}
use Rattle.c_model.proofs.laws.programs.Goals as goal

pub returns : goal.returns
returns c = record { never_stuck = programs_never_stuck }
