use Rattle.c_model.proofs.RangedStatements.{ranging_keeps_units}
use Rattle.c_model.proofs.RangedPrograms.{ranged_programs_are_programs}
use Rattle.c_model.proofs.UnrangedRuns.{ranges_keep_runs}
use Rattle.c_model.proofs.laws.ranging_of_programs.Goals as goal

pub returns-clause-units : goal.returns-clause-units
returns-clause-units c = ranging_keeps_units

pub returns-clause-programs : goal.returns-clause-programs
returns-clause-programs c = ranged_programs_are_programs

pub returns-clause-runs : goal.returns-clause-runs
returns-clause-runs c = ranges_keep_runs
