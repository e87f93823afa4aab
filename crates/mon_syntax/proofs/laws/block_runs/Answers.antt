use Rattle.mon_syntax.specs.BlockMemory.{over_blocks}
use Rattle.mon_syntax.proofs.Fuel.{exec_fuel, steps_fall, one_turn, run_at, run_spends}
use Rattle.mon_syntax.proofs.laws.block_runs.Goals as goal

pub returns-clause-fuel : goal.returns-clause-fuel
returns-clause-fuel c = exec_fuel over_blocks

pub returns-clause-steps : goal.returns-clause-steps
returns-clause-steps c = steps_fall over_blocks

pub returns-clause-loops : goal.returns-clause-loops
returns-clause-loops c = one_turn over_blocks

pub returns-clause-run : goal.returns-clause-run
returns-clause-run c = run_at over_blocks

pub returns-clause-left : goal.returns-clause-left
returns-clause-left c = run_spends over_blocks
