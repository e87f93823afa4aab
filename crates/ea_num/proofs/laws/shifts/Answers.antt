use Rattle.ea_num.proofs.Shifted.{shifts_left_lie, shifts_right_lie, shifts_round_down}
use Rattle.ea_num.proofs.laws.shifts.Goals as goal

pub returns-clause-left : goal.returns-clause-left
returns-clause-left c = shifts_left_lie

pub returns-clause-right : goal.returns-clause-right
returns-clause-right c = shifts_right_lie

pub returns-clause-rounds_down : goal.returns-clause-rounds_down
returns-clause-rounds_down c = shifts_round_down
