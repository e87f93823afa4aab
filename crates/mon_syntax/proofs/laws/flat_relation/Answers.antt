use Rattle.mon_syntax.proofs.FlatAgreement.{act_alike}
use Rattle.mon_syntax.proofs.FlatFrames.{enter_alike, leave_alike}
use Rattle.mon_syntax.proofs.FlatOperators.{pointed_alike}
use Rattle.mon_syntax.proofs.FlatStart.{both_start}
use Rattle.mon_syntax.proofs.FlatStores.{store_alike}
use Rattle.mon_syntax.proofs.FlatStrings.{string_alike}
use Rattle.mon_syntax.proofs.FlatValues.{load_alike}
use Rattle.mon_syntax.proofs.laws.flat_relation.Goals as goal

pub returns-clause-start : goal.returns-clause-start
returns-clause-start c = both_start

pub returns-clause-calls : goal.returns-clause-calls
returns-clause-calls c = act_alike

pub returns-clause-frames : goal.returns-clause-frames
returns-clause-frames c = enter_alike

pub returns-clause-frame_ends : goal.returns-clause-frame_ends
returns-clause-frame_ends c = leave_alike

pub returns-clause-loads : goal.returns-clause-loads
returns-clause-loads c = load_alike

pub returns-clause-stores : goal.returns-clause-stores
returns-clause-stores c = store_alike

pub returns-clause-operators : goal.returns-clause-operators
returns-clause-operators c = pointed_alike

pub returns-clause-strings : goal.returns-clause-strings
returns-clause-strings c = string_alike
