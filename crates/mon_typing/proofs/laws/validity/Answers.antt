use Rattle.mon_typing.proofs.Validity.{checked_is_valid}
use Rattle.mon_typing.proofs.laws.validity.Goals as goal

pub returns : goal.returns
returns c = checked_is_valid
