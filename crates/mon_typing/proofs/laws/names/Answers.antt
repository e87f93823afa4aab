use Rattle.mon_typing.proofs.Words.{tokens_have_names}
use Rattle.mon_typing.proofs.laws.names.Goals as goal

pub returns : goal.returns
returns c = tokens_have_names
