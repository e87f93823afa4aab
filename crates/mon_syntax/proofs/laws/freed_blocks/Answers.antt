use Rattle.mon_syntax.proofs.FlatFreed.{freed_has_no_record}
use Rattle.mon_syntax.proofs.laws.freed_blocks.Goals as goal

pub returns : goal.returns
returns c = freed_has_no_record
