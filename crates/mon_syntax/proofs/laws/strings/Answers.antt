use Rattle.mon_syntax.proofs.FlatStrings.{block_strings, flat_strings}
use Rattle.mon_syntax.proofs.laws.strings.Goals as goal

pub returns-clause-blocks : goal.returns-clause-blocks
returns-clause-blocks c = block_strings

pub returns-clause-flat : goal.returns-clause-flat
returns-clause-flat c = flat_strings
