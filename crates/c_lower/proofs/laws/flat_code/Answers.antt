use Rattle.mon_syntax.specs.FlatMemory.{over_flat}
use Rattle.c_lower.proofs.Courses.{over_once, writing_begins}
use Rattle.c_lower.proofs.laws.flat_code.Goals as goal

pub returns-clause-once : goal.returns-clause-once
returns-clause-once c = over_once over_flat

pub returns-clause-writing : goal.returns-clause-writing
returns-clause-writing c = writing_begins over_flat
