-- Ours: plain forms.
use Rattle.std.specs.Prelude.{List, map, Option, Some, None}
use Rattle.c_syntax.specs.declared.statement.Item.{Item}
use Rattle.c_syntax.specs.Logic.{plain_term}
use Rattle.c_syntax.specs.Statements.{ForFirst, NoFirst, First, plain_item}
use Rattle.annot_simulation.specs.Plan as plan
pub use Rattle.annot_pieces.specs.Tables.{plain_kept, plain_plan}
use Rattle.label_snapshots.specs.declared.entry.Entry.{Entry}
pub use Rattle.annot_pieces.specs.Tables.{plain_kept, plain_plan}

abbrev pub plain_entry : Entry → plan.Entry
plain_entry x = (x.label, plain_term x.term.now)

abbrev pub plain_entries : List Entry → List plan.Entry
plain_entries xs = map plain_entry xs

-- what stands first in a `for`
abbrev pub plain_first_part : Option Item → ForFirst
plain_first_part None = NoFirst
plain_first_part (Some item) = First (plain_item item)
