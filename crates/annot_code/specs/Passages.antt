-- Ours: plain forms.
-- The code at a passage of a label where a function's names are these.
use Rattle.std.specs.Prelude.{ℕ, cond, List, Option}
use Rattle.c_model.specs.State.{same_label}
use Rattle.mon_syntax.specs.Registers.{Names}
use Rattle.mon_syntax.specs.Trees.{MonStatements, NoStatement}
use Rattle.c_effects.specs.Named.{unit_of}
use Rattle.c_simulation.specs.Keeping.{Kept}
use Rattle.annot_pieces.specs.Plain.{names_with}
use Rattle.annot_simulation.specs.Snapshots.{behind_keep, behind_snapshot, entry_side, keep, snapshot}

-- a term is kept
abbrev pub kept_by : Names → Kept → MonStatements
kept_by n k = keep (entry_side (unit_of n) n.table.bound n.table.kinds k) k.register

abbrev pub names_behind_term : Kept → Names → Names
names_behind_term k n = names_with (behind_keep (entry_side (unit_of n) n.table.bound n.table.kinds k)) n

-- where its label is passed
abbrev pub passed_by : Names → Option ℕ → Kept → MonStatements
passed_by n l k = cond (same_label k.label l) (kept_by n k) NoStatement

abbrev pub names_behind_passed : Option ℕ → Kept → Names → Names
names_behind_passed l k n = cond (same_label k.label l) (names_behind_term k n) n

-- all terms of the label
abbrev pub snapshot_by : Names → Option ℕ → List Kept → MonStatements
snapshot_by n l ks = snapshot (unit_of n) n.table.bound l n.table.kinds ks

abbrev pub names_behind_snapshot : Option ℕ → List Kept → Names → Names
names_behind_snapshot l ks n = names_with (behind_snapshot (unit_of n) n.table.bound l n.table.kinds ks) n
