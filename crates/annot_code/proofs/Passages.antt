-- A passage of a label, term by term.
use Rattle.std.proofs.Common.{◌≡◌, ℕ, Bool, true, false, cond, List, ◌∷◌, Option, refl}
use Rattle.mon_syntax.specs.Registers.{Names}
use Rattle.mon_syntax.specs.Trees.{NoStatement}
use Rattle.c_model.specs.State.{same_label}
use Rattle.c_effects.specs.Expressions.{before}
use Rattle.c_simulation.specs.Keeping.{Kept}
use Rattle.c_effects.specs.Named.{unit_of}
use Rattle.annot_code.specs.Passages.{kept_by, names_behind_passed, names_behind_snapshot, names_behind_term, passed_by, snapshot_by}
use Rattle.annot_pieces.specs.Plain.{names_with}
use Rattle.annot_simulation.specs.Snapshots.{behind_keep, behind_snapshot, entry_side}

module _ (n : Names) (l : Option ℕ) (k : Kept) (rest : List Kept) where
  code_where : (b : Bool) → cond b (before (kept_by n k) (snapshot_by (names_behind_term k n) l rest)) (snapshot_by n l rest)
      ≡ before (cond b (kept_by n k) NoStatement) (snapshot_by (cond b (names_behind_term k n) n) l rest)
  code_where true = refl
  code_where false = refl

  pub code_passed : snapshot_by n l (k ∷ rest) ≡ before (passed_by n l k) (snapshot_by (names_behind_passed l k n) l rest)
  code_passed = code_where (same_label k.label l)

  behind_where :
      (b : Bool) → names_with (cond b (behind_snapshot (unit_of n) n.table.bound l (behind_keep (entry_side (unit_of n) n.table.bound n.table.kinds k)) rest)
      (behind_snapshot (unit_of n) n.table.bound l n.table.kinds rest)) n ≡ names_behind_snapshot l rest (cond b (names_behind_term k n) n)
  behind_where true = refl
  behind_where false = refl

  pub behind_passed : names_behind_snapshot l (k ∷ rest) n ≡ names_behind_snapshot l rest (names_behind_passed l k n)
  behind_passed = behind_where (same_label k.label l)
