-- Ours: plain forms.
-- The checks of a contract where a function's names are these, and its behaviors have flags in registers.
use Rattle.std.specs.Prelude.{ℕ, cond, List, [], map, Option, None}
use Rattle.c_syntax.specs.declared.place.Place.{Place}
use Rattle.c_syntax.specs.Logic.{Annotation}
use Rattle.c_syntax.specs.Programs.{NamedBehavior, FunctionContract, plain_behavior}
use Rattle.c_model.specs.ContractChecks.{Check, is_assumes}
use Rattle.mon_syntax.specs.Registers.{Names}
use Rattle.mon_syntax.specs.Trees.{MonStatements}
use Rattle.c_effects.specs.Named.{unit_of}
use Rattle.annot_code.specs.declared.flags.Flags as declared_flags
use Rattle.annot_simulation.specs.ContractCode.{assumption_code, behind_check, behind_checks, behind_cover, behind_demand, behind_entry, behind_leave}
use Rattle.annot_simulation.specs.ContractCode.{check_code}
use Rattle.annot_simulation.specs.ContractCode.{checks_code, counted_by, counted_by_cover, counted_by_demand, cover_code, demand_code, entry_code, leave_code}
use Rattle.annot_pieces.specs.Plain.{Known, clause_by, names_behind_assertion, names_with}

-- behaviors, and the register of the first one's flag
pub record Flags : Type 0 where
  pub behaviors : List NamedBehavior
  pub first : ℕ

abbrev pub plain_flags : declared_flags.Flags → Flags
plain_flags f = record { behaviors = map plain_behavior f.behaviors.now; first = f.first }

abbrev pub annotations_of : List Check → List Annotation
annotations_of cs = map (λ (c : Check). c.annotation) cs

-- ---- clauses that name behaviors, in which no term stands

module _ (f : Flags) where
  abbrev pub cover_by : Names → List (Place × ℕ) → Option ℕ → Annotation → MonStatements
  cover_by n names counted a = cover_code (unit_of n) n.table.bound [] [] f.behaviors f.first names counted n.table.kinds a

  abbrev pub names_behind_cover : List (Place × ℕ) → Option ℕ → Names → Names
  names_behind_cover names counted n = names_with (behind_cover (unit_of n) n.table.bound [] [] f.behaviors f.first names counted n.table.kinds) n

  abbrev pub counted_behind_cover : Names → List (Place × ℕ) → Option ℕ → Option ℕ
  counted_behind_cover n names counted = counted_by_cover (unit_of n) n.table.bound [] [] f.behaviors f.first names counted n.table.kinds

-- ---- a check

module _ (k : Known) (f : Flags) where
  abbrev pub demand_by : Names → Option ℕ → Annotation → MonStatements
  demand_by n counted a = demand_code (unit_of n) n.table.bound k.plan k.held f.behaviors f.first counted n.table.kinds a a.body

  abbrev pub names_behind_demand : Option ℕ → Annotation → Names → Names
  names_behind_demand counted a n =
      names_with (behind_demand (unit_of n) n.table.bound k.plan k.held f.behaviors f.first counted n.table.kinds a a.body) n

  abbrev pub counted_behind_demand : Names → Option ℕ → Annotation → Option ℕ
  counted_behind_demand n counted a = counted_by_demand (unit_of n) n.table.bound k.plan k.held f.behaviors f.first counted n.table.kinds a.body

  -- one of the behavior with this flag
  abbrev pub behavior_by : Names → Option ℕ → ℕ → Annotation → MonStatements
  behavior_by n counted flag a = cond (is_assumes a.kind) (assumption_code a flag (clause_by n a.body k)) (demand_by n counted a)

  abbrev pub names_behind_behavior : Option ℕ → Annotation → Names → Names
  names_behind_behavior counted a n = cond (is_assumes a.kind) (names_behind_assertion a k n) (names_behind_demand counted a n)

  abbrev pub check_by : Names → Option ℕ → Check → MonStatements
  check_by n counted c = check_code (unit_of n) n.table.bound k.plan k.held f.behaviors f.first counted n.table.kinds c.annotation c.behavior

  abbrev pub names_behind_check : Option ℕ → Check → Names → Names
  names_behind_check counted c n =
      names_with (behind_check (unit_of n) n.table.bound k.plan k.held f.behaviors f.first counted n.table.kinds c.annotation c.behavior) n

  abbrev pub counted_behind_check : Names → Option ℕ → Check → Option ℕ
  counted_behind_check n counted c = counted_by (unit_of n) n.table.bound k.plan k.held f.behaviors f.first counted n.table.kinds c.annotation c.behavior

  abbrev pub checks_by : Names → Option ℕ → List Check → MonStatements
  checks_by n counted cs = checks_code (unit_of n) n.table.bound k.plan k.held f.behaviors f.first counted n.table.kinds cs

  abbrev pub names_behind_checks : Option ℕ → List Check → Names → Names
  names_behind_checks counted cs n = names_with (behind_checks (unit_of n) n.table.bound k.plan k.held f.behaviors f.first counted n.table.kinds cs) n

-- after a clause of a behavior
abbrev pub counted_behind_behavior : Option ℕ → Annotation → Option ℕ
counted_behind_behavior counted a = cond (is_assumes a.kind) None counted

-- ---- a contract

abbrev pub entry_by : Names → ℕ → FunctionContract → MonStatements
entry_by n h c = entry_code (unit_of n) n.table.bound h n.table.kinds c

abbrev pub names_behind_entry : ℕ → FunctionContract → Names → Names
names_behind_entry h c n = names_with (behind_entry (unit_of n) n.table.bound h n.table.kinds c) n

abbrev pub leave_by : Names → Known → ℕ → FunctionContract → MonStatements
leave_by n k h c = leave_code (unit_of n) n.table.bound k.plan k.held h n.table.kinds c

abbrev pub names_behind_leave : Known → ℕ → FunctionContract → Names → Names
names_behind_leave k h c n = names_with (behind_leave (unit_of n) n.table.bound k.plan k.held h n.table.kinds c) n
