-- Ours: plain forms.
-- The annotations of loops where a function's names are these.
use Rattle.std.specs.Prelude.{ℕ, ◌+◌, List, Option, Some, None, option_map}
use Rattle.std.specs.Borrow.{Bor}
use Rattle.c_syntax.specs.declared.logic.Annot.{Annot}
use Rattle.c_syntax.specs.declared.logic.Term.{Term}
use Rattle.c_syntax.specs.Expressions.{Expression}
use Rattle.c_syntax.specs.Logic.{LogicTerm, Annotation, plain_annot, plain_term}
use Rattle.c_syntax.specs.Statements.{Statement}
use Rattle.c_model.specs.Predicates.{variant}
use Rattle.mon_syntax.specs.Registers.{Names, with_table}
use Rattle.mon_syntax.specs.Trees.{MonStatements, NoStatement, Labelled}
use Rattle.c_effects.specs.Expressions.{before, one}
use Rattle.c_simulation.specs.Labels.{next_label}
use Rattle.c_effects.specs.Named.{unit_of}
use Rattle.c_simulation.specs.Keeping.{Kept}
use Rattle.annot_simulation.specs.Code.{Valuation, type_of}
use Rattle.annot_pieces.specs.Plain.{names_with}
use Rattle.instrument.specs.declared.clause.KeptVariant as declared
use Rattle.instrument.specs.LoopClauses.{behind_invariant, compared_with, invariant_code, invariants_code, variant_kept, variant_value}
use Rattle.instrument.specs.Translation.{Spot, after_invariants, after_statement, after_turn, after_variant, before_body, front_of, in_loop, statement}
use Rattle.instrument.specs.Translation.{turns_of}

-- the variant of a loop, and the register that keeps its value
abbrev pub KeptValue : Type 0
KeptValue = (Annotation × LogicTerm) × ℕ

-- an annotation with its term
abbrev pub plain_variant : Bor Annot × Bor Term → Annotation × LogicTerm
plain_variant v = (plain_annot v.0.now, plain_term v.1.now)

abbrev pub plain_kept_variant : declared.KeptVariant → KeptValue
plain_kept_variant x = ((plain_annot x.annot.now, plain_term x.term.now), x.register)

module _ (plan : List Kept) where
  abbrev pub invariant_by : Names → Annotation → MonStatements
  invariant_by n a = invariant_code (unit_of n) n.table.bound plan n.table.kinds a a.body

  abbrev pub behind_invariant_by : Annotation → Names → Names
  behind_invariant_by a n = names_with (behind_invariant (unit_of n) n.table.bound plan n.table.kinds a a.body) n

  abbrev pub invariants_by : Names → List Annotation → MonStatements
  invariants_by n annots = invariants_code (unit_of n) n.table.bound plan n.table.kinds annots

  abbrev pub behind_invariants_by : List Annotation → Names → Names
  behind_invariants_by annots n = with_table (after_invariants (unit_of n) plan annots n.table) n

  abbrev pub value_by : Names → Annotation × LogicTerm → Valuation
  value_by n v = variant_value (unit_of n) n.table.bound plan n.table.kinds v

  -- the value is kept
  abbrev pub kept_by : Names → List Annotation → MonStatements
  kept_by n annots = variant_kept (unit_of n) n.table.bound plan n.table.kinds (variant annots)

  abbrev pub kept_in : Names → List Annotation → Option KeptValue
  kept_in n annots = option_map (λ v. (v, (value_by n v).value)) (variant annots)

  abbrev pub behind_variant_by : List Annotation → Names → Names
  behind_variant_by annots n = with_table (after_variant (unit_of n) plan annots n.table) n

  -- and compared
  abbrev pub compared_by : Names → Option KeptValue → MonStatements
  compared_by n None = NoStatement
  compared_by n (Some k) = compared_with k.0.0 (type_of k.0.1) k.1 (value_by n k.0)

  abbrev pub behind_compared_by : Option KeptValue → Names → Names
  behind_compared_by None n = n
  behind_compared_by (Some k) n = names_with (value_by n k.0).used n

  -- ---- the turns of a loop

  abbrev pub before_body_by : List Annotation → Option Expression → Names → Names
  before_body_by annots e n = with_table (before_body (unit_of n) plan annots e n.table) n

  abbrev pub after_turn_by : List Annotation → Option Expression → Names → Names
  after_turn_by annots e n = with_table (after_turn (unit_of n) plan annots e n.table) n

  -- from the variant to the end of the body
  abbrev pub turn_by : Names → Spot → List Annotation → Statement → MonStatements
  turn_by n spot annots a =
      before (kept_by n annots)
      (one (Labelled (statement (unit_of n) plan (in_loop spot) (after_variant (unit_of n) plan annots n.table) a) (next_label (spot.levels + 1))))

  abbrev pub front_by : Names → ℕ → List Annotation → Option Expression → MonStatements
  front_by n loops annots e = front_of (unit_of n) plan annots loops n.table e

  abbrev pub turns_by : Names → Spot → List Annotation → Option Expression → Option Expression → Statement → MonStatements
  turns_by n spot annots e step a =
      turns_of (unit_of n) plan annots (spot.levels + 1) n.table (after_statement (unit_of n) plan a (before_body (unit_of n) plan annots e n.table)) e step
      (statement (unit_of n) plan (in_loop spot) (before_body (unit_of n) plan annots e n.table) a)
