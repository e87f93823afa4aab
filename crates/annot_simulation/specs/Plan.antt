-- The registers of the terms that a function keeps at its labels (ACSL 2.4.3), in the order of the text.
use Rattle.std.specs.Prelude.{◌≡◌, ℕ, ◌+◌, Bool, true, false, List, [], ◌∷◌, ◌++◌, length, Some}
use Rattle.c_syntax.specs.Logic.{LogicTerm}
use Rattle.mon_syntax.specs.declared.tree.MonType.{MonType}
use Rattle.mon_syntax.specs.declared.tree.MonType.TheVariants.{I32, I128, Ptr}
use Rattle.c_simulation.specs.Keeping.{Kept, is_pointer_term, registers_of}
use Rattle.annot_simulation.specs.Held.{kept_at}
use Rattle.annot_simulation.specs.Pieces.{type_of}
use Rattle.annot_simulation.specs.Snapshots.{Ascend}
pub use Rattle.c_model.specs.KeptTerms.{Entry, in_term, in_links, in_zone, in_zones, in_predicate, in_guards, in_clause, in_annotations, in_behaviors}
pub use Rattle.c_model.specs.KeptTerms.{in_contract, in_statement, in_cases, in_else, in_first, in_item, in_items, in_body, planned, IsIn, offset_of}

-- each with a flag and a value, in registers from the number n on
abbrev pub kept_from : ℕ → List Entry → List Kept
kept_from n [] = []
kept_from n (x ∷ xs) = record { label = x.0; term = x.1; register = n } ∷ kept_from (n + registers_of x.1) xs

-- the types of a number, or of a base and an offset
abbrev pub value_types : Bool → LogicTerm → List MonType
value_types true t = Ptr ∷ I128 ∷ []
value_types false t = type_of t ∷ []

abbrev pub kept_types : List Entry → List MonType
kept_types [] = []
kept_types (x ∷ xs) = I32 ∷ (value_types (is_pointer_term x.1) x.1 ++ kept_types xs)

-- ---- the laws

-- the registers of a plan stand in order
abbrev pub PlansAscend : Type 0
PlansAscend = (n : ℕ) (xs : List Entry) → Ascend n (kept_from n xs) (n + length (kept_types xs))

-- each entry is found under its offset, where no other one has that
abbrev pub EntriesAreFound : Type 0
EntriesAreFound =
    (n : ℕ) (xs : List Entry) (x : Entry) → IsIn x xs → ((y : Entry) → IsIn y xs → offset_of y ≡ offset_of x → y ≡ x)
    → (k : Kept) × (kept_at (offset_of x) (kept_from n xs) ≡ Some k) × (k.label ≡ x.0) × (k.term ≡ x.1)
