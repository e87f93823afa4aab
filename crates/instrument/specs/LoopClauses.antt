-- Ours: a choice of code; what it has to do is ACSL 2.4.2, by the theorem of this crate.
-- The annotations of a loop: its invariants are asserted in front of its condition; the value of its variant is kept after the step, in a register of its
-- own, and compared with the new one after the body.
use Rattle.std.specs.Prelude.{ℕ, pos, List, [], ◌∷◌, Option, Some, None}
use Rattle.c_syntax.specs.Logic.{LogicTerm, ClauseBody, Raw, Holds, Value, Behaviors, Annotation}
use Rattle.c_syntax.specs.Programs.{TranslationUnit}
use Rattle.mon_syntax.specs.declared.tree.MonOp.TheVariants.{And, Le, Lt}
use Rattle.mon_syntax.specs.declared.tree.MonType.{MonType}
use Rattle.mon_syntax.specs.declared.tree.MonType.TheVariants.{I32}
use Rattle.mon_syntax.specs.Trees.{MonExpression, Register, Constant, Binary, Assert, MonStatements, NoStatement}
use Rattle.mon_syntax.specs.Registers.{Bindings}
use Rattle.c_effects.specs.Expressions.{before, one}
use Rattle.c_simulation.specs.Keeping.{Kept}
use Rattle.annot_simulation.specs.Code.{type_of, assertion, behind_assertion, Valuation, valuation}

-- ---- invariants

module _ (p : TranslationUnit) (bound : Bindings) (plan : List Kept) where
  -- a variant among them is passed over
  abbrev pub invariant_code : List MonType → Annotation → ClauseBody → MonStatements
  invariant_code rs a (Raw f) = assertion p bound plan [] rs a
  invariant_code rs a (Holds q) = assertion p bound plan [] rs a
  invariant_code rs a (Value t) = NoStatement
  invariant_code rs a (Behaviors names) = assertion p bound plan [] rs a

  abbrev pub behind_invariant : List MonType → Annotation → ClauseBody → List MonType
  behind_invariant rs a (Raw f) = behind_assertion p bound plan [] rs a
  behind_invariant rs a (Holds q) = behind_assertion p bound plan [] rs a
  behind_invariant rs a (Value t) = rs
  behind_invariant rs a (Behaviors names) = behind_assertion p bound plan [] rs a

  -- after registers of these types, in their order
  abbrev pub invariants_code : List MonType → List Annotation → MonStatements
  invariants_code rs [] = NoStatement
  invariants_code rs (a ∷ rest) = before (invariant_code rs a a.body) (invariants_code (behind_invariant rs a a.body) rest)

  -- the types of all registers that are taken after them
  abbrev pub behind_invariants : List MonType → List Annotation → List MonType
  behind_invariants rs [] = rs
  behind_invariants rs (a ∷ rest) = behind_invariants (behind_invariant rs a a.body) rest

-- ---- the variant, with its term

-- the value that an annotation wants: the run ends where there is none
abbrev pub wanted : Annotation → Valuation → MonStatements
wanted a v = before v.stmts (one (Assert (Register v.flag) (Constant I32 (pos 1)) a.number a.place.line a.kind))

-- what was kept isn't negative, and has become smaller
abbrev pub smaller : MonType → ℕ → ℕ → MonExpression
smaller t old new = Binary And I32 (Binary Le t (Constant t (pos 0)) (Register old)) (Binary Lt t (Register new) (Register old))

-- the new value, and then the comparison with that in the register: both are assertions of the variant
abbrev pub compared_with : Annotation → MonType → ℕ → Valuation → MonStatements
compared_with a t old v =
    before (wanted a v) (one (Assert (Constant I32 (pos 1)) (smaller t old v.value) a.number a.place.line a.kind))

-- the value of a variant, after registers of these types
abbrev pub variant_value : TranslationUnit → Bindings → List Kept → List MonType → Annotation × LogicTerm → Valuation
variant_value p bound plan rs v = valuation p bound plan [] v.1 rs

abbrev pub variant_kept : TranslationUnit → Bindings → List Kept → List MonType → Option (Annotation × LogicTerm) → MonStatements
variant_kept p bound plan rs None = NoStatement
variant_kept p bound plan rs (Some v) = wanted v.0 (variant_value p bound plan rs v)

abbrev pub behind_variant : TranslationUnit → Bindings → List Kept → List MonType → Option (Annotation × LogicTerm) → List MonType
behind_variant p bound plan rs None = rs
behind_variant p bound plan rs (Some v) = (variant_value p bound plan rs v).used

-- it was kept over the first bindings after the first registers, and is compared over the second ones after the second
abbrev pub variant_compared : TranslationUnit → Bindings → Bindings → List Kept → List MonType → List MonType → Option (Annotation × LogicTerm)
    → MonStatements
variant_compared p bound later plan rs behind None = NoStatement
variant_compared p bound later plan rs behind (Some v) =
    compared_with v.0 (type_of v.1) (variant_value p bound plan rs v).value (variant_value p later plan behind v)
