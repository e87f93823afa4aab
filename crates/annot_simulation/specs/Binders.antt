-- Ours: a choice of code; what it has to do is ACSL 2.2, by the theorem of this crate.
-- The code of the binders of a chain: an index for each, all of them of the type that holds both bounds.
use Rattle.std.specs.Prelude.{ℕ, suc, ℤ, pos, int_lt, Bool, if◌then◌else◌, List, [], ◌∷◌, ◌++◌, length, Option, Some, None}
use Rattle.c_syntax.specs.declared.annotation.Relation.{Relation}
use Rattle.c_syntax.specs.declared.annotation.Relation.TheVariants as relation
use Rattle.c_syntax.specs.declared.logic.Quantifier.{Quantifier}
use Rattle.c_syntax.specs.Formulas.{CastType, Integers, OfC}
use Rattle.c_syntax.specs.Logic.{Binder}
use Rattle.c_model.specs.Integers.{integer_type}
use Rattle.c_model.specs.Quantifiers.{first_of}
use Rattle.c_model.specs.TermRanges.{raised, type_range}
use Rattle.mon_syntax.specs.declared.tree.MonOp.TheVariants.{Sub}
use Rattle.mon_syntax.specs.declared.tree.MonType.{MonType}
use Rattle.mon_syntax.specs.declared.tree.MonType.TheVariants.{I32}
use Rattle.mon_syntax.specs.Trees.{MonExpression, Register, Constant, Binary, Set, Then}
use Rattle.quantifier_loops.specs.Tries.{Between, at_most, tries}
use Rattle.annot_simulation.specs.Held.{Held}
use Rattle.annot_simulation.specs.Pieces.{Code}

-- ---- values of a type of C alone

-- the least one, where a lower bound of this number may lie below it
abbrev pub least_of : CastType → ℤ → Option ℤ
least_of Integers l = None
least_of (OfC t) l = elim (integer_type t) [ None ↦ None | Some k ↦ if int_lt l (type_range k).lo then Some (type_range k).lo else None ]

-- the greatest one, where an upper bound of this number may lie above it
abbrev pub greatest_of : CastType → ℤ → Option ℤ
greatest_of Integers h = None
greatest_of (OfC t) h = elim (integer_type t) [ None ↦ None | Some k ↦ if int_lt (type_range k).hi h then Some (type_range k).hi else None ]

-- ---- one binder

-- the code of its values by that of one: the flag and the truth stand in the first two of its registers
abbrev pub tries_code : Quantifier → Between → ℕ → Code → Code
tries_code q b r c = record { stmts = tries q b r c.stmts c.flag c.value; flag = Some (Register r); value = Register (suc r); used = c.used }

-- its registers, of which the last one is the index
abbrev pub tried_with : MonType → List MonType → List MonType
tried_with k rs = rs ++ I32 ∷ I32 ∷ I32 ∷ k ∷ []

abbrev pub index_behind : List MonType → ℕ
index_behind rs = suc (suc (suc (length rs)))

-- code that takes the last value, in a register of its own where that may be above the greatest one
abbrev pub with_last : MonType → MonExpression → Option ℤ → (MonExpression → List MonType → Code) → List MonType → Code
with_last k to None go rs = go to rs
with_last k to (Some z) go rs =
    let c = go (Register (length rs)) (rs ++ k ∷ []) in
    record c { stmts = at_most k (length rs) to z c.stmts }

-- ---- a chain

-- an index of the type goes up to a number, which is at most this one; what stands within the binders has its code where they are held
module _ (q : Quantifier) (k : MonType) (to : MonExpression) (most : ℤ) (inner : List Held → List MonType → Code) where
  -- binders from a number on, which is at least this one
  abbrev pub over_code : MonExpression → ℤ → List Binder → List Held → List MonType → Code
  over_code from least [] held rs = inner held rs
  over_code from least (b ∷ bs) held rs =
      with_last k to (greatest_of b.kind most)
      (λ last js.
      tries_code q (record { above = b.above; kind = k; least = least_of b.kind (raised b.above least); from = from; to = last }) (length js)
      (over_code (Register (index_behind js)) (first_of b.kind (raised b.above least)) bs
      (record { number = b.place.offset; register = index_behind js; kind = k } ∷ held) (tried_with k js)))
      rs

-- the last value before an upper bound, by the sign before that
abbrev pub last_before : Bool → MonType → MonExpression → MonExpression
last_before below k e = if below then Binary Sub k e (Constant k (pos 1)) else e

-- both bounds are numbers of the type, the lower one at least and the upper one at most these; the last value stands in a register
abbrev pub bounded_code : Quantifier → Bool → MonType → (from to : MonExpression) → (least most : ℤ) → List Binder → (List Held → List MonType → Code)
    → List Held → List MonType → Code
bounded_code q below k from to least most bs inner held rs =
    let c = over_code q k (Register (length rs)) most inner from least bs held (rs ++ k ∷ []) in
    record c { stmts = Then (Set (length rs) (last_before below k to)) c.stmts }

-- whether there is a value between both bounds
abbrev pub bounds_relation : Bool → Relation
bounds_relation below = if below then relation.Lt else relation.Le
