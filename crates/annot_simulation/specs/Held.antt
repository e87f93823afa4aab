-- Ours: a choice of code; what it has to do is ACSL 2.4.3, by the theorem of this crate.
-- The code of what stands in registers: values that have names in annotations, and terms that are kept at labels.
use Rattle.std.specs.Prelude.{ℕ, suc, pos, Bool, false, cond, nat_eq, List, [], ◌∷◌, Option, Some, None}
use Rattle.c_syntax.specs.Logic.{Binder}
use Rattle.c_model.specs.PredicateTyping.{place_of_term}
use Rattle.mon_syntax.specs.declared.tree.MonType.{MonType}
use Rattle.mon_syntax.specs.declared.tree.MonType.TheVariants.{I32, Ptr}
use Rattle.mon_syntax.specs.Checking.{same_type}
use Rattle.mon_syntax.specs.Trees.{MonExpression, Register, Constant, NoStatement}
use Rattle.c_effects.specs.Expressions.{in_type}
use Rattle.c_simulation.specs.Keeping.{Kept}
use Rattle.annot_simulation.specs.Pieces.{Code, sure_code}
use Rattle.annot_simulation.specs.Pointers.{PointerCode, start_pointer, null, no_offset}

-- ---- names of annotations

-- a name whose value stands in a register of this type
pub record Held : Type 0 where
  pub number : ℕ
  pub register : ℕ
  pub kind : MonType

-- the innermost one of the name
abbrev pub held_by : ℕ → List Held → Option Held
held_by x [] = None
held_by x (h ∷ hs) = cond (nat_eq h.number x) (Some h) (held_by x hs)

-- a number, in the type w
abbrev pub held_value : MonType → Option Held → MonExpression
held_value w None = Constant w (pos 0)
held_value w (Some h) = in_type h.kind w (Register h.register)

abbrev pub held_code : MonType → Option Held → List MonType → Code
held_code w o rs = sure_code (held_value w o) rs

-- a pointer
abbrev pub held_base : Option Held → MonExpression
held_base None = null
held_base (Some h) = Register h.register

abbrev pub held_pointer : Option Held → List MonType → PointerCode
held_pointer o rs = start_pointer (held_base o) rs

-- each name with whether it is a pointer
abbrev pub Sorted : Type 0
Sorted = List (ℕ × Bool)

abbrev pub sorts_held : List Held → Sorted
sorts_held [] = []
sorts_held (h ∷ hs) = (h.number, same_type h.kind Ptr) ∷ sorts_held hs

-- binders are numbers, the innermost first
abbrev pub sorts_within : List Binder → Sorted → Sorted
sorts_within [] ns = ns
sorts_within (b ∷ bs) ns = sorts_within bs ((b.place.offset, false) ∷ ns)

abbrev pub sort_held : ℕ → Sorted → Option Bool
sort_held x [] = None
sort_held x (n ∷ ns) = cond (nat_eq n.0 x) (Some n.1) (sort_held x ns)

-- ---- terms that are kept

-- the one at this offset of the text
abbrev pub kept_at : ℕ → List Kept → Option Kept
kept_at at [] = None
kept_at at (k ∷ ks) = cond (nat_eq (place_of_term k.term).offset at) (Some k) (kept_at at ks)

abbrev pub kept_flag : Option Kept → MonExpression
kept_flag None = Constant I32 (pos 0)
kept_flag (Some k) = Register k.register

-- a number in the next register
abbrev pub kept_number : Option Kept → MonExpression
kept_number None = Constant I32 (pos 0)
kept_number (Some k) = Register (suc k.register)

abbrev pub kept_code : Option Kept → List MonType → Code
kept_code o rs = record { stmts = NoStatement; flag = Some (kept_flag o); value = kept_number o; used = rs }

-- a pointer in the next two
abbrev pub kept_base : Option Kept → MonExpression
kept_base None = null
kept_base (Some k) = Register (suc k.register)

abbrev pub kept_offset : Option Kept → MonExpression
kept_offset None = no_offset
kept_offset (Some k) = Register (suc (suc k.register))

abbrev pub kept_pointer : Option Kept → List MonType → PointerCode
kept_pointer o rs = record { stmts = NoStatement; flag = Some (kept_flag o); base = kept_base o; offset = kept_offset o; used = rs }
