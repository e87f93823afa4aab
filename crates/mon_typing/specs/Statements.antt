-- Ours: parts of mon_syntax/specs/Checking, as the code does them.
-- Statements from what is checked of them.
use Rattle.std.specs.Prelude.{ℕ, List, Option, Ok}
use Rattle.c_syntax.specs.declared.place.Place.{Place}
use Rattle.mon_syntax.specs.declared.tree.MonType.{MonType}
use Rattle.mon_syntax.specs.declared.tree.MonType.TheVariants.{Ptr}
use Rattle.mon_syntax.specs.Trees as tree
use Rattle.mon_syntax.specs.Trees.{MonExpression, MonStatement, MonStatements}
use Rattle.mon_syntax.specs.Parsed.{ParsedStatements}
use Rattle.mon_syntax.specs.Checking.{Scope, Checked, Typed, ◌>>=◌, ◌>>◌, demanded, same_type, register_or_fault, taken, checked_statements}

-- two bodies, one after the other
abbrev pub checked_bodies : Scope → Option MonType → List ℕ → ParsedStatements → ParsedStatements → Checked (MonStatements × MonStatements)
checked_bodies s t ls a b = checked_statements s t ls a >>= λ x. checked_statements s t ls b >>= λ y. Ok (x, y)

-- a register by its number, which is to be one of the type
abbrev pub register_of_type : Option (ℕ × MonType) → MonType → Place → Checked ℕ
register_of_type target t at = register_or_fault target at >>= λ r. demanded (same_type t r.1) at >> Ok r.0

-- a register takes a value
abbrev pub set_to : Option (ℕ × MonType) → Place → Typed → Checked MonStatement
set_to target at v = register_or_fault target at >>= λ r. demanded (same_type v.1 r.1) at >> Ok (tree.Set r.0 v.0)

-- a value of the type is stored at the pointer of a register
abbrev pub stored_to : Option (ℕ × MonType) → Place → MonType → MonExpression → Checked MonStatement
stored_to target at k v = register_or_fault target at >>= λ r. demanded (same_type r.1 Ptr) at >> Ok (tree.Store r.0 k v)

-- a register takes the value of a call
abbrev pub taken_by : Scope → Option (ℕ × MonType) → Place → MonStatement → Checked MonStatement
taken_by s target at a = register_or_fault target at >>= λ r. taken s r at a
