-- Ours: the laws of guards. An operator of annotations is defined where it has a value (ACSL 2.2).
use Rattle.std.specs.Prelude.{◌≡◌, ℕ, ℤ, true, false, List, Some, is_some}
use Rattle.c_syntax.specs.declared.expression.BinOp.{BinOp}
use Rattle.c_model.specs.Integers.{truth}
use Rattle.c_model.specs.Logic.{compute}
use Rattle.mon_syntax.specs.declared.tree.MonType.{MonType}
use Rattle.mon_syntax.specs.declared.tree.MonType.TheVariants.{I32}
use Rattle.mon_syntax.specs.Arithmetic.{is_pointer}
use Rattle.mon_syntax.specs.Meaning.{eval_number}
use Rattle.mon_syntax.specs.Memory.{Memory}
use Rattle.mon_syntax.specs.Trees.{MonExpression}
use Rattle.mon_syntax.specs.Valid.{HasType, Types, is_arithmetic}
use Rattle.term_guards.specs.Guards.{guard}

-- the guard of an operator on x and on y, which is the value of the second operand
abbrev pub GuardsTellDefinedness : Memory → Type 0
GuardsTellDefinedness M = (gs regs : List M.Val) (m : M.Mem) (t : MonType) (op : BinOp) (e : MonExpression) (x y : ℤ) → is_pointer t ≡ false
    → eval_number M gs e regs m ≡ Some y → eval_number M gs (guard t op e) regs m ≡ Some (truth (is_some (compute op x y)))

-- in a program with so many globals, over registers of these types
abbrev pub GuardsAreTyped : Type 0
GuardsAreTyped = (globals : ℕ) (ts : Types) (t : MonType) (op : BinOp) (e : MonExpression) → is_arithmetic t ≡ true
    → HasType globals ts e t → HasType globals ts (guard t op e) I32
