-- Ours: a choice of code. What it has to tell is what ACSL 2.7 says of memory.
use Rattle.std.specs.Prelude.{ℕ, nat_eq, if◌then◌else◌, List, [], ◌∷◌, Some}
use Rattle.c_syntax.specs.declared.logic.BlockFact.{BlockFact}
use Rattle.c_syntax.specs.declared.logic.BlockFact.TheVariants as fact
use Rattle.mon_syntax.specs.declared.tree.AccessSize.{AccessSize}
use Rattle.mon_syntax.specs.declared.tree.AccessSize.TheVariants.{One, Two, Four, Eight, Sixteen}
use Rattle.mon_syntax.specs.declared.tree.MemoryCall.{MemoryCall}
use Rattle.mon_syntax.specs.declared.tree.MemoryCall.TheVariants as call
use Rattle.mon_syntax.specs.declared.tree.MonType.{MonType}
use Rattle.mon_syntax.specs.declared.tree.MonType.TheVariants.{I64, Ptr}
use Rattle.mon_syntax.specs.declared.tree.MonOp.TheVariants.{Add}
use Rattle.mon_syntax.specs.Trees.{MonExpression, Binary, Cast, Load, MonStatement, Act}
use Rattle.mem_preds.specs.declared.question.Question.{Question}
use Rattle.mem_preds.specs.declared.question.Question.TheVariants.{Valid, ValidRead, Initialized, Number, Pointer, Inside}

-- the number of bytes that an alignment is
abbrev pub size_of : ℕ → AccessSize
size_of n =
    if nat_eq n 1 then One else (if nat_eq n 2 then Two else (if nat_eq n 4 then Four else (if nat_eq n 8 then Eight else Sixteen)))

-- ---- a truth about bytes

abbrev pub call_of : Question → AccessSize → MemoryCall
call_of Valid a = call.Valid a
call_of ValidRead a = call.ValidRead a
call_of Initialized a = call.Initialized a
call_of Number a = call.Number a
call_of Pointer a = call.Pointer
call_of Inside a = call.Inside

abbrev pub operands : Question → MonExpression → MonExpression → MonExpression → List MonExpression
operands Valid p o n = p ∷ o ∷ n ∷ []
operands ValidRead p o n = p ∷ o ∷ n ∷ []
operands Initialized p o n = p ∷ o ∷ n ∷ []
operands Number p o n = p ∷ o ∷ []
operands Pointer p o n = p ∷ o ∷ []
operands Inside p o n = p ∷ o ∷ []

-- the register with this number becomes the answer about bytes at an offset from a pointer
abbrev pub asked : Question → AccessSize → MonExpression → MonExpression → MonExpression → ℕ → MonStatement
asked q a p o n into = Act (Some into) (call_of q a) (operands q p o n)

-- ---- what is told of a block

abbrev pub call_of_fact : BlockFact → MemoryCall
call_of_fact fact.BaseAddr = call.BaseAddr
call_of_fact fact.BlockLength = call.BlockLength
call_of_fact fact.Offset = call.Offset

-- the type of the register that takes it
abbrev pub type_of_fact : BlockFact → MonType
type_of_fact fact.BaseAddr = Ptr
type_of_fact fact.BlockLength = I64
type_of_fact fact.Offset = I64

-- the register becomes what is told of the block that a pointer at an offset is inside; null or 0, if it is inside none
abbrev pub told : BlockFact → MonExpression → MonExpression → ℕ → MonStatement
told f p o into = Act (Some into) (call_of_fact f) (p ∷ o ∷ [])

-- ---- two ranges of bytes

-- the register becomes whether so many bytes at one place share none with those at another
abbrev pub parted : (p o n q u m : MonExpression) → ℕ → MonStatement
parted p o n q u m into = Act (Some into) call.Separated (p ∷ o ∷ n ∷ q ∷ u ∷ m ∷ [])

-- ---- reads

-- `(*(t *)(P + (i64)O))`
abbrev pub read_at : MonType → MonExpression → MonExpression → MonExpression
read_at t p o = Load t (Binary Add Ptr p (Cast I64 o))
