-- Ours: the laws of questions, whose answers are those of ACSL 2.7.
use Rattle.std.specs.Prelude.{◌≡◌, ℕ, ℤ, pos, Bool, List, [], Option, Some, slice_set, slice_get}
use Rattle.c_syntax.specs.declared.logic.BlockFact.{BlockFact}
use Rattle.c_syntax.specs.declared.logic.BlockFact.TheVariants as fact
use Rattle.c_model.specs.Integers.{truth}
use Rattle.c_model.specs.Memory.{Pointer, Value, Integer, Points, Store}
use Rattle.c_model.specs.MemoryQuestions.{Address, address_of, address_farther, is_valid, is_readable, is_initialized, has_number, has_pointer, is_inside}
use Rattle.c_model.specs.MemoryQuestions.{base_of, length_of, offset_in_block, are_separated}
use Rattle.mon_syntax.specs.declared.tree.AccessSize.{AccessSize}
use Rattle.mon_syntax.specs.declared.tree.MonType.{MonType}
use Rattle.mon_syntax.specs.declared.tree.MonType.TheVariants.{I32, I128, Ptr}
use Rattle.mon_syntax.specs.Arithmetic.{access_bytes}
use Rattle.mon_syntax.specs.BlockMemory.{Blocks, over_blocks}
use Rattle.mon_syntax.specs.Meaning.{State, Done, Next, Calls, eval, exec}
use Rattle.mon_syntax.specs.Trees.{MonExpression}
use Rattle.mon_syntax.specs.Valid.{Types, HasType, IsExpression, IsStatement, Labels, Signature}
use Rattle.mem_preds.specs.declared.question.Question.{Question}
use Rattle.mem_preds.specs.declared.question.Question.TheVariants as question
use Rattle.mem_preds.specs.Questions.{asked, told, type_of_fact, parted, read_at, size_of}

-- ---- truths about bytes

-- whether what is asked holds of so many bytes at a place, at an alignment
abbrev pub holds : Question → Store → Address → ℤ → ℕ → Bool
holds question.Valid store x n a = is_valid store x n a
holds question.ValidRead store x n a = is_readable store x n a
holds question.Initialized store x n a = is_initialized store x n a
holds question.Number store x n a = has_number store x a
holds question.Pointer store x n a = has_pointer store x
holds question.Inside store x n a = is_inside store x

-- the register gets the answer, and nothing else is changed; no step is taken
abbrev pub QuestionsAreAnswered : Type 0
QuestionsAreAnswered =
    (q : Question) (a : AccessSize) (p o n : MonExpression) (into : ℕ) (gs : List Value) (calls : Calls over_blocks) (turns : ℕ) (regs : List Value)
    (s : State Blocks) (x : Pointer) (d l : ℤ)
    → eval over_blocks gs p regs s.mem ≡ Some (Points x) → eval over_blocks gs o regs s.mem ≡ Some (Integer d)
    → eval over_blocks gs n regs s.mem ≡ Some (Integer l)
    → exec over_blocks gs (asked q a p o n into) calls turns regs s
    ≡ Done (Next (slice_set regs into (Integer (truth (holds q s.mem.store (address_farther (address_of x) d) l (access_bytes a)))))) s []

-- what asks is a statement over registers of these types
abbrev pub QuestionsAreTyped : Type 0
QuestionsAreTyped =
    (globals : ℕ) (gs : List Signature) (ts : Types) (result : Option MonType) (ls : Labels) (q : Question) (a : AccessSize) (p o n : MonExpression) (into : ℕ)
    → IsExpression globals ts p Ptr → IsExpression globals ts o I128 → IsExpression globals ts n I128 → slice_get ts into ≡ Some I32
    → IsStatement globals gs ts result ls (asked q a p o n into)

abbrev pub SizesAreAlignments : Type 0
SizesAreAlignments = (a : AccessSize) → size_of (access_bytes a) ≡ a

-- ---- what is told of blocks

abbrev pub fact_of : BlockFact → Store → Address → Value
fact_of fact.BaseAddr store x = Points (base_of store x)
fact_of fact.BlockLength store x = Integer (pos (length_of store x))
fact_of fact.Offset store x = Integer (pos (offset_in_block store x))

abbrev pub FactsAreTold : Type 0
FactsAreTold =
    (f : BlockFact) (p o : MonExpression) (into : ℕ) (gs : List Value) (calls : Calls over_blocks) (turns : ℕ) (regs : List Value)
    (s : State Blocks) (x : Pointer) (d : ℤ)
    → eval over_blocks gs p regs s.mem ≡ Some (Points x) → eval over_blocks gs o regs s.mem ≡ Some (Integer d)
    → exec over_blocks gs (told f p o into) calls turns regs s
    ≡ Done (Next (slice_set regs into (fact_of f s.mem.store (address_farther (address_of x) d)))) s []

abbrev pub FactsAreTyped : Type 0
FactsAreTyped =
    (globals : ℕ) (gs : List Signature) (ts : Types) (result : Option MonType) (ls : Labels) (f : BlockFact) (p o : MonExpression) (into : ℕ)
    → IsExpression globals ts p Ptr → IsExpression globals ts o I128 → slice_get ts into ≡ Some (type_of_fact f)
    → IsStatement globals gs ts result ls (told f p o into)

-- ---- two ranges

abbrev pub PartsAreAnswered : Type 0
PartsAreAnswered =
    (p o n q u m : MonExpression) (into : ℕ) (gs : List Value) (calls : Calls over_blocks) (turns : ℕ) (regs : List Value)
    (s : State Blocks) (x y : Pointer) (d l e k : ℤ)
    → eval over_blocks gs p regs s.mem ≡ Some (Points x) → eval over_blocks gs o regs s.mem ≡ Some (Integer d)
    → eval over_blocks gs n regs s.mem ≡ Some (Integer l) → eval over_blocks gs q regs s.mem ≡ Some (Points y)
    → eval over_blocks gs u regs s.mem ≡ Some (Integer e) → eval over_blocks gs m regs s.mem ≡ Some (Integer k)
    → exec over_blocks gs (parted p o n q u m into) calls turns regs s
    ≡ Done (Next (slice_set regs into (Integer (truth (are_separated (address_farther (address_of x) d) l (address_farther (address_of y) e) k))))) s []

abbrev pub PartsAreTyped : Type 0
PartsAreTyped =
    (globals : ℕ) (gs : List Signature) (ts : Types) (result : Option MonType) (ls : Labels) (p o n q u m : MonExpression) (into : ℕ)
    → IsExpression globals ts p Ptr → IsExpression globals ts o I128 → IsExpression globals ts n I128
    → IsExpression globals ts q Ptr → IsExpression globals ts u I128 → IsExpression globals ts m I128 → slice_get ts into ≡ Some I32
    → IsStatement globals gs ts result ls (parted p o n q u m into)

-- ---- reads

abbrev pub ReadsAreTyped : Type 0
ReadsAreTyped =
    (globals : ℕ) (ts : Types) (t : MonType) (p o : MonExpression)
    → HasType globals ts p Ptr → HasType globals ts o I128 → HasType globals ts (read_at t p o) t
