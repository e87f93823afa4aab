-- How a call in monitored C stands beside one of the source: it has the source's blocks, and registers point to those of the names in sight.
use Rattle.std.specs.Prelude.{◌≡◌, ℕ, ◌^◌, ◌<◌, ◌≤◌, ℤ, pos, Bool, true, false, nat_eq, List, [], ◌∷◌, ◌++◌, length, Option, Some, None, slice_get}
use Rattle.c_syntax.specs.Ctypes.{PlainType}
use Rattle.c_syntax.specs.Programs.{StringLiteral, TranslationUnit}
use Rattle.c_syntax.specs.declared.types.CInt.TheVariants.{U64}
use Rattle.c_syntax.specs.Layouts.{Scalar, IntegerType, PointerType, size_of}
use Rattle.c_model.specs.Integers.{fits}
use Rattle.c_model.specs.Memory.{Pointer, Null, Into, Value, Integer, Points, Byte, Unwritten, Number, Piece, LoosePiece, Block, Store, block_at, live_size}
use Rattle.c_model.specs.State.{State, Scope, Mark, find}
use Rattle.c_model.specs.Together.{AreTogether}
use Rattle.c_model.specs.Meaning.{Callee, tables_of, text_at, literal}
use Rattle.mon_syntax.specs.Registers.{Bindings, register_of}
use Rattle.mon_syntax.specs.Meaning.{Result, Flow, exec_all, eval}
use Rattle.mon_syntax.specs.Meaning as monitored
use Rattle.mon_syntax.specs.BlockMemory.{Blocks, over_blocks}
use Rattle.mon_syntax.specs.LiveBlocks.{LiveBlock, live_in}
use Rattle.mon_syntax.specs.Trees.{MonExpression, MonStatements}
use Rattle.c_model.specs.ExpressionTyping.{Sight}
use Rattle.c_model.specs.TypedTrees.{HasKnownSize}
use Rattle.c_effects.specs.Expressions.{global_index, object_of_global, object_of_literal}
use Rattle.track_scopes.specs.Lives.{AreFrom, AreBefore}
use Rattle.c_model.specs.StaticObjects.{static_objects}
use Rattle.c_simulation.specs.Keeping.{Kept, GiveTerms, StandBelow, StandsBehind}

-- a state of the target, and what statements of it did
abbrev pub Target : Type 0
Target = monitored.State Blocks

abbrev pub Did : Type 0
Did = Result Target (Flow Value)

-- a call of the source and one of monitored C: what stays as it is while the body runs
pub record Setting : Type 0 where
  -- the program, and what calls do on both sides
  pub unit : TranslationUnit
  pub call : Callee
  pub calls : monitored.Calls over_blocks
  -- the pointers to the globals
  pub globals : List Value
  -- how many registers there are
  pub registers : ℕ
  -- how many blocks were born when the call began, which of them lived, and how many calls are active
  pub base : ℕ
  pub around : List LiveBlock
  pub active : ℕ
  -- the terms that are kept where labels are passed, and from which register to which these stand, and behind them what the call gives, where its contract
  -- is checked behind its body
  pub plan : List Kept
  pub plan_from : ℕ
  pub plan_to : ℕ
  pub result : Option ℕ

-- what statements of the target do, with loops of at most n turns
abbrev pub runs : Setting → ℕ → Target → MonStatements → List Value → Did
runs w n t a regs = exec_all over_blocks w.globals a w.calls n regs t

-- the expression has this value over the registers and the memory
abbrev pub Has : Setting → MonExpression → List Value → Blocks → Value → Type 0
Has w e regs mem v = eval over_blocks w.globals e regs mem ≡ Some v

-- ---- registers

-- where the object of a declaration stands, in the block with this number: a register below `low` and behind those of the plan is bound to the
-- declaration and points to the start of the block, or else it is a global's
pub data IsAnchored (w : Setting) (low : ℕ) (bound : Bindings) (regs : List Value) (x number : ℕ) : Type 0 where
  InRegister : (r : ℕ) → register_of bound x ≡ Some r → r < low → w.plan_to ≤ r → slice_get regs r ≡ Some (Points (Into number 0))
      → IsAnchored w low bound regs x number
  AtGlobal : register_of bound x ≡ None → global_index x w.unit.globals < length w.unit.globals
      → slice_get w.globals (object_of_global x (static_objects w.unit)) ≡ Some (Points (Into number 0))
      → IsAnchored w low bound regs x number

-- a name in sight is none of the library's, and is anchored
pub record IsInSight (w : Setting) (low : ℕ) (bound : Bindings) (regs : List Value) (x number : ℕ) : Type 0 where
  pub own : nat_eq x 4294967295 ≡ false
  pub anchor : IsAnchored w low bound regs x number

-- so it is for all names in sight
abbrev pub Anchored : Setting → ℕ → Bindings → List Value → Scope → Type 0
Anchored w low bound regs scope = (x number : ℕ) → find x scope ≡ Some number → IsInSight w low bound regs x number

abbrev pub AreOctets : List ℕ → Type 0
AreOctets [] = Unit {0}
AreOctets (b ∷ bs) = (b < 256) × AreOctets bs

-- what typing knows of the program at a place of its text: the pointers to its literals, that these are bytes, the sizes that are asked
-- for are values, and its structs are those of the whole program
pub record Knows (w : Setting) (s : Sight) : Type 0 where
  pub literals : (n : ℕ) (x : StringLiteral) → slice_get s.texts n ≡ Some x
      → slice_get w.globals (object_of_literal n (static_objects w.unit)) ≡ Some (Points (literal (tables_of w.unit) n))
  pub octets : (n : ℕ) → AreOctets (text_at (tables_of w.unit).texts n)
  pub sizes : (t : PlainType) → HasKnownSize s t → fits U64 (pos (size_of w.unit.structs t)) ≡ true
  pub structs : s.structs ≡ w.unit.structs

-- ---- values and bytes

-- an offset within a block
abbrev pub IsSmall : Pointer → Type 0
IsSmall Null = Unit {0}
IsSmall (Into n i) = i ≤ 2 ^ 32

-- a value of the scalar type
abbrev pub IsOf : Scalar → Value → Type 0
IsOf (IntegerType k) v = (z : ℤ) × (v ≡ Integer z) × (fits k z ≡ true)
IsOf PointerType v = (p : Pointer) × (v ≡ Points p) × IsSmall p

abbrev pub IsByte : Byte → Type 0
IsByte Unwritten = Unit {0}
IsByte (Number b) = b < 256
IsByte (Piece p k) = IsSmall p
IsByte LoosePiece = Unit {0}

abbrev pub AreBytes : List Byte → Type 0
AreBytes [] = Unit {0}
AreBytes (b ∷ bs) = IsByte b × AreBytes bs

-- a pointer into a live block, or one after its end
pub record IsInside (store : Store) (p : Pointer) : Type 0 where
  pub block : ℕ
  pub offset : ℕ
  pub size : ℕ
  pub is : p ≡ Into block offset
  pub live : live_size (block_at store block) ≡ Some size
  pub within : offset ≤ size

-- a block whose size, bytes and pointers are within what a machine has: it has as many bytes as its size says, and pieces of its pointers stand together
pub record IsBounded (b : Block) : Type 0 where
  pub small : b.size ≤ 2 ^ 32
  pub long : length b.bytes ≡ b.size
  pub bytes : AreBytes b.bytes
  pub together : AreTogether b.bytes

abbrev pub Bounded : Store → Type 0
Bounded [] = Unit {0}
Bounded (b ∷ bs) = IsBounded b × Bounded bs

-- the stores at the passages of labels are
abbrev pub AreBounded : List Mark → Type 0
AreBounded [] = Unit {0}
AreBounded (m ∷ ms) = Bounded m.store × AreBounded ms

-- registers hold what the marks say of each term of a plan, and the stores of the marks are within what a machine has
pub record Keeps (ks : List Kept) (marks : List Mark) (regs : List Value) : Type 0 where
  pub terms : GiveTerms ks marks regs
  pub past : AreBounded marks

-- ---- where a statement stands in a call

-- The blocks of the call's variables that live, the youngest first: those born since what a `break` leaves began, from there to the body of the
-- innermost loop, and the others. How many blocks were born when both began, and whether a `break` and a `continue` may stand there. How many loops and
-- switches there are, the number of the innermost loop among them, and what the function returns.
pub record Here : Type 0 where
  pub inner : List LiveBlock
  pub between : List LiveBlock
  pub outer : List LiveBlock
  pub left : ℕ
  pub loop : ℕ
  pub breaks : Bool
  pub looped : Bool
  pub levels : ℕ
  pub innermost : ℕ
  pub result : PlainType

-- the registers of the plan stand below `low`, and have what the marks say
pub record IsKept (w : Setting) (low : ℕ) (marks : List Mark) (regs : List Value) : Type 0 where
  pub below : w.plan_to ≤ low
  pub planned : StandBelow w.plan_to w.plan
  pub given : StandsBehind w.plan_from w.plan_to w.plan w.result
  pub keeps : Keeps w.plan marks regs

-- a state of the source in which these live, and what the registers below `low` have of it
pub record Standing (w : Setting) (h : Here) (low : ℕ) (bound : Bindings) (regs : List Value) (s : State) : Type 0 where
  pub anchored : Anchored w low bound regs s.scope
  pub active : s.calls ≡ w.active
  pub live : live_in s.store ≡ h.inner ++ (h.between ++ (h.outer ++ w.around))
  pub since_left : AreFrom h.left h.inner
  pub before_left : AreBefore h.left (h.between ++ (h.outer ++ w.around))
  pub since_loop : AreFrom h.loop (h.inner ++ h.between)
  pub before_loop : AreBefore h.loop (h.outer ++ w.around)
  pub since_call : AreFrom w.base (h.inner ++ (h.between ++ h.outer))
  pub before_call : AreBefore w.base w.around
  pub nested : w.base ≤ h.loop
  pub deeper : h.loop ≤ h.left
  pub longer : h.left ≤ length s.store
  pub bounded : Bounded s.store
  pub registers : length regs ≡ w.registers
  pub kept : IsKept w low s.marks regs

-- the state of the target beside it, which has these blocks
pub record Beside (w : Setting) (store : Store) (s : State) (t : Target) : Type 0 where
  pub store_is : t.mem.store ≡ store
  pub frames : t.mem.frames ≡ w.active
  pub steps : t.steps ≡ s.steps
  pub input : t.input ≡ s.input
