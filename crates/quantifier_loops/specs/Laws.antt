-- Ours: what the loop over values does, and that it is valid monitored C.
use Rattle.std.specs.Prelude.{◌≡◌, ℕ, ◌+◌, ◌^◌, ◌<◌, ◌≤◌, ℤ, true, false, max, List, [], ◌∷◌, length, Option, Some, slice_get, slice_set}
use Rattle.c_model.specs.Memory.{Value, Integer}
use Rattle.c_model.specs.Quantifiers.{values}
use Rattle.mon_syntax.specs.declared.tree.MonType.{MonType}
use Rattle.mon_syntax.specs.declared.tree.MonType.TheVariants.{I32}
use Rattle.mon_syntax.specs.Arithmetic.{is_pointer, wrap}
use Rattle.mon_syntax.specs.BlockMemory.{Blocks, over_blocks}
use Rattle.mon_syntax.specs.Meaning.{State, Done, Next, eval, exec, exec_all, then_do, at_label}
use Rattle.mon_syntax.specs.Meaning as monitored
use Rattle.mon_syntax.specs.Trees.{MonExpression, MonStatements}
use Rattle.mon_syntax.specs.Valid.{Types, HasType, IsExpression, IsStatement, AreStatements, Labels, Signature, has_label, has_no_step, is_arithmetic}
use Rattle.mon_syntax.specs.Valid.{depth, depth_of_all, most_open_parens, open_parens}
use Rattle.quantifier_loops.specs.Upward.{Doing, tried_label, up, upward}

module _ (globals : List Value) (index : ℕ) (to : MonExpression) (h : ℤ) where
  -- the last value, which is read of registers alone
  abbrev pub HasLast : List Value → Type 0
  HasLast regs = (mem : Blocks) → eval over_blocks globals to regs mem ≡ Some (Integer h)

  -- what is done with a value leaves the index and what the last one is read of, and takes no step back
  abbrev pub KeepsValues : Doing → Type 0
  KeepsValues inner =
      (regs after : List Value) (t u : State Blocks) (o : List ℕ) → HasLast regs → inner regs t ≡ Done (Next after) u o
      → HasLast after × (slice_get after index ≡ slice_get regs index) × (length after ≡ length regs) × (u.steps ≤ t.steps)

-- The loop does what is done with a value with the index at each one from the first to the last, each after a step, until a register isn't 0; where a step
-- is due and none is left the run ends. Its index and both bounds are numbers of one type, and the last one isn't read of the index.
abbrev pub UpwardTries : Type 0
UpwardTries =
    (globals : List Value) (calls : monitored.Calls over_blocks) (turns : ℕ) (k : MonType) (index stop : ℕ) (from to : MonExpression) (inner : MonStatements)
    (regs : List Value) (t : State Blocks) (l h : ℤ) → is_pointer k ≡ false → wrap k l ≡ l → wrap k h ≡ h → index < length regs
    → eval over_blocks globals from regs t.mem ≡ Some (Integer l) → HasLast globals index to h regs
    → ((r : List Value) (v : ℤ) → HasLast globals index to h r → HasLast globals index to h (slice_set r index (Integer v)))
    → KeepsValues globals index to h (exec_all over_blocks globals inner calls turns) → t.steps ≤ turns
    → exec over_blocks globals (upward k index from to inner stop) calls turns regs t
    ≡ then_do (up (exec_all over_blocks globals inner calls turns) index stop (values l h) l (slice_set regs index (Integer l)) t)
    (at_label (tried_label index))

-- a number that a name can have
abbrev pub IsNumber : ℕ → Type 0
IsNumber n = n < 2 ^ 64

-- among functions of these signatures, in a function of the result with registers of these types, inside bodies of these labels
abbrev pub UpwardIsValid : Type 0
UpwardIsValid =
    (g : ℕ) (gs : List Signature) (ts : Types) (result : Option MonType) (ls : Labels) (k : MonType) (index stop : ℕ) (from to : MonExpression)
    (inner : MonStatements) → IsNumber index → is_arithmetic k ≡ true → slice_get ts index ≡ Some k → slice_get ts stop ≡ Some I32
    → IsExpression g ts from k → HasType g ts to k → open_parens to < most_open_parens → has_label ls (tried_label index) ≡ false → has_no_step inner ≡ true
    → AreStatements g gs ts result (tried_label index ∷ ls) inner
    → IsStatement g gs ts result ls (upward k index from to inner stop) × (depth (upward k index from to inner stop) ≤ 2 + max 2 (depth_of_all inner))
