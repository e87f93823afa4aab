-- Ours: a choice of code.
-- The loop that tries the values of a binder (ACSL 2.2) upward, with a step for each.
use Rattle.std.specs.Prelude.{ℕ, zero, suc, ℤ, pos, ◌+ℤ◌, List, ◌++◌, codes, Option, slice_get, slice_set, []}
use Rattle.std.specs.Fmt.{decimal}
use Rattle.c_model.specs.Memory.{Value, Integer}
use Rattle.mon_syntax.specs.declared.tree.MonOp.TheVariants.{Add, Eq, Le}
use Rattle.mon_syntax.specs.declared.tree.MonType.{MonType}
use Rattle.mon_syntax.specs.BlockMemory.{over_blocks, integer_of}
use Rattle.mon_syntax.specs.Meaning.{Does, Done, Next, then_do, at_next, step_from, with_value, choose}
use Rattle.mon_syntax.specs.Meaning.{◌>>=◌ as bind}
use Rattle.mon_syntax.specs.Trees.{MonExpression, Register, Constant, Binary, Set, If, Loop, Labelled, Goto, MonStatement, MonStatements, NoStatement, Then}
use Rattle.c_effects.specs.Expressions.{before, one, set}

-- ---- code

-- `tried_7`: the end of the loop whose index is this register
abbrev pub tried_label : ℕ → List ℕ
tried_label r = codes "tried_" ++ decimal r

-- the end of a turn: the loop ends where a register says so and after the last value, and else goes on with the next one
abbrev pub turn_end : MonType → ℕ → MonExpression → ℕ → MonStatements
turn_end k index to stop =
    Then (If (Register stop) (one (Goto (tried_label index))) NoStatement)
    (Then (If (Binary Eq k (Register index) to) (one (Goto (tried_label index))) NoStatement)
    (set index (Binary Add k (Register index) (Constant k (pos 1)))))

-- an index of the type goes from one value to another, upward. Each turn begins with a step. No number beyond the last one is computed; the test in front
-- stands beside the loop and not around it, which is one level less.
abbrev pub upward : MonType → ℕ → MonExpression → MonExpression → MonStatements → ℕ → MonStatement
upward k index from to inner stop =
    Labelled (Then (Set index from) (Then (If (Binary Le k (Register index) to) NoStatement (one (Goto (tried_label index))))
    (one (Loop NoStatement (before inner (turn_end k index to stop))))))
    (tried_label index)

-- ---- what it does

abbrev pub Doing : Type 0
Doing = Does over_blocks

-- ends where a register isn't 0
abbrev pub unless_set : ℕ → Doing → Doing
unless_set stop go regs t = with_value (bind (slice_get regs stop) integer_of) t.steps (λ z. choose z (Done (Next regs) t []) (go regs t))

-- so many values from this one on: for each a step, and then what is done with the index at it, until that says that it is the last one
abbrev pub up : Doing → ℕ → ℕ → ℕ → ℤ → Doing
up inner index stop zero v regs t = Done (Next regs) t []
up inner index stop (suc n) v regs t =
    step_from t.steps (λ k. then_do (inner (slice_set regs index (Integer v)) (record t { steps = k }))
    (at_next (unless_set stop (up inner index stop n (v +ℤ pos 1)))))
