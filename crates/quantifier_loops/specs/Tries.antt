-- Ours: a choice of code; what it has to do is ACSL 2.2.
-- The code of the values of one binder: each is tried, until one decides or says nothing.
use Rattle.std.specs.Prelude.{ℕ, suc, ℤ, pos, Bool, if◌then◌else◌, Option, Some, None}
use Rattle.c_syntax.specs.declared.logic.Quantifier.{Quantifier}
use Rattle.c_syntax.specs.declared.logic.Quantifier.TheVariants.{ForAll, Exists}
use Rattle.c_model.specs.Integers.{truth}
use Rattle.c_model.specs.Quantifiers.{undecided}
use Rattle.mon_syntax.specs.declared.tree.MonOp.TheVariants.{Add, Le, Lt}
use Rattle.mon_syntax.specs.declared.tree.MonType.{MonType}
use Rattle.mon_syntax.specs.declared.tree.MonType.TheVariants.{I32}
use Rattle.mon_syntax.specs.Trees.{MonExpression, Register, Constant, Binary, Set, If, MonStatements, NoStatement, Then}
use Rattle.c_effects.specs.Expressions.{before, one, set}
use Rattle.quantifier_loops.specs.Upward.{upward}

-- the first statements where a flag is 1, and else the second ones
abbrev pub guarded : Option MonExpression → MonStatements → MonStatements → MonStatements
guarded None a b = a
guarded (Some e) a b = one (If e a b)

-- ---- one value; in registers stand a flag, behind it the truth, and then whether no further value is to be tried

abbrev pub noted_as : ℕ → ℤ → MonStatements
noted_as r z = Then (Set (suc r) (Constant I32 z)) (set (suc (suc r)) (Constant I32 (pos 1)))

-- a value that decides
abbrev pub noted : Quantifier → ℕ → MonExpression → MonStatements
noted ForAll r e = one (If e NoStatement (noted_as r (pos 0)))
noted Exists r e = one (If e (noted_as r (pos 1)) NoStatement)

-- one of which nothing is said
abbrev pub nothing_noted : ℕ → MonStatements
nothing_noted r = Then (Set r (Constant I32 (pos 0))) (set (suc (suc r)) (Constant I32 (pos 1)))

abbrev pub one_try : Quantifier → ℕ → MonStatements → Option MonExpression → MonExpression → MonStatements
one_try q r a flag e = before a (guarded flag (noted q r e) (nothing_noted r))

-- ---- all values

-- The values of a binder: whether it stands after `<`, the type of its index, and both bounds. Its least value is that of its type of C, where the
-- lower bound may lie below it.
pub record Between : Type 0 where
  pub above : Bool
  pub kind : MonType
  pub least : Option ℤ
  pub from : MonExpression
  pub to : MonExpression

-- whether there is one behind the lower bound
abbrev pub is_one_behind : Between → MonExpression
is_one_behind b = Binary (if b.above then Lt else Le) b.kind b.from b.to

abbrev pub first_behind : Between → MonExpression
first_behind b = if b.above then Binary Add b.kind b.from (Constant b.kind (pos 1)) else b.from

-- a register gets a number, or this one where that is less
abbrev pub at_least : MonType → ℕ → MonExpression → ℤ → MonStatements → MonStatements
at_least k r e z rest =
    Then (Set r e) (Then (If (Binary Lt k (Register r) (Constant k z)) (set r (Constant k z)) NoStatement) rest)

-- or where that is greater
abbrev pub at_most : MonType → ℕ → MonExpression → ℤ → MonStatements → MonStatements
at_most k r e z rest =
    Then (Set r e) (Then (If (Binary Lt k (Constant k z) (Register r)) (set r (Constant k z)) NoStatement) rest)

-- from its first value on, with the index in a register
abbrev pub from_first : Option ℤ → Between → ℕ → MonStatements → ℕ → MonStatements
from_first None b index inner stop = one (upward b.kind index (first_behind b) b.to inner stop)
from_first (Some z) b index inner stop =
    at_least b.kind index (first_behind b) z (one (upward b.kind index (Register index) b.to inner stop))

-- in four registers: a flag, the truth, whether no further value is to be tried, and the index
abbrev pub tries : Quantifier → Between → ℕ → MonStatements → Option MonExpression → MonExpression → MonStatements
tries q b r a flag e =
    Then (Set r (Constant I32 (pos 1))) (Then (Set (suc r) (Constant I32 (truth (undecided q)))) (Then (Set (suc (suc r)) (Constant I32 (pos 0)))
    (one (If (is_one_behind b) (from_first b.least b (suc (suc (suc r))) (one_try q r a flag e) (suc (suc r))) NoStatement))))
