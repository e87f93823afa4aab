-- Ours: what statements keep to.
-- How many parentheses are open at once in statements, and that control stays in them.
use Rattle.std.specs.Prelude.{◌≡◌, ℕ, max, true, List, [], ◌∷◌, Option, Some, None}
use Rattle.mon_syntax.specs.Trees.{MonExpression, MonStatement, Set, Store, Step, Assert, PutChar, GetChar, Exit, PrintText, PrintSigned, PrintUnsigned}
use Rattle.mon_syntax.specs.Trees.{PrintString, Act, Call, If, Loop, Labelled, Goto, Return, MonStatements, NoStatement, Then}
use Rattle.mon_syntax.specs.Valid.{Labels, has_label, has_no_step, open_parens}

-- ---- parentheses that are open at once in an expression of statements, at most

abbrev pub open_in_each : List MonExpression → ℕ
open_in_each [] = 0
open_in_each (e ∷ es) = max (open_parens e) (open_in_each es)

abbrev pub open_if_any : Option MonExpression → ℕ
open_if_any None = 0
open_if_any (Some e) = open_parens e

abbrev mutual
  pub open_in : MonStatement → ℕ
  open_in (Set r e) = open_parens e
  open_in (Store r t e) = open_parens e
  open_in Step = 0
  open_in (Assert d v number line kind) = max (open_parens d) (open_parens v)
  open_in (PutChar r e) = open_parens e
  open_in (GetChar r) = 0
  open_in (Exit e) = open_parens e
  open_in (PrintText bytes) = 0
  open_in (PrintSigned e) = open_parens e
  open_in (PrintUnsigned e) = open_parens e
  open_in (PrintString e) = open_parens e
  open_in (Act r f args) = open_in_each args
  open_in (Call r f args) = open_in_each args
  open_in (If e a b) = max (open_parens e) (max (open_in_all a) (open_in_all b))
  open_in (Loop a b) = max (open_in_all a) (open_in_all b)
  open_in (Labelled a l) = open_in_all a
  open_in (Goto l) = 0
  open_in (Return e) = open_if_any e

  pub open_in_all : MonStatements → ℕ
  open_in_all NoStatement = 0
  open_in_all (Then a rest) = max (open_in a) (open_in_all rest)

-- ---- control

-- there is no `return`, and no `goto` to the end of another body than these, which have labels, and those inside
abbrev mutual
  pub StaysInside : Labels → MonStatement → Type 0
  StaysInside ls (If e a b) = StayInside ls a × StayInside ls b
  StaysInside ls (Loop a b) = StayInside ls a × StayInside ls b
  StaysInside ls (Labelled a l) = StayInside (l ∷ ls) a
  StaysInside ls (Goto l) = has_label ls l ≡ true
  StaysInside ls (Return e) = ⊥
  StaysInside ls (Set r e) = Unit {0}
  StaysInside ls (Store r t e) = Unit {0}
  StaysInside ls Step = Unit {0}
  StaysInside ls (Assert d v number line kind) = Unit {0}
  StaysInside ls (PutChar r e) = Unit {0}
  StaysInside ls (GetChar r) = Unit {0}
  StaysInside ls (Exit e) = Unit {0}
  StaysInside ls (PrintText bytes) = Unit {0}
  StaysInside ls (PrintSigned e) = Unit {0}
  StaysInside ls (PrintUnsigned e) = Unit {0}
  StaysInside ls (PrintString e) = Unit {0}
  StaysInside ls (Act r f args) = Unit {0}
  StaysInside ls (Call r f args) = Unit {0}

  pub StayInside : Labels → MonStatements → Type 0
  StayInside ls NoStatement = Unit {0}
  StayInside ls (Then a rest) = StaysInside ls a × StayInside ls rest

-- statements that may stand in the body of a loop, or in any other: no `return`, no `goto` out of them, and no step directly in them
pub record AreInside (a : MonStatements) : Type 0 where
  pub stay : StayInside [] a
  pub no_step : has_no_step a ≡ true
