-- How many parentheses are open at once in pieces of code.
use Rattle.std.proofs.Common.{ℕ, suc, ◌≤◌, pos, Option, Some, None, arith}
use Rattle.std.proofs.Math.Nat.{max-le, le-max_left, le-max_right}
use Rattle.mon_syntax.specs.declared.tree.MonType.TheVariants.{I32}
use Rattle.mon_syntax.specs.Trees.{MonExpression, Register, Constant, MonStatements, NoStatement, Then, If}
use Rattle.mon_syntax.specs.Valid.{open_parens}
use Rattle.c_effects.specs.Expressions.{before, one, set}
use Rattle.annot_simulation.specs.Code.{guarded, take, take_none}
use Rattle.annot_simulation.specs.Inside.{open_in, open_in_all, open_if_any}

pub open_before : (a b : MonStatements) (n : ℕ) → open_in_all a ≤ n → open_in_all b ≤ n → open_in_all (before a b) ≤ n
open_before NoStatement b n h k = k
open_before (Then x a) b n h k =
    let l = le-max_left (open_in x) (open_in_all a) in
    let r = le-max_right (open_in x) (open_in_all a) in
    max-le (omega (arith, h, l)) (open_before a b n (omega (arith, h, r)) k)

pub open_one : (e : MonExpression) (r n : ℕ) → open_parens e ≤ n → open_in_all (set r e) ≤ n
open_one e r n h = max-le h (omega arith)

pub open_if : (e : MonExpression) (a b : MonStatements) (n : ℕ) → open_parens e ≤ n → open_in_all a ≤ n → open_in_all b ≤ n → open_in_all (one (If e a b)) ≤ n
open_if e a b n p h k = max-le (max-le p (max-le h k)) (omega arith)

pub open_guarded : (f : Option MonExpression) (a b : MonStatements) (n : ℕ) → open_if_any f ≤ n → open_in_all a ≤ n → open_in_all b ≤ n → open_in_all (guarded f a b) ≤ n
open_guarded None a b n p h k = h
open_guarded (Some e) a b n p h k = open_if e a b n p h k

pub open_take : (f : Option MonExpression) (e : MonExpression) (r n : ℕ) → 1 ≤ n → open_if_any f ≤ n → open_parens e ≤ n → open_in_all (take f e r) ≤ n
open_take None e r n some p h = max-le some (open_one e (suc r) n h)
open_take (Some a) e r n some p h = max-le p (open_if (Register r) (set (suc r) e) NoStatement n (omega arith) (open_one e (suc r) n h) (omega arith))

pub open_none : (r n : ℕ) → 1 ≤ n → open_in_all (take_none r) ≤ n
open_none r n some = open_one (Constant I32 (pos 0)) r n some
