-- The parentheses around operands of terms.
use Rattle.std.proofs.Common.{◌≡◌, ℕ, suc, ◌≤◌, Bool, true, false, if◌then◌else◌, Option, Some, None, refl, sym, ap, subst, arith}
use Rattle.std.proofs.lemmas.Bool.{ltb-true, lt-ltb}
use Rattle.std.specs.Prelude.{nat_lt}
use Rattle.c_syntax.specs.declared.expression.BinOp.{BinOp}
use Rattle.c_model.specs.Formed.{level_of, parentheses_around}

pub around_two : (l : ℕ) (o : Option BinOp) → parentheses_around l o ≤ 2
around_two l None = omega arith
around_two l (Some op) = by (nat_lt (level_of op) l)
  where
    by : (b : Bool) → (if b then 0 else 2) ≤ 2
    by true = omega arith
    by false = omega arith

-- what needs none at a level needs none at the next one
pub around_fewer : (l : ℕ) (o : Option BinOp) → parentheses_around (suc l) o ≤ parentheses_around l o
around_fewer l None = omega arith
around_fewer l (Some op) = by (nat_lt (level_of op) l) refl
  where
    by : (b : Bool) → nat_lt (level_of op) l ≡ b → (if nat_lt (level_of op) (suc l) then 0 else 2) ≤ (if b then 0 else 2)
    by true e =
        let below = lt-ltb (level_of op) (suc l) (omega (arith, ltb-true (level_of op) l e)) in
        subst (λ (b : Bool). (if b then 0 else 2) ≤ 0) (sym below) (omega arith)
    by false e = around_two (suc l) (Some op)

pub around_own : (op : BinOp) → parentheses_around (suc (level_of op)) (Some op) ≡ 0
around_own op = ap (λ (b : Bool). if b then 0 else 2) (lt-ltb (level_of op) (suc (level_of op)) (omega arith))
