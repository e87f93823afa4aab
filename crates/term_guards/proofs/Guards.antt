-- A guard tells where the operator is defined.
use Rattle.std.proofs.Common.{◌≡◌, ℕ, ℤ, pos, negsuc, int_div, int_rem, int_le, Bool, true, false, not, if◌then◌else◌, List, Option, Some, None, is_some, refl, ap, ◌∙◌, arith}
use Rattle.std.specs.Ordering.{int_eq}
use Rattle.std.proofs.lemmas.Int.{ints}
use Rattle.c_syntax.specs.declared.expression.BinOp.{BinOp}
use Rattle.c_syntax.specs.declared.expression.BinOp.TheVariants as operator
use Rattle.c_model.specs.Integers.{truth}
use Rattle.c_model.specs.Operators.{shift_left, shift_right}
use Rattle.c_model.specs.Logic.{compute, mathematical}
use Rattle.mon_syntax.specs.declared.tree.MonOp.{MonOp}
use Rattle.mon_syntax.specs.declared.tree.MonOp.TheVariants.{Ne, Le}
use Rattle.mon_syntax.specs.declared.tree.MonType.{MonType}
use Rattle.mon_syntax.specs.declared.tree.MonType.TheVariants.{I8, U8, I16, U16, I32, U32, I64, U64, I128, Ptr}
use Rattle.mon_syntax.specs.Arithmetic.{is_pointer}
use Rattle.mon_syntax.specs.BlockMemory.{over_blocks}
use Rattle.mon_syntax.specs.FlatMemory.{over_flat}
use Rattle.mon_syntax.specs.Meaning.{◌>>=◌, constant, eval, eval_number, on_numbers}
use Rattle.mon_syntax.specs.Memory.{Memory}
use Rattle.mon_syntax.specs.Trees.{MonExpression, Binary, Constant}
use Rattle.mon_syntax.specs.Valid.{HasType, Types, is_arithmetic}
use Rattle.term_guards.specs.Guards.{guard, is_nonnegative, is_nonzero}
use Rattle.term_guards.specs.Laws.{GuardsAreTyped, GuardsTellDefinedness}

-- ---- where an operator is defined

-- a division is where its divisor isn't 0
divided : (b : Bool) (q : ℤ) → truth (not b) ≡ truth (is_some (mathematical (if b then None else Some q)))
divided true q = refl
divided false q = refl

-- a shift is where its count isn't negative
shifted_left : (x y : ℤ) → int_le (pos 0) y ≡ is_some (mathematical (shift_left x y))
shifted_left x (pos k) = grind (arith, ints)
shifted_left x (negsuc k) = refl

shifted_right : (x y : ℤ) → int_le (pos 0) y ≡ is_some (mathematical (shift_right x y))
shifted_right x (pos k) = grind (arith, ints)
shifted_right x (negsuc k) = refl

-- ---- what a guard computes, over a memory whose values are its numbers

module _ (M : Memory) (numbers : (z : ℤ) → M.number_of (M.number z) ≡ Some z) (gs regs : List M.Val) (m : M.Mem) (t : MonType) (whole : is_pointer t ≡ false)
  where
    zero_is : constant M t (pos 0) ≡ M.number (pos 0)
    zero_is = rw whole refl

    -- a value of which it is the number
    record IsNumber (o : Option M.Val) (y : ℤ) : Type 0 where
      value : M.Val
      is : o ≡ Some value
      number : M.number_of value ≡ Some y

    number_is : (o : Option M.Val) (y : ℤ) → (o >>= M.number_of) ≡ Some y → IsNumber o y
    number_is None y e = absurd cc
    number_is (Some v) y e = record { value = v; is = refl; number = e }

    -- a relation of two values of the type
    related : (op : MonOp) (a b : MonExpression) (v w : M.Val) (z : ℤ) → eval M gs a regs m ≡ Some v → eval M gs b regs m ≡ Some w → on_numbers M op t v w ≡ Some (M.number z)
        → eval_number M gs (Binary op t a b) regs m ≡ Some z
    related op a b v w z p q r = rw (p, q, whole, r) (numbers z)

    nonzero : (e : MonExpression) (y : ℤ) → eval_number M gs e regs m ≡ Some y → eval_number M gs (is_nonzero t e) regs m ≡ Some (truth (not (int_eq y (pos 0))))
    nonzero e y h =
        let n = number_is (eval M gs e regs m) y h in
        related Ne e (Constant t (pos 0)) n.value (M.number (pos 0)) (truth (not (int_eq y (pos 0)))) n.is (ap Some zero_is) (rw (n.number, numbers (pos 0)) refl)

    nonnegative : (e : MonExpression) (y : ℤ) → eval_number M gs e regs m ≡ Some y → eval_number M gs (is_nonnegative t e) regs m ≡ Some (truth (int_le (pos 0) y))
    nonnegative e y h =
        let n = number_is (eval M gs e regs m) y h in
        related Le (Constant t (pos 0)) e (M.number (pos 0)) n.value (truth (int_le (pos 0) y)) (ap Some zero_is) n.is (rw (n.number, numbers (pos 0)) refl)

    always : (z : ℤ) → eval_number M gs (Constant I32 z) regs m ≡ Some z
    always z = numbers z

    tells : (op : BinOp) (e : MonExpression) (x y : ℤ) → eval_number M gs e regs m ≡ Some y → eval_number M gs (guard t op e) regs m ≡ Some (truth (is_some (compute op x y)))
    tells operator.Add e x y h = always (pos 1)
    tells operator.Sub e x y h = always (pos 1)
    tells operator.Mul e x y h = always (pos 1)
    tells operator.Div e x y h = nonzero e y h ∙ ap Some (divided (int_eq y (pos 0)) (int_div x y))
    tells operator.Rem e x y h = nonzero e y h ∙ ap Some (divided (int_eq y (pos 0)) (int_rem x y))
    tells operator.Shl e x y h = nonnegative e y h ∙ ap (λ b. Some (truth b)) (shifted_left x y)
    tells operator.Shr e x y h = nonnegative e y h ∙ ap (λ b. Some (truth b)) (shifted_right x y)
    tells operator.BitAnd e x y h = always (pos 1)
    tells operator.BitOr e x y h = always (pos 1)
    tells operator.BitXor e x y h = always (pos 1)
    tells operator.Eq e x y h = always (pos 0)
    tells operator.Ne e x y h = always (pos 0)
    tells operator.Lt e x y h = always (pos 0)
    tells operator.Le e x y h = always (pos 0)
    tells operator.Gt e x y h = always (pos 0)
    tells operator.Ge e x y h = always (pos 0)

pub guards_over_blocks : GuardsTellDefinedness over_blocks
guards_over_blocks gs regs m t op e x y whole h = tells over_blocks (λ z. refl) gs regs m t whole op e x y h

pub guards_over_flat : GuardsTellDefinedness over_flat
guards_over_flat gs regs m t op e x y whole h = tells over_flat (λ z. refl) gs regs m t whole op e x y h

-- ---- types

module _ (globals : ℕ) (ts : Types)
  where
    truth_typed : (b : Bool) → HasType globals ts (Constant I32 (truth b)) I32
    truth_typed true = (refl, refl)
    truth_typed false = (refl, refl)

    nonzero_typed : (t : MonType) (e : MonExpression) → is_arithmetic t ≡ true → HasType globals ts e t → HasType globals ts (is_nonzero t e) I32
    nonzero_typed I8 e a h = absurd cc
    nonzero_typed U8 e a h = absurd cc
    nonzero_typed I16 e a h = absurd cc
    nonzero_typed U16 e a h = absurd cc
    nonzero_typed I32 e a h = (refl, refl, h, (refl, refl))
    nonzero_typed U32 e a h = (refl, refl, h, (refl, refl))
    nonzero_typed I64 e a h = (refl, refl, h, (refl, refl))
    nonzero_typed U64 e a h = (refl, refl, h, (refl, refl))
    nonzero_typed I128 e a h = (refl, refl, h, (refl, refl))
    nonzero_typed Ptr e a h = absurd cc

    nonnegative_typed : (t : MonType) (e : MonExpression) → is_arithmetic t ≡ true → HasType globals ts e t → HasType globals ts (is_nonnegative t e) I32
    nonnegative_typed I8 e a h = absurd cc
    nonnegative_typed U8 e a h = absurd cc
    nonnegative_typed I16 e a h = absurd cc
    nonnegative_typed U16 e a h = absurd cc
    nonnegative_typed I32 e a h = (refl, refl, (refl, refl), h)
    nonnegative_typed U32 e a h = (refl, refl, (refl, refl), h)
    nonnegative_typed I64 e a h = (refl, refl, (refl, refl), h)
    nonnegative_typed U64 e a h = (refl, refl, (refl, refl), h)
    nonnegative_typed I128 e a h = (refl, refl, (refl, refl), h)
    nonnegative_typed Ptr e a h = absurd cc

    typed : (t : MonType) (op : BinOp) (e : MonExpression) → is_arithmetic t ≡ true → HasType globals ts e t → HasType globals ts (guard t op e) I32
    typed t operator.Add e a h = truth_typed true
    typed t operator.Sub e a h = truth_typed true
    typed t operator.Mul e a h = truth_typed true
    typed t operator.Div e a h = nonzero_typed t e a h
    typed t operator.Rem e a h = nonzero_typed t e a h
    typed t operator.Shl e a h = nonnegative_typed t e a h
    typed t operator.Shr e a h = nonnegative_typed t e a h
    typed t operator.BitAnd e a h = truth_typed true
    typed t operator.BitOr e a h = truth_typed true
    typed t operator.BitXor e a h = truth_typed true
    typed t operator.Eq e a h = truth_typed false
    typed t operator.Ne e a h = truth_typed false
    typed t operator.Lt e a h = truth_typed false
    typed t operator.Le e a h = truth_typed false
    typed t operator.Gt e a h = truth_typed false
    typed t operator.Ge e a h = truth_typed false

pub guards_are_typed : GuardsAreTyped
guards_are_typed globals ts t op e a h = typed globals ts t op e a h
