-- How many parentheses are open at once in the values that operators and conversions make, by those of their operands.
use Rattle.std.proofs.Common.{ℕ, suc, ◌+◌, ◌≤◌, pos, Bool, true, false, List, Option, Some, None, max, if◌then◌else◌, arith}
use Rattle.std.proofs.Math.Nat.{max-le, le-max_right}
use Rattle.c_syntax.specs.declared.expression.UnOp.{UnOp}
use Rattle.c_syntax.specs.declared.expression.UnOp.TheVariants as prefix
use Rattle.c_syntax.specs.declared.expression.BinOp.{BinOp}
use Rattle.c_syntax.specs.declared.expression.BinOp.TheVariants as operator
use Rattle.c_syntax.specs.Ctypes as source_type
use Rattle.c_syntax.specs.Ctypes.{PlainType, Int}
use Rattle.c_syntax.specs.Expressions.{Expression, Node, Number, Letter, Variable, Unary, Binary, Both, Either, Choice, Assign, Bump, Call, Cast, SizeOfType, SizeOfExpr, Text, Index, Dot, Arrow, Comma}
use Rattle.c_syntax.specs.Programs.{StructType, TranslationUnit}
use Rattle.c_syntax.specs.Layouts.{Scalar, scalar_of, size_of}
use Rattle.c_model.specs.Meaning.{unit_of}
use Rattle.c_model.specs.Conversions.{operation_type}
use Rattle.mon_syntax.specs.declared.tree.MonType.{MonType}
use Rattle.mon_syntax.specs.declared.tree.MonType.TheVariants.{I32, I64, Ptr}
use Rattle.mon_syntax.specs.declared.tree.MonOp.{MonOp}
use Rattle.mon_syntax.specs.declared.tree.MonOp.TheVariants as mon
use Rattle.mon_syntax.specs.Registers.{Bindings, register_of}
use Rattle.mon_syntax.specs.Trees as tree
use Rattle.mon_syntax.specs.Trees.{MonExpression}
use Rattle.mon_syntax.specs.Arithmetic.{is_pointer}
use Rattle.mon_syntax.specs.Checking.{same_type}
use Rattle.mon_syntax.specs.Valid.{result_type, open_parens}
use Rattle.c_model.specs.Sizes.{weight_of}
use Rattle.c_effects.specs.Expressions.{register_type, value_type, operand_type, operator_of, in_type, compared, condition, truth, unary, binary, compound_in, scaled, farther, element, element_back, pointer_and_integer}
use Rattle.c_effects.specs.Expressions.{two_pointers, operated, indexed, converted, compound, object_of_global, pointer_of, pointer_to, loaded}
use Rattle.c_model.specs.StaticObjects.{static_objects}

-- ---- conversions and operators

pub parens_in_type : (from to : MonType) (e : MonExpression) → open_parens (in_type from to e) ≤ suc (max 1 (open_parens e))
parens_in_type from to e = by (same_type from to)
  where
    by : (t : Bool) → open_parens (if t then e else tree.Cast to e) ≤ suc (max 1 (open_parens e))
    by true = omega (arith, le-max_right 1 (open_parens e))
    by false = omega arith

pub parens_compared : (op : MonOp) (t : MonType) (e : MonExpression) (n : ℕ) → open_parens e ≤ n → 1 ≤ n → open_parens (compared op t e) ≤ n + 2
parens_compared op t e n le one =
    let a = parens_in_type t (operand_type t) e in
    let b : max 1 (open_parens e) ≤ n = max-le one le in
    let m : max (open_parens (in_type t (operand_type t) e)) 1 ≤ n + 1 = max-le (omega (arith, a, b)) (omega arith) in
    omega (arith, m)

pub parens_condition : (t : MonType) (e : MonExpression) (n : ℕ) → open_parens e ≤ n → 1 ≤ n → open_parens (condition t e) ≤ n + 2
parens_condition t e n le one = by (same_type t I32)
  where
    by : (b : Bool) → open_parens (if b then e else truth t e) ≤ n + 2
    by true = omega (arith, le)
    by false = parens_compared mon.Ne t e n le one

pub some_weight : (e : Expression) → 1 ≤ weight_of e
some_weight (Node at t (Number z k)) = omega arith
some_weight (Node at t (Letter z)) = omega arith
some_weight (Node at t (Variable x)) = omega arith
some_weight (Node at t (Unary op a)) = omega arith
some_weight (Node at t (Binary op a b)) = omega arith
some_weight (Node at t (Both a b)) = omega arith
some_weight (Node at t (Either a b)) = omega arith
some_weight (Node at t (Choice a b c)) = omega arith
some_weight (Node at t (Assign op a b)) = omega arith
some_weight (Node at t (Bump op a)) = omega arith
some_weight (Node at t (Call f es)) = omega arith
some_weight (Node at t (Cast to a)) = omega arith
some_weight (Node at t (SizeOfType u)) = omega arith
some_weight (Node at t (SizeOfExpr a)) = omega arith
some_weight (Node at t (Text n)) = omega arith
some_weight (Node at t (Index a b)) = omega arith
some_weight (Node at t (Dot a m)) = omega arith
some_weight (Node at t (Arrow a m)) = omega arith
some_weight (Node at t (Comma a b)) = omega arith

pub parens_unary : (op : UnOp) (t : MonType) (e : MonExpression) (n : ℕ) → open_parens e ≤ n → 1 ≤ n → open_parens (unary op t e) ≤ 2 + n
parens_unary prefix.Plus t e n le one = omega (arith, le)
parens_unary prefix.Minus t e n le one = omega (arith, le)
parens_unary prefix.Not t e n le one = let p = parens_compared mon.Eq t e n le one in omega (arith, p)
parens_unary prefix.Flip t e n le one = omega (arith, le)
parens_unary prefix.Deref t e n le one = omega (arith, le)
parens_unary prefix.Address t e n le one = omega (arith, le)

pub parens_compound : (op : BinOp) (m t u : MonType) (a b : MonExpression) (n : ℕ) → open_parens a ≤ n → open_parens b ≤ n → 1 ≤ n → open_parens (compound_in op m t u a b) ≤ n + 3
parens_compound op m t u a b n la lb one =
    let p = parens_in_type t m a in
    let q = parens_in_type u m b in
    let x : max 1 (open_parens a) ≤ n = max-le one la in
    let y : max 1 (open_parens b) ≤ n = max-le one lb in
    let inner : max (open_parens (in_type t m a)) (open_parens (in_type u m b)) ≤ n + 1 = max-le (omega (arith, p, x)) (omega (arith, q, y)) in
    let whole = parens_in_type (result_type (operator_of op) m) t (tree.Binary (operator_of op) m (in_type t m a) (in_type u m b)) in
    let outer : max 1 (open_parens (tree.Binary (operator_of op) m (in_type t m a) (in_type u m b))) ≤ n + 2 = max-le (omega arith) (omega (arith, inner)) in
    omega (arith, whole, outer)

pub parens_loaded : (t : PlainType) (e : MonExpression) (n : ℕ) → open_parens e ≤ n → 1 ≤ n → open_parens (loaded t e) ≤ suc n
parens_loaded t e n le one = by (scalar_of t)
  where
    by : (o : Option Scalar) → open_parens (elim o [ None ↦ e | Some k ↦ tree.Load (value_type t) e ]) ≤ suc n
    by None = omega (arith, le)
    by (Some k) = let m : max 1 (open_parens e) ≤ n = max-le one le in omega (arith, m)

pub parens_farther : (e : MonExpression) (d n : ℕ) → open_parens e ≤ n → 1 ≤ n → open_parens (farther e d) ≤ suc n
parens_farther e d n le one = let m : max (open_parens e) 1 ≤ n = max-le le one in omega (arith, m)

pub parens_scaled : (unit : ℕ) (t : MonType) (i : MonExpression) (n : ℕ) → open_parens i ≤ n → 1 ≤ n → open_parens (scaled unit t i) ≤ n + 2
parens_scaled unit t i n le one =
    let a = parens_in_type t I64 i in
    let b : max 1 (open_parens i) ≤ n = max-le one le in
    let m : max (open_parens (in_type t I64 i)) 1 ≤ n + 1 = max-le (omega (arith, a, b)) (omega arith) in
    omega (arith, m)

-- one that is on or back by elements
pub parens_element : (unit : ℕ) (e : MonExpression) (t : MonType) (i : MonExpression) (n : ℕ) → open_parens e ≤ n → open_parens i ≤ n → 1 ≤ n → open_parens (element unit e t i) ≤ n + 3
parens_element unit e t i n le li one =
    let a = parens_scaled unit t i n li one in
    let m : max (open_parens e) (open_parens (scaled unit t i)) ≤ n + 2 = max-le (omega (arith, le)) a in
    omega (arith, m)

pub parens_back : (unit : ℕ) (e : MonExpression) (t : MonType) (i : MonExpression) (n : ℕ) → open_parens e ≤ n → open_parens i ≤ n → 1 ≤ n → open_parens (element_back unit e t i) ≤ n + 4
parens_back unit e t i n le li one =
    let a = parens_scaled unit t i n li one in
    let m : max (open_parens e) (suc (open_parens (scaled unit t i))) ≤ n + 3 = max-le (omega (arith, le)) (omega (arith, a)) in
    omega (arith, m)

pub parens_step : (op : BinOp) (unit : ℕ) (e : MonExpression) (t : MonType) (i : MonExpression) (n : ℕ) → open_parens e ≤ n → open_parens i ≤ n → 1 ≤ n → open_parens (pointer_and_integer op unit e t i) ≤ n + 4
parens_step operator.Sub unit e t i n le li one = parens_back unit e t i n le li one
parens_step _ unit e t i n le li one = let p = parens_element unit e t i n le li one in omega (arith, p)

pub parens_two : (op : BinOp) (unit : ℕ) (a b : MonExpression) (n : ℕ) → open_parens a ≤ n → open_parens b ≤ n → 1 ≤ n → open_parens (two_pointers op unit a b) ≤ n + 4
parens_two operator.Sub unit a b n la lb one =
    let m : max (open_parens a) (open_parens b) ≤ n = max-le la lb in
    let k : max (suc (max (open_parens a) (open_parens b))) 1 ≤ suc n = max-le (omega (arith, m)) (omega arith) in
    omega (arith, k)
parens_two _ unit a b n la lb one = let m : max (open_parens a) (open_parens b) ≤ n = max-le la lb in omega (arith, m)

pub parens_binary : (op : BinOp) (t u : MonType) (a b : MonExpression) (n : ℕ) → open_parens a ≤ n → open_parens b ≤ n → 1 ≤ n → open_parens (binary op t u a b) ≤ n + 4
parens_binary op t u a b n la lb one =
    let s = parens_in_type u t b in
    let y : max 1 (open_parens b) ≤ n = max-le one lb in
    let m : max (open_parens a) (open_parens (in_type u t b)) ≤ n + 1 = max-le (omega (arith, la)) (omega (arith, s, y)) in
    omega (arith, m)

pub parens_operated : (structs : List StructType) (op : BinOp) (t u : PlainType) (a b : MonExpression) (n : ℕ) → open_parens a ≤ n → open_parens b ≤ n → 1 ≤ n → open_parens (operated structs op t u a b) ≤ n + 4
parens_operated structs op t u a b n la lb one = by (is_pointer (value_type t)) (is_pointer (value_type u))
  where
    by : (x y : Bool) → open_parens (if x then (if y then two_pointers op (unit_of structs t u) a b else pointer_and_integer op (unit_of structs t u) a (value_type u) b)
        else (if y then element (unit_of structs t u) b (value_type t) a else binary op (value_type t) (value_type u) a b)) ≤ n + 4
    by true true = parens_two op (unit_of structs t u) a b n la lb one
    by true false = parens_step op (unit_of structs t u) a (value_type u) b n la lb one
    by false true = let p = parens_element (unit_of structs t u) b (value_type t) a n lb la one in omega (arith, p)
    by false false = parens_binary op (value_type t) (value_type u) a b n la lb one

pub parens_indexed : (structs : List StructType) (t u : PlainType) (a b : MonExpression) (n : ℕ) → open_parens a ≤ n → open_parens b ≤ n → 1 ≤ n → open_parens (indexed structs t u a b) ≤ n + 3
parens_indexed structs t u a b n la lb one = by (is_pointer (value_type t))
  where
    by : (x : Bool) → open_parens (if x then element (unit_of structs t u) a (value_type u) b else element (unit_of structs t u) b (value_type t) a) ≤ n + 3
    by true = parens_element (unit_of structs t u) a (value_type u) b n la lb one
    by false = parens_element (unit_of structs t u) b (value_type t) a n lb la one

pub parens_converted : (t u : PlainType) (e : MonExpression) (n : ℕ) → open_parens e ≤ n → 1 ≤ n → open_parens (converted t u e) ≤ suc n
parens_converted (Int k) (Int l) e n le one =
    let s = parens_in_type (register_type k) (register_type l) e in
    let y : max 1 (open_parens e) ≤ n = max-le one le in
    omega (arith, s, y)
parens_converted (Int k) (source_type.Ptr u) e n le one = omega (arith, one)
parens_converted t (source_type.Ptr u) e n le one = omega (arith, le)
parens_converted t u e n le one = omega (arith, one)

pub parens_compound_of : (structs : List StructType) (op : BinOp) (t u : PlainType) (a b : MonExpression) (n : ℕ) → open_parens a ≤ n → open_parens b ≤ n → 1 ≤ n → open_parens (compound structs op t u a b) ≤ n + 4
parens_compound_of structs op (Int k) (Int l) a b n la lb one =
    let p = parens_compound op (register_type (operation_type op k l)) (register_type k) (register_type l) a b n la lb one in omega (arith, p)
parens_compound_of structs op (source_type.Ptr t) u a b n la lb one = parens_step op (size_of structs t) a (value_type u) b n la lb one
parens_compound_of structs op t u a b n la lb one = omega (arith, one)

pub few_parens_of_pointer : (p : TranslationUnit) (bound : Bindings) (x : ℕ) → open_parens (pointer_to p bound x) ≤ 0
few_parens_of_pointer p bound x = by (register_of bound x)
  where
    by : (o : Option ℕ) → open_parens (pointer_of o (object_of_global x (static_objects p))) ≤ 0
    by None = omega arith
    by (Some r) = omega arith

pub few_parens_of_variable : (p : TranslationUnit) (bound : Bindings) (x : ℕ) (t : PlainType) (b : Bool) → open_parens (if b then tree.Constant Ptr (pos 0) else loaded t (pointer_to p bound x)) ≤ 2
few_parens_of_variable p bound x t true = omega arith
few_parens_of_variable p bound x t false = let q = few_parens_of_pointer p bound x in let m = parens_loaded t (pointer_to p bound x) 1 (omega (arith, q)) (omega arith) in omega (arith, m)

pub parens_cast : (b : Bool) (d : MonExpression) (t u : PlainType) (e : MonExpression) (n : ℕ) → open_parens d ≤ n → open_parens e ≤ n → 1 ≤ n → open_parens (if b then d else converted t u e) ≤ 1 + n
parens_cast true d t u e n ld le one = omega (arith, ld)
parens_cast false d t u e n ld le one = let q = parens_converted t u e n le one in omega (arith, q)
