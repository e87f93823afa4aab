-- Types of expressions and registers, and how many parentheses are open in them.
use Rattle.std.proofs.Common.{◌≡◌, ℕ, zero, suc, ◌+◌, ◌≤◌, ℤ, pos, Bool, true, false, not, ◌&&◌, if◌then◌else◌, int_le, max, [], ◌∷◌, ◌++◌, length, Some, slice_get, refl, sym, ap, ◌∙◌, subst, arith, append_assoc}
use Rattle.std.proofs.Math.Nat.{max-le}
use Rattle.std.specs.Ordering.{int_eq}
use Rattle.c_syntax.specs.declared.annotation.Range.{Range}
use Rattle.c_syntax.specs.declared.annotation.Relation.{Relation}
use Rattle.c_syntax.specs.declared.annotation.Relation.TheVariants as relation
use Rattle.c_syntax.specs.declared.expression.BinOp.{BinOp}
use Rattle.c_syntax.specs.declared.expression.BinOp.TheVariants as operator
use Rattle.c_syntax.specs.declared.expression.UnOp.{UnOp}
use Rattle.c_syntax.specs.declared.expression.UnOp.TheVariants as prefix
use Rattle.c_syntax.specs.declared.types.CInt.{CInt}
use Rattle.c_syntax.specs.declared.types.CInt.TheVariants as c
use Rattle.c_syntax.specs.declared.types.Width.{Width}
use Rattle.c_syntax.specs.declared.types.Width.TheVariants.{W32, W64, W128}
use Rattle.c_model.specs.Ranges.{least_i128}
use Rattle.c_model.specs.TermRanges.{binary_range, unary_range}
use Rattle.mon_syntax.specs.declared.tree.MonType.{MonType}
use Rattle.mon_syntax.specs.declared.tree.MonType.TheVariants.{I32, I128}
use Rattle.mon_syntax.specs.declared.tree.MonOp.{MonOp}
use Rattle.mon_syntax.specs.declared.tree.MonOp.TheVariants as mon
use Rattle.mon_syntax.specs.Arithmetic.{fits}
use Rattle.mon_syntax.specs.Checking.{same_type}
use Rattle.mon_syntax.specs.Trees.{MonExpression, Constant, Binary, Minus, Flip, Cast}
use Rattle.mon_syntax.specs.Valid.{Types, HasType, is_relation, is_whole, is_arithmetic, has_constant, has_operator, result_type, second_type, open_parens}
use Rattle.c_effects.specs.Expressions.{in_type, operator_of, register_type}
use Rattle.annot_simulation.specs.Code.{relation_operator}
use Rattle.term_guards.specs.Guards.{guard}
use Rattle.annot_simulation.specs.Code.{type_of_width, wider, working, count_in, second_operand, binary_value, unary_value, relation_value}
use Rattle.annot_simulation.specs.Validity.{Begins}
use Rattle.annot_simulation.proofs.Variables.{same_mon}

-- ---- lists of types

pub begins_front : (a b ts : Types) → Begins (a ++ b) ts → Begins a ts
begins_front a b ts h = record { rest = b ++ h.rest; is = h.is ∙ append_assoc a b h.rest }

get_end : (rs rest : Types) (t : MonType) → slice_get (rs ++ t ∷ rest) (length rs) ≡ Some t
get_end [] rest t = refl
get_end (r ∷ rs) rest t = get_end rs rest t

get_second : (rs rest : Types) (t u : MonType) → slice_get (rs ++ t ∷ u ∷ rest) (suc (length rs)) ≡ Some u
get_second [] rest t u = refl
get_second (r ∷ rs) rest t u = get_second rs rest t u

pub type_at : (rs ts : Types) (t : MonType) → Begins (rs ++ t ∷ []) ts → slice_get ts (length rs) ≡ Some t
type_at rs ts t h = ap (λ l. slice_get l (length rs)) (h.is ∙ append_assoc rs (t ∷ []) h.rest) ∙ get_end rs h.rest t

pub first_type : (rs ts : Types) (t u : MonType) → Begins (rs ++ t ∷ u ∷ []) ts → slice_get ts (length rs) ≡ Some t
first_type rs ts t u h = ap (λ l. slice_get l (length rs)) (h.is ∙ append_assoc rs (t ∷ u ∷ []) h.rest) ∙ get_end rs (u ∷ h.rest) t

pub second_type_at : (rs ts : Types) (t u : MonType) → Begins (rs ++ t ∷ u ∷ []) ts → slice_get ts (suc (length rs)) ≡ Some u
second_type_at rs ts t u h = ap (λ l. slice_get l (suc (length rs))) (h.is ∙ append_assoc rs (t ∷ u ∷ []) h.rest) ∙ get_second rs h.rest t u

-- ---- widths

pub whole_width : (w : Width) → is_whole (type_of_width w) ≡ true
whole_width W32 = refl
whole_width W64 = refl
whole_width W128 = refl

pub whole_register : (k : CInt) → is_whole (register_type k) ≡ true
whole_register c.I8 = refl
whole_register c.U8 = refl
whole_register c.I16 = refl
whole_register c.U16 = refl
whole_register c.I32 = refl
whole_register c.U32 = refl
whole_register c.I64 = refl
whole_register c.U64 = refl

arithmetic_width : (w : Width) → is_arithmetic (type_of_width w) ≡ true
arithmetic_width W32 = refl
arithmetic_width W64 = refl
arithmetic_width W128 = refl

has_any : (op : MonOp) (w : Width) → has_operator op (type_of_width w) ≡ true
has_any op W32 = refl
has_any op W64 = refl
has_any op W128 = refl

second_is : (op : MonOp) (w : Width) → second_type op (type_of_width w) ≡ type_of_width w
second_is op W32 = refl
second_is op W64 = refl
second_is op W128 = refl

arithmetic_result : (op : MonOp) (w : Width) → is_relation op ≡ false → result_type op (type_of_width w) ≡ type_of_width w
arithmetic_result op W32 e = ap (λ t. if t then I32 else type_of_width W32) e
arithmetic_result op W64 e = ap (λ t. if t then I32 else type_of_width W64) e
arithmetic_result op W128 e = ap (λ t. if t then I32 else type_of_width W128) e

relation_result : (op : MonOp) (w : Width) → is_relation op ≡ true → result_type op (type_of_width w) ≡ I32
relation_result op W32 e = ap (λ t. if t then I32 else type_of_width W32) e
relation_result op W64 e = ap (λ t. if t then I32 else type_of_width W64) e
relation_result op W128 e = ap (λ t. if t then I32 else type_of_width W128) e

and_not : (s t : Bool) → s ≡ true → t ≡ false → (s && not t) ≡ true
and_not true false p q = refl
and_not true true p q = absurd cc
and_not false t p q = absurd cc

-- a number that the type has
pub width_constant : (w : Width) (z : ℤ) → fits (type_of_width w) z ≡ true → int_eq z least_i128 ≡ false → has_constant (type_of_width w) z ≡ true
width_constant W32 z f e = and_not (fits I32 z) (int_eq z least_i128) f e
width_constant W64 z f e = and_not (fits (type_of_width W64) z) (int_eq z least_i128) f e
width_constant W128 z f e = and_not (fits I128 z) (int_eq z least_i128) f e

pub zero_constant : (w : Width) → has_constant (type_of_width w) (pos 0) ≡ true
zero_constant W32 = refl
zero_constant W64 = refl
zero_constant W128 = refl

module _ (g : ℕ) (ts : Types) where
  abbrev pub Typed : MonExpression → MonType → Type 0
  Typed e t = HasType g ts e t

  pub in_type_typed : (from to : MonType) (e : MonExpression) → is_whole from ≡ true → is_whole to ≡ true → Typed e from → Typed (in_type from to e) to
  in_type_typed from to e wf wt h = by (same_type from to) refl
    where
      by : (s : Bool) → same_type from to ≡ s → Typed (if s then e else Cast to e) to
      by true p = subst (λ t. Typed e t) (same_mon from to p) h
      by false p = (refl, wt, (from, wf, h))

  pub to_width : (a b : Width) (e : MonExpression) → Typed e (type_of_width a) → Typed (in_type (type_of_width a) (type_of_width b) e) (type_of_width b)
  to_width a b e h = in_type_typed (type_of_width a) (type_of_width b) e (whole_width a) (whole_width b) h

  pub arithmetic_typed : (op : MonOp) (w : Width) (a b : MonExpression) → is_relation op ≡ false → Typed a (type_of_width w) → Typed b (type_of_width w) → Typed (Binary op (type_of_width w) a b) (type_of_width w)
  arithmetic_typed op w a b e ha hb = (arithmetic_result op w e, has_any op w, ha, subst (λ t. Typed b t) (sym (second_is op w)) hb)

  pub relation_typed : (op : MonOp) (w : Width) (a b : MonExpression) → is_relation op ≡ true → Typed a (type_of_width w) → Typed b (type_of_width w) → Typed (Binary op (type_of_width w) a b) I32
  relation_typed op w a b e ha hb = (relation_result op w e, has_any op w, ha, subst (λ t. Typed b t) (sym (second_is op w)) hb)

  -- ---- operators

  zero_typed : (w : Width) → Typed (Constant (type_of_width w) (pos 0)) (type_of_width w)
  zero_typed w = (refl, zero_constant w)

  pub guard_typed : (op : BinOp) (w : Width) (e : MonExpression) → Typed e (type_of_width w) → Typed (guard (type_of_width w) op e) I32
  guard_typed operator.Div w e h = relation_typed mon.Ne w e (Constant (type_of_width w) (pos 0)) refl h (zero_typed w)
  guard_typed operator.Rem w e h = relation_typed mon.Ne w e (Constant (type_of_width w) (pos 0)) refl h (zero_typed w)
  guard_typed operator.Shl w e h = relation_typed mon.Le w (Constant (type_of_width w) (pos 0)) e refl (zero_typed w) h
  guard_typed operator.Shr w e h = relation_typed mon.Le w (Constant (type_of_width w) (pos 0)) e refl (zero_typed w) h
  guard_typed operator.Add w e h = (refl, refl)
  guard_typed operator.Sub w e h = (refl, refl)
  guard_typed operator.Mul w e h = (refl, refl)
  guard_typed operator.BitAnd w e h = (refl, refl)
  guard_typed operator.BitOr w e h = (refl, refl)
  guard_typed operator.BitXor w e h = (refl, refl)
  guard_typed operator.Eq w e h = (refl, refl)
  guard_typed operator.Ne w e h = (refl, refl)
  guard_typed operator.Lt w e h = (refl, refl)
  guard_typed operator.Le w e h = (refl, refl)
  guard_typed operator.Gt w e h = (refl, refl)
  guard_typed operator.Ge w e h = (refl, refl)

  count_typed : (b : Range) (e : MonExpression) → Typed e I128 → Typed (count_in b e) I128
  count_typed b e h = by (int_le b.hi (pos 127))
    where
      above : MonExpression
      above = Binary mon.Lt I128 (Constant I128 (pos 127)) e

      above_typed : Typed (Cast I128 (Binary mon.Lt I128 (Constant I128 (pos 127)) e)) I128
      above_typed = (refl, refl, (I32, refl, relation_typed mon.Lt W128 (Constant I128 (pos 127)) e refl (refl, refl) h))

      by : (t : Bool) → Typed (if t then e else Binary mon.Or I128 e (Minus I128 (Cast I128 (Binary mon.Lt I128 (Constant I128 (pos 127)) e)))) I128
      by true = h
      by false = arithmetic_typed mon.Or W128 e (Minus I128 (Cast I128 (Binary mon.Lt I128 (Constant I128 (pos 127)) e))) refl h (refl, refl, above_typed)

  pub binary_typed : (op : BinOp) (wr wa wb : Width) (a b r : Range) (x y : MonExpression) → binary_range op a b ≡ Some r → Typed x (type_of_width wa) → Typed y (type_of_width wb)
      → Typed (binary_value op (type_of_width wr) (type_of_width (working op wr wa wb)) (type_of_width wa) (type_of_width wb) b x y) (type_of_width wr)
  binary_typed op wr wa wb a b r x y e hx hy = by op e
    where
      common : (o : BinOp) → is_relation (operator_of o) ≡ false
          → Typed (in_type (type_of_width (wider wr (wider wa wb))) (type_of_width wr) (Binary (operator_of o) (type_of_width (wider wr (wider wa wb))) (in_type (type_of_width wa) (type_of_width (wider wr (wider wa wb))) x)
          (in_type (type_of_width wb) (type_of_width (wider wr (wider wa wb))) y))) (type_of_width wr)
      common o q =
          let k = wider wr (wider wa wb) in
          to_width k wr (Binary (operator_of o) (type_of_width k) (in_type (type_of_width wa) (type_of_width k) x) (in_type (type_of_width wb) (type_of_width k) y))
          (arithmetic_typed (operator_of o) k (in_type (type_of_width wa) (type_of_width k) x) (in_type (type_of_width wb) (type_of_width k) y) q (to_width wa k x hx) (to_width wb k y hy))

      shift : (o : MonOp) (d : MonExpression) → is_relation o ≡ false → Typed d I128 → Typed (in_type I128 (type_of_width wr) (Binary o I128 (in_type (type_of_width wa) I128 x) d)) (type_of_width wr)
      shift o d q h = to_width W128 wr (Binary o I128 (in_type (type_of_width wa) I128 x) d) (arithmetic_typed o W128 (in_type (type_of_width wa) I128 x) d q (to_width wa W128 x hx) h)

      by : (o : BinOp) → binary_range o a b ≡ Some r → Typed (binary_value o (type_of_width wr) (type_of_width (working o wr wa wb)) (type_of_width wa) (type_of_width wb) b x y) (type_of_width wr)
      by operator.Add q = common operator.Add refl
      by operator.Sub q = common operator.Sub refl
      by operator.Mul q = common operator.Mul refl
      by operator.Div q = common operator.Div refl
      by operator.Rem q = common operator.Rem refl
      by operator.Shl q = shift mon.Shl (in_type (type_of_width wb) I128 y) refl (to_width wb W128 y hy)
      by operator.Shr q = shift mon.Shr (count_in b (in_type (type_of_width wb) I128 y)) refl (count_typed b (in_type (type_of_width wb) I128 y) (to_width wb W128 y hy))
      by operator.BitAnd q = common operator.BitAnd refl
      by operator.BitOr q = common operator.BitOr refl
      by operator.BitXor q = common operator.BitXor refl
      by operator.Eq q = absurd cc
      by operator.Ne q = absurd cc
      by operator.Lt q = absurd cc
      by operator.Le q = absurd cc
      by operator.Gt q = absurd cc
      by operator.Ge q = absurd cc

  pub unary_typed : (op : UnOp) (wr wa : Width) (a r : Range) (x : MonExpression) → unary_range op a ≡ Some r → Typed x (type_of_width wa)
      → Typed (unary_value op (type_of_width wr) (type_of_width (wider wr wa)) (type_of_width wa) x) (type_of_width wr)
  unary_typed op wr wa a r x e hx = by op e
    where
      k : Width
      k = wider wr wa

      inner : Typed (in_type (type_of_width wa) (type_of_width (wider wr wa)) x) (type_of_width (wider wr wa))
      inner = to_width wa (wider wr wa) x hx

      by : (o : UnOp) → unary_range o a ≡ Some r → Typed (unary_value o (type_of_width wr) (type_of_width (wider wr wa)) (type_of_width wa) x) (type_of_width wr)
      by prefix.Plus q = to_width (wider wr wa) wr (in_type (type_of_width wa) (type_of_width (wider wr wa)) x) inner
      by prefix.Minus q = to_width (wider wr wa) wr (Minus (type_of_width (wider wr wa)) (in_type (type_of_width wa) (type_of_width (wider wr wa)) x)) (refl, arithmetic_width (wider wr wa), inner)
      by prefix.Flip q = to_width (wider wr wa) wr (Flip (type_of_width (wider wr wa)) (in_type (type_of_width wa) (type_of_width (wider wr wa)) x)) (refl, arithmetic_width (wider wr wa), inner)
      by prefix.Not q = absurd cc
      by prefix.Deref q = absurd cc
      by prefix.Address q = absurd cc

  relation_is : (r : Relation) → is_relation (relation_operator r) ≡ true
  relation_is relation.Eq = refl
  relation_is relation.Ne = refl
  relation_is relation.Lt = refl
  relation_is relation.Le = refl
  relation_is relation.Gt = refl
  relation_is relation.Ge = refl

  pub related_typed : (r : Relation) (wa wb : Width) (x y : MonExpression) → Typed x (type_of_width wa) → Typed y (type_of_width wb) → Typed (relation_value r (type_of_width (wider wa wb)) (type_of_width wa) (type_of_width wb) x y) I32
  related_typed r wa wb x y hx hy =
      let k = wider wa wb in
      relation_typed (relation_operator r) k (in_type (type_of_width wa) (type_of_width k) x) (in_type (type_of_width wb) (type_of_width k) y) (relation_is r) (to_width wa k x hx) (to_width wb k y hy)

-- ---- parentheses

le_to : (a m n : ℕ) → m ≡ n → a ≤ m → a ≤ n
le_to a m n e h = omega (arith, e, h)

pub in_type_parens : (from to : MonType) (e : MonExpression) (n : ℕ) → 1 ≤ n → open_parens e ≤ n → open_parens (in_type from to e) ≤ suc n
in_type_parens from to e n le h = by (same_type from to)
  where
    by : (s : Bool) → open_parens (if s then e else Cast to e) ≤ suc n
    by true = omega (arith, h)
    by false = let m : max 1 (open_parens e) ≤ n = max-le le h in omega (arith, m)

pub binary_parens : (op : MonOp) (t : MonType) (a b : MonExpression) (n : ℕ) → open_parens a ≤ n → open_parens b ≤ n → open_parens (Binary op t a b) ≤ suc n
binary_parens op t a b n p q = let m : max (open_parens a) (open_parens b) ≤ n = max-le p q in omega (arith, m)

pub guard_parens : (op : BinOp) (k : MonType) (e : MonExpression) (n : ℕ) → 1 ≤ n → open_parens e ≤ n → open_parens (guard k op e) ≤ suc n
guard_parens operator.Div k e n le h = binary_parens mon.Ne k e (Constant k (pos 0)) n h le
guard_parens operator.Rem k e n le h = binary_parens mon.Ne k e (Constant k (pos 0)) n h le
guard_parens operator.Shl k e n le h = binary_parens mon.Le k (Constant k (pos 0)) e n le h
guard_parens operator.Shr k e n le h = binary_parens mon.Le k (Constant k (pos 0)) e n le h
guard_parens operator.Add k e n le h = omega (arith, le)
guard_parens operator.Sub k e n le h = omega (arith, le)
guard_parens operator.Mul k e n le h = omega (arith, le)
guard_parens operator.BitAnd k e n le h = omega (arith, le)
guard_parens operator.BitOr k e n le h = omega (arith, le)
guard_parens operator.BitXor k e n le h = omega (arith, le)
guard_parens operator.Eq k e n le h = omega (arith, le)
guard_parens operator.Ne k e n le h = omega (arith, le)
guard_parens operator.Lt k e n le h = omega (arith, le)
guard_parens operator.Le k e n le h = omega (arith, le)
guard_parens operator.Gt k e n le h = omega (arith, le)
guard_parens operator.Ge k e n le h = omega (arith, le)

count_parens : (b : Range) (e : MonExpression) (n : ℕ) → 1 ≤ n → open_parens e ≤ n → open_parens (count_in b e) ≤ 4 + n
count_parens b e n le h = by (int_le b.hi (pos 127))
  where
    by : (t : Bool) → open_parens (if t then e else Binary mon.Or I128 e (Minus I128 (Cast I128 (Binary mon.Lt I128 (Constant I128 (pos 127)) e)))) ≤ 4 + n
    by true = omega (arith, h)
    by false =
        let l = binary_parens mon.Lt I128 (Constant I128 (pos 127)) e n le h in
        let m : max 1 (open_parens (Binary mon.Lt I128 (Constant I128 (pos 127)) e)) ≤ suc n = max-le (omega arith) l in
        le_to _ (suc (3 + n)) (4 + n) (omega arith)
        (binary_parens mon.Or I128 e (Minus I128 (Cast I128 (Binary mon.Lt I128 (Constant I128 (pos 127)) e))) (3 + n) (omega (arith, h)) (omega (arith, m)))

-- how many parentheses more stand around a second operand: a count may be above 127
abbrev pub counted_in : BinOp → ℕ
counted_in operator.Shr = 4
counted_in _ = 0

second_parens : (op : BinOp) (b : Range) (e : MonExpression) (n : ℕ) → 1 ≤ n → open_parens e ≤ n → open_parens (second_operand op b e) ≤ counted_in op + n
second_parens operator.Shr b e n le h = count_parens b e n le h
second_parens operator.Div b e n le h = omega (arith, h)
second_parens operator.Rem b e n le h = omega (arith, h)
second_parens operator.Shl b e n le h = omega (arith, h)
second_parens operator.Add b e n le h = omega (arith, h)
second_parens operator.Sub b e n le h = omega (arith, h)
second_parens operator.Mul b e n le h = omega (arith, h)
second_parens operator.BitAnd b e n le h = omega (arith, h)
second_parens operator.BitOr b e n le h = omega (arith, h)
second_parens operator.BitXor b e n le h = omega (arith, h)
second_parens operator.Eq b e n le h = omega (arith, h)
second_parens operator.Ne b e n le h = omega (arith, h)
second_parens operator.Lt b e n le h = omega (arith, h)
second_parens operator.Le b e n le h = omega (arith, h)
second_parens operator.Gt b e n le h = omega (arith, h)
second_parens operator.Ge b e n le h = omega (arith, h)

pub value_parens : (op : BinOp) (w k ta tb : MonType) (r : Range) (x y : MonExpression) (m n l : ℕ) → 1 ≤ m → 1 ≤ n → open_parens x ≤ m → open_parens y ≤ n → 3 + m ≤ l → 3 + (counted_in op + n) ≤ l
    → open_parens (binary_value op w k ta tb r x y) ≤ l
value_parens op w k ta tb r x y m n (suc (suc l)) lm ln hx hy p q =
    let a = in_type_parens ta k x m lm hx in
    let b = second_parens op r (in_type tb k y) (suc n) (omega arith) (in_type_parens tb k y n ln hy) in
    in_type_parens k w (Binary (operator_of op) k (in_type ta k x) (second_operand op r (in_type tb k y))) (suc l) (omega arith)
    (binary_parens (operator_of op) k (in_type ta k x) (second_operand op r (in_type tb k y)) l (omega (arith, a, p)) (omega (arith, b, q)))
value_parens op w k ta tb r x y m n (suc zero) lm ln hx hy p q = absurd (omega (arith, p))
value_parens op w k ta tb r x y m n zero lm ln hx hy p q = absurd (omega (arith, p))

-- of two conversions to the wider one of two widths and back, at most one changes the type
data OneIsNone (a k r : MonType) : Type 0 where
  First : same_type a k ≡ true → OneIsNone a k r
  Last : same_type k r ≡ true → OneIsNone a k r

one_is_none : (wr wa : Width) → OneIsNone (type_of_width wa) (type_of_width (wider wr wa)) (type_of_width wr)
one_is_none W32 W32 = First refl
one_is_none W32 W64 = First refl
one_is_none W32 W128 = First refl
one_is_none W64 W32 = Last refl
one_is_none W64 W64 = First refl
one_is_none W64 W128 = First refl
one_is_none W128 W32 = Last refl
one_is_none W128 W64 = Last refl
one_is_none W128 W128 = First refl

same_parens : (from to : MonType) (e : MonExpression) (n : ℕ) → same_type from to ≡ true → open_parens e ≤ n → open_parens (in_type from to e) ≤ n
same_parens from to e n same h = subst (λ (b : Bool). open_parens (if b then e else Cast to e) ≤ n) (sym same) h

pub unary_parens : (op : UnOp) (a r : Range) (wr wa : Width) (x : MonExpression) (n : ℕ) → unary_range op a ≡ Some r → 1 ≤ n → open_parens x ≤ n
    → open_parens (unary_value op (type_of_width wr) (type_of_width (wider wr wa)) (type_of_width wa) x) ≤ suc (suc n)
unary_parens op a r wr wa x n e le h = by (one_is_none wr wa) op e
  where
    w : MonType
    w = type_of_width wr

    k : MonType
    k = type_of_width (wider wr wa)

    inner : MonExpression
    inner = in_type (type_of_width wa) (type_of_width (wider wr wa)) x

    less : open_parens inner ≤ suc n
    less = in_type_parens (type_of_width wa) (type_of_width (wider wr wa)) x n le h

    outer : OneIsNone (type_of_width wa) k w → (y : MonExpression) → (open_parens inner ≤ n → open_parens y ≤ suc n) → open_parens y ≤ suc (suc n) → open_parens (in_type k w y) ≤ suc (suc n)
    outer (First same) y one two = in_type_parens k w y (suc n) (omega arith) (one (same_parens (type_of_width wa) (type_of_width (wider wr wa)) x n same h))
    outer (Last same) y one two = same_parens k w y (suc (suc n)) same two

    by : OneIsNone (type_of_width wa) k w → (o : UnOp) → unary_range o a ≡ Some r → open_parens (unary_value o w k (type_of_width wa) x) ≤ suc (suc n)
    by s prefix.Plus q = outer s inner (λ i. omega (arith, i)) (omega (arith, less))
    by s prefix.Minus q = outer s (Minus k inner) (λ i. omega (arith, i)) (omega (arith, less))
    by s prefix.Flip q = outer s (Flip k inner) (λ i. omega (arith, i)) (omega (arith, less))
    by s prefix.Not q = absurd cc
    by s prefix.Deref q = absurd cc
    by s prefix.Address q = absurd cc

pub related_parens : (r : Relation) (k ta tb : MonType) (x y : MonExpression) (n : ℕ) → 1 ≤ n → open_parens x ≤ n → open_parens y ≤ n → open_parens (relation_value r k ta tb x y) ≤ 2 + n
related_parens r k ta tb x y n le hx hy =
    le_to _ (suc (suc n)) (2 + n) (omega arith) (binary_parens (relation_operator r) k (in_type ta k x) (in_type tb k y) (suc n) (in_type_parens ta k x n le hx) (in_type_parens tb k y n le hy))

-- one level more
pub binary_less : (op : MonOp) (t : MonType) (a b : MonExpression) (n : ℕ) → suc (open_parens a) ≤ n → suc (open_parens b) ≤ n → open_parens (Binary op t a b) ≤ n
binary_less op t a b zero p q = absurd (omega (arith, p))
binary_less op t a b (suc n) p q = binary_parens op t a b n (omega (arith, p)) (omega (arith, q))
