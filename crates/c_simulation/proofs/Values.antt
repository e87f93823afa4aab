-- Expressions over registers and a memory have the values of the source's operators, where these are defined.
use Rattle.std.proofs.Common.{◌≡◌, ℤ, pos, Bool, true, false, not, ◌&&◌, List, Some, if◌then◌else◌, refl, sym, ap, ◌∙◌, subst}
use Rattle.std.specs.Ordering.{int_eq}
use Rattle.c_syntax.specs.declared.types.CInt.{CInt}
use Rattle.c_syntax.specs.declared.expression.UnOp.{UnOp}
use Rattle.c_syntax.specs.declared.expression.UnOp.TheVariants as prefix
use Rattle.c_syntax.specs.declared.expression.BinOp.{BinOp}
use Rattle.c_syntax.specs.declared.expression.BinOp.TheVariants as operator
use Rattle.c_model.specs.Integers.{fits, convert, truth, operate_in, operate_one_in}
use Rattle.c_model.specs.Conversions.{promoted, is_shift}
use Rattle.c_model.specs.Laws.{type_of_result}
use Rattle.c_model.proofs.Cells.{value_of_bits-bits_of}
use Rattle.c_model.proofs.Conversions.{fits-convert}
use Rattle.c_model.proofs.OperatorResults.{fits-operate_in}
use Rattle.mon_syntax.specs.declared.tree.MonType.{MonType}
use Rattle.mon_syntax.specs.declared.tree.MonType.TheVariants as kind
use Rattle.mon_syntax.specs.declared.tree.MonOp.{MonOp}
use Rattle.mon_syntax.specs.declared.tree.MonOp.TheVariants as mon
use Rattle.mon_syntax.specs.Trees.{MonExpression, Binary, Constant, Cast}
use Rattle.mon_syntax.specs.Arithmetic.{is_pointer, wrap, operate, minus, flipped}
use Rattle.mon_syntax.specs.Meaning.{number_or_none, on_numbers, eval}
use Rattle.mon_syntax.specs.Meaning.{◌>>=◌ as bind}
use Rattle.c_model.specs.Memory.{Null, Value, Integer, Points}
use Rattle.mon_syntax.specs.BlockMemory.{Blocks, integer_of, pointed_block, over_blocks}
use Rattle.mon_syntax.specs.Checking.{same_type}
use Rattle.mon_syntax.specs.Valid.{is_relation, result_type}
use Rattle.c_effects.specs.Expressions.{register_type, operand_type, operator_of, in_type, compared, condition, unary, binary, compound_in}
use Rattle.c_effects.specs.Expressions as target
use Rattle.c_simulation.specs.Standing.{Setting, Has}
use Rattle.c_simulation.proofs.Integers.{convert_is, wrap_is, promoted_fits, operand_is, is_number, number_result, operand_number, same_kind, count_fits, operated, negated, flips}

-- ---- types of operands and results

-- the right side has the left side's type where the operator is defined
right_fits : (k l : CInt) (op : BinOp) (x y v : ℤ) → fits l y ≡ true → (is_shift op ≡ false → l ≡ k) → operate_in k op x y ≡ Some v → fits k y ≡ true
right_fits k l op x y v f same h = by (is_shift op) refl
  where
    by : (t : Bool) → is_shift op ≡ t → fits k y ≡ true
    by true s = count_fits k op x y v s h
    by false s = subst (λ i. fits i y ≡ true) (same s) f

result_chosen : (op : BinOp) (k : CInt) → (if is_relation (operator_of op) then kind.I32 else register_type k) ≡ register_type (type_of_result op k)
result_chosen operator.Add k = refl
result_chosen operator.Sub k = refl
result_chosen operator.Mul k = refl
result_chosen operator.Div k = refl
result_chosen operator.Rem k = refl
result_chosen operator.Shl k = refl
result_chosen operator.Shr k = refl
result_chosen operator.BitAnd k = refl
result_chosen operator.BitOr k = refl
result_chosen operator.BitXor k = refl
result_chosen operator.Eq k = refl
result_chosen operator.Ne k = refl
result_chosen operator.Lt k = refl
result_chosen operator.Le k = refl
result_chosen operator.Gt k = refl
result_chosen operator.Ge k = refl

pub result_type_is : (op : BinOp) (k : CInt) → result_type (operator_of op) (register_type k) ≡ register_type (type_of_result op k)
result_type_is op k = number_result (operator_of op) (register_type k) (is_number k) ∙ result_chosen op k

-- over these registers and this memory
module _ (w : Setting) (regs : List Value) (mem : Blocks) where
  -- the expression has this number
  abbrev pub HasNumber : MonExpression → ℤ → Type 0
  HasNumber e z = Has w e regs mem (Integer z)

  -- an operator on two values
  pub operation : (op : MonOp) (t : MonType) (a b : MonExpression) (x y : ℤ) → is_pointer t ≡ false → HasNumber a x → HasNumber b y → eval over_blocks w.globals (Binary op t a b) regs mem ≡ number_or_none over_blocks (operate op t x y)
  operation op t a b x y plain e f =
      ap (λ q. bind q (λ u. bind (eval over_blocks w.globals b regs mem) (λ v. if is_pointer t then pointed_block op u v mem else on_numbers over_blocks op t u v))) e
      ∙ ap (λ q. bind q (λ v. if is_pointer t then pointed_block op (Integer x) v mem else on_numbers over_blocks op t (Integer x) v)) f
      ∙ ap (λ p. if p then pointed_block op (Integer x) (Integer y) mem else on_numbers over_blocks op t (Integer x) (Integer y)) plain

  pub constant_has : (t : MonType) (z : ℤ) → is_pointer t ≡ false → HasNumber (Constant t z) z
  constant_has t z plain = ap (λ p. Some (if p && int_eq z (pos 0) then Points Null else Integer z)) plain

  -- ---- types

  pub cast_has : (to : MonType) (e : MonExpression) (z y : ℤ) → wrap to z ≡ y → HasNumber e z → HasNumber (Cast to e) y
  cast_has to e z y f h = ap (λ q. bind q (λ x. bind (integer_of x) (λ i. Some (Integer (wrap to i))))) h ∙ ap (λ v. Some (Integer v)) f

  -- a value that both types have
  pub in_type_keeps : (from to : MonType) (e : MonExpression) (z : ℤ) → wrap to z ≡ z → HasNumber e z → HasNumber (in_type from to e) z
  in_type_keeps from to e z f h = by (same_type from to)
    where
      by : (t : Bool) → HasNumber (if t then e else Cast to e) z
      by true = h
      by false = cast_has to e z z f h

  -- a value of the first type converted to the second
  pub in_type_converts : (k l : CInt) (e : MonExpression) (z : ℤ) → fits k z ≡ true → HasNumber e z → HasNumber (in_type (register_type k) (register_type l) e) (convert l z)
  in_type_converts k l e z f h = by (same_type (register_type k) (register_type l)) refl
    where
      by : (t : Bool) → same_type (register_type k) (register_type l) ≡ t → HasNumber (if t then e else Cast (register_type l) e) (convert l z)
      by true s =
          let same = same_kind k l s in
          h ∙ ap (λ v. Some (Integer v)) (sym (value_of_bits-bits_of l z (subst (λ i. fits i z ≡ true) same f)))
      by false s = cast_has (register_type l) e z (convert l z) (sym (convert_is l z)) h

  -- ---- comparisons with 0

  operand_keeps : (k : CInt) (e : MonExpression) (z : ℤ) → fits k z ≡ true → HasNumber e z → HasNumber (in_type (register_type k) (operand_type (register_type k)) e) z
  operand_keeps k e z f h =
      in_type_keeps (register_type k) (operand_type (register_type k)) e z (ap (λ t. wrap t z) (operand_is k) ∙ wrap_is (promoted k) z (promoted_fits k z f)) h

  pub differs_from_zero : (k : CInt) (e : MonExpression) (z : ℤ) → fits k z ≡ true → HasNumber e z → HasNumber (target.truth (register_type k) e) (truth (not (int_eq z (pos 0))))
  differs_from_zero k e z f h =
      let t = operand_type (register_type k) in
      operation mon.Ne t (in_type (register_type k) t e) (Constant t (pos 0)) z (pos 0) (operand_number k) (operand_keeps k e z f h) (constant_has t (pos 0) (operand_number k))

  pub equals_zero : (k : CInt) (e : MonExpression) (z : ℤ) → fits k z ≡ true → HasNumber e z → HasNumber (compared mon.Eq (register_type k) e) (truth (int_eq z (pos 0)))
  equals_zero k e z f h =
      let t = operand_type (register_type k) in
      operation mon.Eq t (in_type (register_type k) t e) (Constant t (pos 0)) z (pos 0) (operand_number k) (operand_keeps k e z f h) (constant_has t (pos 0) (operand_number k))

  -- a condition's number is 0 exactly where the value is
  pub record IsCondition (e : MonExpression) (z : ℤ) : Type 0 where
    pub number : ℤ
    pub has : HasNumber e number
    pub alike : int_eq number (pos 0) ≡ int_eq z (pos 0)

  truth_alike : (b : Bool) → int_eq (truth (not b)) (pos 0) ≡ b
  truth_alike true = refl
  truth_alike false = refl

  pub condition_is : (k : CInt) (e : MonExpression) (z : ℤ) → fits k z ≡ true → HasNumber e z → IsCondition (condition (register_type k) e) z
  condition_is k e z f h = by (same_type (register_type k) kind.I32)
    where
      by : (t : Bool) → IsCondition (if t then e else target.truth (register_type k) e) z
      by true = record { number = z; has = h; alike = refl }
      by false = record { number = truth (not (int_eq z (pos 0))); has = differs_from_zero k e z f h; alike = truth_alike (int_eq z (pos 0)) }

  -- ---- prefix operators

  pub unary_is : (k : CInt) (op : UnOp) (e : MonExpression) (x v : ℤ) → fits k x ≡ true → operate_one_in k op x ≡ Some v → HasNumber e x → HasNumber (unary op (register_type k) e) v
  unary_is k prefix.Plus e x v f h g = g ∙ ap (λ o. bind o (λ i. Some (Integer i))) h
  unary_is k prefix.Minus e x v f h g =
      ap (λ q. bind q (λ x. bind (integer_of x) (λ i. Some (Integer (minus (register_type k) i))))) g ∙ ap (λ i. Some (Integer i)) (negated k x v h)
  unary_is k prefix.Not e x v f h g = equals_zero k e x f g ∙ ap (λ o. bind o (λ i. Some (Integer i))) h
  unary_is k prefix.Flip e x v f h g =
      ap (λ q. bind q (λ x. bind (integer_of x) (λ i. Some (Integer (flipped (register_type k) i))))) g ∙ ap (λ i. Some (Integer i)) (flips k x v h)
  unary_is k prefix.Deref e x v f h g = absurd cc
  unary_is k prefix.Address e x v f h g = absurd cc

  -- ---- operators

  pub binary_is : (k l : CInt) (op : BinOp) (a b : MonExpression) (x y v : ℤ) → fits k x ≡ true → fits l y ≡ true → (is_shift op ≡ false → l ≡ k) → operate_in k op x y ≡ Some v → HasNumber a x → HasNumber b y
      → HasNumber (binary op (register_type k) (register_type l) a b) v
  binary_is k l op a b x y v f g same h p q =
      let fit = right_fits k l op x y v g same h in
      operation (operator_of op) (register_type k) a (in_type (register_type l) (register_type k) b) x y (is_number k) p (in_type_keeps (register_type l) (register_type k) b y (wrap_is k y fit) q)
      ∙ ap (number_or_none over_blocks) (operated k op x y v f (λ s. fit) h)

  -- the operands converted to the type m, and the result to that of the left side
  pub compound_is : (m k l : CInt) (op : BinOp) (a b : MonExpression) (x y v : ℤ) → fits k x ≡ true → fits l y ≡ true → operate_in m op (convert m x) (if is_shift op then y else convert m y) ≡ Some v → HasNumber a x → HasNumber b y
      → HasNumber (compound_in op (register_type m) (register_type k) (register_type l) a b) (convert k v)
  compound_is m k l op a b x y v f g h p q = by (is_shift op) refl h
    where
      right : MonExpression
      right = in_type (register_type l) (register_type m) b

      right_has : HasNumber right (convert m y)
      right_has = in_type_converts l m b y g q

      converted : (z : ℤ) → HasNumber right z → fits m z ≡ true → operate_in m op (convert m x) z ≡ Some v → HasNumber (compound_in op (register_type m) (register_type k) (register_type l) a b) (convert k v)
      converted z r fit d =
          let inner = Binary (operator_of op) (register_type m) (in_type (register_type k) (register_type m) a) right in
          let has : HasNumber inner v =
          operation (operator_of op) (register_type m) (in_type (register_type k) (register_type m) a) right (convert m x) z (is_number m) (in_type_converts k m a x f p) r
          ∙ ap (number_or_none over_blocks) (operated m op (convert m x) z v (fits-convert m x) (λ s. fit) d) in
          ap (λ t. eval over_blocks w.globals (in_type t (register_type k) inner) regs mem) (result_type_is op m)
          ∙ in_type_converts (type_of_result op m) k inner v (fits-operate_in m op (convert m x) z v (fits-convert m x) (λ s. fit) d) has

      by : (t : Bool) → is_shift op ≡ t → operate_in m op (convert m x) (if t then y else convert m y) ≡ Some v → HasNumber (compound_in op (register_type m) (register_type k) (register_type l) a b) (convert k v)
      by true s d =
          let fit = count_fits m op (convert m x) y v s d in
          converted y (right_has ∙ ap (λ i. Some (Integer i)) (value_of_bits-bits_of m y fit)) fit d
      by false s d = converted (convert m y) right_has (fits-convert m y) d
