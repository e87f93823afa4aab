-- The types of the parts of typed expressions.
use Rattle.std.proofs.Common.{◌≡◌, ℤ, true, false, cond, Some, None, refl, sym, ap, ◌∙◌}
use Rattle.c_syntax.specs.declared.types.CInt.{CInt}
use Rattle.c_syntax.specs.declared.expression.BinOp.{BinOp}
use Rattle.c_syntax.specs.declared.expression.BinOp.TheVariants as operator
use Rattle.c_syntax.specs.Ctypes.{PlainType, Int, Struct, int_type}
use Rattle.c_syntax.specs.Expressions.{Expression, Node, Number, Letter, Text, Variable, Unary, Binary, Both, Either, Choice, Assign, Bump, Call, Cast, SizeOfType, SizeOfExpr, Index, Dot, Arrow, Comma}
use Rattle.c_model.specs.Integers.{operate, operate_in}
use Rattle.c_model.specs.Conversions.{promoted, is_shift, is_relation}
use Rattle.c_model.specs.Laws.{type_of_result}
use Rattle.c_model.specs.ExpressionTyping.{is_place, has_object, is_struct, Sight}
use Rattle.c_model.specs.TypedTrees.{OnIntegers, CompoundTypes, ToInteger, ToPointer}
use Rattle.c_syntax.specs.declared.expression.BumpOp.{BumpOp}
use Rattle.c_syntax.specs.declared.expression.BumpOp.TheVariants.{PreUp, PreDown, PostUp, PostDown}
use Rattle.c_syntax.specs.Layouts.{Scalar, IntegerType, scalar_of}
use Rattle.c_model.specs.Meaning.{bump_operator}

pub same_int_type : (k l : CInt) → Int k ≡ Int l → k ≡ l
same_int_type k l e = cc

pub one_scalar : (t : PlainType) (k l : Scalar) → scalar_of t ≡ Some k → scalar_of t ≡ Some l → k ≡ l
one_scalar t k l e f = let same : Some k ≡ Some l = sym e ∙ f in cc

result_is : (op : BinOp) (k : CInt) → cond (is_relation op) int_type (Int k) ≡ Int (type_of_result op k)
result_is operator.Add k = refl
result_is operator.Sub k = refl
result_is operator.Mul k = refl
result_is operator.Div k = refl
result_is operator.Rem k = refl
result_is operator.Shl k = refl
result_is operator.Shr k = refl
result_is operator.BitAnd k = refl
result_is operator.BitOr k = refl
result_is operator.BitXor k = refl
result_is operator.Eq k = refl
result_is operator.Ne k = refl
result_is operator.Lt k = refl
result_is operator.Le k = refl
result_is operator.Gt k = refl
result_is operator.Ge k = refl

operates_alike : (op : BinOp) (k : CInt) (x y : ℤ) → operate_in (type_of_result op k) op x y ≡ operate_in k op x y
operates_alike operator.Add k x y = refl
operates_alike operator.Sub k x y = refl
operates_alike operator.Mul k x y = refl
operates_alike operator.Div k x y = refl
operates_alike operator.Rem k x y = refl
operates_alike operator.Shl k x y = refl
operates_alike operator.Shr k x y = refl
operates_alike operator.BitAnd k x y = refl
operates_alike operator.BitOr k x y = refl
operates_alike operator.BitXor k x y = refl
operates_alike operator.Eq k x y = refl
operates_alike operator.Ne k x y = refl
operates_alike operator.Lt k x y = refl
operates_alike operator.Le k x y = refl
operates_alike operator.Gt k x y = refl
operates_alike operator.Ge k x y = refl

-- the integer types of two operands
pub record BinaryAt (op : BinOp) (t u v : PlainType) : Type 0 where
  pub left : CInt
  pub right : CInt
  pub left_is : scalar_of u ≡ Some (IntegerType left)
  pub right_is : scalar_of v ≡ Some (IntegerType right)
  pub alike : is_shift op ≡ false → right ≡ left
  pub result : scalar_of t ≡ Some (IntegerType (type_of_result op left))
  pub same : (x y : ℤ) → operate t op x y ≡ operate_in left op x y

pub binary_at : (op : BinOp) (t u v : PlainType) → OnIntegers op t u v → BinaryAt op t u v
binary_at op t u v o =
    let k = promoted o.left.int in
    let is : t ≡ Int (type_of_result op k) = o.result ∙ ap (λ u. cond (is_relation op) int_type u) o.left.is ∙ result_is op k in
    record {
      left = k;
      right = promoted o.right.int;
      left_is = ap scalar_of o.left.is;
      right_is = ap scalar_of o.right.is;
      alike = λ s. same_int_type (promoted o.right.int) k (sym o.right.is ∙ o.same s ∙ o.left.is);
      result = ap scalar_of is;
      same = λ x y. ap (λ t. operate t op x y) is ∙ operates_alike op k x y;
    }

-- what designates an object without a comma
pub place_has_object : (e : Expression) → is_place e ≡ true → has_object e ≡ true
place_has_object (Node at t (Dot a m)) e = place_has_object a e
place_has_object (Node at t (Comma a b)) e = absurd cc
place_has_object (Node at t (Number n k)) e = e
place_has_object (Node at t (Letter n)) e = e
place_has_object (Node at t (Text n)) e = e
place_has_object (Node at t (Variable x)) e = e
place_has_object (Node at t (Unary op a)) e = e
place_has_object (Node at t (Binary op a b)) e = e
place_has_object (Node at t (Both a b)) e = e
place_has_object (Node at t (Either a b)) e = e
place_has_object (Node at t (Choice a b c)) e = e
place_has_object (Node at t (Assign op a b)) e = absurd cc
place_has_object (Node at t (Bump op a)) e = e
place_has_object (Node at t (Call f es)) e = e
place_has_object (Node at t (Cast to a)) e = e
place_has_object (Node at t (SizeOfType u)) e = e
place_has_object (Node at t (SizeOfExpr a)) e = e
place_has_object (Node at t (Index a b)) e = e
place_has_object (Node at t (Arrow a m)) e = e

pub bump_types : (s : Sight) (op : BumpOp) (t u : PlainType) → CompoundTypes s operator.Add t u → CompoundTypes s (bump_operator op) t u
bump_types s op t u (ToInteger p q) = ToInteger p q
bump_types s PreUp t u (ToPointer step p q) = ToPointer refl p q
bump_types s PreDown t u (ToPointer step p q) = ToPointer refl p q
bump_types s PostUp t u (ToPointer step p q) = ToPointer refl p q
bump_types s PostDown t u (ToPointer step p q) = ToPointer refl p q

-- a struct is no scalar
pub struct_no_scalar : (t : PlainType) → is_struct t ≡ true → scalar_of t ≡ None
struct_no_scalar (Struct n) e = refl
struct_no_scalar _ e = absurd cc
