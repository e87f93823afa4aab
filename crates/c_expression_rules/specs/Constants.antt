-- Ours: the values of constant expressions (C99 6.6) as the code computes them, form by form; their meaning is in c_model.
use Rattle.std.specs.Prelude.{ℤ, pos, List, Bool, true, cond, not, ◌&&◌, nat_le, Option, Some, None, option_map}
use Rattle.std.specs.Ordering.{int_eq}
use Rattle.c_syntax.specs.declared.expression.UnOp.{UnOp}
use Rattle.c_syntax.specs.declared.expression.UnOp.TheVariants as unary
use Rattle.c_syntax.specs.Ctypes.{PlainType}
use Rattle.c_syntax.specs.Expressions.{Expression, Node, Number, Letter, Unary, Binary, Both, Either, Choice, Cast, SizeOfType, SizeOfExpr, Comma}
use Rattle.c_syntax.specs.Expressions.{type_of}
use Rattle.c_syntax.specs.Programs.{StructType}
use Rattle.c_syntax.specs.Layouts.{size_of}
use Rattle.c_model.specs.Integers.{convert, integer_type, operate, operate_one, truth}
use Rattle.c_model.specs.Meaning.{is_array}
use Rattle.c_model.specs.ExpressionTyping.{most_bytes}
use Rattle.c_scopes.specs.Limits.{small}

-- goes on with a value that is there
abbrev pub from : Option ℤ → (ℤ → Option ℤ) → Option ℤ
from None f = None
from (Some x) f = f x

abbrev pub is_nought : ℤ → Bool
is_nought x = int_eq x (pos 0)

-- the opposite of a number's truth, and its truth
abbrev pub untrue : ℤ → Option ℤ
untrue x = Some (truth (is_nought x))

abbrev pub true_of : ℤ → Option ℤ
true_of x = Some (truth (not (is_nought x)))

abbrev pub one : PlainType → UnOp → ℤ → Option ℤ
one t unary.Not x = untrue x
one t unary.Plus x = operate_one t unary.Plus x
one t unary.Minus x = operate_one t unary.Minus x
one t unary.Flip x = operate_one t unary.Flip x
one t unary.Deref x = None
one t unary.Address x = None

abbrev pub converted_to : PlainType → ℤ → Option ℤ
converted_to to x = option_map (λ k. convert k x) (integer_type to)

-- a size within the limit
abbrev pub size_number : List StructType → PlainType → Option ℤ
size_number structs t = option_map pos (small (size_of structs t))

abbrev pub folded : List StructType → Expression → Option ℤ
folded structs (Node at t (Number n k)) = Some n
folded structs (Node at t (Letter n)) = Some n
folded structs (Node at t (Unary op a)) = from (folded structs a) (one t op)
folded structs (Node at t (Binary op a b)) = from (folded structs a) (λ x. from (folded structs b) (λ y. operate t op x y))
folded structs (Node at t (Both a b)) = from (folded structs a) (λ x. cond (is_nought x) (Some (pos 0)) (from (folded structs b) true_of))
folded structs (Node at t (Either a b)) = from (folded structs a) (λ x. cond (is_nought x) (from (folded structs b) true_of) (Some (pos 1)))
folded structs (Node at t (Choice a b c)) = from (folded structs a) (λ x. cond (is_nought x) (folded structs c) (folded structs b))
folded structs (Node at t (Cast to a)) = cond (is_array (type_of a)) None (from (folded structs a) (converted_to to))
folded structs (Node at t (SizeOfType u)) = size_number structs u
folded structs (Node at t (SizeOfExpr a)) = size_number structs (type_of a)
folded structs _ = None

-- whether each size that an expression asks for is within the limit
abbrev pub has_small_sizes : List StructType → Expression → Bool
has_small_sizes structs (Node at t (Unary op a)) = has_small_sizes structs a
has_small_sizes structs (Node at t (Binary op a b)) = has_small_sizes structs a && has_small_sizes structs b
has_small_sizes structs (Node at t (Both a b)) = has_small_sizes structs a && has_small_sizes structs b
has_small_sizes structs (Node at t (Either a b)) = has_small_sizes structs a && has_small_sizes structs b
has_small_sizes structs (Node at t (Choice a b c)) = has_small_sizes structs a && (has_small_sizes structs b && has_small_sizes structs c)
has_small_sizes structs (Node at t (Cast to a)) = has_small_sizes structs a
has_small_sizes structs (Node at t (SizeOfType u)) = nat_le (size_of structs u) most_bytes
has_small_sizes structs (Node at t (SizeOfExpr a)) = nat_le (size_of structs (type_of a)) most_bytes
has_small_sizes structs (Node at t (Comma a b)) = has_small_sizes structs a && has_small_sizes structs b
has_small_sizes structs _ = true
