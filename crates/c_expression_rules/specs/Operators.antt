-- Ours: demands of operators (C99 6.5) that several forms share, as the code checks them.
use Rattle.std.specs.Prelude.{Bool, true, ◌&&◌, Option, Some, None, pos}
use Rattle.c_syntax.specs.declared.place.Place.{Place}
use Rattle.c_syntax.specs.declared.types.CInt.TheVariants.{I32}
use Rattle.c_syntax.specs.declared.expression.BinOp.{BinOp}
use Rattle.c_syntax.specs.declared.expression.BinOp.TheVariants as operator
use Rattle.c_syntax.specs.declared.expression.BumpOp.{BumpOp}
use Rattle.c_syntax.specs.Ctypes.{PlainType, Array, int_type}
use Rattle.c_syntax.specs.Expressions.{Expression, ExpressionKind, Node, Number, Assign, Bump, type_of}
use Rattle.c_model.specs.Integers.{integer_type}
use Rattle.c_model.specs.Library.{is_there}
use Rattle.c_model.specs.Checked.{Checked, Good, faulty, given, where_so}
use Rattle.c_model.specs.ExpressionTyping as plain
use Rattle.c_model.specs.ExpressionTyping.{Sight, is_place, is_step, no_type, operated_in_place, pointed, where_elements, where_sized}

-- an integer literal in its type
abbrev pub typed_literal : Place → ExpressionKind → Checked Expression
typed_literal at (Number n k) = plain.literal at n k
typed_literal at _ = faulty (no_type at)

-- a type that has a size, and one to which a pointer goes on by elements
abbrev pub has_size : Sight → Place → PlainType → Checked (Unit {0})
has_size s at t = where_sized s at t (Good tt)

abbrev pub has_elements : Sight → Place → PlainType → Checked (Unit {0})
has_elements s at t = where_elements s at t (Good tt)

-- the type of the elements, where the type is an array's
abbrev pub element_of : PlainType → Option PlainType
element_of (Array t n) = Some t
element_of _ = None

-- what `a op= b` demands of its parts, where b is an integer or isn't
abbrev pub compoundable : Sight → Place → BinOp → Expression → Bool → Checked (Unit {0})
compoundable s at op a integer = elim (integer_type (type_of a)) [
  | Some k ↦ where_so (is_place a && integer) (no_type at) (Good tt)
  | None ↦ given (pointed (type_of a)) (no_type at) (λ t. where_so (is_place a && integer && is_step op true) (no_type at) (has_elements s at t))
]

-- `a op= b`, and `++` and `--`, of types that fit the operator
abbrev pub assigned_with : Sight → Place → BinOp → Expression → Expression → Checked Expression
assigned_with s at op a b = operated_in_place s at op a b (Node at (type_of a) (Assign (Some op) a b))

abbrev pub bumped : Sight → Place → BumpOp → Expression → Checked Expression
bumped s at op a = operated_in_place s at operator.Add a (Node at int_type (Number (pos 1) (Some I32))) (Node at (type_of a) (Bump op a))

-- the type of what a pointer to elements gives
abbrev pub pointed_element : Sight → Place → PlainType → Checked PlainType
pointed_element s at t = where_elements s at t (Good t)

-- the type of `a[b]`, from those of its parts
abbrev pub indexed_type : Sight → Place → PlainType → PlainType → Checked PlainType
indexed_type s at u v = elim (pointed u) [
  | Some t ↦ where_so (is_there (integer_type v)) (no_type at) (pointed_element s at t)
  | None ↦ given (pointed v) (no_type at) (λ t. where_so (is_there (integer_type u)) (no_type at) (pointed_element s at t))
]
