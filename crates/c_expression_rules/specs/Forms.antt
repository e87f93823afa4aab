-- Ours: the typing of C99 6.5 (c_model/specs/ExpressionTyping) in two steps, as the code does it.
-- The typing of each form: that of its parts, and what the form demands of them.
use Rattle.std.specs.Prelude.{ℕ}
use Rattle.c_syntax.specs.declared.place.Place.{Place}
use Rattle.c_syntax.specs.Ctypes.{PlainType, int_type}
use Rattle.c_syntax.specs.Expressions.{Expression, ExpressionKind, Expressions, Node, Number, Letter, Variable, Unary, Binary, type_of}
use Rattle.c_syntax.specs.Expressions.{Both, Either, Choice, Assign, Bump, Call, Cast, SizeOfType, SizeOfExpr, Text, Index, Dot, Arrow, Comma}
use Rattle.c_model.specs.Checked.{Checked, Good, faulty, one_part, both_parts}
use Rattle.c_model.specs.ExpressionTyping as plain
use Rattle.c_model.specs.ExpressionTyping.{Sight, Signature, decayed_of, known_type, limited, params_of, two, typed, typed_arguments, typed_type}

-- the parts of forms with several
abbrev pub typed_two : Sight → Expression → Expression → Checked (Expression × Expression)
typed_two s a b = both_parts (decayed_of (typed s a)) (decayed_of (typed s b)) two

abbrev pub typed_place_and_value : Sight → Expression → Expression → Checked (Expression × Expression)
typed_place_and_value s a b = both_parts (typed s a) (decayed_of (typed s b)) two

abbrev pub typed_three : Sight → Expression → Expression → Expression → Checked (Expression × (Expression × Expression))
typed_three s a b c = both_parts (decayed_of (typed s a)) (typed_two s b c) two

-- forms whose types have limits
abbrev pub cast_parts : Sight → Place → PlainType → Expression → Checked Expression
cast_parts s at to a = both_parts (typed_type s at to) (decayed_of (typed s a)) (plain.cast s at)

abbrev pub cast_of : Sight → Place → PlainType → Expression → Checked Expression
cast_of s at to a = limited s at (known_type s to) (cast_parts s at to a)

abbrev pub size_of_parts : Sight → Place → PlainType → Checked Expression
size_of_parts s at u = one_part (typed_type s at u) (plain.size_of_type s at)

abbrev pub size_of_written : Sight → Place → PlainType → Checked Expression
size_of_written s at u = limited s at (known_type s u) (size_of_parts s at u)

abbrev pub size_of_expr : Sight → Place → Expression → Checked Expression
size_of_expr s at a = one_part (typed s a) (λ e. limited s at (type_of e) (plain.size_of_expression s at e))

-- the function and the arguments of a call
abbrev pub typed_call_parts : Sight → Place → ℕ → Expressions → Checked (Signature × Expressions)
typed_call_parts s at x es =
    both_parts (plain.callee_for s at x es) (typed_arguments s (plain.is_printf s x) (params_of (plain.callee_for s at x es)) es) two

abbrev pub typed_call : Sight → Place → ℕ → Expressions → Checked Expression
typed_call s at x es = one_part (typed_call_parts s at x es) (λ p. plain.call at p.0 p.1)

-- the elements of an array
abbrev pub typed_elements : Sight → Place → PlainType → Checked PlainType
typed_elements s at t = one_part (typed_type s at t) (plain.element_type s at)

-- forms without parts
abbrev pub typed_leaf : Sight → Place → ExpressionKind → Checked Expression
typed_leaf s at (Number n k) = plain.literal at n k
typed_leaf s at (Letter n) = Good (Node at int_type (Letter n))
typed_leaf s at (Text offset) = plain.text s at offset
typed_leaf s at (Variable x) = plain.typed_name s at x.name
typed_leaf s at _ = faulty (plain.no_type at)

-- forms of one operand, and members of one
abbrev pub typed_one : Sight → Place → ExpressionKind → Checked Expression
typed_one s at (Unary op a) = one_part (typed s a) (plain.unary_on at op)
typed_one s at (Bump op a) = one_part (typed s a) (plain.bump s at op)
typed_one s at (Dot a m) = one_part (typed s a) (plain.dot s at m)
typed_one s at (Arrow a m) = one_part (decayed_of (typed s a)) (plain.arrow s at m)
typed_one s at _ = faulty (plain.no_type at)

-- forms of two values
abbrev pub typed_of_two : Sight → Place → ExpressionKind → Checked Expression
typed_of_two s at (Binary op a b) = one_part (typed_two s a b) (λ p. plain.binary s at op p.0 p.1)
typed_of_two s at (Both a b) = one_part (typed_two s a b) (λ p. plain.both_of at p.0 p.1)
typed_of_two s at (Either a b) = one_part (typed_two s a b) (λ p. plain.either_of at p.0 p.1)
typed_of_two s at (Index a b) = one_part (typed_two s a b) (λ p. plain.index s at p.0 p.1)
typed_of_two s at _ = faulty (plain.no_type at)

-- forms whose left operand is no value of its own
abbrev pub typed_after_place : Sight → Place → ExpressionKind → Checked Expression
typed_after_place s at (Assign op a b) = one_part (typed_place_and_value s a b) (λ p. plain.assign s at op p.0 p.1)
typed_after_place s at (Comma a b) = one_part (typed_place_and_value s a b) (λ p. Good (Node at (type_of p.1) (Comma p.0 p.1)))
typed_after_place s at _ = faulty (plain.no_type at)

abbrev pub typed_kind : Sight → Place → ExpressionKind → Checked Expression
typed_kind s at (Number n k) = typed_leaf s at (Number n k)
typed_kind s at (Letter n) = typed_leaf s at (Letter n)
typed_kind s at (Text offset) = typed_leaf s at (Text offset)
typed_kind s at (Variable x) = typed_leaf s at (Variable x)
typed_kind s at (Unary op a) = typed_one s at (Unary op a)
typed_kind s at (Binary op a b) = typed_of_two s at (Binary op a b)
typed_kind s at (Both a b) = typed_of_two s at (Both a b)
typed_kind s at (Either a b) = typed_of_two s at (Either a b)
typed_kind s at (Choice a b c) = one_part (typed_three s a b c) (λ p. plain.choice_of s at p.0 (p.1).0 (p.1).1)
typed_kind s at (Assign op a b) = typed_after_place s at (Assign op a b)
typed_kind s at (Bump op a) = typed_one s at (Bump op a)
typed_kind s at (Call f es) = typed_call s at f.name es
typed_kind s at (Cast to a) = cast_of s at to a
typed_kind s at (SizeOfType u) = size_of_written s at u
typed_kind s at (SizeOfExpr a) = size_of_expr s at a
typed_kind s at (Index a b) = typed_of_two s at (Index a b)
typed_kind s at (Dot a m) = typed_one s at (Dot a m)
typed_kind s at (Arrow a m) = typed_one s at (Arrow a m)
typed_kind s at (Comma a b) = typed_after_place s at (Comma a b)
