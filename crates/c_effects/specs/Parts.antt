-- Expressions from their operands, and operators on pointers.
use Rattle.std.specs.Prelude.{ℕ, pos, not, if◌then◌else◌}
use Rattle.c_syntax.specs.declared.expression.Expr.{Expr}
use Rattle.c_syntax.specs.declared.expression.BinOp.{BinOp}
use Rattle.c_syntax.specs.declared.expression.UnOp.{UnOp}
use Rattle.c_syntax.specs.declared.types.CType.{CType}
use Rattle.c_syntax.specs.declared.expression.Use.{Use}
use Rattle.c_syntax.specs.Ctypes.{PlainType, plain_type}
use Rattle.c_model.specs.Meaning.{is_of_library}
use Rattle.c_syntax.specs.Expressions.{Expression, Node, Unary, Binary, Both, Either, Choice, Cast, Index, Dot, Arrow, plain_expr}
use Rattle.c_syntax.specs.Programs.{TranslationUnit}
use Rattle.mon_syntax.specs.declared.tree.MonType.{MonType}
use Rattle.mon_syntax.specs.declared.tree.MonType.TheVariants.{Ptr}
use Rattle.mon_syntax.specs.Arithmetic.{is_pointer}
use Rattle.mon_syntax.specs.Registers.{Bindings}
use Rattle.mon_syntax.specs.Trees.{MonExpression, Constant}
use Rattle.c_effects.specs.Expressions.{element, two_pointers, pointer_and_integer, loaded, pointer_to}

-- ---- expressions from their parts; their own place and type play no part in their translation

abbrev pub binary_of : BinOp → Expr → Expr → Expression
binary_of op a b = Node a.place (plain_type a.ctype) (Binary op (plain_expr a) (plain_expr b))

abbrev pub unary_of : CType → UnOp → Expr → Expression
unary_of t op a = Node a.place (plain_type t) (Unary op (plain_expr a))

abbrev pub cast_of : CType → Expr → Expression
cast_of t a = Node a.place (plain_type t) (Cast (plain_type t) (plain_expr a))

abbrev pub index_of : Expr → Expr → Expression
index_of a b = Node a.place (plain_type a.ctype) (Index (plain_expr a) (plain_expr b))

abbrev pub dot_of : Expr → ℕ → Expression
dot_of a m = Node a.place (plain_type a.ctype) (Dot (plain_expr a) m)

abbrev pub arrow_of : Expr → ℕ → Expression
arrow_of a m = Node a.place (plain_type a.ctype) (Arrow (plain_expr a) m)

abbrev pub both_of : Expr → Expr → Expression
both_of a b = Node a.place (plain_type a.ctype) (Both (plain_expr a) (plain_expr b))

abbrev pub either_of : Expr → Expr → Expression
either_of a b = Node a.place (plain_type a.ctype) (Either (plain_expr a) (plain_expr b))

abbrev pub choice_of : Expr → Expr → Expr → Expression
choice_of a b c = Node a.place (plain_type b.ctype) (Choice (plain_expr a) (plain_expr b) (plain_expr c))

-- the value of a name
abbrev pub named_value : TranslationUnit → Bindings → PlainType → Use → MonExpression
named_value p bound t x = if is_of_library x then Constant Ptr (pos 0) else loaded t (pointer_to p bound x.decl)

-- an operator on values of two types, of which at least one is a pointer to something of this size
abbrev pub pointers_operated : BinOp → ℕ → MonType → MonType → MonExpression → MonExpression → MonExpression
pointers_operated op unit t u a b =
    if not (is_pointer t) then element unit b t a else (if is_pointer u then two_pointers op unit a b else pointer_and_integer op unit a u b)
