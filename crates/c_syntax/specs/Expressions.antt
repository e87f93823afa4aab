-- The plain form of expressions (C99 6.5): their variants, numbers, places, types and parts, without boxes and vectors.
use Rattle.std.specs.Prelude.{List, [], ◌∷◌}
use Rattle.c_syntax.specs.declared.expression.Expr.{Expr}
use Rattle.c_syntax.specs.declared.expression.ExprKind.{ExprKind, Row_of-Expr, end_of-Expr, more_of-Expr}
use Rattle.c_syntax.specs.declared.expression.ExprKind as code
use Rattle.c_syntax.specs.declared.types.CType.{CType}
use Rattle.c_syntax.specs.declared.types.CType as ctype
use Rattle.c_syntax.specs.declared.types.Length.{Length}
use Rattle.c_syntax.specs.declared.types.Length as bounds
pub use Rattle.c_syntax.specs.Trees.{PlainType, Void, Int, Ptr, Array, Struct, Named, StructTag, EnumTag, PlainLength, Left, Written, Count}
pub use Rattle.c_syntax.specs.Trees.{Expression, Node, ExpressionKind, Number, Letter, Text, Variable, Unary, Binary, Both, Either, Choice, Assign, Bump, Call}
pub use Rattle.c_syntax.specs.Trees.{Cast, SizeOfType, SizeOfExpr, Index, Dot, Arrow, Comma, Expressions, NoExpression, Following, place_of, type_of}

abbrev mutual
  pub plain_type : CType → PlainType
  plain_type ctype.Void = Void
  plain_type (ctype.Int k) = Int k
  plain_type (ctype.Ptr' p t) = Ptr (plain_type t)
  plain_type (ctype.Array' p t n) = Array (plain_type t) (plain_length n)
  plain_type (ctype.Struct n) = Struct n
  plain_type (ctype.Named x) = Named x
  plain_type (ctype.StructTag x at) = StructTag x at
  plain_type (ctype.EnumTag x at) = EnumTag x at

  pub plain_length : Length → PlainLength
  plain_length bounds.Left = Left
  plain_length (bounds.Written' q pa p a ta) = Written (Node pa (plain_type ta) (plain_kind a))
  plain_length (bounds.Count n) = Count n

  pub plain_kind : ExprKind → ExpressionKind
  plain_kind (code.Number n k) = Number n k
  plain_kind (code.Letter n) = Letter n
  plain_kind (code.Text n) = Text n
  plain_kind (code.Variable x) = Variable x
  plain_kind (code.Unary' op pa p a ta) = Unary op (Node pa (plain_type ta) (plain_kind a))
  plain_kind (code.Binary' op pa p a ta pb q b tb) = Binary op (Node pa (plain_type ta) (plain_kind a)) (Node pb (plain_type tb) (plain_kind b))
  plain_kind (code.Both' pa p a ta pb q b tb) = Both (Node pa (plain_type ta) (plain_kind a)) (Node pb (plain_type tb) (plain_kind b))
  plain_kind (code.Either' pa p a ta pb q b tb) = Either (Node pa (plain_type ta) (plain_kind a)) (Node pb (plain_type tb) (plain_kind b))
  plain_kind (code.Choice' pa p a ta pb q b tb pc r c tc) = Choice (Node pa (plain_type ta) (plain_kind a)) (Node pb (plain_type tb) (plain_kind b))
      (Node pc (plain_type tc) (plain_kind c))
  plain_kind (code.Assign' op pa p a ta pb q b tb) = Assign op (Node pa (plain_type ta) (plain_kind a)) (Node pb (plain_type tb) (plain_kind b))
  plain_kind (code.Bump' op pa p a ta) = Bump op (Node pa (plain_type ta) (plain_kind a))
  plain_kind (code.Call' f shape row) = Call f (plain_expr_row row)
  plain_kind (code.Cast' to pa p a ta) = Cast (plain_type to) (Node pa (plain_type ta) (plain_kind a))
  plain_kind (code.SizeOfType u) = SizeOfType (plain_type u)
  plain_kind (code.SizeOfExpr' pa p a ta) = SizeOfExpr (Node pa (plain_type ta) (plain_kind a))
  plain_kind (code.Index' pa p a ta pb q b tb) = Index (Node pa (plain_type ta) (plain_kind a)) (Node pb (plain_type tb) (plain_kind b))
  plain_kind (code.Dot' pa p a ta m) = Dot (Node pa (plain_type ta) (plain_kind a)) m
  plain_kind (code.Arrow' pa p a ta m) = Arrow (Node pa (plain_type ta) (plain_kind a)) m
  plain_kind (code.Comma' pa p a ta pb q b tb) = Comma (Node pa (plain_type ta) (plain_kind a)) (Node pb (plain_type tb) (plain_kind b))

  pub plain_expr_row : {m : _} → Row_of-Expr m → Expressions
  plain_expr_row end_of-Expr = NoExpression
  plain_expr_row (more_of-Expr at p e t rest) = Following (Node at (plain_type t) (plain_kind e)) (plain_expr_row rest)

abbrev pub plain_expr : Expr → Expression
plain_expr e = Node e.place (plain_type e.ctype) (plain_kind e.kind.value)

abbrev pub plain_exprs : List Expr → Expressions
plain_exprs [] = NoExpression
plain_exprs (e ∷ es) = Following (plain_expr e) (plain_exprs es)
