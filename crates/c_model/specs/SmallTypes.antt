-- Expressions whose types have few enough bytes, with the types in them: so have the elements by which pointers go on (C99 6.5.6 p8).
use Rattle.std.specs.Prelude.{◌≡◌, true, List}
use Rattle.c_syntax.specs.Expressions.{Expression, Node, ExpressionKind, Number, Letter, Text, Variable, Unary, Binary, Both, Either, Choice}
use Rattle.c_syntax.specs.Expressions.{Assign, Bump, Call, Cast, SizeOfType, SizeOfExpr, Index, Dot, Arrow, Comma, Expressions, NoExpression, Following}
use Rattle.c_syntax.specs.Programs.{StructType}
use Rattle.c_model.specs.ExpressionTyping.{has_small_parts}

-- among these structs
module _ (structs : List StructType) where
  abbrev mutual
    pub TypesSmall : Expression → Type 0
    TypesSmall (Node at t k) = (has_small_parts structs t ≡ true) × TypesSmallIn k

    pub TypesSmallIn : ExpressionKind → Type 0
    TypesSmallIn (Number n k) = Unit {0}
    TypesSmallIn (Letter n) = Unit {0}
    TypesSmallIn (Text n) = Unit {0}
    TypesSmallIn (Variable x) = Unit {0}
    TypesSmallIn (Unary op a) = TypesSmall a
    TypesSmallIn (Binary op a b) = TypesSmall a × TypesSmall b
    TypesSmallIn (Both a b) = TypesSmall a × TypesSmall b
    TypesSmallIn (Either a b) = TypesSmall a × TypesSmall b
    TypesSmallIn (Choice a b c) = TypesSmall a × TypesSmall b × TypesSmall c
    TypesSmallIn (Assign op a b) = TypesSmall a × TypesSmall b
    TypesSmallIn (Bump op a) = TypesSmall a
    TypesSmallIn (Call f es) = AllTypesSmall es
    TypesSmallIn (Cast to a) = TypesSmall a
    TypesSmallIn (SizeOfType u) = Unit {0}
    TypesSmallIn (SizeOfExpr a) = TypesSmall a
    TypesSmallIn (Index a b) = TypesSmall a × TypesSmall b
    TypesSmallIn (Dot a m) = TypesSmall a
    TypesSmallIn (Arrow a m) = TypesSmall a
    TypesSmallIn (Comma a b) = TypesSmall a × TypesSmall b

    pub AllTypesSmall : Expressions → Type 0
    AllTypesSmall NoExpression = Unit {0}
    AllTypesSmall (Following e es) = TypesSmall e × AllTypesSmall es
