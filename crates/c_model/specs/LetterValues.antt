-- Letters in expressions, each of which is a value of `char` (C99 6.4.4.4 p10).
use Rattle.std.specs.Prelude.{ℤ, pos, negsuc, ◌≤ℤ◌}
use Rattle.c_syntax.specs.Expressions.{Expression, Node, Number, Letter, Text, Variable, Unary, Binary, Both, Either, Choice, Assign, Bump, Call, Cast}
use Rattle.c_syntax.specs.Expressions.{SizeOfType, SizeOfExpr, Index, Dot, Arrow, Comma, Expressions, NoExpression, Following}

-- a value of `char`
pub record IsCharacter (z : ℤ) : Type 0 where
  pub low : negsuc 127 ≤ℤ z
  pub high : z ≤ℤ pos 127

-- each letter in an expression is one
abbrev mutual
  pub LettersFit : Expression → Type 0
  LettersFit (Node at t (Number n k)) = Unit {0}
  LettersFit (Node at t (Letter n)) = IsCharacter n
  LettersFit (Node at t (Text n)) = Unit {0}
  LettersFit (Node at t (Variable x)) = Unit {0}
  LettersFit (Node at t (Unary op a)) = LettersFit a
  LettersFit (Node at t (Binary op a b)) = LettersFit a × LettersFit b
  LettersFit (Node at t (Both a b)) = LettersFit a × LettersFit b
  LettersFit (Node at t (Either a b)) = LettersFit a × LettersFit b
  LettersFit (Node at t (Choice a b c)) = LettersFit a × LettersFit b × LettersFit c
  LettersFit (Node at t (Assign op a b)) = LettersFit a × LettersFit b
  LettersFit (Node at t (Bump op a)) = LettersFit a
  LettersFit (Node at t (Call f args)) = AllLettersFit args
  LettersFit (Node at t (Cast to a)) = LettersFit a
  LettersFit (Node at t (SizeOfType u)) = Unit {0}
  LettersFit (Node at t (SizeOfExpr a)) = Unit {0}
  LettersFit (Node at t (Index a b)) = LettersFit a × LettersFit b
  LettersFit (Node at t (Dot a m)) = LettersFit a
  LettersFit (Node at t (Arrow a m)) = LettersFit a
  LettersFit (Node at t (Comma a b)) = LettersFit a × LettersFit b

  pub AllLettersFit : Expressions → Type 0
  AllLettersFit NoExpression = Unit {0}
  AllLettersFit (Following e es) = LettersFit e × AllLettersFit es
