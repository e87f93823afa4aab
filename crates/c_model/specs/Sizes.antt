-- What is known of the sizes of typed expressions: how many forms they have and how many parentheses their values open.
use Rattle.std.specs.Prelude.{ℕ, suc, ◌+◌, ◌≤◌}
use Rattle.c_syntax.specs.Expressions.{Expression, Node, Number, Letter, Text, Variable, Unary, Binary, Both, Either, Choice, Assign, Bump, Call}
use Rattle.c_syntax.specs.Expressions.{Cast, SizeOfType, SizeOfExpr, Index, Dot, Arrow, Comma, Expressions, NoExpression, Following}

-- no value of an expression has more parentheses open at once than this
abbrev mutual
  pub weight_of : Expression → ℕ
  weight_of (Node at t (Number n k)) = 2
  weight_of (Node at t (Letter n)) = 2
  weight_of (Node at t (Text n)) = 2
  weight_of (Node at t (Variable x)) = 2
  weight_of (Node at t (Unary op a)) = 2 + weight_of a
  weight_of (Node at t (Binary op a b)) = 4 + (weight_of a + weight_of b)
  weight_of (Node at t (Both a b)) = 2 + (weight_of a + weight_of b)
  weight_of (Node at t (Either a b)) = 2 + (weight_of a + weight_of b)
  weight_of (Node at t (Choice a b c)) = 2 + (weight_of a + (weight_of b + weight_of c))
  weight_of (Node at t (Assign op a b)) = 4 + (weight_of a + weight_of b)
  weight_of (Node at t (Bump op a)) = 4 + weight_of a
  weight_of (Node at t (Call f es)) = 2 + weight_of_all es
  weight_of (Node at t (Cast to a)) = 1 + weight_of a
  weight_of (Node at t (SizeOfType u)) = 2
  weight_of (Node at t (SizeOfExpr a)) = 2 + weight_of a
  weight_of (Node at t (Index a b)) = 4 + (weight_of a + weight_of b)
  weight_of (Node at t (Dot a m)) = 2 + weight_of a
  weight_of (Node at t (Arrow a m)) = 2 + weight_of a
  weight_of (Node at t (Comma a b)) = 2 + (weight_of a + weight_of b)

  pub weight_of_all : Expressions → ℕ
  weight_of_all NoExpression = 0
  weight_of_all (Following e es) = weight_of e + weight_of_all es

-- how many forms an expression has besides casts, itself included
abbrev mutual
  pub forms_of : Expression → ℕ
  forms_of (Node at t (Number n k)) = 1
  forms_of (Node at t (Letter n)) = 1
  forms_of (Node at t (Text n)) = 1
  forms_of (Node at t (Variable x)) = 1
  forms_of (Node at t (Unary op a)) = suc (forms_of a)
  forms_of (Node at t (Binary op a b)) = suc (forms_of a + forms_of b)
  forms_of (Node at t (Both a b)) = suc (forms_of a + forms_of b)
  forms_of (Node at t (Either a b)) = suc (forms_of a + forms_of b)
  forms_of (Node at t (Choice a b c)) = suc (forms_of a + (forms_of b + forms_of c))
  forms_of (Node at t (Assign op a b)) = suc (forms_of a + forms_of b)
  forms_of (Node at t (Bump op a)) = suc (forms_of a)
  forms_of (Node at t (Call f es)) = suc (forms_of_all es)
  forms_of (Node at t (Cast to a)) = forms_of a
  forms_of (Node at t (SizeOfType u)) = 1
  forms_of (Node at t (SizeOfExpr a)) = suc (forms_of a)
  forms_of (Node at t (Index a b)) = suc (forms_of a + forms_of b)
  forms_of (Node at t (Dot a m)) = suc (forms_of a)
  forms_of (Node at t (Arrow a m)) = suc (forms_of a)
  forms_of (Node at t (Comma a b)) = suc (forms_of a + forms_of b)

  pub forms_of_all : Expressions → ℕ
  forms_of_all NoExpression = 0
  forms_of_all (Following e es) = forms_of e + forms_of_all es

-- A full expression is read from at most 400 tokens, and each form that is read has a token of its own. Typing adds
-- casts alone, and a typed expression weighs at most 4 times as many as the forms that are read (proofs/TypedSizes.antt has the table).
abbrev pub most_weight : ℕ
most_weight = 1900

abbrev pub most_forms : ℕ
most_forms = 400

pub record IsSmall (e : Expression) : Type 0 where
  pub few : forms_of e ≤ most_forms
  pub light : weight_of e ≤ most_weight

pub record AreSmall (es : Expressions) : Type 0 where
  pub few : forms_of_all es ≤ most_forms
  pub light : weight_of_all es ≤ most_weight
