-- What the numbers of a tree's types bound in expressions: a letter is a value of `char`.
use Rattle.std.specs.Prelude.{ℤ, pos, negsuc, ◌≤ℤ◌, Bool, true, false, ◌&&◌, Option, Some, None}
use Rattle.c_syntax.specs.Expressions as source
use Rattle.c_syntax.specs.Expressions.{Expression, Node, Expressions, NoExpression, Following}
use Rattle.c_effects.specs.Full.{is_pure}

-- a value of `char`
pub record IsLetter (z : ℤ) : Type 0 where
  pub low : negsuc 127 ≤ℤ z
  pub high : z ≤ℤ pos 127

-- ---- expressions

abbrev pub HasLetters : Expression → Type 0
HasLetters (Node at t (source.Number n k)) = Unit {0}
HasLetters (Node at t (source.Letter n)) = IsLetter n
HasLetters (Node at t (source.Variable x)) = Unit {0}
HasLetters (Node at t (source.Unary op a)) = HasLetters a
HasLetters (Node at t (source.Binary op a b)) = HasLetters a × HasLetters b
HasLetters (Node at t (source.Both a b)) = HasLetters a × HasLetters b
HasLetters (Node at t (source.Either a b)) = HasLetters a × HasLetters b
HasLetters (Node at t (source.Choice a b c)) = HasLetters a × HasLetters b × HasLetters c
HasLetters (Node at t (source.Cast to a)) = HasLetters a
HasLetters (Node at t (source.SizeOfType u)) = Unit {0}
HasLetters (Node at t (source.SizeOfExpr a)) = Unit {0}
-- these stand in no other expression
HasLetters (Node at t (source.Assign op a b)) = Unit {0}
HasLetters (Node at t (source.Bump op a)) = Unit {0}
HasLetters (Node at t (source.Call f args)) = Unit {0}
HasLetters (Node at t (source.Text n)) = Unit {0}
HasLetters (Node at t (source.Index a b)) = HasLetters a × HasLetters b
HasLetters (Node at t (source.Dot a m)) = HasLetters a
HasLetters (Node at t (source.Arrow a m)) = HasLetters a
-- nothing is left of what stands in front
HasLetters (Node at t (source.Comma a b)) = HasLetters b

abbrev pub Any : {A : Type 0} → (A → Type 0) → Option A → Type 0
Any P None = Unit {0}
Any P (Some x) = P x

-- ---- what is evaluated, in expressions with effects anywhere: of what stands for its effects alone nothing is asked where nothing is left of it

-- the first one if it is so, else the second one
abbrev pub Where : Bool → Type 0 → Type 0 → Type 0
Where true P Q = P
Where false P Q = Q

abbrev mutual
  pub ValueHasLetters : Expression → Type 0
  ValueHasLetters (Node at t (source.Number n k)) = Unit {0}
  ValueHasLetters (Node at t (source.Letter n)) = IsLetter n
  ValueHasLetters (Node at t (source.Text n)) = Unit {0}
  ValueHasLetters (Node at t (source.Variable x)) = Unit {0}
  ValueHasLetters (Node at t (source.Unary op a)) = ValueHasLetters a
  ValueHasLetters (Node at t (source.Binary op a b)) = ValueHasLetters a × ValueHasLetters b
  ValueHasLetters (Node at t (source.Both a b)) = ValueHasLetters a × ValueHasLetters b
  ValueHasLetters (Node at t (source.Either a b)) = ValueHasLetters a × ValueHasLetters b
  ValueHasLetters (Node at t (source.Choice a b c)) = ValueHasLetters a × ValueHasLetters b × ValueHasLetters c
  ValueHasLetters (Node at t (source.Assign op a b)) = ValueHasLetters a × ValueHasLetters b
  ValueHasLetters (Node at t (source.Bump op a)) = ValueHasLetters a
  ValueHasLetters (Node at t (source.Call f es)) = ValuesHaveLetters es
  ValueHasLetters (Node at t (source.Cast to a)) = ValueHasLetters a
  ValueHasLetters (Node at t (source.SizeOfType u)) = Unit {0}
  ValueHasLetters (Node at t (source.SizeOfExpr a)) = Unit {0}
  ValueHasLetters (Node at t (source.Index a b)) = ValueHasLetters a × ValueHasLetters b
  ValueHasLetters (Node at t (source.Dot a m)) = ValueHasLetters a
  ValueHasLetters (Node at t (source.Arrow a m)) = ValueHasLetters a
  ValueHasLetters (Node at t (source.Comma a b)) = ActHasLetters a × ValueHasLetters b

  pub ValuesHaveLetters : Expressions → Type 0
  ValuesHaveLetters NoExpression = Unit {0}
  ValuesHaveLetters (Following e es) = ValueHasLetters e × ValuesHaveLetters es

  -- of what is left of one that stands for its effects
  pub ActHasLetters : Expression → Type 0
  ActHasLetters (Node at t (source.Number n k)) = Unit {0}
  ActHasLetters (Node at t (source.Letter n)) = Unit {0}
  ActHasLetters (Node at t (source.Text n)) = Unit {0}
  ActHasLetters (Node at t (source.Variable x)) = Unit {0}
  ActHasLetters (Node at t (source.Unary op a)) = ActHasLetters a
  ActHasLetters (Node at t (source.Binary op a b)) = ActHasLetters a × ActHasLetters b
  ActHasLetters (Node at t (source.Both a b)) = Where (is_pure b) (ActHasLetters a) (ValueHasLetters a × ActHasLetters b)
  ActHasLetters (Node at t (source.Either a b)) = Where (is_pure b) (ActHasLetters a) (ValueHasLetters a × ActHasLetters b)
  ActHasLetters (Node at t (source.Choice a b c)) =
      Where (is_pure b && is_pure c) (ActHasLetters a) (ValueHasLetters a × ActHasLetters b × ActHasLetters c)
  ActHasLetters (Node at t (source.Assign op a b)) = ValueHasLetters a × ValueHasLetters b
  ActHasLetters (Node at t (source.Bump op a)) = ValueHasLetters a
  ActHasLetters (Node at t (source.Call f es)) = ValuesHaveLetters es
  ActHasLetters (Node at t (source.Cast to a)) = ActHasLetters a
  ActHasLetters (Node at t (source.SizeOfType u)) = Unit {0}
  ActHasLetters (Node at t (source.SizeOfExpr a)) = Unit {0}
  ActHasLetters (Node at t (source.Index a b)) = ActHasLetters a × ActHasLetters b
  ActHasLetters (Node at t (source.Dot a m)) = ActHasLetters a
  ActHasLetters (Node at t (source.Arrow a m)) = ActHasLetters a
  ActHasLetters (Node at t (source.Comma a b)) = ActHasLetters a × ActHasLetters b
