-- Expressions and initialisers without effects.
use Rattle.std.specs.Prelude.{◌≡◌, false}
use Rattle.c_syntax.specs.Expressions.{Expression, Node, Number, Letter, Text, Variable, Unary, Binary, Both, Either, Choice, Assign, Bump, Call}
use Rattle.c_syntax.specs.Expressions.{Cast, SizeOfType, SizeOfExpr, Index, Dot, Arrow, Comma}
use Rattle.c_syntax.specs.Statements.{Initialiser, One, Many, Initialisers, NoInitialiser, Listed}
use Rattle.c_model.specs.ExpressionTyping.{has_object}

-- an expression that has no effect and makes no call: what `sizeof` is of isn't evaluated (C99 6.5.3.4 p2), and a comma gives a value here, no object
abbrev pub IsPure : Expression → Type 0
IsPure (Node at t (Number n k)) = Unit {0}
IsPure (Node at t (Letter n)) = Unit {0}
IsPure (Node at t (Text n)) = Unit {0}
IsPure (Node at t (Variable x)) = Unit {0}
IsPure (Node at t (Unary op a)) = IsPure a
IsPure (Node at t (Binary op a b)) = IsPure a × IsPure b
IsPure (Node at t (Both a b)) = IsPure a × IsPure b
IsPure (Node at t (Either a b)) = IsPure a × IsPure b
IsPure (Node at t (Choice a b c)) = IsPure a × IsPure b × IsPure c
IsPure (Node at t (Assign op a b)) = ⊥
IsPure (Node at t (Bump op a)) = ⊥
IsPure (Node at t (Call f es)) = ⊥
IsPure (Node at t (Cast to a)) = IsPure a
IsPure (Node at t (SizeOfType u)) = Unit {0}
IsPure (Node at t (SizeOfExpr a)) = Unit {0}
IsPure (Node at t (Index a b)) = IsPure a × IsPure b
IsPure (Node at t (Dot a m)) = IsPure a
IsPure (Node at t (Arrow a m)) = IsPure a
IsPure (Node at t (Comma a b)) = IsPure a × IsPure b × (has_object b ≡ false)

abbrev mutual
  pub IsPureInitialiser : Initialiser → Type 0
  IsPureInitialiser (One e) = IsPure e
  IsPureInitialiser (Many brace is) = ArePureInitialisers is

  pub ArePureInitialisers : Initialisers → Type 0
  ArePureInitialisers NoInitialiser = Unit {0}
  ArePureInitialisers (Listed i is) = IsPureInitialiser i × ArePureInitialisers is
