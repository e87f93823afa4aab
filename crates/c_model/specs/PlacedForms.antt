-- How many parts of what is read of annotations stand at an offset of the text: each begins at a token of its own, or has its operator there.
use Rattle.std.specs.Prelude.{ℕ, ◌+◌, ◌≤◌, cond, nat_eq, List, [], ◌∷◌, Option, Some, None}
use Rattle.c_syntax.specs.declared.place.Place.{Place}
use Rattle.c_syntax.specs.Formulas.{Form, Number, Letter, Truth, Name, Unary, Binary, Cast, SizeOf, Chain, Connected, Choice, Null}
use Rattle.c_syntax.specs.Formulas.{Index, Dot, Arrow, Told, Asks}
use Rattle.c_syntax.specs.Formulas.{Separated, Result, Old, At, Quantified, FormLinks, NoLink, Linked, FormZone, Object, Elements, FormZones, NoZone, Another}
use Rattle.c_syntax.specs.Logic.{ClauseBody, Raw, Holds, Value, Behaviors, Annotation}
use Rattle.c_syntax.specs.Statements as statement
use Rattle.c_syntax.specs.Statements.{Statement, Cases, ElsePart, ForFirst, BlockItem, BlockItems}
use Rattle.c_syntax.specs.Programs.{NamedBehavior, FunctionContract, Function}

-- one where a place has the offset
abbrev pub stands_at : ℕ → Place → ℕ
stands_at o at = cond (nat_eq at.offset o) 1 0

-- names, each with its place
abbrev pub names_at : ℕ → List (Place × ℕ) → ℕ
names_at o [] = 0
names_at o (x ∷ xs) = stands_at o x.0 + names_at o xs

-- ---- forms; a chain stands at its first relation, and the binders of a quantifier stand at their names

abbrev mutual
  pub nodes_at : ℕ → Form → ℕ
  nodes_at o (Number at n) = stands_at o at
  nodes_at o (Letter at n) = stands_at o at
  nodes_at o (Truth at b) = stands_at o at
  nodes_at o (Name at x) = stands_at o at
  nodes_at o (Unary at op a) = stands_at o at + nodes_at o a
  nodes_at o (Binary at op a b) = stands_at o at + (nodes_at o a + nodes_at o b)
  nodes_at o (Cast at to a) = stands_at o at + nodes_at o a
  nodes_at o (SizeOf at u) = stands_at o at
  nodes_at o (Chain at a links) = nodes_at o a + links_at o links
  nodes_at o (Connected at k a b) = stands_at o at + (nodes_at o a + nodes_at o b)
  nodes_at o (Choice at k a b) = stands_at o at + (nodes_at o k + (nodes_at o a + nodes_at o b))
  nodes_at o (Null at) = stands_at o at
  nodes_at o (Index at a b) = stands_at o at + (nodes_at o a + nodes_at o b)
  nodes_at o (Dot at a m) = stands_at o at + nodes_at o a
  nodes_at o (Arrow at a m) = stands_at o at + nodes_at o a
  nodes_at o (Told at f a) = stands_at o at + nodes_at o a
  nodes_at o (Asks at q z) = stands_at o at + zone_at o z
  nodes_at o (Separated at zs) = stands_at o at + zones_at o zs
  nodes_at o (Result at) = stands_at o at
  nodes_at o (Old at a) = stands_at o at + nodes_at o a
  nodes_at o (At at a place l) = stands_at o at + nodes_at o a
  nodes_at o (Quantified at q to names a) = stands_at o at + (names_at o names + nodes_at o a)

  pub links_at : ℕ → FormLinks → ℕ
  links_at o NoLink = 0
  links_at o (Linked at r a rest) = stands_at o at + (nodes_at o a + links_at o rest)

  pub zone_at : ℕ → FormZone → ℕ
  zone_at o (Object a) = nodes_at o a
  zone_at o (Elements at a lo hi) = stands_at o at + (nodes_at o a + (nodes_at o lo + nodes_at o hi))

  pub zones_at : ℕ → FormZones → ℕ
  zones_at o NoZone = 0
  zones_at o (Another z rest) = zone_at o z + zones_at o rest

-- ---- annotations

abbrev pub clause_at : ℕ → ClauseBody → ℕ
clause_at o (Raw f) = nodes_at o f
clause_at o (Holds p) = 0
clause_at o (Value t) = 0
clause_at o (Behaviors names) = 0

abbrev pub annotations_at : ℕ → List Annotation → ℕ
annotations_at o [] = 0
annotations_at o (a ∷ rest) = clause_at o a.body + annotations_at o rest

abbrev pub behaviors_at : ℕ → List NamedBehavior → ℕ
behaviors_at o [] = 0
behaviors_at o (b ∷ bs) = annotations_at o b.clauses + behaviors_at o bs

-- clauses that name behaviors have no form
abbrev pub contract_at : ℕ → Option FunctionContract → ℕ
contract_at o None = 0
contract_at o (Some c) = annotations_at o c.clauses + behaviors_at o c.behaviors

-- ---- statements

abbrev mutual
  pub statement_at : ℕ → Statement → ℕ
  statement_at o (statement.Empty at) = 0
  statement_at o (statement.Eval at e) = 0
  statement_at o (statement.Block at items) = items_at o items
  statement_at o (statement.If at e a b) = statement_at o a + else_at o b
  statement_at o (statement.While at annots e a) = annotations_at o annots + statement_at o a
  statement_at o (statement.Do at a e) = statement_at o a
  statement_at o (statement.For at annots first e step a) = annotations_at o annots + (first_at o first + statement_at o a)
  statement_at o (statement.Break at) = 0
  statement_at o (statement.Continue at) = 0
  statement_at o (statement.Return at e) = 0
  statement_at o (statement.Labelled at l a) = statement_at o a
  statement_at o (statement.Switch at e cases) = cases_at o cases

  pub cases_at : ℕ → Cases → ℕ
  cases_at o statement.NoCase = 0
  cases_at o (statement.AnotherCase at v items rest) = items_at o items + cases_at o rest

  pub else_at : ℕ → ElsePart → ℕ
  else_at o statement.NoElse = 0
  else_at o (statement.Else a) = statement_at o a

  pub first_at : ℕ → ForFirst → ℕ
  first_at o statement.NoFirst = 0
  first_at o (statement.First i) = item_at o i

  pub item_at : ℕ → BlockItem → ℕ
  item_at o (statement.Declare ds) = 0
  item_at o (statement.Specify at t) = 0
  item_at o (statement.Run a) = statement_at o a
  item_at o (statement.Asserts annots) = annotations_at o annots

  pub items_at : ℕ → BlockItems → ℕ
  items_at o statement.NoItem = 0
  items_at o (statement.Then i rest) = item_at o i + items_at o rest

-- ---- functions

abbrev pub body_at : ℕ → Option Statement → ℕ
body_at o None = 0
body_at o (Some a) = statement_at o a

abbrev pub functions_at : ℕ → List Function → ℕ
functions_at o [] = 0
functions_at o (f ∷ fs) = (contract_at o f.contract + body_at o f.body) + functions_at o fs

-- no two of them stand at one place
abbrev pub AnnotationsApart : List Function → Type 0
AnnotationsApart fs = (o : ℕ) → functions_at o fs ≤ 1
