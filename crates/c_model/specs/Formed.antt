-- Parts of programs: names, the depth of statements, how many forms expressions and how many tokens annotations have, the asserts that are built,
-- what a function declares, and the numbers of declarations.
use Rattle.std.specs.List.{AllByRecursion}
use Rattle.std.specs.Prelude.{◌≡◌, true, false, nat_eq, ℕ, suc, max, ◌<◌, nat_lt, length, ◌+◌, ◌++◌, ◌^◌, ◌-◌, ◌≤◌, ℤ, negsuc, ◌≤ℤ◌, List, [], ◌∷◌, map}
use Rattle.std.specs.Prelude.{Option, Some, None, ◌⊎◌, ◌*◌}
use Rattle.std.specs.Prelude.{if◌then◌else◌}
use Rattle.c_syntax.specs.declared.place.Place.{Place}
use Rattle.c_syntax.specs.declared.annotation.Kind.{Kind}
use Rattle.c_syntax.specs.declared.annotation.Kind.TheVariants.{Assert, Invariant, Variant}
use Rattle.c_syntax.specs.declared.expression.BinOp.{BinOp}
use Rattle.c_syntax.specs.declared.expression.BinOp.TheVariants as operator
use Rattle.c_syntax.specs.Expressions.{Expression, Node, Number, Letter, Variable, Unary, Binary, Both, Either, Choice, Assign, Bump, Call, Cast, SizeOfType}
use Rattle.c_syntax.specs.Expressions.{SizeOfExpr, Text, Index, Dot, Arrow, Comma, Expressions, NoExpression, Following}
use Rattle.c_syntax.specs.Formulas as formula
use Rattle.c_syntax.specs.Formulas.{Form, FormLinks, FormZone, FormZones}
use Rattle.c_syntax.specs.Logic as logic
use Rattle.c_syntax.specs.Logic.{LogicTerm, Predicate, Links, NoLink, Linked, Guards, NoGuard, Guarded, ClauseBody, Raw, Holds, Annotation, Behaviors, Zone}
use Rattle.c_syntax.specs.Logic.{Zones}
use Rattle.c_syntax.specs.Statements.{Declaration, Statement, Empty, Eval, Block, If, While, Do, For, Break, Continue, Return, ElsePart, Labelled, Switch}
use Rattle.c_syntax.specs.Statements.{Cases, NoCase, AnotherCase}
use Rattle.c_syntax.specs.Statements.{NoElse, Else, ForFirst, NoFirst, First, BlockItem, Declare, Specify, Run, Asserts, BlockItems, NoItem, Then}
use Rattle.c_syntax.specs.Programs.{Function}
use Rattle.c_model.specs.Characters.{is_part}
use Rattle.c_model.specs.ContractChecks.{result_number}
use Rattle.c_model.specs.ExpressionTyping.{name_at}

-- ---- names and depth

-- a name: letters, digits and `_` (C99 6.4.2.1), at most 255 of them
pub record IsName (w : List ℕ) : Type 0 where
  pub parts : AllByRecursion (λ b. is_part b ≡ true) w
  pub not_empty : 0 < length w
  pub short : length w ≤ 255

-- how deep statements stand in a statement, itself included: one that is directly inside another is one deeper
abbrev mutual
  pub depth : Statement → ℕ
  depth (Empty at) = 1
  depth (Eval at e) = 1
  depth (Block at items) = 1 + depth_of_items items
  depth (If at e a b) = 1 + max (depth a) (depth_of_else b)
  depth (While at annots e a) = 1 + depth a
  depth (Do at a e) = 1 + depth a
  depth (For at annots first e behind a) = 1 + depth a
  depth (Break at) = 1
  depth (Continue at) = 1
  depth (Return at e) = 1
  depth (Labelled at l a) = 1 + depth a
  depth (Switch at e cases) = 1 + depth_of_cases cases

  pub depth_of_cases : Cases → ℕ
  depth_of_cases NoCase = 0
  depth_of_cases (AnotherCase at v items rest) = max (depth_of_items items) (depth_of_cases rest)

  pub depth_of_else : ElsePart → ℕ
  depth_of_else NoElse = 0
  depth_of_else (Else a) = depth a

  pub depth_of_items : BlockItems → ℕ
  depth_of_items NoItem = 0
  depth_of_items (Then i rest) = max (depth_of_item i) (depth_of_items rest)

  pub depth_of_item : BlockItem → ℕ
  depth_of_item (Declare decls) = 0
  depth_of_item (Specify at t) = 0
  depth_of_item (Run a) = depth a
  depth_of_item (Asserts annots) = 0

-- ---- expressions

-- how many forms an expression has, itself included
abbrev mutual
  pub nodes_of : Expression → ℕ
  nodes_of (Node at t (Number n k)) = 1
  nodes_of (Node at t (Letter n)) = 1
  nodes_of (Node at t (Variable x)) = 1
  nodes_of (Node at t (Unary op a)) = suc (nodes_of a)
  nodes_of (Node at t (Binary op a b)) = suc (nodes_of a + nodes_of b)
  nodes_of (Node at t (Both a b)) = suc (nodes_of a + nodes_of b)
  nodes_of (Node at t (Either a b)) = suc (nodes_of a + nodes_of b)
  nodes_of (Node at t (Choice a b c)) = suc (nodes_of a + (nodes_of b + nodes_of c))
  nodes_of (Node at t (Assign op a b)) = suc (nodes_of a + nodes_of b)
  nodes_of (Node at t (Bump op a)) = suc (nodes_of a)
  nodes_of (Node at t (Call f es)) = suc (nodes_of_all es)
  nodes_of (Node at t (Cast to a)) = suc (nodes_of a)
  nodes_of (Node at t (SizeOfType u)) = 1
  nodes_of (Node at t (SizeOfExpr a)) = suc (nodes_of a)
  nodes_of (Node at t (Text n)) = 1
  nodes_of (Node at t (Index a b)) = suc (nodes_of a + nodes_of b)
  nodes_of (Node at t (Dot a m)) = suc (nodes_of a)
  nodes_of (Node at t (Arrow a m)) = suc (nodes_of a)
  nodes_of (Node at t (Comma a b)) = suc (nodes_of a + nodes_of b)

  pub nodes_of_all : Expressions → ℕ
  nodes_of_all NoExpression = 0
  nodes_of_all (Following e es) = nodes_of e + nodes_of_all es

-- ---- tokens of annotations

-- the levels of the operators of terms: those of the lowest bind closest (C99 6.5.5 to 6.5.12)
abbrev pub level_of : BinOp → ℕ
level_of operator.Mul = 0
level_of operator.Div = 0
level_of operator.Rem = 0
level_of operator.Add = 1
level_of operator.Sub = 1
level_of operator.Shl = 2
level_of operator.Shr = 2
level_of operator.Lt = 3
level_of operator.Le = 3
level_of operator.Gt = 3
level_of operator.Ge = 3
level_of operator.Eq = 4
level_of operator.Ne = 4
level_of operator.BitAnd = 5
level_of operator.BitXor = 6
level_of operator.BitOr = 7

-- the operator of a term that has two operands
abbrev pub operator_of_term : LogicTerm → Option BinOp
operator_of_term (logic.Binary at t r op a b) = Some op
operator_of_term _ = None

-- the tokens of the parentheses around an operand: none where it has no operator, or one below this level
abbrev pub parentheses_around : ℕ → Option BinOp → ℕ
parentheses_around level None = 0
parentheses_around level (Some op) = if nat_lt (level_of op) level then 0 else 2

-- how many tokens a term or a predicate has at least: one for each form, itself included, and those of the parentheses around right operands whose
-- operators bind no closer; that a term is a predicate where it isn't 0 is no form of its own
abbrev mutual
  pub tokens_of_term : LogicTerm → ℕ
  tokens_of_term (logic.Number at t r n) = 1
  tokens_of_term (logic.Letter at t r n) = 1
  tokens_of_term (logic.Variable at t r x) = 1
  tokens_of_term (logic.Unary at t r op a) = suc (tokens_of_term a)
  tokens_of_term (logic.Binary at t r op a b) = suc (tokens_of_term a + tokens_of_term b + parentheses_around (level_of op) (operator_of_term b))
  tokens_of_term (logic.Cast at t r to a) = suc (tokens_of_term a)
  tokens_of_term (logic.Choice at t r c a b) = suc (tokens_of_predicate c + tokens_of_term a + tokens_of_term b)
  tokens_of_term (logic.Named at t r x) = 1
  -- a parameter in an `ensures` is one token
  tokens_of_term (logic.At at t r l a) = tokens_of_term a
  tokens_of_term (logic.Null at t r) = 1
  tokens_of_term (logic.Deref at t r a) = suc (tokens_of_term a)
  tokens_of_term (logic.Member at t r d a) = suc (tokens_of_term a)
  tokens_of_term (logic.Address at t r a) = suc (tokens_of_term a)
  tokens_of_term (logic.Moved at t r op n a b) = suc (tokens_of_term a + tokens_of_term b)
  tokens_of_term (logic.Difference at t r n a b) = suc (tokens_of_term a + tokens_of_term b)
  tokens_of_term (logic.Told at t r f a) = suc (tokens_of_term a)

  pub tokens_of_zone : Zone → ℕ
  tokens_of_zone (logic.Object at n m a) = tokens_of_term a
  tokens_of_zone (logic.Elements at n m a lo hi) = suc (tokens_of_term a + tokens_of_term lo + tokens_of_term hi)

  pub tokens_of_zones : Zones → ℕ
  tokens_of_zones logic.NoZone = 0
  tokens_of_zones (logic.Another z rest) = suc (tokens_of_zone z + tokens_of_zones rest)

  pub tokens_of_links : Links → ℕ
  tokens_of_links NoLink = 0
  tokens_of_links (Linked at r t rest) = suc (tokens_of_term t + tokens_of_links rest)

  pub tokens_of_predicate : Predicate → ℕ
  tokens_of_predicate (logic.Truth at b) = 1
  tokens_of_predicate (logic.NonZero at t) = tokens_of_term t
  tokens_of_predicate (logic.Chain at t links) = tokens_of_term t + tokens_of_links links
  tokens_of_predicate (logic.Not at p) = suc (tokens_of_predicate p)
  tokens_of_predicate (logic.Connected at c p q) = suc (tokens_of_predicate p + tokens_of_predicate q)
  tokens_of_predicate (logic.Branch at c p q) = suc (tokens_of_predicate c + tokens_of_predicate p + tokens_of_predicate q)
  tokens_of_predicate (logic.Quantified at q gs p) = suc (tokens_of_guards gs + tokens_of_predicate p)
  tokens_of_predicate (logic.Asks at f z) = suc (tokens_of_zone z)
  tokens_of_predicate (logic.Separated at zs) = suc (tokens_of_zones zs)

  -- a binder and the sign before it are two
  pub tokens_of_guards : Guards → ℕ
  tokens_of_guards NoGuard = 0
  tokens_of_guards (Guarded a y ys below b rest) = 2 * length (y ∷ ys) + tokens_of_term a + tokens_of_term b + tokens_of_guards rest

-- a literal, an enumerator or a constant of the library: not below the least value of 64 bits
pub record IsLogicNumber (z : ℤ) : Type 0 where
  pub low : negsuc (2 ^ 63 - 1) ≤ℤ z

abbrev mutual
  pub TermNumbered : LogicTerm → Type 0
  TermNumbered (logic.Number at t r z) = IsLogicNumber z
  TermNumbered (logic.Letter at t r z) = IsLogicNumber z
  TermNumbered (logic.Variable at t r x) = Unit {0}
  TermNumbered (logic.Unary at t r op a) = TermNumbered a
  TermNumbered (logic.Binary at t r op a b) = TermNumbered a × TermNumbered b
  TermNumbered (logic.Cast at t r to a) = TermNumbered a
  TermNumbered (logic.Choice at t r c a b) = PredicateNumbered c × TermNumbered a × TermNumbered b
  TermNumbered (logic.Named at t r x) = Unit {0}
  TermNumbered (logic.At at t r l a) = TermNumbered a
  TermNumbered (logic.Null at t r) = Unit {0}
  TermNumbered (logic.Deref at t r a) = TermNumbered a
  TermNumbered (logic.Member at t r d a) = TermNumbered a
  TermNumbered (logic.Address at t r a) = TermNumbered a
  TermNumbered (logic.Moved at t r op n a b) = TermNumbered a × TermNumbered b
  TermNumbered (logic.Difference at t r n a b) = TermNumbered a × TermNumbered b
  TermNumbered (logic.Told at t r f a) = TermNumbered a

  pub ZoneNumbered : Zone → Type 0
  ZoneNumbered (logic.Object at n m a) = TermNumbered a
  ZoneNumbered (logic.Elements at n m a lo hi) = TermNumbered a × TermNumbered lo × TermNumbered hi

  pub ZonesNumbered : Zones → Type 0
  ZonesNumbered logic.NoZone = Unit {0}
  ZonesNumbered (logic.Another z rest) = ZoneNumbered z × ZonesNumbered rest

  pub LinksNumbered : Links → Type 0
  LinksNumbered NoLink = Unit {0}
  LinksNumbered (Linked at r t rest) = TermNumbered t × LinksNumbered rest

  pub PredicateNumbered : Predicate → Type 0
  PredicateNumbered (logic.Truth at b) = Unit {0}
  PredicateNumbered (logic.NonZero at t) = TermNumbered t
  PredicateNumbered (logic.Chain at t links) = TermNumbered t × LinksNumbered links
  PredicateNumbered (logic.Not at p) = PredicateNumbered p
  PredicateNumbered (logic.Connected at c p q) = PredicateNumbered p × PredicateNumbered q
  PredicateNumbered (logic.Branch at c p q) = PredicateNumbered c × PredicateNumbered p × PredicateNumbered q
  PredicateNumbered (logic.Quantified at q gs p) = GuardsNumbered gs × PredicateNumbered p
  PredicateNumbered (logic.Asks at f z) = ZoneNumbered z
  PredicateNumbered (logic.Separated at zs) = ZonesNumbered zs

  pub GuardsNumbered : Guards → Type 0
  GuardsNumbered NoGuard = Unit {0}
  GuardsNumbered (Guarded a y ys below b rest) = TermNumbered a × TermNumbered b × GuardsNumbered rest

-- a predicate that a clause of at most 400 tokens says
pub record IsShortPredicate (p : Predicate) : Type 0 where
  pub numbered : PredicateNumbered p
  pub short : tokens_of_predicate p ≤ 400

abbrev pub IsShortClause : ClauseBody → Type 0
IsShortClause (Raw f) = ⊥
IsShortClause (Holds p) = IsShortPredicate p
IsShortClause (logic.Value t) = TermNumbered t × (tokens_of_term t ≤ 400)
IsShortClause (Behaviors names) = ⊥

pub record IsAssert (a : Annotation) : Type 0 where
  pub kind : a.kind ≡ Assert
  pub body : IsShortClause a.body

abbrev pub AreAsserts : List Annotation → Type 0
AreAsserts [] = Unit {0}
AreAsserts (a ∷ rest) = IsAssert a × AreAsserts rest

-- the kind of a clause of a loop (ACSL 2.4.2): an invariant is a predicate, and a variant is a term
abbrev pub IsLoopKind : ClauseBody → Kind → Type 0
IsLoopKind (Raw f) k = ⊥
IsLoopKind (Holds p) k = k ≡ Invariant
IsLoopKind (logic.Value t) k = k ≡ Variant
IsLoopKind (Behaviors names) k = ⊥

pub record IsLoopClause (a : Annotation) : Type 0 where
  pub kind : IsLoopKind a.body a.kind
  pub body : IsShortClause a.body

abbrev pub AreLoopClauses : List Annotation → Type 0
AreLoopClauses [] = Unit {0}
AreLoopClauses (a ∷ rest) = IsLoopClause a × AreLoopClauses rest

-- ---- annotations as they are read, before they are typed

-- the operator of a form that has two operands
abbrev pub operator_of_form : Form → Option BinOp
operator_of_form (formula.Binary at op a b) = Some op
operator_of_form _ = None

-- how many tokens one has at least, as above; what typing makes of it has no more
abbrev mutual
  pub tokens_of_form : Form → ℕ
  tokens_of_form (formula.Number at n) = 1
  tokens_of_form (formula.Letter at n) = 1
  tokens_of_form (formula.Truth at b) = 1
  tokens_of_form (formula.Name at x) = 1
  tokens_of_form (formula.Unary at op a) = suc (tokens_of_form a)
  tokens_of_form (formula.Binary at op a b) = suc (tokens_of_form a + tokens_of_form b + parentheses_around (level_of op) (operator_of_form b))
  tokens_of_form (formula.Cast at to a) = suc (tokens_of_form a)
  tokens_of_form (formula.SizeOf at t) = 1
  tokens_of_form (formula.Chain at a links) = tokens_of_form a + tokens_of_form_links links
  tokens_of_form (formula.Connected at c a b) = suc (tokens_of_form a + tokens_of_form b)
  tokens_of_form (formula.Choice at c a b) = suc (tokens_of_form c + tokens_of_form a + tokens_of_form b)
  tokens_of_form (formula.Null at) = 1
  -- two brackets, and an arrow and a name
  tokens_of_form (formula.Index at a b) = suc (suc (tokens_of_form a + tokens_of_form b))
  tokens_of_form (formula.Dot at a m) = suc (tokens_of_form a)
  tokens_of_form (formula.Arrow at a m) = suc (suc (tokens_of_form a))
  tokens_of_form (formula.Told at f a) = suc (tokens_of_form a)
  tokens_of_form (formula.Asks at q z) = suc (tokens_of_form_zone z)
  tokens_of_form (formula.Separated at zs) = suc (tokens_of_form_zones zs)
  tokens_of_form (formula.Result at) = 1
  tokens_of_form (formula.Old at a) = suc (tokens_of_form a)
  tokens_of_form (formula.At at a place l) = suc (tokens_of_form a)
  tokens_of_form (formula.Quantified at q to names a) = suc (tokens_of_form a)

  pub tokens_of_form_links : FormLinks → ℕ
  tokens_of_form_links formula.NoLink = 0
  tokens_of_form_links (formula.Linked at r a rest) = suc (tokens_of_form a + tokens_of_form_links rest)

  pub tokens_of_form_zone : FormZone → ℕ
  tokens_of_form_zone (formula.Object a) = tokens_of_form a
  tokens_of_form_zone (formula.Elements at a lo hi) = suc (tokens_of_form a + tokens_of_form lo + tokens_of_form hi)

  pub tokens_of_form_zones : FormZones → ℕ
  tokens_of_form_zones formula.NoZone = 0
  tokens_of_form_zones (formula.Another z rest) = suc (tokens_of_form_zone z + tokens_of_form_zones rest)

-- a binder, whose number is an offset in the text, has not that of `\result`
abbrev pub IsApart : Place → Type 0
IsApart at = nat_eq at.offset result_number ≡ false

abbrev pub AreApart : List (Place × ℕ) → Type 0
AreApart [] = Unit {0}
AreApart (b ∷ bs) = IsApart b.0 × AreApart bs

abbrev mutual
  pub FormNumbered : Form → Type 0
  FormNumbered (formula.Number at z) = IsLogicNumber z
  FormNumbered (formula.Letter at z) = IsLogicNumber z
  FormNumbered (formula.Truth at b) = Unit {0}
  FormNumbered (formula.Name at x) = Unit {0}
  FormNumbered (formula.Unary at op a) = FormNumbered a
  FormNumbered (formula.Binary at op a b) = FormNumbered a × FormNumbered b
  FormNumbered (formula.Cast at to a) = FormNumbered a
  FormNumbered (formula.SizeOf at t) = Unit {0}
  FormNumbered (formula.Chain at a links) = FormNumbered a × FormLinksNumbered links
  FormNumbered (formula.Connected at c a b) = FormNumbered a × FormNumbered b
  FormNumbered (formula.Choice at c a b) = FormNumbered c × FormNumbered a × FormNumbered b
  FormNumbered (formula.Null at) = Unit {0}
  FormNumbered (formula.Index at a b) = FormNumbered a × FormNumbered b
  FormNumbered (formula.Dot at a m) = FormNumbered a
  FormNumbered (formula.Arrow at a m) = FormNumbered a
  FormNumbered (formula.Told at f a) = FormNumbered a
  FormNumbered (formula.Asks at q z) = FormZoneNumbered z
  FormNumbered (formula.Separated at zs) = FormZonesNumbered zs
  FormNumbered (formula.Result at) = Unit {0}
  FormNumbered (formula.Old at a) = FormNumbered a
  FormNumbered (formula.At at a place l) = FormNumbered a
  FormNumbered (formula.Quantified at q to names a) = AreApart names × FormNumbered a

  pub FormLinksNumbered : FormLinks → Type 0
  FormLinksNumbered formula.NoLink = Unit {0}
  FormLinksNumbered (formula.Linked at r a rest) = FormNumbered a × FormLinksNumbered rest

  pub FormZoneNumbered : FormZone → Type 0
  FormZoneNumbered (formula.Object a) = FormNumbered a
  FormZoneNumbered (formula.Elements at a lo hi) = FormNumbered a × FormNumbered lo × FormNumbered hi

  pub FormZonesNumbered : FormZones → Type 0
  FormZonesNumbered formula.NoZone = Unit {0}
  FormZonesNumbered (formula.Another z rest) = FormZoneNumbered z × FormZonesNumbered rest

-- what a clause of at most 400 tokens is read as
pub record IsShortForm (f : Form) : Type 0 where
  pub numbered : FormNumbered f
  pub short : tokens_of_form f ≤ 400

abbrev pub IsShortReading : ClauseBody → Type 0
IsShortReading (Raw f) = IsShortForm f
IsShortReading (Holds p) = ⊥
IsShortReading (logic.Value t) = ⊥
IsShortReading (Behaviors names) = ⊥

pub record IsReadAssert (a : Annotation) : Type 0 where
  pub kind : a.kind ≡ Assert
  pub body : IsShortReading a.body

abbrev pub AreReadAsserts : List Annotation → Type 0
AreReadAsserts [] = Unit {0}
AreReadAsserts (a ∷ rest) = IsReadAssert a × AreReadAsserts rest

-- a clause of a loop as it is read
pub record IsReadLoopClause (a : Annotation) : Type 0 where
  pub kind : (a.kind ≡ Invariant) ⊎ (a.kind ≡ Variant)
  pub body : IsShortReading a.body

abbrev pub AreReadLoopClauses : List Annotation → Type 0
AreReadLoopClauses [] = Unit {0}
AreReadLoopClauses (a ∷ rest) = IsReadLoopClause a × AreReadLoopClauses rest

-- ---- sizes and names

-- a form has a token of its own, and an expression 400 of these
abbrev pub most_read : ℕ
most_read = 400

-- what is declared has names of C (C99 6.4.2.1)
abbrev pub AreNamed : List (List ℕ) → List Declaration → Type 0
AreNamed names [] = Unit {0}
AreNamed names (d ∷ ds) = IsName (name_at names d.name) × AreNamed names ds

-- parameters may have none
abbrev pub AreNamedParameters : List (List ℕ) → List Declaration → Type 0
AreNamedParameters names [] = Unit {0}
AreNamedParameters names (d ∷ ds) = (d.named ≡ true → IsName (name_at names d.name)) × AreNamedParameters names ds

-- all declarations in a statement, in text order
abbrev mutual
  pub declared_within : Statement → List Declaration
  declared_within (Empty at) = []
  declared_within (Eval at e) = []
  declared_within (Block at items) = declared_in_items items
  declared_within (If at e a b) = declared_within a ++ declared_in_else b
  declared_within (While at annots e a) = declared_within a
  declared_within (Do at a e) = declared_within a
  declared_within (For at annots first e step a) = declared_in_first first ++ declared_within a
  declared_within (Break at) = []
  declared_within (Continue at) = []
  declared_within (Return at e) = []
  declared_within (Labelled at l a) = declared_within a
  declared_within (Switch at e cases) = declared_in_cases cases

  pub declared_in_cases : Cases → List Declaration
  declared_in_cases NoCase = []
  declared_in_cases (AnotherCase at v items rest) = declared_in_items items ++ declared_in_cases rest

  pub declared_in_else : ElsePart → List Declaration
  declared_in_else NoElse = []
  declared_in_else (Else a) = declared_within a

  pub declared_in_first : ForFirst → List Declaration
  declared_in_first NoFirst = []
  declared_in_first (First i) = declared_in_item i

  pub declared_in_item : BlockItem → List Declaration
  declared_in_item (Declare ds) = ds
  declared_in_item (Specify at t) = []
  declared_in_item (Run a) = declared_within a
  declared_in_item (Asserts annots) = []

  pub declared_in_items : BlockItems → List Declaration
  declared_in_items NoItem = []
  declared_in_items (Then i rest) = declared_in_item i ++ declared_in_items rest

abbrev pub declared_in_body : Option Statement → List Declaration
declared_in_body None = []
declared_in_body (Some a) = declared_within a

-- functions and what they declare have names of C
pub record FunctionNamed (names : List (List ℕ)) (f : Function) : Type 0 where
  pub name : IsName (name_at names f.name)
  pub params : AreNamedParameters names f.params
  pub body : AreNamed names (declared_in_body f.body)

abbrev pub FunctionsNamed : List (List ℕ) → List Function → Type 0
FunctionsNamed names [] = Unit {0}
FunctionsNamed names (f ∷ fs) = FunctionNamed names f × FunctionsNamed names fs

-- ---- numbers of declarations, which are their places in the text

abbrev pub number_of : Declaration → ℕ
number_of d = d.place.offset

-- the numbers of a function and of all that it declares, in text order
abbrev pub numbers_of : Function → List ℕ
numbers_of f = f.place.offset ∷ map number_of (f.params ++ declared_in_body f.body)

-- each number is above those before it, and not below this one
abbrev pub Ascend : ℕ → List ℕ → Type 0
Ascend least [] = Unit {0}
Ascend least (n ∷ ns) = (least ≤ n) × Ascend (suc n) ns
