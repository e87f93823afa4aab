-- The law that typing changes nothing of declarations, statements and functions (C99 6.7, 6.8, 6.9) but types, casts and constants, as it
-- does in expressions; braces around a string literal that fills an array are taken off (C99 6.7.8 p14).
use Rattle.std.specs.Prelude.{◌≡◌, ℤ, List, [], ◌∷◌, Option, Some, None}
use Rattle.c_syntax.specs.declared.place.Place.{Place}
use Rattle.c_syntax.specs.declared.types.CInt.{CInt}
use Rattle.c_syntax.specs.Ctypes.{PlainType, Int}
use Rattle.c_syntax.specs.Expressions.{Expression, Node, Number, place_of}
use Rattle.c_syntax.specs.Statements.{Switch, Cases, NoCase, AnotherCase}
use Rattle.c_syntax.specs.Statements.{Initialiser, One, Many, Initialisers, NoInitialiser, Listed, Declaration, Statement, Empty, Eval, Block, If, While, Do}
use Rattle.c_syntax.specs.Statements.{For, Break, Continue, Return, Labelled, ElsePart, NoElse, Else, ForFirst, NoFirst, First, BlockItem, Declare, Specify}
use Rattle.c_syntax.specs.Statements.{Run}
use Rattle.c_syntax.specs.Statements.{Asserts}
use Rattle.c_syntax.specs.Statements.{BlockItems, NoItem, Then}
use Rattle.c_syntax.specs.Programs.{EnumConstant, EnumType, Function}
use Rattle.c_model.specs.TypedTrees.{TypedAs}

abbrev pub MaybeTypedAs : Option Expression → Option Expression → Type 0
MaybeTypedAs None x = x ≡ None
MaybeTypedAs (Some e) x = (y : Expression) × (x ≡ Some y) × TypedAs e y

-- ---- declarations

-- a list in braces stays one, item by item, or is taken out of its braces
pub data BracesTypedAs (at : Place) (j : Initialiser) (InItems : Initialisers → Type 0) (Alone : Type 0) : Type 0 where
  InBraces : (js : Initialisers) → j ≡ Many at js → InItems js → BracesTypedAs at j InItems Alone
  WithoutBraces : Alone → BracesTypedAs at j InItems Alone

abbrev mutual
  pub InitialiserTypedAs : Initialiser → Initialiser → Type 0
  InitialiserTypedAs (One e) j = (x : Expression) × (j ≡ One x) × TypedAs e x
  InitialiserTypedAs (Many at is) j = BracesTypedAs at j (λ js. InitialisersTypedAs is js) (AloneTypedAs is j)

  pub InitialisersTypedAs : Initialisers → Initialisers → Type 0
  InitialisersTypedAs NoInitialiser js = js ≡ NoInitialiser
  InitialisersTypedAs (Listed i is) js =
      (k : Initialiser) × (ks : Initialisers) × (js ≡ Listed k ks) × InitialiserTypedAs i k × InitialisersTypedAs is ks

  -- the one item of a list
  pub AloneTypedAs : Initialisers → Initialiser → Type 0
  AloneTypedAs NoInitialiser j = ⊥
  AloneTypedAs (Listed i is) j = (is ≡ NoInitialiser) × InitialiserTypedAs i j

abbrev pub MaybeInitialiserTypedAs : Option (Place × Initialiser) → Option (Place × Initialiser) → Type 0
MaybeInitialiserTypedAs None j = j ≡ None
MaybeInitialiserTypedAs (Some i) j = (k : Initialiser) × (j ≡ Some (i.0, k)) × InitialiserTypedAs i.1 k

pub record DeclarationTypedAs (d e : Declaration) : Type 0 where
  pub place : e.place ≡ d.place
  pub name : e.name ≡ d.name
  pub named : e.named ≡ d.named
  pub init : MaybeInitialiserTypedAs d.init e.init

abbrev pub DeclarationsTypedAs : List Declaration → List Declaration → Type 0
DeclarationsTypedAs [] es = es ≡ []
DeclarationsTypedAs (d ∷ ds) es = (e : Declaration) × (fs : List Declaration) × (es ≡ e ∷ fs) × DeclarationTypedAs d e × DeclarationsTypedAs ds fs

-- a parameter and a name of a type have another type alone
pub record SameDeclaration (d e : Declaration) : Type 0 where
  pub place : e.place ≡ d.place
  pub name : e.name ≡ d.name
  pub named : e.named ≡ d.named
  pub init : e.init ≡ d.init

abbrev pub SameDeclarations : List Declaration → List Declaration → Type 0
SameDeclarations [] es = es ≡ []
SameDeclarations (d ∷ ds) es = (e : Declaration) × (fs : List Declaration) × (es ≡ e ∷ fs) × SameDeclaration d e × SameDeclarations ds fs

pub record EnumeratorTypedAs (c d : EnumConstant) : Type 0 where
  pub place : d.place ≡ c.place
  pub name : d.name ≡ c.name
  pub value : MaybeTypedAs c.value d.value

abbrev pub EnumeratorsTypedAs : List EnumConstant → List EnumConstant → Type 0
EnumeratorsTypedAs [] ds = ds ≡ []
EnumeratorsTypedAs (c ∷ cs) ds = (x : EnumConstant) × (xs : List EnumConstant) × (ds ≡ x ∷ xs) × EnumeratorTypedAs c x × EnumeratorsTypedAs cs xs

pub record EnumTypedAs (e f : EnumType) : Type 0 where
  pub place : f.place ≡ e.place
  pub tag : f.tag ≡ e.tag
  pub items : EnumeratorsTypedAs e.items f.items

-- ---- statements

-- what is behind `case`, and the number of a type that typing puts in its place
abbrev pub ValueTypedAs : Option Expression → Option Expression → Type 0
ValueTypedAs None x = x ≡ None
ValueTypedAs (Some e) x = (k : CInt) × (z : ℤ) × (x ≡ Some (Node (place_of e) (Int k) (Number z (Some k))))

abbrev mutual
  pub StatementTypedAs : Statement → Statement → Type 0
  StatementTypedAs (Empty at) b = b ≡ Empty at
  StatementTypedAs (Eval at e) b = (x : Expression) × (b ≡ Eval at x) × TypedAs e x
  StatementTypedAs (Block at items) b = (js : BlockItems) × (b ≡ Block at js) × ItemsTypedAs items js
  StatementTypedAs (If at e a c) b =
      (x : Expression) × (y : Statement) × (z : ElsePart) × (b ≡ If at x y z) × TypedAs e x × StatementTypedAs a y × ElseTypedAs c z
  StatementTypedAs (While at annots e a) b = (x : Expression) × (y : Statement) × (b ≡ While at annots x y) × TypedAs e x × StatementTypedAs a y
  StatementTypedAs (Do at a e) b = (y : Statement) × (x : Expression) × (b ≡ Do at y x) × StatementTypedAs a y × TypedAs e x
  StatementTypedAs (For at annots first e step a) b =
      (f : ForFirst) × (x : Option Expression) × (y : Option Expression) × (z : Statement) × (b ≡ For at annots f x y z)
      × FirstTypedAs first f × MaybeTypedAs e x × MaybeTypedAs step y × StatementTypedAs a z
  StatementTypedAs (Break at) b = b ≡ Break at
  StatementTypedAs (Continue at) b = b ≡ Continue at
  StatementTypedAs (Return at e) b = (x : Option Expression) × (b ≡ Return at x) × MaybeTypedAs e x
  StatementTypedAs (Labelled at l a) b = (y : Statement) × (b ≡ Labelled at l y) × StatementTypedAs a y
  StatementTypedAs (Switch at e cases) b = (x : Expression) × (cs : Cases) × (b ≡ Switch at x cs) × TypedAs e x × CasesTypedAs cases cs

  -- a number stands in place of what is behind `case`
  pub CasesTypedAs : Cases → Cases → Type 0
  CasesTypedAs NoCase cs = cs ≡ NoCase
  CasesTypedAs (AnotherCase at v items rest) cs =
      (x : Option Expression) × (js : BlockItems) × (ds : Cases) × (cs ≡ AnotherCase at x js ds) × ValueTypedAs v x × ItemsTypedAs items js
      × CasesTypedAs rest ds

  pub ElseTypedAs : ElsePart → ElsePart → Type 0
  ElseTypedAs NoElse b = b ≡ NoElse
  ElseTypedAs (Else a) b = (y : Statement) × (b ≡ Else y) × StatementTypedAs a y

  pub FirstTypedAs : ForFirst → ForFirst → Type 0
  FirstTypedAs NoFirst b = b ≡ NoFirst
  FirstTypedAs (First i) b = (j : BlockItem) × (b ≡ First j) × ItemTypedAs i j

  pub ItemTypedAs : BlockItem → BlockItem → Type 0
  ItemTypedAs (Declare ds) b = (es : List Declaration) × (b ≡ Declare es) × DeclarationsTypedAs ds es
  ItemTypedAs (Specify at t) b = (u : PlainType) × (b ≡ Specify at u)
  ItemTypedAs (Run a) b = (y : Statement) × (b ≡ Run y) × StatementTypedAs a y
  ItemTypedAs (Asserts annots) b = b ≡ Asserts annots

  pub ItemsTypedAs : BlockItems → BlockItems → Type 0
  ItemsTypedAs NoItem js = js ≡ NoItem
  ItemsTypedAs (Then i rest) js = (k : BlockItem) × (ks : BlockItems) × (js ≡ Then k ks) × ItemTypedAs i k × ItemsTypedAs rest ks

-- ---- functions

-- a body is a block
abbrev pub BodyTypedAs : Option Statement → Option Statement → Type 0
BodyTypedAs (Some (Block at items)) b = (js : BlockItems) × (b ≡ Some (Block at js)) × ItemsTypedAs items js
BodyTypedAs a b = b ≡ a

pub record FunctionTypedAs (f g : Function) : Type 0 where
  pub place : g.place ≡ f.place
  pub name : g.name ≡ f.name
  pub params : SameDeclarations f.params g.params
  pub contract : g.contract ≡ f.contract
  pub body : BodyTypedAs f.body g.body
  pub close : g.close ≡ f.close
