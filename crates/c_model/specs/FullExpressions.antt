-- The full expressions of initialisers, declarations and statements (C99 6.8 p4), where each is to be of a kind.
use Rattle.std.specs.Prelude.{List, [], ◌∷◌, Option, Some}
use Rattle.c_syntax.specs.declared.place.Place.{Place}
use Rattle.c_syntax.specs.Expressions.{Expression}
use Rattle.c_syntax.specs.Statements.{Switch, Cases, NoCase, AnotherCase}
use Rattle.c_syntax.specs.Statements.{Initialiser, One, Many, Initialisers, NoInitialiser, Listed, Declaration, Statement, Empty, Eval, Block, If, While, Do}
use Rattle.c_syntax.specs.Statements.{For, Break, Continue, Return, Labelled, ElsePart, NoElse, Else, ForFirst, NoFirst, First}
use Rattle.c_syntax.specs.Statements.{BlockItem, Declare, Specify, Run, Asserts, BlockItems, NoItem, Then}
use Rattle.c_syntax.specs.Programs.{Function, TranslationUnit}
use Rattle.c_model.specs.TypedTrees.{WhereAny}

module _ (P : Expression → Type 0) where
  abbrev mutual
    pub EachInitial : Initialiser → Type 0
    EachInitial (One e) = P e
    EachInitial (Many brace is) = EachPart is

    pub EachPart : Initialisers → Type 0
    EachPart NoInitialiser = Unit {0}
    EachPart (Listed i is) = EachInitial i × EachPart is

  abbrev pub EachInDeclaration : Declaration → Type 0
  EachInDeclaration d = WhereAny (λ (i : Place × Initialiser). EachInitial i.1) d.init

  abbrev pub EachDeclared : List Declaration → Type 0
  EachDeclared [] = Unit {0}
  EachDeclared (d ∷ ds) = EachInDeclaration d × EachDeclared ds

  abbrev mutual
    pub EachIn : Statement → Type 0
    EachIn (Empty at) = Unit {0}
    EachIn (Eval at e) = P e
    EachIn (Block at items) = EachInItems items
    EachIn (If at e a b) = P e × EachIn a × EachInElse b
    EachIn (While at annots e a) = P e × EachIn a
    EachIn (Do at a e) = EachIn a × P e
    EachIn (For at annots first e step a) = EachInFirst first × WhereAny P e × WhereAny P step × EachIn a
    EachIn (Break at) = Unit {0}
    EachIn (Continue at) = Unit {0}
    EachIn (Return at e) = WhereAny P e
    EachIn (Labelled at l a) = EachIn a
    EachIn (Switch at e cases) = P e × EachInCases cases

    -- what stands behind `case` is a constant, and no full expression (C99 6.8 p4)
    pub EachInCases : Cases → Type 0
    EachInCases NoCase = Unit {0}
    EachInCases (AnotherCase at v items rest) = EachInItems items × EachInCases rest

    pub EachInElse : ElsePart → Type 0
    EachInElse NoElse = Unit {0}
    EachInElse (Else a) = EachIn a

    pub EachInFirst : ForFirst → Type 0
    EachInFirst NoFirst = Unit {0}
    EachInFirst (First i) = EachInItem i

    pub EachInItem : BlockItem → Type 0
    EachInItem (Declare ds) = EachDeclared ds
    EachInItem (Specify at t) = Unit {0}
    EachInItem (Run a) = EachIn a
    EachInItem (Asserts annots) = Unit {0}

    pub EachInItems : BlockItems → Type 0
    EachInItems NoItem = Unit {0}
    EachInItems (Then i rest) = EachInItem i × EachInItems rest

  -- a body is a block (C99 6.9.1)
  abbrev pub EachInBody : Option Statement → Type 0
  EachInBody (Some (Block at items)) = EachInItems items
  EachInBody _ = Unit {0}

  abbrev pub EachInFunctions : List Function → Type 0
  EachInFunctions [] = Unit {0}
  EachInFunctions (f ∷ fs) = EachInBody f.body × EachInFunctions fs

  -- of a program
  pub record EachExpression (p : TranslationUnit) : Type 0 where
    pub globals : EachDeclared p.globals
    pub funcs : EachInFunctions p.funcs
