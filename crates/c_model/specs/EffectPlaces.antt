-- Where annotations and declarations stand in a program: annotations are items of blocks and of cases, or stand before loops, and declarations are items
-- of blocks or stand first in a `for`. Effects stand anywhere in an expression.
use Rattle.std.specs.Prelude.{List}
use Rattle.c_syntax.specs.Logic.{Annotation}
use Rattle.c_syntax.specs.Statements.{Statement, Empty, Eval, Block, If, While, Do, For, Break, Continue, Return, Labelled, ElsePart, NoElse}
use Rattle.c_syntax.specs.Statements.{Else, Switch, Cases, NoCase, AnotherCase}
use Rattle.c_syntax.specs.Statements.{ForFirst, NoFirst, First, BlockItem, Declare, Specify, Run, Asserts, BlockItems, NoItem, Then}

abbrev pub FirstPlaced : ForFirst → Type 0
FirstPlaced NoFirst = Unit {0}
FirstPlaced (First (Run (Eval at e))) = Unit {0}
FirstPlaced (First (Declare ds)) = Unit {0}
FirstPlaced (First (Specify at t)) = Unit {0}
FirstPlaced _ = ⊥

abbrev pub IsNoDeclaration : BlockItem → Type 0
IsNoDeclaration (Declare ds) = ⊥
IsNoDeclaration (Specify at t) = ⊥
IsNoDeclaration (Run a) = Unit {0}
IsNoDeclaration (Asserts annots) = Unit {0}

abbrev pub DeclareNothing : BlockItems → Type 0
DeclareNothing NoItem = Unit {0}
DeclareNothing (Then i rest) = IsNoDeclaration i × DeclareNothing rest

-- the asserts and the annotations of loops of a tree being so, those that are read or those that are typed
module _ (AreSo AreLoops : List Annotation → Type 0) where
  abbrev mutual
    pub StatementPlaced : Statement → Type 0
    StatementPlaced (Empty at) = Unit {0}
    StatementPlaced (Eval at e) = Unit {0}
    StatementPlaced (Block at items) = ItemsPlaced items
    StatementPlaced (If at e a b) = StatementPlaced a × ElsePlaced b
    StatementPlaced (While at annots e a) = AreLoops annots × StatementPlaced a
    StatementPlaced (Do at a e) = StatementPlaced a
    StatementPlaced (For at annots first e step a) = AreLoops annots × FirstPlaced first × StatementPlaced a
    StatementPlaced (Break at) = Unit {0}
    StatementPlaced (Continue at) = Unit {0}
    StatementPlaced (Return at e) = Unit {0}
    StatementPlaced (Labelled at l a) = StatementPlaced a
    StatementPlaced (Switch at e cases) = CasesPlaced cases

    -- nothing is declared directly in a `switch`
    pub CasesPlaced : Cases → Type 0
    CasesPlaced NoCase = Unit {0}
    CasesPlaced (AnotherCase at v items rest) = DeclareNothing items × ItemsPlaced items × CasesPlaced rest

    pub ElsePlaced : ElsePart → Type 0
    ElsePlaced NoElse = Unit {0}
    ElsePlaced (Else a) = StatementPlaced a

    pub ItemsPlaced : BlockItems → Type 0
    ItemsPlaced NoItem = Unit {0}
    ItemsPlaced (Then i rest) = ItemPlaced i × ItemsPlaced rest

    pub ItemPlaced : BlockItem → Type 0
    ItemPlaced (Declare ds) = Unit {0}
    ItemPlaced (Specify at t) = Unit {0}
    ItemPlaced (Run a) = StatementPlaced a
    ItemPlaced (Asserts annots) = AreSo annots
