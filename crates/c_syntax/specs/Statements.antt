-- The plain form of declarations and statements (C99 6.7, 6.8): without boxes and vectors.
use Rattle.std.specs.Prelude.{ℕ, Bool, List, [], ◌∷◌, map, Option, Some, None, option_map}
use Rattle.c_syntax.specs.declared.place.Place.{Place}
use Rattle.c_syntax.specs.declared.statement.Decl.{Decl}
use Rattle.c_syntax.specs.declared.statement.Init.{Init, Row_of-Init, end_of-Init, more_of-Init}
use Rattle.c_syntax.specs.declared.statement.Init as init
use Rattle.c_syntax.specs.declared.statement.Case.{Case}
use Rattle.c_syntax.specs.declared.statement.Item.{Item}
use Rattle.c_syntax.specs.declared.statement.Item as item
use Rattle.c_syntax.specs.declared.statement.Stmt.{Stmt}
use Rattle.c_syntax.specs.declared.statement.StmtKind.{StmtKind, Held-StmtKind-If-2, Held-StmtKind-For-1, Row_of-Item, end_of-Item, more_of-Item}
use Rattle.c_syntax.specs.declared.statement.StmtKind.{Row_of-Case, end_of-Case, more_of-Case}
use Rattle.c_syntax.specs.declared.statement.StmtKind as code
use Rattle.c_syntax.specs.Ctypes.{PlainType, plain_type}
use Rattle.c_syntax.specs.Expressions.{Expression, plain_expr}
use Rattle.c_syntax.specs.Logic.{Annotation, plain_annot}

mutual
  pub data Initialiser : Type 0 where
    One : Expression → Initialiser
    -- a list in braces, at its `{`
    Many : Place → Initialisers → Initialiser

  pub data Initialisers : Type 0 where
    NoInitialiser : Initialisers
    Listed : Initialiser → Initialisers → Initialisers

pub record Declaration : Type 0 where
  pub place : Place
  pub name : ℕ
  pub named : Bool
  pub ctype : PlainType
  -- the place of its `=`, and what stands after it
  pub init : Option (Place × Initialiser)

mutual
  pub data Statement : Type 0 where
    Empty : Place → Statement
    Eval : Place → Expression → Statement
    Block : Place → BlockItems → Statement
    If : Place → Expression → Statement → ElsePart → Statement
    While : Place → List Annotation → Expression → Statement → Statement
    Do : Place → Statement → Expression → Statement
    For : Place → List Annotation → ForFirst → Option Expression → Option Expression → Statement → Statement
    Break : Place → Statement
    Continue : Place → Statement
    Return : Place → Option Expression → Statement
    -- a label, by the number of its name
    Labelled : Place → ℕ → Statement → Statement
    Switch : Place → Expression → Cases → Statement

  -- the cases of a `switch`, each at its word, with its value, or none for `default`, and its items
  pub data Cases : Type 0 where
    NoCase : Cases
    AnotherCase : Place → Option Expression → BlockItems → Cases → Cases

  pub data ElsePart : Type 0 where
    NoElse : ElsePart
    Else : Statement → ElsePart

  -- what stands first in the parentheses of a `for`
  pub data ForFirst : Type 0 where
    NoFirst : ForFirst
    First : BlockItem → ForFirst

  pub data BlockItem : Type 0 where
    Declare : List Declaration → BlockItem
    -- a declaration without declarators, at its `;`, of this type (C99 6.7 p2)
    Specify : Place → PlainType → BlockItem
    Run : Statement → BlockItem
    Asserts : List Annotation → BlockItem

  pub data BlockItems : Type 0 where
    NoItem : BlockItems
    Then : BlockItem → BlockItems → BlockItems

abbrev mutual
  pub plain_init : Init → Initialiser
  plain_init (init.One e) = One (plain_expr e)
  plain_init (init.Many' at shape row) = Many at (plain_init_row row)

  pub plain_init_row : {m : _} → Row_of-Init m → Initialisers
  plain_init_row end_of-Init = NoInitialiser
  plain_init_row (more_of-Init i rest) = Listed (plain_init i) (plain_init_row rest)

abbrev pub plain_inits : List Init → Initialisers
plain_inits [] = NoInitialiser
plain_inits (i ∷ is) = Listed (plain_init i) (plain_inits is)

abbrev pub plain_decl : Decl → Declaration
plain_decl d = record {
  place = d.place;
  name = d.name;
  named = d.named;
  ctype = plain_type d.ctype;
  init = option_map (λ i. (i.0, plain_init i.1)) d.init;
}

abbrev mutual
  pub plain_stmt_kind : Place → StmtKind → Statement
  plain_stmt_kind at code.Empty = Empty at
  plain_stmt_kind at (code.Eval e) = Eval at (plain_expr e)
  plain_stmt_kind at (code.Block' shape row) = Block at (plain_item_row row)
  plain_stmt_kind at (code.If' e pa p a b) = If at (plain_expr e) (plain_stmt_kind pa a) (plain_else b)
  plain_stmt_kind at (code.While' annots e pa p a) = While at (map plain_annot annots.items) (plain_expr e) (plain_stmt_kind pa a)
  plain_stmt_kind at (code.Do' pa p a e) = Do at (plain_stmt_kind pa a) (plain_expr e)
  plain_stmt_kind at (code.For' annots first e step pa p a) = For at (map plain_annot annots.items) (plain_first first) (option_map plain_expr e)
      (option_map plain_expr step) (plain_stmt_kind pa a)
  plain_stmt_kind at code.Break = Break at
  plain_stmt_kind at code.Continue = Continue at
  plain_stmt_kind at (code.Return e) = Return at (option_map plain_expr e)
  plain_stmt_kind at (code.Switch' e shape row) = Switch at (plain_expr e) (plain_case_row row)
  plain_stmt_kind at (code.Labelled' l pa p a) = Labelled at l (plain_stmt_kind pa a)

  pub plain_case_row : {m : _} → Row_of-Case m → Cases
  plain_case_row end_of-Case = NoCase
  plain_case_row (more_of-Case at v shape row rest) = AnotherCase at (option_map plain_expr v) (plain_item_row row) (plain_case_row rest)

  pub plain_else : Held-StmtKind-If-2 → ElsePart
  plain_else code.StmtKind-If-2-None' = NoElse
  plain_else (code.StmtKind-If-2-Some' pa p a) = Else (plain_stmt_kind pa a)

  pub plain_first : Held-StmtKind-For-1 → ForFirst
  plain_first code.StmtKind-For-1-None' = NoFirst
  plain_first (code.StmtKind-For-1-Some' i) = First (plain_item i)

  pub plain_item : Item → BlockItem
  plain_item (item.Declare decls) = Declare (map plain_decl decls.items)
  plain_item (item.Specify at t) = Specify at (plain_type t)
  plain_item (item.Run' at p s) = Run (plain_stmt_kind at s)
  plain_item (item.Asserts annots) = Asserts (map plain_annot annots.items)

  pub plain_item_row : {m : _} → Row_of-Item m → BlockItems
  plain_item_row end_of-Item = NoItem
  plain_item_row (more_of-Item i rest) = Then (plain_item i) (plain_item_row rest)

abbrev pub plain_stmt : Stmt → Statement
plain_stmt s = plain_stmt_kind s.place s.kind.value

abbrev pub plain_else_part : Option Stmt → ElsePart
plain_else_part None = NoElse
plain_else_part (Some a) = Else (plain_stmt a)

abbrev pub plain_items : List Item → BlockItems
plain_items [] = NoItem
plain_items (i ∷ is) = Then (plain_item i) (plain_items is)

abbrev pub plain_cases : List Case → Cases
plain_cases [] = NoCase
plain_cases (c ∷ cs) = AnotherCase c.place (option_map plain_expr c.value) (plain_items c.items.items) (plain_cases cs)
