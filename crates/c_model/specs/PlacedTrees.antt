-- Trees of a text: the number of each declaration is its offset in the text, and so it is none that stands for the library.
use Rattle.std.specs.Prelude.{◌≡◌, ℕ, nat_eq, false, if◌then◌else◌, List, [], ◌∷◌, Option, Some, None}
use Rattle.c_syntax.specs.Statements.{Declaration, Statement, Empty, Eval, Block, If, While, Do, For, Break, Continue, Return, Labelled, ElsePart, NoElse}
use Rattle.c_syntax.specs.Statements.{Else, Switch, Cases, NoCase, AnotherCase}
use Rattle.c_syntax.specs.Statements.{ForFirst, NoFirst, First, BlockItem, Declare, Specify, Run, Asserts, BlockItems, NoItem, Then}
use Rattle.c_syntax.specs.Programs.{Function}
use Rattle.c_model.specs.ExpressionTyping.{is_among}
use Rattle.c_model.specs.UnitTyping.{FileItem, StructHead, Member, AnEnum, ATypedef, AGlobal, AFunction}

abbrev pub IsOffset : ℕ → Type 0
IsOffset n = nat_eq n 4294967295 ≡ false

abbrev pub AreAtOffsets : List Declaration → Type 0
AreAtOffsets [] = Unit {0}
AreAtOffsets (d ∷ ds) = IsOffset d.place.offset × AreAtOffsets ds

abbrev mutual
  pub StatementAtOffsets : Statement → Type 0
  StatementAtOffsets (Empty at) = Unit {0}
  StatementAtOffsets (Eval at e) = Unit {0}
  StatementAtOffsets (Block at items) = ItemsAtOffsets items
  StatementAtOffsets (If at e a b) = StatementAtOffsets a × ElseAtOffsets b
  StatementAtOffsets (While at annots e a) = StatementAtOffsets a
  StatementAtOffsets (Do at a e) = StatementAtOffsets a
  StatementAtOffsets (For at annots first e step a) = FirstAtOffsets first × StatementAtOffsets a
  StatementAtOffsets (Break at) = Unit {0}
  StatementAtOffsets (Continue at) = Unit {0}
  StatementAtOffsets (Return at e) = Unit {0}
  StatementAtOffsets (Labelled at l a) = StatementAtOffsets a
  StatementAtOffsets (Switch at e cases) = CasesAtOffsets cases

  pub CasesAtOffsets : Cases → Type 0
  CasesAtOffsets NoCase = Unit {0}
  CasesAtOffsets (AnotherCase at v items rest) = ItemsAtOffsets items × CasesAtOffsets rest

  pub ElseAtOffsets : ElsePart → Type 0
  ElseAtOffsets NoElse = Unit {0}
  ElseAtOffsets (Else a) = StatementAtOffsets a

  pub FirstAtOffsets : ForFirst → Type 0
  FirstAtOffsets NoFirst = Unit {0}
  FirstAtOffsets (First i) = ItemAtOffsets i

  pub ItemAtOffsets : BlockItem → Type 0
  ItemAtOffsets (Declare ds) = AreAtOffsets ds
  ItemAtOffsets (Specify at t) = Unit {0}
  ItemAtOffsets (Run a) = StatementAtOffsets a
  ItemAtOffsets (Asserts annots) = Unit {0}

  pub ItemsAtOffsets : BlockItems → Type 0
  ItemsAtOffsets NoItem = Unit {0}
  ItemsAtOffsets (Then i rest) = ItemAtOffsets i × ItemsAtOffsets rest

-- of a body, where there is one
abbrev pub BodyAtOffsets : Option Statement → Type 0
BodyAtOffsets None = Unit {0}
BodyAtOffsets (Some a) = StatementAtOffsets a

-- parameters, which have no initialisers
abbrev pub ParametersAtOffsets : List Declaration → Type 0
ParametersAtOffsets [] = Unit {0}
ParametersAtOffsets (d ∷ ds) = IsOffset d.place.offset × (d.init ≡ None) × ParametersAtOffsets ds

pub record FunctionAtOffsets (f : Function) : Type 0 where
  pub params : ParametersAtOffsets f.params
  pub body : BodyAtOffsets f.body

-- of what a file declares
abbrev pub FileItemAtOffsets : FileItem → Type 0
FileItemAtOffsets (StructHead k s) = Unit {0}
FileItemAtOffsets (Member k m ends) = Unit {0}
FileItemAtOffsets (AnEnum e) = Unit {0}
FileItemAtOffsets (ATypedef d) = Unit {0}
FileItemAtOffsets (AGlobal d) = IsOffset d.place.offset
FileItemAtOffsets (AFunction f) = FunctionAtOffsets f

abbrev pub FileAtOffsets : List FileItem → Type 0
FileAtOffsets [] = Unit {0}
FileAtOffsets (i ∷ is) = FileItemAtOffsets i × FileAtOffsets is

-- no member of a struct stands behind its last one
abbrev pub MembersInOrder : List ℕ → List FileItem → Type 0
MembersInOrder ended [] = Unit {0}
MembersInOrder ended (Member k m ends ∷ is) = (is_among k ended ≡ false) × MembersInOrder (if ends then k ∷ ended else ended) is
MembersInOrder ended (i ∷ is) = MembersInOrder ended is
