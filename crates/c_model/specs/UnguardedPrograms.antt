-- The quantifiers of a text that have no guard (ACSL 2.2), wherever they stand in its annotations.
use Rattle.std.specs.Prelude.{List, [], ◌∷◌, Option, Some, None}
use Rattle.c_syntax.specs.declared.place.Place.{Place}
use Rattle.c_syntax.specs.Logic.{ClauseBody, Raw, Holds, Value, Behaviors, Annotation}
use Rattle.c_syntax.specs.Statements.{Statement, Empty, Eval, Block, If, While, Do, For, Break, Continue, Return, Labelled, ElsePart, NoElse, Else, Switch}
use Rattle.c_syntax.specs.Statements.{Cases, NoCase, AnotherCase}
use Rattle.c_syntax.specs.Statements.{BlockItem, Declare, Specify, Run, Asserts, BlockItems, NoItem, Then}
use Rattle.c_syntax.specs.Programs.{NamedBehavior, FunctionContract, Function, TranslationUnit}
use Rattle.c_model.specs.QuantifierGuards.{first_place, unguarded_in}

-- ---- annotations

-- the place of the first one in a clause; typed clauses have guards
abbrev pub unguarded_in_clause : ClauseBody → Option Place
unguarded_in_clause (Raw f) = unguarded_in f
unguarded_in_clause (Holds p) = None
unguarded_in_clause (Value t) = None
unguarded_in_clause (Behaviors names) = None

abbrev pub unguarded_in_annotations : List Annotation → Option Place
unguarded_in_annotations [] = None
unguarded_in_annotations (a ∷ rest) = first_place (unguarded_in_clause a.body) (unguarded_in_annotations rest)

abbrev pub unguarded_in_behaviors : List NamedBehavior → Option Place
unguarded_in_behaviors [] = None
unguarded_in_behaviors (b ∷ bs) = first_place (unguarded_in_annotations b.clauses) (unguarded_in_behaviors bs)

abbrev pub unguarded_in_contract : Option FunctionContract → Option Place
unguarded_in_contract None = None
unguarded_in_contract (Some c) = first_place (unguarded_in_annotations c.clauses) (unguarded_in_behaviors c.behaviors)

-- ---- statements

abbrev mutual
  pub unguarded_in_statement : Statement → Option Place
  unguarded_in_statement (Empty at) = None
  unguarded_in_statement (Eval at e) = None
  unguarded_in_statement (Block at items) = unguarded_in_items items
  unguarded_in_statement (If at e a b) = first_place (unguarded_in_statement a) (unguarded_in_else b)
  unguarded_in_statement (While at annots e a) = first_place (unguarded_in_annotations annots) (unguarded_in_statement a)
  unguarded_in_statement (Do at a e) = unguarded_in_statement a
  unguarded_in_statement (For at annots first e step a) = first_place (unguarded_in_annotations annots) (unguarded_in_statement a)
  unguarded_in_statement (Break at) = None
  unguarded_in_statement (Continue at) = None
  unguarded_in_statement (Return at e) = None
  unguarded_in_statement (Labelled at l a) = unguarded_in_statement a
  unguarded_in_statement (Switch at e cases) = unguarded_in_cases cases

  pub unguarded_in_cases : Cases → Option Place
  unguarded_in_cases NoCase = None
  unguarded_in_cases (AnotherCase at v items rest) = first_place (unguarded_in_items items) (unguarded_in_cases rest)

  pub unguarded_in_else : ElsePart → Option Place
  unguarded_in_else NoElse = None
  unguarded_in_else (Else a) = unguarded_in_statement a

  pub unguarded_in_item : BlockItem → Option Place
  unguarded_in_item (Declare ds) = None
  unguarded_in_item (Specify at t) = None
  unguarded_in_item (Run a) = unguarded_in_statement a
  unguarded_in_item (Asserts annots) = unguarded_in_annotations annots

  pub unguarded_in_items : BlockItems → Option Place
  unguarded_in_items NoItem = None
  unguarded_in_items (Then i rest) = first_place (unguarded_in_item i) (unguarded_in_items rest)

-- ---- files

abbrev pub unguarded_in_body : Option Statement → Option Place
unguarded_in_body None = None
unguarded_in_body (Some a) = unguarded_in_statement a

abbrev pub unguarded_in_functions : List Function → Option Place
unguarded_in_functions [] = None
unguarded_in_functions (f ∷ fs) = first_place (first_place (unguarded_in_contract f.contract) (unguarded_in_body f.body)) (unguarded_in_functions fs)

-- the place of the first one in a file
abbrev pub unguarded_in_unit : TranslationUnit → Option Place
unguarded_in_unit p = unguarded_in_functions p.funcs
