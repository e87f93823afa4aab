-- Asserts whose terms keep their ranges, in trees whose annotations are asserts and are ranged.
use Rattle.std.proofs.Common.{◌≡◌, refl, List, [], ◌∷◌, Option, Some, None}
use Rattle.c_syntax.specs.Logic.{Annotation}
use Rattle.c_syntax.specs.Statements.{Statement, Empty, Eval, Block, If, While, Do, For, Break, Continue, Return, ElsePart, NoElse, Else, BlockItem, Declare, Specify, Run, Asserts, BlockItems, NoItem, Then}
use Rattle.c_syntax.specs.Statements.{Labelled, Switch, Cases, NoCase, AnotherCase}
use Rattle.c_syntax.specs.Programs.{Function}
use Rattle.c_model.specs.Formed.{AreAsserts, AreLoopClauses, IsShortClause}
use Rattle.c_model.specs.Meaning.{declared_in}
use Rattle.c_model.specs.EffectPlaces.{DeclareNothing, StatementPlaced, CasesPlaced, ElsePlaced, ItemsPlaced, ItemPlaced}
use Rattle.c_model.specs.ReadTree.{BodyRead, FunctionsRead}
use Rattle.c_model.specs.Unranged.{AnnotationsRanged}
use Rattle.c_model.specs.UnrangedPrograms.{StatementRanged, CasesRanged, ElseRanged, ItemRanged, ItemsRanged, BodyRanged, FunctionsRanged}

pub nothing_declared : (is : BlockItems) → DeclareNothing is → declared_in is ≡ []
nothing_declared NoItem h = refl
nothing_declared (Then (Declare ds) rest) h = absurd h.0
nothing_declared (Then (Specify at t) rest) h = absurd h.0
nothing_declared (Then (Run a) rest) h = nothing_declared rest h.1
nothing_declared (Then (Asserts annots) rest) h = nothing_declared rest h.1

pub record AreRangedAsserts (annots : List Annotation) : Type 0 where
  pub are : AreAsserts annots
  pub ranged : AnnotationsRanged [] annots

-- clauses of few tokens
abbrev pub AreShort : List Annotation → Type 0
AreShort [] = Unit {0}
AreShort (a ∷ rest) = IsShortClause a.body × AreShort rest

pub short_asserts : (annots : List Annotation) → AreAsserts annots → AreShort annots
short_asserts [] h = tt
short_asserts (a ∷ rest) h = (h.0.body, short_asserts rest h.1)

pub short_clauses : (annots : List Annotation) → AreLoopClauses annots → AreShort annots
short_clauses [] h = tt
short_clauses (a ∷ rest) h = (h.0.body, short_clauses rest h.1)

-- the same of the annotations of a loop
pub record AreRangedClauses (annots : List Annotation) : Type 0 where
  pub are : AreLoopClauses annots
  pub ranged : AnnotationsRanged [] annots

mutual
  statement_ranged : (a : Statement) → StatementPlaced AreAsserts AreLoopClauses a → StatementRanged a → StatementPlaced AreRangedAsserts AreRangedClauses a
  statement_ranged (Empty at) p r = tt
  statement_ranged (Eval at e) p r = p
  statement_ranged (Block at items) p r = items_ranged items p r
  statement_ranged (If at e a b) p r = (statement_ranged a p.0 r.0, else_ranged b p.1 r.1)
  statement_ranged (While at annots e a) p r = (record { are = p.0; ranged = r.0 }, statement_ranged a p.1 r.1)
  statement_ranged (Do at a e) p r = statement_ranged a p r
  statement_ranged (For at annots first e step a) p r = (record { are = p.0; ranged = r.0 }, p.1, statement_ranged a p.2 r.1)
  statement_ranged (Break at) p r = tt
  statement_ranged (Continue at) p r = tt
  statement_ranged (Return at e) p r = p
  statement_ranged (Labelled at l a) p r = statement_ranged a p r
  statement_ranged (Switch at e cases) p r = cases_ranged cases p r

  cases_ranged : (cs : Cases) → CasesPlaced AreAsserts AreLoopClauses cs → CasesRanged cs → CasesPlaced AreRangedAsserts AreRangedClauses cs
  cases_ranged NoCase p r = tt
  cases_ranged (AnotherCase at v items rest) p r = (p.0, items_ranged items p.1 r.0, cases_ranged rest p.2 r.1)

  else_ranged : (b : ElsePart) → ElsePlaced AreAsserts AreLoopClauses b → ElseRanged b → ElsePlaced AreRangedAsserts AreRangedClauses b
  else_ranged NoElse p r = tt
  else_ranged (Else a) p r = statement_ranged a p r

  items_ranged : (is : BlockItems) → ItemsPlaced AreAsserts AreLoopClauses is → ItemsRanged is → ItemsPlaced AreRangedAsserts AreRangedClauses is
  items_ranged NoItem p r = tt
  items_ranged (Then i rest) p r = (item_ranged i p.0 r.0, items_ranged rest p.1 r.1)

  item_ranged : (i : BlockItem) → ItemPlaced AreAsserts AreLoopClauses i → ItemRanged i → ItemPlaced AreRangedAsserts AreRangedClauses i
  item_ranged (Declare ds) p r = p
  item_ranged (Specify at t) p r = tt
  item_ranged (Run a) p r = statement_ranged a p r
  item_ranged (Asserts annots) p r = record { are = p; ranged = r }

body_ranged : (o : Option Statement) → BodyRead AreAsserts AreLoopClauses o → BodyRanged o → BodyRead AreRangedAsserts AreRangedClauses o
body_ranged None p r = tt
body_ranged (Some (Block at items)) p r = (items_ranged items p.0 r, p.1)
body_ranged (Some _) p r = absurd p

pub functions_ranged : (fs : List Function) → FunctionsRead AreAsserts AreLoopClauses fs → FunctionsRanged fs → FunctionsRead AreRangedAsserts AreRangedClauses fs
functions_ranged [] p r = tt
functions_ranged (f ∷ fs) p r = (record { body = body_ranged f.body p.0.body r.0.1 }, functions_ranged fs p.1 r.1)
