-- What is true of each full expression of a tree, where it follows from what is.
use Rattle.std.proofs.Common.{List, [], ◌∷◌, Option, Some, None}
use Rattle.c_syntax.specs.declared.place.Place.{Place}
use Rattle.c_syntax.specs.Expressions.{Expression}
use Rattle.c_syntax.specs.Statements.{Initialiser, One, Many, Initialisers, NoInitialiser, Listed, Declaration, Statement, Empty, Eval, Block, If, While, Do}
use Rattle.c_syntax.specs.Statements.{Labelled, Switch, Cases, NoCase, AnotherCase}
use Rattle.c_syntax.specs.Statements.{For, Break, Continue, Return, ElsePart, NoElse, Else, ForFirst, NoFirst, First, BlockItem, Declare, Specify, Run, Asserts, BlockItems, NoItem, Then}
use Rattle.c_syntax.specs.Programs.{Function}
use Rattle.c_model.specs.TypedTrees.{WhereAny}
use Rattle.c_model.specs.FullExpressions.{EachInitial, EachPart, EachDeclared, EachIn, EachInCases, EachInElse, EachInFirst, EachInItem, EachInItems, EachInBody, EachInFunctions}

module _ (P Q : Expression → Type 0) (follows : (e : Expression) → P e → Q e) where
  mutual
    initial_follows : (i : Initialiser) → EachInitial P i → EachInitial Q i
    initial_follows (One e) h = follows e h
    initial_follows (Many brace is) h = parts_follow is h

    parts_follow : (is : Initialisers) → EachPart P is → EachPart Q is
    parts_follow NoInitialiser h = tt
    parts_follow (Listed i is) h = (initial_follows i h.0, parts_follow is h.1)

  any_follows : (o : Option Expression) → WhereAny P o → WhereAny Q o
  any_follows None h = tt
  any_follows (Some e) h = follows e h

  of_declaration : (o : Option (Place × Initialiser)) → WhereAny (λ (i : Place × Initialiser). EachInitial P i.1) o → WhereAny (λ (i : Place × Initialiser). EachInitial Q i.1) o
  of_declaration None h = tt
  of_declaration (Some i) h = initial_follows i.1 h

  pub declared_follow : (ds : List Declaration) → EachDeclared P ds → EachDeclared Q ds
  declared_follow [] h = tt
  declared_follow (d ∷ ds) h = (of_declaration d.init h.0, declared_follow ds h.1)

  mutual
    statement_follows : (a : Statement) → EachIn P a → EachIn Q a
    statement_follows (Empty at) h = tt
    statement_follows (Eval at e) h = follows e h
    statement_follows (Block at items) h = items_follow items h
    statement_follows (If at e a b) h = (follows e h.0, statement_follows a h.1, else_follows b h.2)
    statement_follows (While at annots e a) h = (follows e h.0, statement_follows a h.1)
    statement_follows (Do at a e) h = (statement_follows a h.0, follows e h.1)
    statement_follows (For at annots first e step a) h = (first_follows first h.0, any_follows e h.1, any_follows step h.2, statement_follows a h.3)
    statement_follows (Break at) h = tt
    statement_follows (Continue at) h = tt
    statement_follows (Return at e) h = any_follows e h
    statement_follows (Labelled at l a) h = statement_follows a h
    statement_follows (Switch at e cases) h = (follows e h.0, cases_follow cases h.1)

    cases_follow : (cases : Cases) → EachInCases P cases → EachInCases Q cases
    cases_follow NoCase h = tt
    cases_follow (AnotherCase at v items rest) h = (items_follow items h.0, cases_follow rest h.1)

    else_follows : (b : ElsePart) → EachInElse P b → EachInElse Q b
    else_follows NoElse h = tt
    else_follows (Else a) h = statement_follows a h

    first_follows : (first : ForFirst) → EachInFirst P first → EachInFirst Q first
    first_follows NoFirst h = tt
    first_follows (First i) h = item_follows i h

    item_follows : (i : BlockItem) → EachInItem P i → EachInItem Q i
    item_follows (Declare ds) h = declared_follow ds h
    item_follows (Specify at t) h = tt
    item_follows (Run a) h = statement_follows a h
    item_follows (Asserts annots) h = tt

    items_follow : (is : BlockItems) → EachInItems P is → EachInItems Q is
    items_follow NoItem h = tt
    items_follow (Then i is) h = (item_follows i h.0, items_follow is h.1)

  body_follows : (b : Option Statement) → EachInBody P b → EachInBody Q b
  body_follows (Some (Block at items)) h = items_follow items h
  body_follows (Some (Empty at)) h = tt
  body_follows (Some (Eval at e)) h = tt
  body_follows (Some (If at e a b)) h = tt
  body_follows (Some (While at annots e a)) h = tt
  body_follows (Some (Do at a e)) h = tt
  body_follows (Some (For at annots first e step a)) h = tt
  body_follows (Some (Break at)) h = tt
  body_follows (Some (Continue at)) h = tt
  body_follows (Some (Return at e)) h = tt
  body_follows (Some (Labelled at l a)) h = tt
  body_follows (Some (Switch at e cases)) h = tt
  body_follows None h = tt

  pub functions_follow : (fs : List Function) → EachInFunctions P fs → EachInFunctions Q fs
  functions_follow [] h = tt
  functions_follow (f ∷ fs) h = (body_follows f.body h.0, functions_follow fs h.1)
