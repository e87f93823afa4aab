-- Typing changes nothing but types, casts and constants: what holds of each full expression that is read holds of each one that is typed, if typing keeps
-- it in an expression (C99 6.7, 6.8, 6.9).
use Rattle.std.proofs.Common.{List, [], ◌∷◌, Option, Some, None, sym, subst}
use Rattle.c_syntax.specs.declared.place.Place.{Place}
use Rattle.c_syntax.specs.Expressions.{Expression}
use Rattle.c_syntax.specs.Statements.{Initialiser, One, Many, Initialisers, NoInitialiser, Listed, Declaration, Statement, Empty, Eval, Block, If, While, Do}
use Rattle.c_syntax.specs.Statements.{For, Break, Continue, Return, Labelled, Switch, Cases, NoCase, AnotherCase, ElsePart, NoElse, Else, ForFirst, NoFirst, First}
use Rattle.c_syntax.specs.Statements.{BlockItem, Declare, Specify, Run, Asserts, BlockItems, NoItem, Then}
use Rattle.c_syntax.specs.Programs.{Function}
use Rattle.c_model.specs.TypedTrees.{WhereAny, TypedAs}
use Rattle.c_model.specs.FullExpressions.{EachInitial, EachPart, EachDeclared, EachIn, EachInCases, EachInElse, EachInFirst, EachInItem, EachInItems, EachInBody, EachInFunctions}
use Rattle.c_model.specs.TypedReadings.{MaybeTypedAs, InBraces, WithoutBraces, InitialiserTypedAs, InitialisersTypedAs, AloneTypedAs, MaybeInitialiserTypedAs, DeclarationsTypedAs}
use Rattle.c_model.specs.TypedReadings.{StatementTypedAs, CasesTypedAs, ElseTypedAs, FirstTypedAs, ItemTypedAs, ItemsTypedAs, BodyTypedAs}
use Rattle.c_model.specs.TypedFileItems.{FunctionsTypedAs}

module _ (P : Expression → Type 0) (kept : (r e : Expression) → TypedAs r e → P r → P e) where
  any_typed : (o q : Option Expression) → MaybeTypedAs o q → WhereAny P o → WhereAny P q
  any_typed None q h p = subst (WhereAny P) (sym h) tt
  any_typed (Some e) q h p = subst (WhereAny P) (sym h.1) (kept e h.0 h.2 p)

  -- ---- declarations

  mutual
    initial_typed : (i j : Initialiser) → InitialiserTypedAs i j → EachInitial P i → EachInitial P j
    initial_typed (One e) j h p = subst (EachInitial P) (sym h.1) (kept e h.0 h.2 p)
    initial_typed (Many at is) j (InBraces js e h) p = subst (EachInitial P) (sym e) (parts_typed is js h p)
    initial_typed (Many at is) j (WithoutBraces h) p = alone_typed is j h p

    parts_typed : (is js : Initialisers) → InitialisersTypedAs is js → EachPart P is → EachPart P js
    parts_typed NoInitialiser js h p = subst (EachPart P) (sym h) tt
    parts_typed (Listed i is) js h p = subst (EachPart P) (sym h.2) (initial_typed i h.0 h.3 p.0, parts_typed is h.1 h.4 p.1)

    alone_typed : (is : Initialisers) (j : Initialiser) → AloneTypedAs is j → EachPart P is → EachInitial P j
    alone_typed NoInitialiser j h p = absurd h
    alone_typed (Listed i is) j h p = initial_typed i j h.1 p.0

  abbrev OfInitialiser : Option (Place × Initialiser) → Type 0
  OfInitialiser o = WhereAny (λ (i : Place × Initialiser). EachInitial P i.1) o

  of_declaration : (o q : Option (Place × Initialiser)) → MaybeInitialiserTypedAs o q → OfInitialiser o → OfInitialiser q
  of_declaration None q h p = subst OfInitialiser (sym h) tt
  of_declaration (Some i) q h p = subst OfInitialiser (sym h.1) (initial_typed i.1 h.0 h.2 p)

  pub declared_typed : (ds es : List Declaration) → DeclarationsTypedAs ds es → EachDeclared P ds → EachDeclared P es
  declared_typed [] es h p = subst (EachDeclared P) (sym h) tt
  declared_typed (d ∷ ds) es h p = subst (EachDeclared P) (sym h.2) (of_declaration d.init h.0.init h.3.init p.0, declared_typed ds h.1 h.4 p.1)

  -- ---- statements

  mutual
    statement_typed : (a b : Statement) → StatementTypedAs a b → EachIn P a → EachIn P b
    statement_typed (Empty at) b h p = subst (EachIn P) (sym h) tt
    statement_typed (Eval at e) b h p = subst (EachIn P) (sym h.1) (kept e h.0 h.2 p)
    statement_typed (Block at items) b h p = subst (EachIn P) (sym h.1) (items_typed items h.0 h.2 p)
    statement_typed (If at e a c) b h p = subst (EachIn P) (sym h.3) (kept e h.0 h.4 p.0, statement_typed a h.1 h.5 p.1, else_typed c h.2 h.6 p.2)
    statement_typed (While at annots e a) b h p = subst (EachIn P) (sym h.2) (kept e h.0 h.3 p.0, statement_typed a h.1 h.4 p.1)
    statement_typed (Do at a e) b h p = subst (EachIn P) (sym h.2) (statement_typed a h.0 h.3 p.0, kept e h.1 h.4 p.1)
    statement_typed (For at annots first e step a) b h p =
        subst (EachIn P) (sym h.4) (first_typed first h.0 h.5 p.0, any_typed e h.1 h.6 p.1, any_typed step h.2 h.7 p.2, statement_typed a h.3 h.8 p.3)
    statement_typed (Break at) b h p = subst (EachIn P) (sym h) tt
    statement_typed (Continue at) b h p = subst (EachIn P) (sym h) tt
    statement_typed (Return at e) b h p = subst (EachIn P) (sym h.1) (any_typed e h.0 h.2 p)
    statement_typed (Labelled at l a) b h p = subst (EachIn P) (sym h.1) (statement_typed a h.0 h.2 p)
    statement_typed (Switch at e cases) b h p = subst (EachIn P) (sym h.2) (kept e h.0 h.3 p.0, cases_typed cases h.1 h.4 p.1)

    cases_typed : (cases cs : Cases) → CasesTypedAs cases cs → EachInCases P cases → EachInCases P cs
    cases_typed NoCase cs h p = subst (EachInCases P) (sym h) tt
    cases_typed (AnotherCase at v items rest) cs h p = subst (EachInCases P) (sym h.3) (items_typed items h.1 h.5 p.0, cases_typed rest h.2 h.6 p.1)

    else_typed : (a b : ElsePart) → ElseTypedAs a b → EachInElse P a → EachInElse P b
    else_typed NoElse b h p = subst (EachInElse P) (sym h) tt
    else_typed (Else a) b h p = subst (EachInElse P) (sym h.1) (statement_typed a h.0 h.2 p)

    first_typed : (a b : ForFirst) → FirstTypedAs a b → EachInFirst P a → EachInFirst P b
    first_typed NoFirst b h p = subst (EachInFirst P) (sym h) tt
    first_typed (First i) b h p = subst (EachInFirst P) (sym h.1) (item_typed i h.0 h.2 p)

    item_typed : (i j : BlockItem) → ItemTypedAs i j → EachInItem P i → EachInItem P j
    item_typed (Declare ds) j h p = subst (EachInItem P) (sym h.1) (declared_typed ds h.0 h.2 p)
    item_typed (Specify at t) j h p = subst (EachInItem P) (sym h.1) tt
    item_typed (Run a) j h p = subst (EachInItem P) (sym h.1) (statement_typed a h.0 h.2 p)
    item_typed (Asserts annots) j h p = subst (EachInItem P) (sym h) tt

    items_typed : (is js : BlockItems) → ItemsTypedAs is js → EachInItems P is → EachInItems P js
    items_typed NoItem js h p = subst (EachInItems P) (sym h) tt
    items_typed (Then i is) js h p = subst (EachInItems P) (sym h.2) (item_typed i h.0 h.3 p.0, items_typed is h.1 h.4 p.1)

  -- ---- functions

  body_typed : (a b : Option Statement) → BodyTypedAs a b → EachInBody P a → EachInBody P b
  body_typed (Some (Block at items)) b h p = subst (EachInBody P) (sym h.1) (items_typed items h.0 h.2 p)
  body_typed (Some (Empty at)) b h p = subst (EachInBody P) (sym h) p
  body_typed (Some (Eval at e)) b h p = subst (EachInBody P) (sym h) p
  body_typed (Some (If at e a c)) b h p = subst (EachInBody P) (sym h) p
  body_typed (Some (While at annots e a)) b h p = subst (EachInBody P) (sym h) p
  body_typed (Some (Do at a e)) b h p = subst (EachInBody P) (sym h) p
  body_typed (Some (For at annots first e step a)) b h p = subst (EachInBody P) (sym h) p
  body_typed (Some (Break at)) b h p = subst (EachInBody P) (sym h) p
  body_typed (Some (Continue at)) b h p = subst (EachInBody P) (sym h) p
  body_typed (Some (Return at e)) b h p = subst (EachInBody P) (sym h) p
  body_typed (Some (Labelled at l a)) b h p = subst (EachInBody P) (sym h) p
  body_typed (Some (Switch at e cases)) b h p = subst (EachInBody P) (sym h) p
  body_typed None b h p = subst (EachInBody P) (sym h) p

  pub functions_typed : (fs gs : List Function) → FunctionsTypedAs fs gs → EachInFunctions P fs → EachInFunctions P gs
  functions_typed [] gs h p = subst (EachInFunctions P) (sym h) tt
  functions_typed (f ∷ fs) gs h p = subst (EachInFunctions P) (sym h.2) (body_typed f.body h.0.body h.3.body p.0, functions_typed fs h.1 h.4 p.1)
