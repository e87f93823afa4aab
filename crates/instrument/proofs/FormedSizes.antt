-- Trees are formed as the translation needs them, where declarations stand in their places and full expressions and types are small.
use Rattle.std.proofs.Common.{List, [], ◌∷◌, Option, Some, None}
use Rattle.c_syntax.specs.declared.place.Place.{Place}
use Rattle.c_syntax.specs.Expressions.{Expression}
use Rattle.c_syntax.specs.Statements.{Initialiser, Declaration, Statement, Empty, Eval, Block, If, While, Do}
use Rattle.c_syntax.specs.Statements.{For, Break, Continue, Return, Labelled, Switch, Cases, NoCase, AnotherCase, ElsePart, NoElse, Else, ForFirst, NoFirst, First, BlockItem, Declare, Specify, Run, Asserts, BlockItems, NoItem, Then}
use Rattle.c_syntax.specs.Programs.{StructType}
use Rattle.c_model.specs.TypedTrees.{WhereAny}
use Rattle.c_model.specs.Sizes.{IsSmall}
use Rattle.c_model.specs.SmallTypes.{TypesSmall}
use Rattle.c_model.specs.FullExpressions.{EachInitial, EachDeclared, EachIn, EachInCases, EachInElse, EachInFirst, EachInItem, EachInItems}
use Rattle.c_model.specs.EffectPlaces.{FirstPlaced, StatementPlaced, CasesPlaced, ElsePlaced, ItemsPlaced, ItemPlaced}
use Rattle.instrument.proofs.RangedTrees.{AreRangedAsserts, AreRangedClauses, nothing_declared}
use Rattle.instrument.proofs.FormedTrees.{IsFull, InitialFormed, AreInitialised, FirstFormed, StatementFormed, CasesFormed, ElseFormed, ItemFormed, ItemsFormed}

module _ (structs : List StructType) where
  abbrev Few : Expression → Type 0
  Few e = TypesSmall structs e

  pub initial_formed : (o : Option (Place × Initialiser)) → WhereAny (λ (i : Place × Initialiser). EachInitial IsSmall i.1) o → WhereAny (λ (i : Place × Initialiser). EachInitial Few i.1) o → InitialFormed structs o
  initial_formed None h t = record { small = tt; types = tt }
  initial_formed (Some i) h t = record { small = h; types = t }

  declared_formed : (ds : List Declaration) → EachDeclared IsSmall ds → EachDeclared Few ds → AreInitialised structs ds
  declared_formed [] h t = tt
  declared_formed (d ∷ ds) h t = (initial_formed d.init h.0 t.0, declared_formed ds h.1 t.1)

  any_full : (o : Option Expression) → WhereAny IsSmall o → WhereAny Few o → WhereAny (IsFull structs) o
  any_full None h t = tt
  any_full (Some e) h t = record { small = h; types = t }

  first_formed : (first : ForFirst) → FirstPlaced first → EachInFirst IsSmall first → EachInFirst Few first → FirstFormed structs first
  first_formed NoFirst p h t = tt
  first_formed (First (Run (Eval at e))) p h t = record { small = h; types = t }
  first_formed (First (Declare ds)) p h t = declared_formed ds h t
  first_formed (First (Specify at u)) p h t = tt
  first_formed _ p h t = absurd p

  mutual
    pub statement_formed : (a : Statement) → StatementPlaced AreRangedAsserts AreRangedClauses a → EachIn IsSmall a → EachIn Few a → StatementFormed structs a
    statement_formed (Empty at) p h t = tt
    statement_formed (Eval at e) p h t = record { small = h; types = t }
    statement_formed (Block at items) p h t = items_formed items p h t
    statement_formed (If at e a b) p h t = (record { small = h.0; types = t.0 }, statement_formed a p.0 h.1 t.1, else_formed b p.1 h.2 t.2)
    statement_formed (While at annots e a) p h t = (p.0, record { small = h.0; types = t.0 }, statement_formed a p.1 h.1 t.1)
    statement_formed (Do at a e) p h t = (statement_formed a p h.0 t.0, record { small = h.1; types = t.1 })
    statement_formed (For at annots first e step a) p h t = (p.0, first_formed first p.1 h.0 t.0, any_full e h.1 t.1, any_full step h.2 t.2, statement_formed a p.2 h.3 t.3)
    statement_formed (Break at) p h t = tt
    statement_formed (Continue at) p h t = tt
    statement_formed (Return at e) p h t = any_full e h t
    statement_formed (Labelled at l a) p h t = statement_formed a p h t
    statement_formed (Switch at e cases) p h t = (record { small = h.0; types = t.0 }, cases_formed cases p h.1 t.1)

    cases_formed : (cs : Cases) → CasesPlaced AreRangedAsserts AreRangedClauses cs → EachInCases IsSmall cs → EachInCases Few cs → CasesFormed structs cs
    cases_formed NoCase p h t = tt
    cases_formed (AnotherCase at v items rest) p h t = (nothing_declared items p.0, items_formed items p.1 h.0 t.0, cases_formed rest p.2 h.1 t.1)

    else_formed : (b : ElsePart) → ElsePlaced AreRangedAsserts AreRangedClauses b → EachInElse IsSmall b → EachInElse Few b → ElseFormed structs b
    else_formed NoElse p h t = tt
    else_formed (Else a) p h t = statement_formed a p h t

    pub items_formed : (is : BlockItems) → ItemsPlaced AreRangedAsserts AreRangedClauses is → EachInItems IsSmall is → EachInItems Few is → ItemsFormed structs is
    items_formed NoItem p h t = tt
    items_formed (Then i rest) p h t = (item_formed i p.0 h.0 t.0, items_formed rest p.1 h.1 t.1)

    item_formed : (i : BlockItem) → ItemPlaced AreRangedAsserts AreRangedClauses i → EachInItem IsSmall i → EachInItem Few i → ItemFormed structs i
    item_formed (Declare ds) p h t = declared_formed ds h t
    item_formed (Specify at u) p h t = tt
    item_formed (Run a) p h t = statement_formed a p h t
    item_formed (Asserts annots) p h t = p
