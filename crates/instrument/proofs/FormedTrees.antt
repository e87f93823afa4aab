-- Trees as the translation needs them: where declarations stand in them, and how large their full expressions and their types are.
use Rattle.std.proofs.Common.{◌≡◌, List, [], ◌∷◌, Option}
use Rattle.c_syntax.specs.declared.place.Place.{Place}
use Rattle.c_syntax.specs.Expressions.{Expression}
use Rattle.c_syntax.specs.Statements.{Initialiser, Declaration, Statement, Empty, Eval, Block, If, While, Do, For}
use Rattle.c_syntax.specs.Statements.{Break, Continue, Return, Labelled, Switch, Cases, NoCase, AnotherCase, ElsePart, NoElse, Else, ForFirst, NoFirst, First, BlockItem, Declare, Specify, Run, Asserts, BlockItems, NoItem, Then}
use Rattle.c_syntax.specs.Programs.{StructType}
use Rattle.c_model.specs.Meaning.{declared_in}
use Rattle.c_model.specs.TypedTrees.{WhereAny}
use Rattle.c_model.specs.Sizes.{IsSmall}
use Rattle.c_model.specs.SmallTypes.{TypesSmall}
use Rattle.c_model.specs.FullExpressions.{EachInitial}
use Rattle.instrument.proofs.RangedTrees.{AreRangedAsserts, AreRangedClauses}

-- among these structs
module _ (structs : List StructType) where
  -- an expression that stands in no other: how large it is, and its types
  pub record IsFull (e : Expression) : Type 0 where
    pub small : IsSmall e
    pub types : TypesSmall structs e

  -- each expression of an initialiser is a full expression (C99 6.8 p4)
  pub record InitialFormed (o : Option (Place × Initialiser)) : Type 0 where
    pub small : WhereAny (λ (x : Place × Initialiser). EachInitial IsSmall x.1) o
    pub types : WhereAny (λ (x : Place × Initialiser). EachInitial (TypesSmall structs) x.1) o

  abbrev pub AreInitialised : List Declaration → Type 0
  AreInitialised [] = Unit {0}
  AreInitialised (d ∷ ds) = InitialFormed d.init × AreInitialised ds

  abbrev pub FirstFormed : ForFirst → Type 0
  FirstFormed NoFirst = Unit {0}
  FirstFormed (First (Run (Eval at e))) = IsFull e
  FirstFormed (First (Declare ds)) = AreInitialised ds
  FirstFormed (First (Specify at t)) = Unit {0}
  FirstFormed _ = ⊥

  abbrev mutual
    pub StatementFormed : Statement → Type 0
    StatementFormed (Empty at) = Unit {0}
    StatementFormed (Eval at e) = IsFull e
    StatementFormed (Block at items) = ItemsFormed items
    StatementFormed (If at e a b) = IsFull e × StatementFormed a × ElseFormed b
    StatementFormed (While at annots e a) = AreRangedClauses annots × IsFull e × StatementFormed a
    StatementFormed (Do at a e) = StatementFormed a × IsFull e
    StatementFormed (For at annots first e step a) =
        AreRangedClauses annots × FirstFormed first × WhereAny IsFull e × WhereAny IsFull step × StatementFormed a
    StatementFormed (Break at) = Unit {0}
    StatementFormed (Continue at) = Unit {0}
    StatementFormed (Return at e) = WhereAny IsFull e
    StatementFormed (Labelled at l a) = StatementFormed a
    StatementFormed (Switch at e cases) = IsFull e × CasesFormed cases

    pub CasesFormed : Cases → Type 0
    CasesFormed NoCase = Unit {0}
    CasesFormed (AnotherCase at v items rest) = (declared_in items ≡ []) × ItemsFormed items × CasesFormed rest

    pub ElseFormed : ElsePart → Type 0
    ElseFormed NoElse = Unit {0}
    ElseFormed (Else a) = StatementFormed a

    pub ItemsFormed : BlockItems → Type 0
    ItemsFormed NoItem = Unit {0}
    ItemsFormed (Then i rest) = ItemFormed i × ItemsFormed rest

    pub ItemFormed : BlockItem → Type 0
    ItemFormed (Declare ds) = AreInitialised ds
    ItemFormed (Specify at t) = Unit {0}
    ItemFormed (Run a) = StatementFormed a
    ItemFormed (Asserts annots) = AreRangedAsserts annots
