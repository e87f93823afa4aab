-- Contracts as the grammar puts them (ACSL 2.3): `requires` and `ensures`, in behaviors `assumes` besides, each of which says something that is so; behind them
-- clauses that name behaviors.
use Rattle.std.specs.Prelude.{List, [], ◌∷◌, Option, Some, None}
use Rattle.std.specs.List.{AllByRecursion}
use Rattle.c_syntax.specs.declared.annotation.Kind.{Kind}
use Rattle.c_syntax.specs.declared.annotation.Kind.TheVariants.{Requires, Assumes, Ensures, Complete, Disjoint}
use Rattle.c_syntax.specs.Logic.{ClauseBody, Raw, Holds, Value, Behaviors, Annotation}
use Rattle.c_syntax.specs.Programs.{NamedBehavior, FunctionContract, Function}

abbrev pub IsOwnKind : Kind → Type 0
IsOwnKind Requires = Unit {0}
IsOwnKind Ensures = Unit {0}
IsOwnKind _ = ⊥

abbrev pub IsBehaviorKind : Kind → Type 0
IsBehaviorKind Requires = Unit {0}
IsBehaviorKind Assumes = Unit {0}
IsBehaviorKind Ensures = Unit {0}
IsBehaviorKind _ = ⊥

abbrev pub IsCoverKind : Kind → Type 0
IsCoverKind Complete = Unit {0}
IsCoverKind Disjoint = Unit {0}
IsCoverKind _ = ⊥

abbrev pub NamesBehaviors : ClauseBody → Type 0
NamesBehaviors (Raw f) = ⊥
NamesBehaviors (Holds p) = ⊥
NamesBehaviors (Value t) = ⊥
NamesBehaviors (Behaviors names) = Unit {0}

pub record IsClauseOf (IsKind : Kind → Type 0) (IsSo : ClauseBody → Type 0) (a : Annotation) : Type 0 where
  pub kind : IsKind a.kind
  pub body : IsSo a.body

abbrev pub AreClausesOf : (Kind → Type 0) → (ClauseBody → Type 0) → List Annotation → Type 0
AreClausesOf IsKind IsSo [] = Unit {0}
AreClausesOf IsKind IsSo (a ∷ rest) = IsClauseOf IsKind IsSo a × AreClausesOf IsKind IsSo rest

-- in contracts whose clauses are so
module _ (IsSo : ClauseBody → Type 0) where
  abbrev pub BehaviorsFormed : List NamedBehavior → Type 0
  BehaviorsFormed [] = Unit {0}
  BehaviorsFormed (b ∷ bs) = AreClausesOf IsBehaviorKind IsSo b.clauses × BehaviorsFormed bs

  pub record ContractFormed (c : FunctionContract) : Type 0 where
    pub clauses : AreClausesOf IsOwnKind IsSo c.clauses
    pub behaviors : BehaviorsFormed c.behaviors
    pub covers : AreClausesOf IsCoverKind NamesBehaviors c.covers

  abbrev pub MaybeFormed : Option FunctionContract → Type 0
  MaybeFormed None = Unit {0}
  MaybeFormed (Some c) = ContractFormed c

  abbrev pub ContractsFormed : List Function → Type 0
  ContractsFormed fs = AllByRecursion (λ (f : Function). MaybeFormed f.contract) fs
