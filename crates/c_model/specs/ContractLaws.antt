-- Ours, by ACSL 2.3.3: where a call goes on behind the checks at its beginning, a behavior of its function's contract holds exactly where all its `assumes` are
-- true when the call begins.
use Rattle.std.specs.Prelude.{◌≡◌, ℕ, Bool, true, false, List, [], Some, slice_get}
use Rattle.c_syntax.specs.declared.annotation.Kind.TheVariants.{Assumes}
use Rattle.c_syntax.specs.Logic.{Annotation}
use Rattle.c_syntax.specs.Programs.{NamedBehavior, FunctionContract}
use Rattle.c_model.specs.State.{State, Normal}
use Rattle.c_model.specs.Logic.{Says}
use Rattle.c_model.specs.Predicates.{clause}
use Rattle.c_model.specs.ContractChecks.{holds_at, entry}

-- one of its `assumes`
pub record IsAssumption (b : NamedBehavior) (a : Annotation) : Type 0 where
  pub number : ℕ
  pub is : slice_get b.clauses number ≡ Some a
  pub kind : a.kind ≡ Assumes

-- what an annotation says in a state, with as many steps as are left when it is asked
pub record IsSaid (s : State) (a : Annotation) (v : Bool) : Type 0 where
  pub before : ℕ
  pub after : ℕ
  pub is : clause a.body (record s { steps = before }) [] before ≡ Says v after

-- whether a behavior holds, by what its `assumes` say
pub record IsByAssumptions (s : State) (b : NamedBehavior) (holds : Bool) : Type 0 where
  pub each : holds ≡ true → (a : Annotation) → IsAssumption b a → IsSaid s a true
  pub one : holds ≡ false → (a : Annotation) × IsAssumption b a × IsSaid s a false

abbrev pub BehaviorsHoldByAssumptions : Type 0
BehaviorsHoldByAssumptions =
    (c : FunctionContract) (s t : State) (hs : List Bool) → entry (Some c) s ≡ Normal hs t
    → (k : ℕ) (b : NamedBehavior) → slice_get c.behaviors k ≡ Some b → IsByAssumptions s b (holds_at k hs)

-- an annotation says one thing, with however many steps left
abbrev pub AnswersNeedNoSteps : Type 0
AnswersNeedNoSteps = (s : State) (a : Annotation) → IsSaid s a true → IsSaid s a false → ⊥
