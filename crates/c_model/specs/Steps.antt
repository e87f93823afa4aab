-- How evaluations spend steps, and when two of them are the same.
use Rattle.std.specs.Prelude.{◌≡◌, ℕ, ◌≤◌, List}
use Rattle.c_syntax.specs.declared.place.Place.{Place}
use Rattle.c_syntax.specs.declared.expression.Use.{Use}
use Rattle.c_model.specs.Memory.{Value}
use Rattle.c_model.specs.State.{State, Outcome, Normal, Stop, Evaluation}
use Rattle.c_model.specs.Meaning.{Callee}

-- the steps left at an outcome
abbrev pub steps_after : {A : Type 0} → Outcome A → ℕ
steps_after (Normal a s) = s.steps
steps_after (Stop e s) = s.steps

-- from at most k steps the two evaluations are the same, and no step is gained
pub record Fit {A : Type 0} (k : ℕ) (m m' : Evaluation A) : Type 0 where
  pub same : (s : State) → s.steps ≤ k → m s ≡ m' s
  pub spends : (s : State) → s.steps ≤ k → steps_after (m s) ≤ s.steps

abbrev pub CalleesFit : ℕ → Callee → Callee → Type 0
CalleesFit k call call' = (at : Place) (f : Use) (vs : List Value) → Fit k (call at f vs) (call' at f vs)
