-- The output of an evaluation only grows.
use Rattle.std.specs.Prelude.{◌≡◌, ℕ, List, ◌++◌}
use Rattle.c_model.specs.State.{State, Outcome, Normal, Stop, Evaluation}

-- the output at an outcome
abbrev pub output_after : {A : Type 0} → Outcome A → List ℕ
output_after (Normal a s) = s.output
output_after (Stop e s) = s.output

-- the output at an outcome goes on from this one
pub record Grown {A : Type 0} (o : List ℕ) (r : Outcome A) : Type 0 where
  pub rest : List ℕ
  pub is : output_after r ≡ o ++ rest

-- from every state the output only grows
pub record Grows {A : Type 0} (m : Evaluation A) : Type 0 where
  pub at : (s : State) → Grown s.output (m s)
