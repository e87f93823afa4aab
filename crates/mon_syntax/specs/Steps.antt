-- Ours: a view of how a part ended.
-- The steps that are left after a part of a run.
use Rattle.std.specs.Prelude.{ℕ}
use Rattle.mon_syntax.specs.Meaning.{State, Result, Done, Stops}

abbrev pub steps_after : {Mem A : Type 0} → Result (State Mem) A → ℕ
steps_after (Done a s o) = s.steps
steps_after (Stops e n o) = n
