-- Ours: what the translation owes its source.
-- When a program in monitored C is a translation of a program in annotated C.
use Rattle.std.specs.Prelude.{ℕ}
use Rattle.c_syntax.specs.Programs.{TranslationUnit}
use Rattle.c_model.specs.State.{Input}
use Rattle.c_model.specs.Meaning.{run}
use Rattle.c_model.specs.Reports.{Agrees}
use Rattle.mon_syntax.specs.Trees.{MonitoredProgram}
use Rattle.mon_syntax.specs.FlatMemory.{flat_run}
use Rattle.mon_syntax.specs.Valid.{IsValid}

-- it is valid, and on the machine it does what the source does, up to the source's first undefined operation
pub record Translates (p : TranslationUnit) (m : MonitoredProgram) : Type 0 where
  pub valid : IsValid m
  pub agrees : (input : Input) (n : ℕ) → Agrees (run p input n) (flat_run m input n)
