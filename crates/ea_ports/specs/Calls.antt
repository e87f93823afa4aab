-- Ours: ports for tests.
-- The calls of a port in memory: which of them fail, how many were made and how many failed.
use Rattle.std.specs.Prelude.{ℕ, Bool, List, ◌==◌, if◌then◌else◌}
use Rattle.std.specs.List.{list_any}
use Rattle.ea_ports.specs.Port.{raised}

-- the numbers, from 1, of the calls that fail; the calls so far, and those of them that failed
pub record Calls : Type 0 where
  pub failing : List ℕ
  pub made : ℕ
  pub failed : ℕ

-- before the first call
abbrev pub no_calls : List ℕ → Calls
no_calls failing = record { failing = failing; made = 0; failed = 0 }

-- the number of the next call is among those that fail
abbrev pub next_is_listed : Calls → Bool
next_is_listed calls = list_any (λ number. number == raised calls.made) calls.failing

-- after one more call, which failed or not
abbrev pub after_call : Bool → Calls → Calls
after_call fails calls = record {
  failing = calls.failing;
  made = raised calls.made;
  failed = if fails then raised calls.failed else calls.failed;
}
