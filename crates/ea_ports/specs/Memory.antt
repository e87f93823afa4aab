-- Ours: ports for tests.
-- What a contract sees of the ports in memory whose listed calls fail.
use Rattle.std.specs.Prelude.{ℕ, Bool, ◌&&◌, List, length, nat_lt}
use Rattle.ea_ports.specs.Calls.{Calls, next_is_listed}

-- a folder: the names and contents of its files
pub record FolderState : Type 0 where
  pub files : List (List ℕ × List ℕ)
  pub calls : Calls

-- a source: the bytes left
pub record SourceState : Type 0 where
  pub left : List ℕ
  pub calls : Calls

-- a sink: the bytes so far
pub record SinkState : Type 0 where
  pub bytes : List ℕ
  pub calls : Calls

-- the next put of these bytes fails: its number is listed, and there is a byte
abbrev pub put_fails : Calls → List ℕ → Bool
put_fails calls bytes = next_is_listed calls && nat_lt 0 (length bytes)
