-- Ours: the ends of monitored programs.
-- How a run of a monitored program ends, and the end that it has where the source ends so.
use Rattle.std.specs.Prelude.{ℕ, ℤ, List, Option, Some, None}
use Rattle.c_syntax.specs.declared.annotation.Kind.{Kind}
use Rattle.c_syntax.specs.declared.types.How.{How}
use Rattle.c_syntax.specs.declared.types.Segment.{Segment}
use Rattle.c_model.specs.State as source

-- how a run of a monitored program ends
pub data Final : Type 0 where
  Exits : ℤ → Final
  -- the annotation's number, its line, its kind, and how it is broken
  Broken : ℕ → ℕ → Kind → How → Final
  -- the machine can't go on; over numbered blocks, an operation has no meaning
  Fault : Final
  Spent : Final
  Full : Segment → Final
  ReadFault : Final

-- a run of a monitored program: its end, what it printed, and the steps left
pub record Ran : Type 0 where
  pub final : Final
  pub output : List ℕ
  pub left : ℕ

-- the same end; an undefined operation has none
abbrev pub machine_end : source.Final → Option Final
machine_end (source.Exits k) = Some (Exits k)
machine_end (source.Broken number line kind how) = Some (Broken number line kind how)
machine_end (source.Undefined at) = None
machine_end source.Spent = Some Spent
machine_end (source.Full segment) = Some (Full segment)
machine_end source.ReadFault = Some ReadFault

-- an end but for a fault
abbrev pub end_without_fault : Final → Option Final
end_without_fault (Exits k) = Some (Exits k)
end_without_fault (Broken number line kind how) = Some (Broken number line kind how)
end_without_fault Fault = None
end_without_fault Spent = Some Spent
end_without_fault (Full segment) = Some (Full segment)
end_without_fault ReadFault = Some ReadFault
