-- Ours: a buffer before a sink.
-- What a sink tells, what waits for it, and its count of faults, over several puts.
use Rattle.std.specs.Prelude.{◌≡◌, ℕ, List, ◌++◌, Option, Result, MatchResult}
use Rattle.ea_ports.specs.Port.{more, Rose}
use Rattle.ea_ports.specs.declared.SinkFault.{SinkFault}
use Rattle.ea_ports.specs.declared.SinkFault.TheVariants.{Failed, Memory}

-- a sink with the bytes that wait for it
pub record Port : Type 0 where
  pub told : Option (List ℕ)
  pub waiting : List ℕ
  pub faults : ℕ

abbrev pub port_of : Option (List ℕ) → List ℕ → ℕ → Port
port_of told waiting faults = record { told = told; waiting = waiting; faults = faults }

-- these bytes were written: some were sent, the others wait
pub record Wrote (p q : Port) (bytes : List ℕ) : Type 0 where
  pub sent : List ℕ
  pub told_is : q.told ≡ more p.told sent
  pub bytes_are : p.waiting ++ bytes ≡ sent ++ q.waiting
  pub faults_is : q.faults ≡ p.faults

-- the count where a sink refuses: it rose where the sink failed, and is as before if memory ran out
abbrev pub FaultCount : ℕ → ℕ → SinkFault → Type 0
FaultCount before now Failed = Rose before now
FaultCount before now Memory = now ≡ before

-- these bytes were written up to a refusal: some were sent, the others are lost
pub record Lost (p : Port) (told : Option (List ℕ)) (faults : ℕ) (bytes : List ℕ) (fault : SinkFault) : Type 0 where
  pub sent : List ℕ
  pub lost : List ℕ
  pub told_is : told ≡ more p.told sent
  pub bytes_are : p.waiting ++ bytes ≡ sent ++ lost
  pub count : FaultCount p.faults faults fault

-- what a call says of a write: all these bytes were written, or the sink refused
abbrev pub Writes : {T : Type 0} → Port → Port → List ℕ → Result T SinkFault → Type 0
Writes p q bytes result = MatchResult result (λ _. Wrote p q bytes) (λ fault. Lost p q.told q.faults bytes fault)
