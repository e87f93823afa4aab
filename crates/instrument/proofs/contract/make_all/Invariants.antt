use Rattle.std.proofs.Common.{◌≡◌, drop}
use Rattle.c_effects.specs.Named.{with_registers}
use Rattle.instrument.proofs.contract.make_all.Given as goal

abbrev pub invariant-kinds : goal.invariant-kinds
invariant-kinds l = with_registers (drop l.kind-index l.kinds) l.names ≡ with_registers l.kinds l.initial.names
