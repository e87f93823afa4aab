use Rattle.std.proofs.Common.{◌≡◌, drop, map}
use Rattle.c_syntax.specs.Programs.{plain_behavior}
use Rattle.c_effects.specs.Named.{with_registers}
use Rattle.instrument.specs.Options.{flag_types}
use Rattle.instrument.proofs.keeping.keep_flags.Given as goal

abbrev pub invariant-behaviors : goal.invariant-behaviors
invariant-behaviors l = with_registers (flag_types (map plain_behavior (drop l.index l.behaviors))) l.names ≡ with_registers (flag_types (map plain_behavior l.behaviors)) l.initial.names
