use Rattle.std.proofs.Common.{◌≡◌, drop, map}
use Rattle.c_syntax.specs.Statements.{plain_decl}
use Rattle.c_effects.specs.Named.{with_registers}
use Rattle.instrument.specs.Translation.{value_types}
use Rattle.instrument.proofs.parameter.make_arguments.Given as goal

abbrev pub invariant-params : goal.invariant-params
invariant-params l = with_registers (value_types (map plain_decl (drop l.d-index l.params))) l.names ≡ with_registers (value_types (map plain_decl l.params)) l.initial.names
