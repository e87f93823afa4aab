use Rattle.std.proofs.Common.{◌≡◌, drop}
use Rattle.c_effects.specs.Named.{with_registers}
use Rattle.annot_pieces.specs.Tables.{plain_plan}
use Rattle.instrument.specs.Options.{types_of_kept}
use Rattle.instrument.proofs.keeping.keep_terms.Given as goal

abbrev pub invariant-terms : goal.invariant-terms
invariant-terms l = with_registers (types_of_kept (plain_plan (drop l.entry-index l.kept))) l.names ≡ with_registers (types_of_kept (plain_plan l.kept)) l.initial.names
