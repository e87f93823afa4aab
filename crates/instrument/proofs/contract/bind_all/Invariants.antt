use Rattle.std.proofs.Common.{◌≡◌, ◌+◌, ◌≤◌, drop, length, map}
use Rattle.c_syntax.specs.Statements.{plain_decl}
use Rattle.mon_syntax.specs.Registers.{next_register, with_table}
use Rattle.instrument.specs.Options.{bound_from}
use Rattle.instrument.proofs.contract.bind_all.Given as goal

abbrev pub invariant-params : goal.invariant-params
invariant-params l = record {
  bound : with_table (record l.names.table { bound = bound_from l.register (map plain_decl (drop l.d-index l.params)) l.names.table.bound }) l.names
      ≡ with_table (record l.initial.names.table { bound = bound_from l.first (map plain_decl l.params) l.initial.names.table.bound }) l.initial.names;
  room : l.register + length (drop l.d-index l.params) ≤ next_register l.names.table;
}
