use Rattle.std.proofs.Common.{◌≡◌, drop, map}
use Rattle.c_syntax.specs.Statements.{plain_decl}
use Rattle.mon_syntax.specs.Registers.{next_register}
use Rattle.mon_syntax.specs.Trees.{plain_stmts}
use Rattle.c_effects.specs.Expressions.{before}
use Rattle.c_effects.specs.Named.{unit_of}
use Rattle.instrument.specs.Options.{entering}
use Rattle.instrument.specs.Translation.{parameters}
use Rattle.instrument.proofs.parameter.enter_all.Given as goal

abbrev pub invariant-params : goal.invariant-params
invariant-params l = record {
  code : before (plain_stmts l.to.items) (parameters (unit_of l.names) (next_register l.names.table) l.argument (map plain_decl (drop l.d-index l.params))) ≡
      before (plain_stmts l.initial.to.items) (parameters (unit_of l.initial.names) (next_register l.initial.names.table) 0 (map plain_decl l.params));
  names : entering (map plain_decl (drop l.d-index l.params)) l.names ≡ entering (map plain_decl l.params) l.initial.names;
}
