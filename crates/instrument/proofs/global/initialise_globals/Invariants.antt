use Rattle.std.proofs.Common.{◌≡◌, drop, map}
use Rattle.c_syntax.specs.Statements.{plain_decl}
use Rattle.mon_syntax.specs.Trees.{plain_stmts}
use Rattle.c_initialisers.specs.Letters.{InitialsHaveLetters}
use Rattle.c_effects.specs.Expressions.{before}
use Rattle.c_effects.specs.Named.{unit_of, with_registers}
use Rattle.instrument.specs.Options.{globals_initialised}
use Rattle.instrument.specs.Translation.{all_global_temporaries}
use Rattle.instrument.proofs.global.initialise_globals.Given as goal

abbrev pub invariant-decls : goal.invariant-decls
invariant-decls l = record {
  code : before (plain_stmts l.to.items) (globals_initialised l.names (map plain_decl (drop l.d-index l.decls))) ≡ before (plain_stmts l.initial.to.items) (globals_initialised l.initial.names (map plain_decl l.decls));
  names : with_registers (all_global_temporaries (unit_of l.names) (map plain_decl (drop l.d-index l.decls))) l.names ≡ with_registers (all_global_temporaries (unit_of l.initial.names) (map plain_decl l.decls)) l.initial.names;
  letters : InitialsHaveLetters (map plain_decl (drop l.d-index l.decls)) → InitialsHaveLetters (map plain_decl l.decls);
}
