use Rattle.std.proofs.Common.{◌≡◌, drop, map}
use Rattle.c_syntax.specs.Statements.{plain_decl}
use Rattle.mon_syntax.specs.Trees.{plain_stmts}
use Rattle.c_initialisers.specs.Letters.{InitialsHaveLetters}
use Rattle.c_effects.specs.Expressions.{before}
use Rattle.c_initialisers.specs.Translation.{declaration_temporaries}
use Rattle.c_initialisers.specs.Initialisers.{initialise_all_by}
use Rattle.c_effects.specs.Named.{unit_of, with_registers}
use Rattle.c_initialisers.proofs.initialiser.initialise_all.Given as goal

abbrev pub invariant-decls : goal.invariant-decls
invariant-decls l = record {
  code : before (plain_stmts l.to.items) (initialise_all_by l.names (map plain_decl (drop l.d-index l.decls))) ≡ before (plain_stmts l.initial.to.items) (initialise_all_by l.initial.names (map plain_decl l.decls));
  names : with_registers (declaration_temporaries (unit_of l.names) (map plain_decl (drop l.d-index l.decls))) l.names ≡ with_registers (declaration_temporaries (unit_of l.initial.names) (map plain_decl l.decls)) l.initial.names;
  letters : InitialsHaveLetters (map plain_decl (drop l.d-index l.decls)) → InitialsHaveLetters (map plain_decl l.decls);
}
