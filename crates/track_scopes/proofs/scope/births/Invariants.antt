use Rattle.std.proofs.Common.{◌≡◌, ◌++◌, drop, map}
use Rattle.c_syntax.specs.Programs.{plain_layout}
use Rattle.c_syntax.specs.Statements.{plain_decl}
use Rattle.mon_syntax.specs.Registers.{next_register, with_table}
use Rattle.mon_syntax.specs.Trees.{plain_stmt}
use Rattle.track_scopes.specs.Blocks.{AreSmall, entered}
use Rattle.track_scopes.proofs.Sequences.{birth_list}
use Rattle.track_scopes.proofs.scope.births.Given as goal

abbrev pub invariant-decls : goal.invariant-decls
invariant-decls l = record {
  code : map plain_stmt l.code.items ++ birth_list (map plain_layout l.structs) (next_register l.names.table) (map plain_decl (drop l.d-index l.decls)) ≡
      birth_list (map plain_layout l.structs) (next_register l.initial.names.table) (map plain_decl l.decls);
  names : with_table (entered (map plain_decl (drop l.d-index l.decls)) l.names.table) l.names ≡ with_table (entered (map plain_decl l.decls) l.initial.names.table) l.initial.names;
  small : AreSmall (map plain_layout l.structs) (map plain_decl (drop l.d-index l.decls)) → AreSmall (map plain_layout l.structs) (map plain_decl l.decls);
}
