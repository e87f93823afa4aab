use Rattle.std.proofs.Common.{map}
use Rattle.c_syntax.specs.Programs.{plain_layout}
use Rattle.c_syntax.specs.Statements.{plain_decl}
use Rattle.mon_syntax.specs.Registers.{next_register}
use Rattle.track_scopes.proofs.Births.{enters}
use Rattle.track_scopes.proofs.scope.enter.Goals as goal

pub returns-clause-enters : goal.returns-clause-enters
returns-clause-enters c =
    enters (map plain_layout c.args.names.now.program.structs.items) (next_register c.args.names.now.table) (map plain_decl c.args.decls.now) c.births.result
    c.births.ensures.code c.births.ensures.small
