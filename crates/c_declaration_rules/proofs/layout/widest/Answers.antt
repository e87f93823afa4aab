use Rattle.std.proofs.Common.{map, arith}
use Rattle.c_syntax.specs.Programs.{plain_layout, plain_member}
use Rattle.c_declaration_rules.proofs.Layouts.{widest_start}
use Rattle.c_declaration_rules.proofs.layout.widest.Goals as goal

pub turn-init : goal.turn-init
turn-init c = record { most = widest_start (map plain_layout c.args.structs.now) (map plain_member c.args.members.now); some = omega arith }
