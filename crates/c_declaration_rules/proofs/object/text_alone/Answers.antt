use Rattle.std.proofs.Common.{◌≤◌, length, arith}
use Rattle.c_scopes.specs.Sights.{plain_sight}
use Rattle.c_declaration_rules.proofs.Lists.{several_bytes}
use Rattle.c_declaration_rules.proofs.object.text_alone.Goals as goal

pub returns-in_default-3 : goal.returns-in_default-3
returns-in_default-3 c = let le : 2 ≤ length c.args.items.now = omega (arith, c.in_default.len_at_least) in several_bytes (plain_sight c.args.sight.now) c.args.items.now le
