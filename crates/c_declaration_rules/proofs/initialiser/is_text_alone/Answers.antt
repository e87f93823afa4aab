use Rattle.std.proofs.Common.{◌≤◌, length, arith}
use Rattle.c_declaration_rules.proofs.Lists.{several_text}
use Rattle.c_declaration_rules.proofs.initialiser.is_text_alone.Goals as goal

pub returns-in_default-3 : goal.returns-in_default-3
returns-in_default-3 c = let le : 2 ≤ length c.args.items.now = omega (arith, c.in_default.len_at_least) in several_text c.args.items.now le
