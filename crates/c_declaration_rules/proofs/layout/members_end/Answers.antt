use Rattle.std.proofs.Common.{map, rules}
use Rattle.c_syntax.specs.Programs.{plain_layout}
use Rattle.c_declaration_rules.proofs.Layouts.{end_last, end_none}
use Rattle.c_declaration_rules.proofs.layout.members_end.Goals as goal

pub returns-in-None-clause-end : goal.returns-in-None-clause-end
returns-in-None-clause-end c = end_none (map plain_layout c.args.structs.now) c.args.members.now (search rules)

pub returns-in_ok-size-in-Some-clause-end : goal.returns-in_ok-size-in-Some-clause-end
returns-in_ok-size-in-Some-clause-end c = let e = end_last (map plain_layout c.args.structs.now) c.args.members.now c.in-Some.m.now (search rules) in search (rules, e)
