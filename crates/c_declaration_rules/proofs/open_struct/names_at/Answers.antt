use Rattle.std.proofs.Common.{rules, arith, map}
use Rattle.c_syntax.specs.Programs.{plain_layout}
use Rattle.c_declaration_rules.proofs.Members.{at_place}
use Rattle.c_declaration_rules.proofs.OpenStructs.{fewer_open, found_at}
use Rattle.c_declaration_rules.proofs.open_struct.names_at.Goals as goal

pub returns-in-Some-clause-names : goal.returns-in-Some-clause-names
returns-in-Some-clause-names c = c.requires.begun c.args.k c.in-Some.names (search rules)

pub returns-in-Some-clause-others : goal.returns-in-Some-clause-others
returns-in-Some-clause-others c = fewer_open (map plain_layout c.args.structs.now) c.args.k c.args.begun.now.names c.swap_remove.new.self c.swap_remove.ensures.updates.0 c.requires.begun

pub returns-in-None-clause-names : goal.returns-in-None-clause-names
returns-in-None-clause-names c =
    let l = c.index-structs-k.result in
    let there = at_place c.args.structs.now c.args.k l (search (rules, arith)) (search rules) in
    found_at (map plain_layout c.args.structs.now) c.args.k (plain_layout l) c.names_in.result there c.names_in.ensures.laid c.names_in.ensures.named

pub returns-in-None-clause-others : goal.returns-in-None-clause-others
returns-in-None-clause-others c = fewer_open (map plain_layout c.args.structs.now) c.args.k c.args.begun.now.names c.swap_remove.new.self c.swap_remove.ensures.updates.0 c.requires.begun
