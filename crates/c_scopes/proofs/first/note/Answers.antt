use Rattle.std.proofs.Common.{rules, ◌≡◌, is_some, true, false, nat_eq}
use Rattle.std.specs.Map.{lookup}
use Rattle.c_scopes.specs.Firsts.{IsNoted}
use Rattle.c_scopes.proofs.Firsts.{first_kept, first_new, first_noted}
use Rattle.c_scopes.proofs.first.note.Goals as goal

pub returns-then-contains_key-clause-each : goal.returns-then-contains_key-clause-each
returns-then-contains_key-clause-each c =
    let known : is_some (lookup (nat_eq c.args.key) c.args.firsts.now.entries) ≡ true = search rules in
    first_kept c.args.firsts.now.entries c.args.key c.args.number known

pub returns-then-contains_key-clause-noted : goal.returns-then-contains_key-clause-noted
returns-then-contains_key-clause-noted c =
    let known : is_some (lookup (nat_eq c.args.key) c.args.firsts.now.entries) ≡ true = search rules in
    first_noted c.args.firsts.now.entries c.args.firsts.now.entries c.args.key c.args.number (first_kept c.args.firsts.now.entries c.args.key c.args.number known)

pub returns-clause-each : goal.returns-clause-each
returns-clause-each c =
    let fresh : is_some (lookup (nat_eq c.args.key) c.args.firsts.now.entries) ≡ false = search rules in
    first_new c.args.firsts.now.entries c.insert.new.self.entries c.args.key c.args.number fresh c.in_ok-insert.ensures.updates.0

pub returns-clause-noted : goal.returns-clause-noted
returns-clause-noted c =
    let fresh : is_some (lookup (nat_eq c.args.key) c.args.firsts.now.entries) ≡ false = search rules in
    let each : IsNoted c.args.firsts.now.entries c.args.key c.args.number c.insert.new.self.entries = first_new c.args.firsts.now.entries c.insert.new.self.entries c.args.key c.args.number fresh c.in_ok-insert.ensures.updates.0 in
    first_noted c.args.firsts.now.entries c.insert.new.self.entries c.args.key c.args.number each
