use Rattle.std.proofs.Common.{◌≡◌, ℕ, nat_eq, ap, rules, ◌∙◌}
use Rattle.indexmap.specs.IndexMap.{insert_entry}
use Rattle.mon_typing.proofs.Headers.{noted_new, noted_old}
use Rattle.mon_typing.proofs.header.note.Goals as goal

pub returns-in_ok-insert : goal.returns-in_ok-insert
returns-in_ok-insert c =
    let same : c.in-Ok.number ≡ c.args.number = search rules in
    c.in_ok-insert.ensures.entries ∙ ap (λ (n : ℕ). insert_entry nat_eq c.args.firsts.now.entries c.args.name n) same
    ∙ noted_new c.args.firsts.now.entries c.args.name c.args.number c.contains_key.result c.contains_key.ensures (search rules)

pub returns-else-not-contains_key : goal.returns-else-not-contains_key
returns-else-not-contains_key c = noted_old c.args.firsts.now.entries c.args.name c.args.number c.contains_key.result c.contains_key.ensures (search rules)
