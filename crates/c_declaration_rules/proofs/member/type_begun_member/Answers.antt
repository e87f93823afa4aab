use Rattle.std.proofs.Common.{ap, map, sym, subst, rules}
use Rattle.c_syntax.specs.Programs.{plain_layout}
use Rattle.c_scopes.specs.Sights.{plain_sight}
use Rattle.c_declaration_rules.specs.OpenStructs.{IsOpen, IsOpenAt}
use Rattle.c_declaration_rules.proofs.OpenStructs.{one_more_open}
use Rattle.c_declaration_rules.proofs.member.type_begun_member.Goals as goal

pub names_at-requires-clause-begun : goal.names_at-requires-clause-begun
names_at-requires-clause-begun c = subst (λ structs. IsOpen structs c.args.begun.now) (sym (ap (map plain_layout) c.deref.ensures.value)) c.requires.begun

pub type_next_member-requires-clause-begun : goal.type_next_member-requires-clause-begun
type_next_member-requires-clause-begun c = subst (λ structs. IsOpenAt structs c.args.k c.in_ok-names.names) (ap (map plain_layout) c.deref.ensures.value) c.in_ok-names.ensures.names

pub returns-in_ok-insert-clause-begun : goal.returns-in_ok-insert-clause-begun
returns-in_ok-insert-clause-begun c =
    let others = subst (λ structs. IsOpen structs c.names_at.new.begun) (ap (map plain_layout) c.deref.ensures.value) c.names_at.ensures.others in
    one_more_open (plain_sight c.type_next_member.new.sight).structs c.args.k c.type_next_member.new.names c.names_at.new.begun.names c.insert.new.self c.in_ok-insert.ensures.updates.0
    (c.in_ok-type_next_member.ensures.begun (search rules)) (c.in_ok-type_next_member.ensures.others c.names_at.new.begun c.names_at.ensures.taken others)

pub returns-else-not-ends-clause-begun : goal.returns-else-not-ends-clause-begun
returns-else-not-ends-clause-begun c =
    let others = subst (λ structs. IsOpen structs c.names_at.new.begun) (ap (map plain_layout) c.deref.ensures.value) c.names_at.ensures.others in
    c.in_ok-type_next_member.ensures.others c.names_at.new.begun c.names_at.ensures.taken others
