use Rattle.std.proofs.Common.{rules, arith, ◌∙◌}
use Rattle.c_scopes.proofs.Objects.{object_within, object_found}
use Rattle.c_scopes.proofs.Earlier.{object_seen, object_hidden, no_object_seen}
use Rattle.c_scopes.proofs.declarations.Declarations.object_before.Goals as goal

pub index-requires : goal.index-requires
index-requires c =
    let self = c.args.self.now in
    let lt = object_within self.declared.items self.firsts.entries c.args.decl self.first c.in-Some.number.now (search rules) in
    omega (arith, lt, self.declared.ok)

pub returns-then-number-count : goal.returns-then-number-count
returns-then-number-count c =
    let self = c.args.self.now in
    let n = c.in-Some.number.now in
    c.object_in.ensures ∙ object_found self.declared.items self.firsts.entries c.args.decl self.first n c.index.result.now (search rules) (search rules)
    ∙ object_seen self.declared.items self.firsts.entries c.args.decl c.args.count self.first n (search rules) c.if-number-count.true

pub returns-else-number-count : goal.returns-else-number-count
returns-else-number-count c =
    let self = c.args.self.now in
    object_hidden self.declared.items self.firsts.entries c.args.decl c.args.count self.first c.in-Some.number.now (search rules) (omega (arith, c.if-number-count.false))

pub returns-in-None : goal.returns-in-None
returns-in-None c =
    let self = c.args.self.now in
    no_object_seen self.declared.items self.firsts.entries c.args.decl c.args.count self.first (search rules)
