use Rattle.std.proofs.Common.{rules, arith}
use Rattle.c_scopes.proofs.Earlier.{seen_within, seen_from, seen_hidden, none_from}
use Rattle.c_scopes.proofs.declarations.Declarations.named_between.Goals as goal

pub index-requires : goal.index-requires
index-requires c =
    let self = c.args.self.now in
    let lt = seen_within c.args.name c.args.count c.in-Some.number self.declared.items (search rules) in
    omega (arith, lt, self.declared.ok)

pub returns-then-from-number : goal.returns-then-from-number
returns-then-from-number c =
    let self = c.args.self.now in
    seen_from c.args.name c.args.count c.in-Some.number self.declared.items (search rules) c.index.result.now c.args.from c.if-from-number.true (search rules)

pub returns-else-from-number : goal.returns-else-from-number
returns-else-from-number c =
    let self = c.args.self.now in
    seen_hidden c.args.name c.args.count c.args.from c.in-Some.number self.declared.items (search rules) (omega (arith, c.if-from-number.false))

pub returns-in-None : goal.returns-in-None
returns-in-None c =
    let self = c.args.self.now in
    none_from c.args.name c.args.count c.args.from self.declared.items (search rules)
