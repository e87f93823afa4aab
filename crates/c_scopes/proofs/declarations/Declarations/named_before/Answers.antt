use Rattle.std.proofs.Common.{rules, arith}
use Rattle.c_scopes.proofs.Earlier.{seen_within, seen_found, seen_none}
use Rattle.c_scopes.proofs.declarations.Declarations.named_before.Goals as goal

pub index-requires : goal.index-requires
index-requires c =
    let self = c.args.self.now in
    let lt = seen_within c.args.name c.args.count c.in-Some.number self.declared.items (search rules) in
    omega (arith, lt, self.declared.ok)

pub returns-in-Some : goal.returns-in-Some
returns-in-Some c =
    let self = c.args.self.now in
    seen_found c.args.name c.args.count c.in-Some.number self.declared.items (search rules) c.index.result.now (search rules)

pub returns-in-None : goal.returns-in-None
returns-in-None c =
    let self = c.args.self.now in
    seen_none c.args.name c.args.count self.declared.items (search rules)
