use Rattle.std.proofs.Common.{rules, arith}
use Rattle.c_scopes.specs.TypeNames.{name_of_type}
use Rattle.c_scopes.proofs.Firsts.{first_within}
use Rattle.c_scopes.proofs.Named.{named, none_named}
use Rattle.c_scopes.proofs.type_name.TypeNames.named.Goals as goal

pub index-requires : goal.index-requires
index-requires c =
    let self = c.args.self.now in
    let within = first_within name_of_type self.list.items self.firsts.entries c.args.name c.in-Some.number.now self.first (search rules) in
    omega (arith, within, self.list.ok)

pub returns-in-Some : goal.returns-in-Some
returns-in-Some c = let self = c.args.self.now in named self.list.items self.firsts.entries c.args.name c.in-Some.number.now c.index.result.now self.first (search rules) (search rules)

pub returns-in-None : goal.returns-in-None
returns-in-None c = let self = c.args.self.now in none_named self.list.items self.firsts.entries c.args.name self.first (search rules)
