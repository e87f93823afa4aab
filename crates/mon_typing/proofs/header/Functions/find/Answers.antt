use Rattle.std.proofs.Common.{rules, arith}
use Rattle.mon_typing.proofs.Headers.{first_within, first_is}
use Rattle.mon_typing.proofs.header.Functions.find.Goals as goal

pub index-requires : goal.index-requires
index-requires c =
    let within = first_within c.args.self.now.headers.items c.args.self.now.firsts.entries c.args.name c.in-Some.number.now c.args.self.now.first (search rules) in
    omega (arith, within, c.args.self.now.headers.ok)

pub returns-in-Some : goal.returns-in-Some
returns-in-Some c = first_is c.args.self.now.headers.items c.args.self.now.firsts.entries c.args.name c.in-Some.number.now c.index.result.now c.args.self.now.first (search rules) (search rules)
