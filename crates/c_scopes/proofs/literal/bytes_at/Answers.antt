use Rattle.std.proofs.Common.{rules, arith}
use Rattle.c_scopes.specs.Literals.{offset_of_literal}
use Rattle.c_scopes.proofs.Firsts.{first_within}
use Rattle.c_scopes.proofs.Named.{bytes_found, no_bytes}
use Rattle.c_scopes.proofs.literal.bytes_at.Goals as goal

pub index-requires : goal.index-requires
index-requires c =
    let texts = c.args.texts.now in
    let within = first_within offset_of_literal texts.list.items texts.firsts.entries c.args.offset c.in-Some.number.now texts.first (search rules) in
    omega (arith, within, texts.list.ok)

pub returns-in-Some : goal.returns-in-Some
returns-in-Some c = let texts = c.args.texts.now in bytes_found texts.list.items texts.firsts.entries c.args.offset c.in-Some.number.now c.index.result.now c.bytes.result.now texts.first (search rules) (search rules) (search rules)

pub returns-in-None : goal.returns-in-None
returns-in-None c = let texts = c.args.texts.now in no_bytes texts.list.items texts.firsts.entries c.args.offset texts.first (search rules)
