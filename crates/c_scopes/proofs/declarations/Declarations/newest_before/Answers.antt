use Rattle.std.proofs.Common.{rules, arith, ◌≡◌, sym, ap, ◌∙◌, Some}
use Rattle.c_scopes.proofs.Earlier.{back_from, back_within, back_found, back_ends, back_more, back_smaller}
use Rattle.c_scopes.proofs.declarations.Declarations.newest_before.Goals as goal

pub back-init : goal.back-init
back-init c =
    let self = c.args.self.now in
    back_from c.args.name c.args.count self.declared.items self.newest.entries c.copied-newest.result self.found (search rules)

pub returns-then-number-count : goal.returns-then-number-count
returns-then-number-count c =
    back_found c.args.name c.args.count c.args.self.now.declared.items c.back.newest c.back.invariant c.in-Some.number c.in-Some.is c.if-number-count.true

pub index-requires : goal.index-requires
index-requires c =
    let self = c.args.self.now in
    let lt = back_within c.args.name c.args.count self.declared.items c.back.newest c.back.invariant c.in-Some.number c.in-Some.is in
    omega (arith, lt, self.declared.ok)

pub back-smaller : goal.back-smaller
back-smaller c =
    let self = c.args.self.now in
    back_smaller c.args.name c.args.count self.declared.items c.back.newest c.back.invariant c.in-Some.number c.index.result.now self.hidden c.in-Some.is (omega (arith, c.if-number-count.false)) (search rules)

pub back-preserved : goal.back-preserved
back-preserved c =
    let self = c.args.self.now in
    back_more c.args.name c.args.count self.declared.items c.back.newest c.back.invariant c.in-Some.number c.index.result.now self.hidden c.in-Some.is (omega (arith, c.if-number-count.false)) (search rules)

pub returns : goal.returns
returns c = back_ends c.args.name c.args.count c.args.self.now.declared.items c.back.newest c.back.invariant c.in_default.is
