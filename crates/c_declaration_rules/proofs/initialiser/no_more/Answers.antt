use Rattle.std.proofs.Common.{rules, arith, ◌≤◌, drop, length, slice_set}
use Rattle.c_syntax.specs.Statements.{plain_inits}
use Rattle.c_scopes.specs.Sights.{plain_sight}
use Rattle.c_declaration_rules.proofs.Initialisers.{some_behind}
use Rattle.c_declaration_rules.proofs.initialiser.no_more.Goals as goal

pub returns-clause-typed : goal.returns-clause-typed
returns-clause-typed c =
    let old = c.args.items.now.items in
    let behind = plain_inits (drop 1 (slice_set old 1 c.too_many.new.item)) in
    let le : 2 ≤ length old = search (rules, arith) in
    let whole = some_behind (plain_sight c.args.sight.now) old c.index_mut.result.now behind c.too_many.result le c.index_mut.ensures.value (c.too_many.ensures behind) in
    search (rules, whole)
