use Rattle.std.proofs.Common.{◌<◌, rules, arith, length, drop}
use Rattle.c_syntax.specs.Ctypes.{plain_type}
use Rattle.c_syntax.specs.Statements.{plain_init, plain_inits, Listed}
use Rattle.c_model.specs.DeclarationTyping.{no_more, typed_alone}
use Rattle.c_scopes.specs.Answers.{Answers}
use Rattle.c_scopes.specs.Sights.{plain_sight}
use Rattle.c_declaration_rules.specs.Initialisers.{allowed}
use Rattle.c_declaration_rules.proofs.Initialisers.{alone_in_place}
use Rattle.c_declaration_rules.proofs.initialiser.type_alone.Goals as goal

pub returns : goal.returns
returns c =
    let s = plain_sight c.args.sight.now in
    let ok = allowed s c.args.global in
    let ctype = plain_type c.args.t.now in
    let old = c.args.items.now.items in
    let x = c.index_mut.result.now in
    let y = c.type_first.new.first in
    let lt : 0 < length old = search (rules, arith) in
    let cur = c.no_more-more.new.items.items in
    let more : Answers (λ (u : Unit {0}). plain_inits (drop 1 cur)) (no_more s (plain_inits (drop 1 old))) c.no_more-more.result = search rules in
    let first : Answers (λ (u : Unit {0}). Listed (plain_init y) (plain_inits (drop 1 cur))) (typed_alone s ok ctype (Listed (plain_init x) (plain_inits (drop 1 old)))) c.type_first.result =
    c.type_first.ensures (plain_inits (drop 1 old)) (plain_inits (drop 1 cur)) more in
    let whole = alone_in_place s ok ctype old cur x y c.type_first.result lt c.no_more-more.ensures.count c.no_more-more.ensures.first c.index_mut.ensures.value first in
    search (rules, whole)
