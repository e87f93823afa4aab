use Rattle.std.proofs.Common.{rules, subst, sym}
use Rattle.c_syntax.specs.Ctypes.{plain_type}
use Rattle.c_syntax.specs.Expressions.{place_of, plain_expr}
use Rattle.c_syntax.specs.Statements.{Initialiser, One, Initialisers, Listed, plain_init}
use Rattle.c_model.specs.Checked.{one_part}
use Rattle.c_model.specs.ExpressionTyping.{typed}
use Rattle.c_model.specs.DeclarationTyping.{initial_value, no_more, typed_alone}
use Rattle.c_scopes.specs.Answers.{Answers}
use Rattle.c_scopes.specs.Sights.{plain_sight}
use Rattle.c_scopes.proofs.Least.{both_made}
use Rattle.c_declaration_rules.specs.Initialisers.{allowed}
use Rattle.c_declaration_rules.proofs.initialiser.type_first.Goals as goal

pub returns-in-One : goal.returns-in-One
returns-in-One c = λ is js h.
    let s = plain_sight c.args.sight.now in
    let ok = allowed s c.args.global in
    let ctype = plain_type c.args.t.now in
    let e = plain_expr c.in-One.e in
    let e' = plain_expr c.type_one.new.e in
    let first : Answers (λ (u : Unit {0}). One e') (one_part (typed s e) (initial_value s ok (place_of e) ctype e)) c.type_one.result = search rules in
    let whole = both_made {A = Initialiser} {B = Initialisers} {C = Initialisers} {T = Unit {0}} Listed (λ u. One e') (λ u. js) (one_part (typed s e) (initial_value s ok (place_of e) ctype e)) (no_more s is)
    c.type_one.result c.args.more c.both.result first h (sym c.both.ensures.is) in
    let there = subst (λ i. Answers (λ (u : Unit {0}). Listed (One e') js) (typed_alone s ok ctype (Listed (plain_init i) is)) c.both.result) (sym c.in-One.is) whole in
    search (rules, there)
