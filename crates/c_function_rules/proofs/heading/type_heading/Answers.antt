use Rattle.std.proofs.Common.{sym, rules, nat_eq}
use Rattle.c_syntax.specs.Programs.{Function, plain_func}
use Rattle.c_model.specs.UnitTyping.{function_name}
use Rattle.indexmap.specs.IndexMap.{get}
use Rattle.c_scopes.specs.Answers.{Answers}
use Rattle.c_scopes.specs.Sights.{plain_sight}
use Rattle.c_scopes.proofs.Least.{both_made}
use Rattle.c_function_rules.specs.Functions.{type_of_function}
use Rattle.c_function_rules.proofs.heading.type_heading.Goals as goal

pub returns-clause-typed : goal.returns-clause-typed
returns-clause-typed c =
    let s = plain_sight c.args.sight.now in
    let names = get nat_eq c.args.names.now in
    let f = plain_func c.args.f.now in
    let g = plain_func c.type_signature-ctype.new.f in
    let ha : Answers (λ (u : Unit {0}). u) (function_name s f) c.check_name-name.result = search rules in
    let hb : Answers (λ (u : Unit {0}). g) (type_of_function s names f) c.type_signature-ctype.result = search rules in
    let whole = both_made {A = Unit {0}} {B = Function} {C = Function} {T = Unit {0}} (λ n g. g) (λ u. u) (λ u. g) (function_name s f) (type_of_function s names f) c.check_name-name.result c.type_signature-ctype.result c.both.result
    ha hb (sym c.both.ensures.is) in
    search (rules, whole)
