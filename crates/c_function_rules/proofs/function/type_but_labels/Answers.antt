use Rattle.std.proofs.Common.{◌≡◌, rules, nat_eq, Err}
use Rattle.indexmap.specs.IndexMap.{get}
use Rattle.c_syntax.specs.Programs.{plain_func}
use Rattle.c_scopes.specs.Answers.{Answers}
use Rattle.c_scopes.specs.Sights.{plain_sight}
use Rattle.c_scopes.proofs.Least.{one_refused}
use Rattle.c_function_rules.specs.Functions.{heading, typed_parts, with_function_by}
use Rattle.c_function_rules.proofs.function.type_but_labels.Goals as goal

pub returns-in_err-type_heading-clause-typed : goal.returns-in_err-type_heading-clause-typed
returns-in_err-type_heading-clause-typed c =
    let e : c.from_residual.result ≡ Err c.in_err-type_heading.field-0.0 = search rules in
    let s = plain_sight c.args.sight.now in
    let f = plain_func c.args.f.now in
    let g = plain_func c.type_heading.new.f in
    let h : Answers (λ (u : Unit {0}). g) (heading s (get nat_eq c.args.names.now) f) (Err c.in_err-type_heading.field-0.0) = c.in_err-type_heading.ensures.typed in
    let whole = one_refused (λ f. typed_parts (with_function_by (get nat_eq c.args.numbers.now) s f) f) (λ (u : Unit {0}). g) (λ (u : Unit {0}). g) (heading s (get nat_eq c.args.names.now) f) c.in_err-type_heading.field-0.0 h in
    search (rules, e, whole)
