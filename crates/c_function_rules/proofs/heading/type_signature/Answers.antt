use Rattle.std.proofs.Common.{◌≡◌, sym, rules, map, nat_eq, Ok, Err}
use Rattle.c_syntax.specs.Ctypes.{PlainType, plain_type}
use Rattle.c_syntax.specs.Statements.{plain_decl}
use Rattle.c_syntax.specs.Programs.{Function, plain_func}
use Rattle.c_model.specs.Meaning.{is_definition}
use Rattle.c_model.specs.ExpressionTyping.{inner, known_type, typed_type}
use Rattle.c_model.specs.DeclarationTyping.{typed_result}
use Rattle.c_model.specs.UnitTyping.{typed_parameters}
use Rattle.indexmap.specs.IndexMap.{get}
use Rattle.c_scopes.specs.declared.fault.TypeFault.{TypeFault}
use Rattle.c_scopes.specs.Answers.{Answers, IfTold, both}
use Rattle.c_scopes.specs.Sights.{plain_sight}
use Rattle.c_scopes.proofs.Least.{both_made}
use Rattle.c_function_rules.specs.Functions.{fitting, fitting_type_by}
use Rattle.c_function_rules.proofs.Functions.{fitting_by}
use Rattle.c_function_rules.proofs.heading.type_signature.Goals as goal

pub returns-clause-typed : goal.returns-clause-typed
returns-clause-typed c =
    let s = plain_sight c.args.sight.now in
    let names = get nat_eq c.args.names.now in
    let f = plain_func c.args.f.now in
    let t = plain_type c.type_written-written.new.t in
    let ds = map plain_decl c.type_parameters-params.new.params.items in
    let u = plain_sight c.type_parameters-params.new.sight in
    let g = record f { result = t; params = ds } in
    let hw : Answers (λ (u : Unit {0}). t) (typed_type s f.place f.result) c.type_written-written.result = search rules in
    let known : IfTold c.type_written-written.result (t ≡ known_type s f.result) = search rules in
    let given = c.result_of-result.ensures f.result hw known in
    let ha : Answers (λ (u : Unit {0}). t) (typed_result s (is_definition f) f.place f.result) c.result_of-result.result = search (rules, given) in
    let hb : Answers (λ (u : Unit {0}). ds) (typed_parameters (inner s) (is_definition f) f.params) c.type_parameters-params.result = search rules in
    let same : (v : Unit {0}) → c.type_parameters-params.result ≡ Ok v → u ≡ s = λ v e. search (rules, e) in
    let refused : (h : TypeFault) → both c.type_written-written.result c.type_parameters-params.result ≡ Err h → c.fitting_after-fits.result ≡ Err h = λ h e. search (rules, e) in
    let fits : (v : Unit {0}) → both c.type_written-written.result c.type_parameters-params.result ≡ Ok v → Answers (λ (w : Unit {0}). g) (fitting u names g) c.fitting_after-fits.result = λ v e. search (rules, e) in
    let whole = fitting_by s names f t ds c.type_written-written.result c.type_parameters-params.result hw hb u c.fitting_after-fits.result same refused fits in
    let all = both_made {A = PlainType} {B = Function} {C = Function} {T = Unit {0}} (λ t g. record g { result = t })
    (λ (u : Unit {0}). t) (λ (u : Unit {0}). g) (typed_result s (is_definition f) f.place f.result) (fitting_type_by s names f) c.result_of-result.result
    c.fitting_after-fits.result c.both-2.result ha whole (sym c.both-2.ensures.is) in
    search (rules, all)
