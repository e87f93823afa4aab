use Rattle.std.proofs.Common.{◌≡◌, rules, Err}
use Rattle.c_syntax.specs.Statements.{plain_decl}
use Rattle.c_scopes.specs.Answers.{Answers}
use Rattle.c_scopes.specs.Sights.{plain_sight}
use Rattle.c_scopes.proofs.Least.{one_refused}
use Rattle.c_declaration_rules.specs.Declarations.{declarator_typed, initialised}
use Rattle.c_declaration_rules.proofs.declaration.type_declaration.Goals as goal

pub returns-in_err-type_declarator-clause-typed : goal.returns-in_err-type_declarator-clause-typed
returns-in_err-type_declarator-clause-typed c =
    let e : c.from_residual.result ≡ Err c.in_err-type_declarator.field-0.0 = search rules in
    let s = plain_sight c.args.sight.now in
    let d = plain_decl c.args.d.now in
    let new = plain_decl c.type_declarator.new.d in
    let bad : Answers (λ (u : Unit {0}). new) (declarator_typed s c.args.declared d) (Err c.in_err-type_declarator.field-0.0) = search rules in
    let whole = one_refused {S = Unit {0}} (initialised s c.args.global) (λ (u : Unit {0}). new) (λ u. new) (declarator_typed s c.args.declared d) c.in_err-type_declarator.field-0.0 bad in
    search (rules, e, whole)
