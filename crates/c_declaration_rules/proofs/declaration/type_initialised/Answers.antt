use Rattle.std.proofs.Common.{◌≡◌, rules}
use Rattle.c_syntax.specs.Statements.{plain_decl}
use Rattle.c_model.specs.ExpressionTyping.{with_object}
use Rattle.c_model.specs.DeclarationTyping.{typed_maybe_initialiser}
use Rattle.c_scopes.specs.Answers.{Answers}
use Rattle.c_scopes.specs.Sights.{plain_sight}
use Rattle.c_declaration_rules.specs.Initialisers.{allowed}
use Rattle.c_declaration_rules.specs.Objects.{plain_maybe_init}
use Rattle.c_declaration_rules.proofs.Declarations.{init_made}
use Rattle.c_declaration_rules.proofs.declaration.type_initialised.Goals as goal

pub returns-clause-typed : goal.returns-clause-typed
returns-clause-typed c =
    let s = plain_sight c.args.sight.now in
    let t = plain_sight c.with_object.new.sight in
    let d = plain_decl c.args.d.now in
    let i = plain_maybe_init c.type_maybe_initialiser.new.init in
    let sight : t ≡ with_object s d = search rules in
    let h : Answers (λ (u : Unit {0}). i) (typed_maybe_initialiser t (allowed t c.args.global) d.ctype d.init) c.type_maybe_initialiser.result = search rules in
    let whole = init_made s t c.args.global d i c.type_maybe_initialiser.result sight h in
    search (rules, whole)
