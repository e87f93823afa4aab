use Rattle.std.proofs.Common.{rules}
use Rattle.c_syntax.specs.Ctypes.{PlainType, Void, plain_type}
use Rattle.c_syntax.specs.Statements.{Declaration, plain_decl}
use Rattle.c_model.specs.DeclarationTyping.{own_name, typed_object_type}
use Rattle.c_scopes.specs.Answers.{Answers}
use Rattle.c_scopes.specs.Sights.{plain_sight}
use Rattle.c_declaration_rules.proofs.Parts.{behind_made}
use Rattle.c_declaration_rules.proofs.declaration.type_declarator.Goals as goal

pub returns : goal.returns
returns c =
    let s = plain_sight c.args.sight.now in
    let d = plain_decl c.args.d.now in
    let t = plain_type c.type_object-object.new.t in
    let name : Answers (λ u. u) (own_name s c.args.declared d.place d.name) c.own_name-name.result = search rules in
    let object : Answers (λ (u : Unit {0}). t) (typed_object_type s d) c.type_object-object.result = search rules in
    let whole = behind_made {A = PlainType} {B = Declaration} {T = Unit {0}} Void (λ t. record d { ctype = t }) (λ u. t)
    (own_name s c.args.declared d.place d.name) (typed_object_type s d)
    c.own_name-name.result c.type_object-object.result c.behind.result name object c.behind.ensures in
    search (rules, whole)
