use Rattle.std.proofs.Common.{rules}
use Rattle.c_syntax.specs.Ctypes.{PlainType, Void, plain_type}
use Rattle.c_syntax.specs.Statements.{Declaration, plain_decl}
use Rattle.c_model.specs.DeclarationTyping.{parameter_name}
use Rattle.c_scopes.specs.Answers.{Answers}
use Rattle.c_scopes.specs.Sights.{plain_sight}
use Rattle.c_declaration_rules.specs.Declarations.{scalar_parameter}
use Rattle.c_declaration_rules.proofs.Parts.{behind_made}
use Rattle.c_declaration_rules.proofs.declaration.type_parameter.Goals as goal

pub returns : goal.returns
returns c =
    let s = plain_sight c.args.sight.now in
    let d = plain_decl c.args.d.now in
    let name : Answers (λ u. u) (parameter_name s d) c.parameter_name-name.result = search rules in
    let ctype : Answers (λ (u : Unit {0}). plain_type c.type_scalar-ctype.new.t) (scalar_parameter s c.args.defined d.place d.ctype) c.type_scalar-ctype.result = search rules in
    let whole = behind_made {A = PlainType} {B = Declaration} {T = Unit {0}} Void (λ t. record d { ctype = t }) (λ u. plain_type c.type_scalar-ctype.new.t)
    (parameter_name s d) (scalar_parameter s c.args.defined d.place d.ctype)
    c.parameter_name-name.result c.type_scalar-ctype.result c.behind.result name ctype c.behind.ensures in
    search (rules, whole)
