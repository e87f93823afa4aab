use Rattle.std.proofs.Common.{rules}
use Rattle.c_syntax.specs.Ctypes.{PlainType, Void, plain_type}
use Rattle.c_syntax.specs.Statements.{Declaration, plain_decl}
use Rattle.c_model.specs.DeclarationTyping.{is_declared_in_file, own_name}
use Rattle.c_scopes.specs.Answers.{Answers}
use Rattle.c_scopes.specs.Sights.{plain_sight}
use Rattle.c_declaration_rules.specs.Declarations.{limited_type}
use Rattle.c_declaration_rules.proofs.Parts.{behind_made}
use Rattle.c_declaration_rules.proofs.declaration.type_named.Goals as goal

pub returns : goal.returns
returns c =
    let s = plain_sight c.args.sight.now in
    let d = plain_decl c.args.d.now in
    let name : Answers (λ u. u) (own_name s (is_declared_in_file s d.name) d.place d.name) c.own_name-name.result = search rules in
    let ctype : Answers (λ (u : Unit {0}). plain_type c.type_limited-ctype.new.t) (limited_type s d.place d.ctype) c.type_limited-ctype.result = search rules in
    let whole = behind_made {A = PlainType} {B = Declaration} {T = Unit {0}} Void (λ t. record d { ctype = t }) (λ u. plain_type c.type_limited-ctype.new.t)
    (own_name s (is_declared_in_file s d.name) d.place d.name) (limited_type s d.place d.ctype)
    c.own_name-name.result c.type_limited-ctype.result c.behind.result name ctype c.behind.ensures in
    search (rules, whole)
