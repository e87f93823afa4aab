use Rattle.std.proofs.Common.{ℤ, pos, rules, None, Option, option_map}
use Rattle.c_syntax.specs.Expressions.{Expression, plain_expr}
use Rattle.c_syntax.specs.Programs.{EnumConstant, plain_enumerator}
use Rattle.c_model.specs.DeclarationTyping.{is_declared_in_file, own_name, typed_value}
use Rattle.c_scopes.specs.Answers.{Answers}
use Rattle.c_scopes.specs.Sights.{plain_sight}
use Rattle.c_declaration_rules.proofs.Parts.{behind_made}
use Rattle.c_declaration_rules.proofs.enumerator.type_enumerator.Goals as goal

pub returns : goal.returns
returns c =
    let s = plain_sight c.args.sight.now in
    let e = plain_enumerator c.args.e.now in
    let name : Answers (λ u. u) (own_name s (is_declared_in_file s e.name) e.place e.name) c.own_name-name.result = search rules in
    let value : Answers (λ z. (z, option_map plain_expr c.type_value_of-value.new.value)) (typed_value s e.place c.args.next e.value) c.type_value_of-value.result = search rules in
    let whole = behind_made {A = ℤ × Option Expression} {B = ℤ × EnumConstant} {T = ℤ} (pos 0, None) (λ v. (v.0, record e { value = v.1 })) (λ z. (z, option_map plain_expr c.type_value_of-value.new.value))
    (own_name s (is_declared_in_file s e.name) e.place e.name) (typed_value s e.place c.args.next e.value)
    c.own_name-name.result c.type_value_of-value.result c.behind.result name value c.behind.ensures in
    search (rules, whole)
