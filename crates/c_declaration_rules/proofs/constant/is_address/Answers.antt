use Rattle.std.proofs.Common.{◌≡◌, ◌∙◌, rules, true, None}
use Rattle.c_syntax.specs.Expressions.{plain_expr, type_of}
use Rattle.c_model.specs.Library.{is_there}
use Rattle.c_model.specs.Meaning.{is_pointer}
use Rattle.c_scopes.specs.Sights.{plain_sight}
use Rattle.c_scopes.specs.Objects.{object_with}
use Rattle.c_declaration_rules.specs.Statics.{address_spot}
use Rattle.c_declaration_rules.proofs.Statics.{spot_is}
use Rattle.c_declaration_rules.proofs.constant.is_address.Goals as goal

pub returns : goal.returns
returns c =
    let s = plain_sight c.args.sight.now in
    let e = plain_expr c.args.e.now in
    let free : object_with 4294967295 s.entities ≡ None = search rules in
    let p : is_pointer (type_of e) ≡ true = search rules in
    let there : c.is_some-2.result ≡ is_there (address_spot s e) = search rules in
    there ∙ spot_is s free e p
