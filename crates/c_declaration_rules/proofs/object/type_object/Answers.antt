use Rattle.c_syntax.specs.Ctypes.{plain_type}
use Rattle.c_model.specs.ExpressionTyping.{known_type}
use Rattle.c_model.specs.DeclarationTyping.{completed}
use Rattle.c_scopes.specs.Sights.{plain_sight}
use Rattle.c_expression_rules.specs.Structs.{limit_answer}
use Rattle.c_expression_rules.proofs.Besides.{limit_is, limited_told}
use Rattle.c_declaration_rules.specs.Objects.{plain_maybe_init, sized_object}
use Rattle.c_declaration_rules.proofs.object.type_object.Goals as goal

pub returns : goal.returns
returns c =
    let s = plain_sight c.args.sight.now in
    let i = plain_maybe_init c.args.init.now in
    let t = plain_type c.args.t.now in
    let u = plain_type c.type_sized_object-object.new.t in
    limited_told (λ (w : Unit {0}). u) s c.args.place (completed s (known_type s t) i) u (sized_object s c.args.place t i) c.type_sized_object-object.result c.limited.result (limit_answer s c.args.place u)
    c.type_sized_object-object.ensures.typed c.type_sized_object-object.ensures.known (limit_is s c.args.place u) c.limited.ensures
