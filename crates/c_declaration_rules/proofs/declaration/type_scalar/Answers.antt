use Rattle.c_syntax.specs.Ctypes.{plain_type}
use Rattle.c_model.specs.DeclarationTyping.{known_parameter_type}
use Rattle.c_scopes.specs.Sights.{plain_sight}
use Rattle.c_expression_rules.specs.Structs.{limit_answer}
use Rattle.c_expression_rules.proofs.Besides.{limit_is, limited_told}
use Rattle.c_declaration_rules.specs.Declarations.{scalar_parts}
use Rattle.c_declaration_rules.proofs.declaration.type_scalar.Goals as goal

pub returns : goal.returns
returns c =
    let s = plain_sight c.args.sight.now in
    let t = plain_type c.args.t.now in
    let u = plain_type c.type_scalar_parts-scalar.new.t in
    limited_told (λ (w : Unit {0}). u) s c.args.place (known_parameter_type s t) u (scalar_parts s c.args.defined c.args.place t) c.type_scalar_parts-scalar.result c.limited.result (limit_answer s c.args.place u)
    c.type_scalar_parts-scalar.ensures.typed c.type_scalar_parts-scalar.ensures.known (limit_is s c.args.place u) c.limited.ensures
