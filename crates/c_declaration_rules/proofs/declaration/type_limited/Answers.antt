use Rattle.c_syntax.specs.Ctypes.{plain_type}
use Rattle.c_model.specs.ExpressionTyping.{known_type, typed_type}
use Rattle.c_scopes.specs.Sights.{plain_sight}
use Rattle.c_expression_rules.specs.Structs.{limit_answer}
use Rattle.c_expression_rules.proofs.Besides.{limit_is, limited_told}
use Rattle.c_declaration_rules.proofs.declaration.type_limited.Goals as goal

pub returns : goal.returns
returns c =
    let s = plain_sight c.args.sight.now in
    let t = plain_type c.args.t.now in
    let u = plain_type c.type_written-written.new.t in
    limited_told (λ (w : Unit {0}). u) s c.args.place (known_type s t) u (typed_type s c.args.place t) c.type_written-written.result c.limited.result (limit_answer s c.args.place u)
    c.type_written-written.ensures.typed c.type_written-written.ensures.known (limit_is s c.args.place u) c.limited.ensures
