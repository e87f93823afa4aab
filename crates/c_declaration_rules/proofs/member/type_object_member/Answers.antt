use Rattle.c_syntax.specs.Ctypes.{plain_type}
use Rattle.c_model.specs.ExpressionTyping.{known_type}
use Rattle.c_expression_rules.specs.Forms.{typed_elements}
use Rattle.c_scopes.specs.Sights.{plain_sight}
use Rattle.c_expression_rules.specs.Structs.{limit_answer}
use Rattle.c_expression_rules.proofs.Besides.{limit_is, limited_told}
use Rattle.c_declaration_rules.proofs.Members.{elements_sized}
use Rattle.c_declaration_rules.proofs.member.type_object_member.Goals as goal

pub returns-clause-typed : goal.returns-clause-typed
returns-clause-typed c =
    let s = plain_sight c.args.sight.now in
    let t = plain_type c.args.t.now in
    let u = plain_type c.type_elements-object.new.u in
    limited_told (λ (w : Unit {0}). u) s c.args.place (known_type s t) u (typed_elements s c.args.place t) c.type_elements-object.result c.limited.result (limit_answer s c.args.place u)
    c.type_elements-object.ensures.typed c.type_elements-object.ensures.known (limit_is s c.args.place u) c.limited.ensures

pub returns-clause-sized : goal.returns-clause-sized
returns-clause-sized c =
    let s = plain_sight c.args.sight.now in
    let t = plain_type c.args.t.now in
    let u = plain_type c.type_elements-object.new.u in
    elements_sized s c.args.place t u c.type_elements-object.result c.limited.result (limit_answer s c.args.place u) c.type_elements-object.ensures.typed c.limited.ensures
