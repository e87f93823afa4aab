use Rattle.c_syntax.specs.Ctypes.{plain_type}
use Rattle.c_model.specs.ExpressionTyping.{known_type}
use Rattle.c_scopes.specs.Sights.{plain_sight}
use Rattle.c_expression_rules.specs.Structs.{limit_answer}
use Rattle.c_expression_rules.proofs.Besides.{limit_is, limited_told}
use Rattle.c_declaration_rules.specs.Objects.{written_result}
use Rattle.c_declaration_rules.proofs.object.result_of.Goals as goal

pub returns : goal.returns
returns c = λ u h k.
    let s = plain_sight c.args.sight.now in
    let t = plain_type c.args.t.now in
    limited_told (λ (v : Unit {0}). t) s c.args.place (known_type s u) t (written_result s c.args.defined c.args.place u) c.written_result-given.result c.limited.result (limit_answer s c.args.place t)
    (c.written_result-given.ensures.typed u h) (c.written_result-given.ensures.known (known_type s u) k) (limit_is s c.args.place t) c.limited.ensures
