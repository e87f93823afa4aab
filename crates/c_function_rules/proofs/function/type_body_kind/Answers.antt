use Rattle.std.proofs.Common.{rules}
use Rattle.c_syntax.specs.Ctypes.{plain_type}
use Rattle.c_syntax.specs.Statements.{plain_items}
use Rattle.c_model.specs.StatementTyping.{typed_items}
use Rattle.c_model.specs.TypedTrees.{around_body}
use Rattle.c_scopes.specs.Answers.{Answers}
use Rattle.c_scopes.specs.Sights.{plain_sight}
use Rattle.c_function_rules.proofs.Bodies.{body_in_place}
use Rattle.c_function_rules.proofs.function.type_body_kind.Goals as goal

pub returns-in-Block-clause-typed : goal.returns-in-Block-clause-typed
returns-in-Block-clause-typed c = λ at.
    let s = plain_sight c.args.sight.now in
    let h : Answers (λ (u : Unit {0}). plain_items c.type_body_items.new.items.items) (typed_items s (around_body (plain_type c.args.ctype.now)) (plain_items c.in-Block.items.items)) c.type_body_items.result = search rules in
    let whole = body_in_place s at c.args.kind.now c.in-Block.items c.type_body_items.new.items c.type_body_items.result c.in-Block.is (plain_type c.args.ctype.now) h in
    search (rules, whole)
