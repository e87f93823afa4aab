use Rattle.std.proofs.Common.{rules}
use Rattle.c_syntax.specs.Statements.{plain_items}
use Rattle.c_model.specs.AnnotationTyping.{in_body, noted_items}
use Rattle.c_scopes.specs.Answers.{Answers}
use Rattle.c_scopes.specs.Sights.{plain_sight}
use Rattle.c_typing.proofs.NotedStatements.{body_in_place}
use Rattle.c_typing.proofs.noted.note_body_kind.Goals as goal

pub returns-in-Block-clause-noted : goal.returns-in-Block-clause-noted
returns-in-Block-clause-noted c = λ at.
    let s = in_body (plain_sight c.args.sight.now) in
    let h : Answers (λ (u : Unit {0}). plain_items c.note_body_items.new.items.items) (noted_items s (plain_items c.in-Block.items.items)) c.note_body_items.result = search rules in
    let whole = body_in_place s at c.args.kind.now c.in-Block.items c.note_body_items.new.items c.note_body_items.result c.in-Block.is h in
    search (rules, whole)
