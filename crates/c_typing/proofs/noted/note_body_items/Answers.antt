use Rattle.std.proofs.Common.{rules, ap}
use Rattle.c_syntax.specs.Statements.{plain_items}
use Rattle.c_scopes.specs.KnownLabels.{marks_of}
use Rattle.c_scopes.specs.Sights.{plain_sight}
use Rattle.c_function_rules.proofs.Bodies.{body_left}
use Rattle.c_typing.proofs.KnownLabels.{begins_body}
use Rattle.c_typing.proofs.NotedStatements.{body_noted}
use Rattle.c_typing.proofs.noted.note_body_items.Goals as goal

pub note_items-requires : goal.note_items-requires
note_items-requires c = begins_body (plain_sight c.args.sight.now) c.mark_here-mark.result (marks_of c.new-labels.result) c.mark_here-mark.ensures c.new-labels.ensures

pub returns-clause-noted : goal.returns-clause-noted
returns-clause-noted c =
    let whole = body_noted (plain_sight c.args.sight.now) c.mark_here-mark.result (marks_of c.new-labels.result) (plain_items c.args.items.now.items) (plain_items c.note_items.new.items.items) c.note_items.result
    c.mark_here-mark.ensures c.new-labels.ensures (search rules) in
    search (rules, whole)

pub returns-clause-same : goal.returns-clause-same
returns-clause-same c =
    body_left (plain_sight c.args.sight.now) (plain_sight c.note_items.new.sight) (plain_sight c.leave.new.sight) c.mark_here-mark.result.count c.mark_here-mark.result.innermost
    (plain_items c.note_items.new.items.items) (ap (λ m. m.count) c.mark_here-mark.ensures) (ap (λ m. m.innermost) c.mark_here-mark.ensures) c.in_ok-note_items.ensures.behind c.leave.ensures
