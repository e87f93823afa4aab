use Rattle.std.proofs.Common.{sym, ap, ◌∙◌}
use Rattle.c_lower.specs.Code.{behind_label}
use Rattle.c_lower.specs.Labels.{open_labels}
use Rattle.c_lower.proofs.Placed.{label_here, label_further}
use Rattle.c_lower.proofs.labels.+behind_label.Goals as goal

pub returns-then-eq : goal.returns-then-eq
returns-then-eq t c =
    let outer = open_labels c.in-Inside.outer.now in
    let here = label_here outer c.in-Inside.name.now c.in-Inside.behind c.args.label.now (sym c.eq.ensures ∙ c.if-eq.true) in
    sym (ap (λ l. behind_label (open_labels l) c.args.label.now) c.in-Inside.is ∙ here)

pub returns-else-eq : goal.returns-else-eq
returns-else-eq t c =
    let outer = open_labels c.in-Inside.outer.now in
    let further = label_further outer c.in-Inside.name.now c.in-Inside.behind c.args.label.now (sym c.eq.ensures ∙ c.if-eq.false) in
    c.behind_label.ensures ∙ sym (ap (λ l. behind_label (open_labels l) c.args.label.now) c.in-Inside.is ∙ further)
