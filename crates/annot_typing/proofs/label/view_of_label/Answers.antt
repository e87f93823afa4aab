use Rattle.std.proofs.Common.{Some, ap, sym, ◌∙◌}
use Rattle.c_scopes.specs.Sights.{plain_sight}
use Rattle.annot_typing.proofs.Labels.{label_unknown, label_known}
use Rattle.annot_typing.proofs.label.view_of_label.Goals as goal

pub returns-in-None : goal.returns-in-None
returns-in-None c =
    label_unknown (plain_sight c.args.sight.now) c.args.clause c.in-InBody.field-0 c.in-InBody.labels c.args.name c.in-InBody.is (sym c.in-None.is ∙ c.named.ensures)

pub returns-in-Some : goal.returns-in-Some
returns-in-Some c =
    let s = plain_sight c.args.sight.now in
    ap Some (c.under_label.ensures s) ∙ label_known s c.args.clause c.in-InBody.field-0 c.in-InBody.labels c.args.name c.in-InBody.is c.in-Some.mark (sym c.in-Some.is ∙ c.named.ensures)
