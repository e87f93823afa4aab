use Rattle.std.proofs.Common.{◌≡◌, [], Some, ap, sym, subst, ◌∙◌}
use Rattle.c_syntax.specs.declared.logic.Label.TheVariants.{Pre}
use Rattle.c_model.specs.AnnotationSights.{UnderLabel, sight_at}
use Rattle.c_scopes.specs.Sights.{plain_sight}
use Rattle.annot_typing.specs.Sights.{annotation_sight, plain_view}
use Rattle.annot_typing.proofs.Marks.{here_is}
use Rattle.annot_typing.proofs.label.view_of_beginning.Goals as goal

pub returns-in-InBody : goal.returns-in-InBody
returns-in-InBody c =
    let s = plain_sight c.args.sight.now in
    subst (λ k. Some (plain_view s c.under_label.result) ≡ sight_at (annotation_sight s k) Pre) (sym c.in-InBody.is) (ap Some (c.under_label.ensures s))

pub returns-in-AtEnd : goal.returns-in-AtEnd
returns-in-AtEnd c =
    let s = plain_sight c.args.sight.now in
    let here = here_is s c.mark_here.result c.mark_here.ensures in
    let seen = ap (λ v. record { here = v; labels = []; clause = UnderLabel c.in-AtEnd.formals.now.list.items; binders = [] }) here in
    subst (λ k. Some (plain_view s c.under_label-in-AtEnd.result) ≡ sight_at (annotation_sight s k) Pre) (sym c.in-AtEnd.is) (ap Some (c.under_label-in-AtEnd.ensures s ∙ seen))
