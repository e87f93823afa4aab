use Rattle.std.proofs.Common.{◌≡◌, ap, ◌∙◌, subst}
use Rattle.std.specs.Prelude.{MatchResult}
use Rattle.c_syntax.specs.Tokens.{plain_tokens}
use Rattle.c_syntax.specs.Programs.{plain_program}
use Rattle.c_model.specs.Checked.{Good}
use Rattle.c_model.specs.AnnotationTyping.{noted_unit}
use Rattle.c_model.specs.AnnotationRanges.{ranged_unit}
use Rattle.c_phases.specs.Answers.{RefusedBy, IsFaultRefusal}
use Rattle.c_reader.proofs.Phases.{typing_fails, annotations_fail, ranges_answer}
use Rattle.c_reader.proofs.read.ranged.Goals as goal

pub returns-in-Err : goal.returns-in-Err
returns-in-Err c = typing_fails (plain_tokens c.args.tree.tokens) (plain_program c.args.tree.program) c.in-Err.fault c.in-Err.ensures.typed

pub returns-in-Err-type_annots : goal.returns-in-Err-type_annots
returns-in-Err-type_annots c =
    let typed = plain_program c.in-Ok.typed.program in
    let same = ap plain_tokens c.in-Ok.ensures.tokens in
    annotations_fail (plain_tokens c.args.tree.tokens) (plain_program c.args.tree.program) typed c.in-Ok.ensures.typed c.in-Err-type_annots.fault
    (subst (λ ts. RefusedBy (IsFaultRefusal ts (noted_unit typed)) c.in-Err-type_annots.fault) same c.in-Err-type_annots.ensures.noted)

pub returns : goal.returns
returns c =
    let typed = plain_program c.in-Ok.typed.program in
    let noted = plain_program c.in-Ok-type_annots.noted.program in
    let same = ap plain_tokens c.in-Ok-type_annots.ensures.tokens ∙ ap plain_tokens c.in-Ok.ensures.tokens in
    ranges_answer (plain_tokens c.args.tree.tokens) (plain_program c.args.tree.program) typed c.in-Ok.ensures.typed noted c.in-Ok-type_annots.ensures.noted c.ranges-2.result
    (subst (λ ts. MatchResult c.ranges-2.result (λ x. ranged_unit noted ≡ Good (plain_program x.program)) (λ e. RefusedBy (IsFaultRefusal ts (ranged_unit noted)) e)) same c.ranges-2.ensures.ranged)
