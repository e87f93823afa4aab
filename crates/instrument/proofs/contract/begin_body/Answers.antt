use Rattle.std.proofs.Common.{List, map, subst}
use Rattle.c_syntax.specs.declared.logic.Annot.{Annot}
use Rattle.c_syntax.specs.declared.program.Behavior.{Behavior}
use Rattle.c_syntax.specs.Logic.{plain_annot}
use Rattle.c_syntax.specs.Programs.{plain_behavior}
use Rattle.c_effects.proofs.Trees.{on_ok}
use Rattle.instrument.specs.Limits.{CoversFew}
use Rattle.instrument.proofs.contract.begin_body.Goals as goal

pub returns-clause-few : goal.returns-clause-few
returns-clause-few c = on_ok c.entry.result (λ h.
    subst (λ (bs : List Behavior). CoversFew h (map plain_behavior bs) (map plain_annot c.args.c.now.covers.items)) c.deref-2.ensures.value
    (subst (λ (l : List Annot). CoversFew h (map plain_behavior c.deref-2.result.now) (map plain_annot l)) c.deref.ensures.value (c.in_ok-few_covers.ensures h)))
