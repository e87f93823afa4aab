use Rattle.std.proofs.Common.{List, map, refl, sym, subst}
use Rattle.c_syntax.specs.Logic.{Annotation, plain_annot}
use Rattle.c_syntax.specs.Programs.{plain_behavior}
use Rattle.c_effects.proofs.Sequences.{left_at, none_left}
use Rattle.instrument.specs.Limits.{CoversFew}
use Rattle.instrument.proofs.contract.few_covers.Goals as goal

pub covers-preserved : goal.covers-preserved
covers-preserved c = λ h rest.
    c.covers.invariant h (subst (λ (l : List Annotation). CoversFew h (map plain_behavior c.args.behaviors.now) l)
    (sym (left_at (map plain_annot) c.args.covers.now c.covers.annot-index _ _ c.covers-test.true c.annot-item.is refl)) (c.in_ok-few_counted.ensures h, rest))

pub returns : goal.returns
returns c = λ h.
    c.covers.invariant h (subst (λ (l : List Annotation). CoversFew h (map plain_behavior c.args.behaviors.now) l) (sym (none_left (map plain_annot) c.args.covers.now c.covers.annot-index c.covers-test.false)) tt)
