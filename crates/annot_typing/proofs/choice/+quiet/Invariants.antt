use Rattle.c_syntax.specs.declared.logic.Pred.{size-Pred}
use Rattle.c_syntax.specs.declared.logic.PredKind.{size-PredKind}
use Rattle.annot_typing.proofs.choice.+quiet.Given as goal

abbrev pub decreases-quantifier_in : goal.decreases-quantifier_in
decreases-quantifier_in l = size-Pred l.p.now

abbrev pub decreases-quantifier_in_kind : goal.decreases-quantifier_in_kind
decreases-quantifier_in_kind l = size-PredKind l.kind.now
