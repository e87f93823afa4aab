use Rattle.std.proofs.Common.{◌≡◌, drop}
use Rattle.c_model.specs.AnnotationSights.{binder_named}
use Rattle.c_model.specs.ExpressionTyping.{or_else}
use Rattle.annot_typing.proofs.name.binder_named.Given as goal

abbrev pub invariant-binders : goal.invariant-binders
invariant-binders l = or_else (binder_named l.name (drop l.binder-index l.binders)) l.found ≡ binder_named l.name l.binders
