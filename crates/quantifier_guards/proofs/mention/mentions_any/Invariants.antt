use Rattle.std.proofs.Common.{◌≡◌, drop}
use Rattle.c_syntax.specs.Formulas.{plain_form}
use Rattle.c_model.specs.QuantifierGuards.{mentions_any}
use Rattle.quantifier_guards.proofs.mention.mentions_any.Given as goal

abbrev pub invariant-loop-binder : goal.invariant-loop-binder
invariant-loop-binder l = mentions_any (drop l.binder-index l.binders) (plain_form l.f) ≡ mentions_any l.binders (plain_form l.f)
