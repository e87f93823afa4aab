use Rattle.std.proofs.Common.{◌≡◌, drop}
use Rattle.c_model.specs.QuantifierGuards.{is_binder}
use Rattle.quantifier_guards.proofs.mention.is_binder.Given as goal

abbrev pub invariant-loop-binder : goal.invariant-loop-binder
invariant-loop-binder l = is_binder l.name (drop l.binder-index l.binders) ≡ is_binder l.name l.binders
