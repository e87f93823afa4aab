use Rattle.std.proofs.Common.{◌≡◌, drop, map}
use Rattle.c_syntax.specs.Programs.{plain_behavior}
use Rattle.c_model.specs.QuantifierGuards.{first_place}
use Rattle.c_model.specs.UnguardedPrograms.{unguarded_in_behaviors}
use Rattle.quantifier_guards.proofs.program.unguarded_in_behaviors.Given as goal

abbrev pub invariant-behaviors : goal.invariant-behaviors
invariant-behaviors l = first_place l.found (unguarded_in_behaviors (map plain_behavior (drop l.behavior-index l.behaviors))) ≡ unguarded_in_behaviors (map plain_behavior l.behaviors)
