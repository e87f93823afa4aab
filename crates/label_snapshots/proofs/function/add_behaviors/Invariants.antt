use Rattle.std.proofs.Common.{◌≡◌, ◌++◌, drop, map}
use Rattle.c_syntax.specs.Programs.{plain_behavior}
use Rattle.annot_simulation.specs.Plan.{in_behaviors}
use Rattle.label_snapshots.specs.Plain.{plain_entries}
use Rattle.label_snapshots.proofs.function.add_behaviors.Given as goal

-- with those that are left it comes to all
abbrev pub invariant-turn : goal.invariant-turn
invariant-turn l =
    plain_entries l.to.items ++ in_behaviors (map plain_behavior (drop l.behavior-index l.behaviors)) ≡ plain_entries l.initial.to.items ++ in_behaviors (map plain_behavior l.behaviors)
