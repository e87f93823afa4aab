use Rattle.std.proofs.Common.{◌≡◌, ◌++◌, map, drop}
use Rattle.c_syntax.specs.Programs.{plain_behavior}
use Rattle.c_model.specs.ContractChecks.{of_behaviors}
use Rattle.behavior_split.specs.Checks.{is_kind, plain_clause}
use Rattle.behavior_split.proofs.order.add_behaviors.Given as goal

-- with those that are left it comes to all
abbrev pub invariant-loop-index : goal.invariant-loop-index
invariant-loop-index l =
    map plain_clause l.into.items ++ of_behaviors (is_kind l.kind) l.index (map plain_behavior (drop l.index l.behaviors))
    ≡ map plain_clause l.initial.into.items ++ of_behaviors (is_kind l.kind) 0 (map plain_behavior l.behaviors)
