use Rattle.std.proofs.Common.{◌≡◌, ◌++◌, map, drop}
use Rattle.behavior_split.specs.Checks.{numbered, plain_check, plain_clause}
use Rattle.behavior_split.proofs.order.checks.Given as goal

-- with those that are left it comes to all
abbrev pub invariant-loop-clause : goal.invariant-loop-clause
invariant-loop-clause l =
    map plain_check l.found.items ++ map numbered (map plain_clause (drop l.clause-index l.clauses)) ≡ map numbered (map plain_clause l.clauses)
