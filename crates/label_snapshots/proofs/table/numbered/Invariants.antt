use Rattle.std.proofs.Common.{◌≡◌, ◌++◌, drop}
use Rattle.annot_simulation.specs.Plan.{kept_from}
use Rattle.label_snapshots.specs.Plain.{plain_entries, plain_plan}
use Rattle.label_snapshots.proofs.table.numbered.Given as goal

-- with those that are left it comes to all
abbrev pub invariant-turn : goal.invariant-turn
invariant-turn l = plain_plan l.plan.items ++ kept_from l.register (plain_entries (drop l.entry-index l.entries)) ≡ kept_from l.first (plain_entries l.entries)
