use Rattle.std.proofs.Common.{◌≡◌, ◌++◌, drop}
use Rattle.c_syntax.specs.Statements.{plain_cases, plain_items}
use Rattle.annot_simulation.specs.Plan.{in_cases, in_items}
use Rattle.label_snapshots.specs.Plain.{plain_entries}
use Rattle.label_snapshots.proofs.statement.+entries.Given as goal

-- with those that are left it comes to all
abbrev pub invariant-add_items-turn : goal.invariant-add_items-turn
invariant-add_items-turn l =
    plain_entries l.to.items ++ in_items (plain_items (drop l.item-index l.items)) ≡ plain_entries l.initial.to.items ++ in_items (plain_items l.items)

abbrev pub invariant-add_cases-turn : goal.invariant-add_cases-turn
invariant-add_cases-turn l =
    plain_entries l.to.items ++ in_cases (plain_cases (drop l.case-index l.cases)) ≡ plain_entries l.initial.to.items ++ in_cases (plain_cases l.cases)
