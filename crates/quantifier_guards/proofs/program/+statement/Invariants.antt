use Rattle.std.proofs.Common.{◌≡◌, drop}
use Rattle.c_syntax.specs.Statements.{plain_items, plain_cases}
use Rattle.c_model.specs.QuantifierGuards.{first_place}
use Rattle.c_model.specs.UnguardedPrograms.{unguarded_in_items, unguarded_in_cases}
use Rattle.quantifier_guards.proofs.program.+statement.Given as goal

abbrev pub invariant-unguarded_in_items-items : goal.invariant-unguarded_in_items-items
invariant-unguarded_in_items-items l = first_place l.found (unguarded_in_items (plain_items (drop l.item-index l.items))) ≡ unguarded_in_items (plain_items l.items)

abbrev pub invariant-unguarded_in_cases-cases : goal.invariant-unguarded_in_cases-cases
invariant-unguarded_in_cases-cases l = first_place l.found (unguarded_in_cases (plain_cases (drop l.case-index l.cases))) ≡ unguarded_in_cases (plain_cases l.cases)
