use Rattle.std.proofs.Common.{◌≡◌, ◌+◌, drop}
use Rattle.c_syntax.specs.Statements.{plain_cases, plain_items}
use Rattle.eacsl_engine.specs.Annotations.{in_cases, in_items}
use Rattle.eacsl_engine.proofs.annotation.+statement.Given as goal

abbrev pub invariant-after_items-turn : goal.invariant-after_items-turn
invariant-after_items-turn l = l.found + in_items (plain_items (drop l.item-index l.items)) ≡ l.count + in_items (plain_items l.items)

abbrev pub invariant-after_cases-turn : goal.invariant-after_cases-turn
invariant-after_cases-turn l = l.found + in_cases (plain_cases (drop l.case-index l.cases)) ≡ l.count + in_cases (plain_cases l.cases)
