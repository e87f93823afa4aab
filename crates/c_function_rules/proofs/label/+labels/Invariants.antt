use Rattle.std.proofs.Common.{◌≡◌, ◌++◌, drop}
use Rattle.c_syntax.specs.Statements.{plain_items, plain_cases}
use Rattle.c_model.specs.StatementTyping.{labels_in_items, labels_in_cases}
use Rattle.c_function_rules.proofs.label.+labels.Given as goal

abbrev pub invariant-add_of_items-items : goal.invariant-add_of_items-items
invariant-add_of_items-items l = l.labels.items ++ labels_in_items (plain_items (drop l.item-index l.items)) ≡ l.initial.labels.items ++ labels_in_items (plain_items l.items)

abbrev pub invariant-add_of_cases-cases : goal.invariant-add_of_cases-cases
invariant-add_of_cases-cases l = l.labels.items ++ labels_in_cases (plain_cases (drop l.case-index l.cases)) ≡ l.initial.labels.items ++ labels_in_cases (plain_cases l.cases)
