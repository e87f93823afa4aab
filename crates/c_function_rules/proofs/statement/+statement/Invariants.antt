use Rattle.std.proofs.Common.{◌≡◌, ◌≤◌, drop, length, take, false, []}
use Rattle.c_syntax.specs.Statements.{plain_items, plain_cases}
use Rattle.c_model.specs.StatementTyping.{typed_items, typed_cases}
use Rattle.c_scopes.specs.Sights.{plain_sight}
use Rattle.c_function_rules.specs.Trees.{plain_around}
use Rattle.c_function_rules.specs.Blocks.{behind_items}
use Rattle.c_scopes.proofs.BlockItems.{behind_block}
use Rattle.c_function_rules.specs.Cases.{typed_cases_by}
use Rattle.c_function_rules.specs.PassedCases.{holds}
use Rattle.c_scopes.proofs.CaseLists.{behind_cases}
use Rattle.c_function_rules.proofs.statement.+statement.Given as goal

abbrev pub invariant-type_items-loop-i : goal.invariant-type_items-loop-i
invariant-type_items-loop-i l = record {
  unvisited : goal.unvisited-type_items-loop-i l;
  within : l.i ≤ length l.items.items;
  typed : typed_items (plain_sight l.initial.sight) (plain_around l.around) (plain_items l.initial.items.items)
      ≡ behind_block (plain_items (take l.i l.items.items)) (typed_items (plain_sight l.sight) (plain_around l.around) (plain_items (drop l.i l.initial.items.items)));
  sight : plain_sight l.sight ≡ behind_items (plain_sight l.initial.sight) (plain_items (take l.i l.items.items));
}

abbrev pub invariant-type_cases-loop-i : goal.invariant-type_cases-loop-i
invariant-type_cases-loop-i l = record {
  unvisited : goal.unvisited-type_cases-loop-i l;
  within : l.i ≤ length l.cases.items;
  typed : typed_cases (plain_sight l.initial.sight) (plain_around l.around) l.k [] false (plain_cases l.initial.cases.items)
      ≡ behind_cases (plain_cases (take l.i l.cases.items)) (typed_cases_by (plain_sight l.initial.sight) (plain_around l.around) l.k (holds l.passed) l.passed.has_default (plain_cases (drop l.i l.initial.cases.items)));
  same : plain_sight l.sight ≡ plain_sight l.initial.sight;
}
