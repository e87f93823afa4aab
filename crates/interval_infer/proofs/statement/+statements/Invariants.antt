use Rattle.std.proofs.Common.{◌≡◌, ◌≤◌, drop, length, take}
use Rattle.c_syntax.specs.Statements.{plain_items, plain_cases}
use Rattle.c_model.specs.AnnotationRanges.{ranged_items, ranged_cases}
use Rattle.c_scopes.proofs.BlockItems.{behind_block}
use Rattle.c_scopes.proofs.CaseLists.{behind_cases}
use Rattle.interval_infer.proofs.statement.+statements.Given as goal

abbrev pub invariant-range_items-loop-i : goal.invariant-range_items-loop-i
invariant-range_items-loop-i l = record {
  unvisited : goal.unvisited-range_items-loop-i l;
  within : l.i ≤ length l.items.items;
  ranged : ranged_items (plain_items l.initial.items.items) ≡ behind_block (plain_items (take l.i l.items.items)) (ranged_items (plain_items (drop l.i l.initial.items.items)));
}

abbrev pub invariant-range_cases-loop-i : goal.invariant-range_cases-loop-i
invariant-range_cases-loop-i l = record {
  unvisited : goal.unvisited-range_cases-loop-i l;
  within : l.i ≤ length l.cases.items;
  ranged : ranged_cases (plain_cases l.initial.cases.items) ≡ behind_cases (plain_cases (take l.i l.cases.items)) (ranged_cases (plain_cases (drop l.i l.initial.cases.items)));
}
