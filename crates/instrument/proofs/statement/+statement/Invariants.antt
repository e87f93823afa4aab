use Rattle.std.proofs.Common.{◌≡◌, ◌+◌, ◌-◌, drop, length}
use Rattle.c_syntax.specs.Statements.{plain_cases, plain_items}
use Rattle.mon_syntax.specs.Trees.{plain_stmts}
use Rattle.c_effects.specs.Expressions.{before}
use Rattle.instrument.specs.Limits.{HaveNumbers}
use Rattle.instrument.specs.Options.{ItemsHaveNumbers, behind_cases, behind_items, blocks_of_cases_by, cases_in_block, first_cases, items_by, next_cases_by, plain_spot, plan_in}
use Rattle.instrument.proofs.statement.+statement.Given as goal

abbrev pub invariant-items-items : goal.invariant-items-items
invariant-items-items l = record {
  code : before (plain_stmts l.to.items) (items_by (plan_in l.spot) l.names (plain_spot l.spot) (plain_items (drop l.i-index l.block)))
      ≡ before (plain_stmts l.initial.to.items) (items_by (plan_in l.spot) l.initial.names (plain_spot l.spot) (plain_items l.block));
  names : behind_items (plan_in l.spot) (plain_items (drop l.i-index l.block)) l.names ≡ behind_items (plan_in l.spot) (plain_items l.block) l.initial.names;
  numbers : HaveNumbers (plain_items (drop l.i-index l.block)) → HaveNumbers (plain_items l.block);
}

abbrev pub invariant-next_cases-loop-i : goal.invariant-next_cases-loop-i
invariant-next_cases-loop-i l = record {
  code : before (plain_stmts l.code.items) (next_cases_by (plan_in l.spot) l.names (plain_spot l.spot) l.chosen l.i (l.first + cases_in_block - l.i) (plain_cases (drop l.i l.cases)))
      ≡ next_cases_by (plan_in l.spot) l.initial.names (plain_spot l.spot) l.chosen l.first cases_in_block (plain_cases (drop l.first l.cases));
  names : behind_cases (plan_in l.spot) (first_cases (l.first + cases_in_block - l.i) (plain_cases (drop l.i l.cases))) l.names
      ≡ behind_cases (plan_in l.spot) (first_cases cases_in_block (plain_cases (drop l.first l.cases))) l.initial.names;
  numbers : ItemsHaveNumbers (first_cases (l.first + cases_in_block - l.i) (plain_cases (drop l.i l.cases))) → ItemsHaveNumbers (first_cases cases_in_block (plain_cases (drop l.first l.cases)));
}

abbrev pub invariant-blocks_of_cases-loop-first : goal.invariant-blocks_of_cases-loop-first
invariant-blocks_of_cases-loop-first l = record {
  code : before (plain_stmts l.code.items) (blocks_of_cases_by (plan_in l.spot) l.names (plain_spot l.spot) l.chosen l.first 0 (plain_cases (drop l.first l.cases)))
      ≡ blocks_of_cases_by (plan_in l.spot) l.initial.names (plain_spot l.spot) l.chosen 0 0 (plain_cases l.cases);
  names : behind_cases (plan_in l.spot) (plain_cases (drop l.first l.cases)) l.names ≡ behind_cases (plan_in l.spot) (plain_cases l.cases) l.initial.names;
  numbers : ItemsHaveNumbers (plain_cases (drop l.first l.cases)) → ItemsHaveNumbers (plain_cases l.cases);
}

abbrev pub decreases-blocks_of_cases-loop-first : goal.decreases-blocks_of_cases-loop-first
decreases-blocks_of_cases-loop-first l = length l.cases - l.first
