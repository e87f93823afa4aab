use Rattle.std.proofs.Common.{◌≡◌, ◌≤◌, ◌+◌, ◌*◌, length, drop, ◌++◌}
use Rattle.std.specs.Prelude.{max}
use Rattle.mon_syntax.specs.Trees.{plain_stmts}
use Rattle.mon_syntax.specs.declared.tree.MonStmtKind.TheViews.{size-MonStmt}
use Rattle.c_lower.specs.Code.{statements_code}
use Rattle.c_lower.specs.Labels.{open_labels}
use Rattle.c_lower.proofs.statements.+statement.Given as goal
use denote.Param.Weighed.{most}

abbrev pub decreases-emit_statement : goal.decreases-emit_statement
decreases-emit_statement l = 4 * size-MonStmt l.s.now

abbrev pub decreases-emit_statements : goal.decreases-emit_statements
decreases-emit_statements l = 4 * most size-MonStmt l.stmts.now + 1

abbrev pub decreases-emit_choice : goal.decreases-emit_choice
decreases-emit_choice l = 4 * max (most size-MonStmt l.first.now) (most size-MonStmt l.second.now) + 2

abbrev pub decreases-emit_loop : goal.decreases-emit_loop
decreases-emit_loop l = 4 * max (most size-MonStmt l.before.now) (most size-MonStmt l.behind.now) + 2

abbrev pub decreases-emit_labelled : goal.decreases-emit_labelled
decreases-emit_labelled l = 4 * most size-MonStmt l.body.now + 2

-- the code of the statements from here on is written
abbrev pub invariant-emit_statements-loop-left : goal.invariant-emit_statements-loop-left
invariant-emit_statements-loop-left l = record {
  within : l.left ≤ length l.stmts;
  code : l.code ≡ statements_code (plain_stmts (drop l.left l.stmts)) (length l.fn.code) (open_labels l.labels) ++ l.fn.code;
}

abbrev pub decreases-emit_statements-loop-left : goal.decreases-emit_statements-loop-left
decreases-emit_statements-loop-left l = l.left
