use Rattle.std.proofs.Common.{◌≡◌, ℕ, ◌+◌, ◌*◌, max, List, ◌++◌, drop, reverse}
use denote.Param.Weighed.{most}
use Rattle.mon_syntax.specs.Checking.{checked_statements, labels_in_all}
use Rattle.mon_parser.specs.declared.parsed.ParsedStmt.{ParsedStmt}
use Rattle.mon_parser.proofs.parsed.ParsedStmt.TheLaws.{the_size}
use Rattle.mon_parser.specs.ParsedTrees.{plain_stmts}
use Rattle.mon_typing.specs.Scopes.{plain_scope}
use Rattle.mon_typing.proofs.Lists.{checked_behind}
use Rattle.mon_typing.proofs.statement.+statement.Given as goal

abbrev pub invariant-checked_statements-each : goal.invariant-checked_statements-each
invariant-checked_statements-each l = record {
  same :
      checked_behind l.all.items (checked_statements (plain_scope l.scope) l.result_type (reverse l.initial.labels.around.items) (plain_stmts (drop l.one-index l.list)))
      ≡ checked_statements (plain_scope l.scope) l.result_type (reverse l.initial.labels.around.items) (plain_stmts l.list);
  around : l.labels.around.items ≡ l.initial.labels.around.items;
  closed : l.labels.closed.items ++ labels_in_all (plain_stmts (drop l.one-index l.list)) ≡ l.initial.labels.closed.items ++ labels_in_all (plain_stmts l.list);
}

-- the depth of the deepest of some statements
abbrev depth : List ParsedStmt → ℕ
depth list = most (λ x. the_size x) list

abbrev pub decreases-checked_statement : goal.decreases-checked_statement
decreases-checked_statement l = 4 * the_size l.s.now

abbrev pub decreases-checked_statements : goal.decreases-checked_statements
decreases-checked_statements l = 4 * depth l.list.now + 1

abbrev pub decreases-selection : goal.decreases-selection
decreases-selection l = 4 * max (depth l.first.now) (depth l.second.now) + 3

abbrev pub decreases-checked_bodies : goal.decreases-checked_bodies
decreases-checked_bodies l = 4 * max (depth l.first.now) (depth l.second.now) + 2

abbrev pub decreases-iteration : goal.decreases-iteration
decreases-iteration l = 4 * max (depth l.before.now) (depth l.behind.now) + 3

abbrev pub decreases-labelled : goal.decreases-labelled
decreases-labelled l = 4 * depth l.body.now + 3

abbrev pub decreases-labelled_body : goal.decreases-labelled_body
decreases-labelled_body l = 4 * depth l.body.now + 2
