-- The plain form of a vector of statements is that of its list.
use Rattle.std.proofs.Common.{◌≡◌, ℕ, List, refl, ap, ◌∙◌}
use Rattle.std.specs.Prelude.{Vec}
use Rattle.std.specs.declared.alloc.Global.{Global}
use Rattle.mon_syntax.specs.declared.tree.MonExpr.{MonExpr}
use Rattle.mon_syntax.specs.declared.tree.MonStmt.{MonStmt}
use Rattle.mon_syntax.specs.declared.tree.MonStmtKind.{Row_of-MonStmt, end_of-MonStmt, more_of-MonStmt, items-the_row-MonStmt, items_hidden-the_row-MonStmt-0}
use Rattle.mon_syntax.specs.declared.tree.MonStmtKind as code
use Rattle.mon_syntax.specs.declared.tree.MonStmtKind.TheBlock.{hidden-the_row-MonStmt-0}
use Rattle.mon_syntax.specs.Trees.{If, Loop, Labelled, Then, plain_expr, plain_stmt_kind, plain_stmt_row, plain_stmts}

stmt_row_is : {m : _} (row : Row_of-MonStmt m) → plain_stmt_row row ≡ plain_stmts (items-the_row-MonStmt m row)
stmt_row_is end_of-MonStmt = refl
stmt_row_is (more_of-MonStmt p a rest) = ap (Then (plain_stmt_kind a)) (stmt_row_is rest)

body_is : (v : Vec MonStmt Global) → plain_stmt_row (hidden-the_row-MonStmt-0 v) ≡ plain_stmts v.items
body_is v = stmt_row_is (hidden-the_row-MonStmt-0 v) ∙ ap plain_stmts (items_hidden-the_row-MonStmt-0 v)

pub if_is : (e : MonExpr) (v w : Vec MonStmt Global) → plain_stmt_kind (code.If e v w) ≡ If (plain_expr e) (plain_stmts v.items) (plain_stmts w.items)
if_is e v w = λ i. If (plain_expr e) (body_is v i) (body_is w i)

pub loop_is : (v w : Vec MonStmt Global) → plain_stmt_kind (code.Loop v w) ≡ Loop (plain_stmts v.items) (plain_stmts w.items)
loop_is v w = λ i. Loop (body_is v i) (body_is w i)

pub labelled_is : (v : Vec MonStmt Global) (label : List ℕ) → plain_stmt_kind (code.Labelled v label) ≡ Labelled (plain_stmts v.items) label
labelled_is v label = ap (λ a. Labelled a label) (body_is v)
