-- The plain form of a vector of statements is that of its list.
use Rattle.std.proofs.Common.{◌≡◌, List, [], ◌∷◌, map, Result, refl, ap, subst, ◌∙◌}
use Rattle.mon_syntax.specs.Grammar.{parsed_list}
use Rattle.std.specs.Prelude.{Vec, IfOk}
use Rattle.std.specs.declared.alloc.Global.{Global}
use Rattle.std.specs.declared.alloc.AllocError.{AllocError}
use Rattle.mon_syntax.specs.Parsed.{ParsedStatement, If, Loop, Labelled, Then}
use Rattle.mon_parser.specs.declared.parsed.NameUse.{NameUse}
use Rattle.mon_parser.specs.declared.parsed.ParsedExpr.{ParsedExpr}
use Rattle.mon_parser.specs.declared.parsed.ParsedStmt.{ParsedStmt}
use Rattle.mon_parser.specs.declared.parsed.ParsedStmtKind.{Row_of-ParsedStmt, end_of-ParsedStmt, more_of-ParsedStmt, items-the_row-ParsedStmt, items_hidden-the_row-ParsedStmt-0}
use Rattle.mon_parser.specs.declared.parsed.ParsedStmtKind as code
use Rattle.mon_parser.specs.declared.parsed.ParsedStmtKind.TheBlock.{hidden-the_row-ParsedStmt-0}
use Rattle.mon_parser.specs.ParsedTrees.{plain_name, plain_expr, plain_stmt, plain_stmt_kind, plain_stmt_row, plain_stmts}

stmt_row_is : {m : _} (row : Row_of-ParsedStmt m) → plain_stmt_row row ≡ plain_stmts (items-the_row-ParsedStmt m row)
stmt_row_is end_of-ParsedStmt = refl
stmt_row_is (more_of-ParsedStmt p a rest) = ap (Then (plain_stmt_kind a)) (stmt_row_is rest)

body_is : (v : Vec ParsedStmt Global) → plain_stmt_row (hidden-the_row-ParsedStmt-0 v) ≡ plain_stmts v.items
body_is v = stmt_row_is (hidden-the_row-ParsedStmt-0 v) ∙ ap plain_stmts (items_hidden-the_row-ParsedStmt-0 v)

pub if_is : (e : ParsedExpr) (v w : Vec ParsedStmt Global) → plain_stmt_kind (code.If e v w) ≡ If (plain_expr e) (plain_stmts v.items) (plain_stmts w.items)
if_is e v w = λ i. If (plain_expr e) (body_is v i) (body_is w i)

pub loop_is : (v w : Vec ParsedStmt Global) → plain_stmt_kind (code.Loop v w) ≡ Loop (plain_stmts v.items) (plain_stmts w.items)
loop_is v w = λ i. Loop (body_is v i) (body_is w i)

pub labelled_is : (v : Vec ParsedStmt Global) (l : NameUse) → plain_stmt_kind (code.Labelled v l) ≡ Labelled (plain_stmts v.items) (plain_name l)
labelled_is v l = ap (λ a. Labelled a (plain_name l)) (body_is v)

-- with the list of plain forms
pub list_is : (all : List ParsedStmt) → plain_stmts all ≡ parsed_list (map plain_stmt all)
list_is [] = refl
list_is (a ∷ rest) = ap (Then (plain_stmt a)) (list_is rest)

pub if_list : (e : ParsedExpr) (v w : Vec ParsedStmt Global) → plain_stmt_kind (code.If e v w) ≡ If (plain_expr e) (parsed_list (map plain_stmt v.items)) (parsed_list (map plain_stmt w.items))
if_list e v w = if_is e v w ∙ λ i. If (plain_expr e) (list_is v.items i) (list_is w.items i)

pub loop_list : (v w : Vec ParsedStmt Global) → plain_stmt_kind (code.Loop v w) ≡ Loop (parsed_list (map plain_stmt v.items)) (parsed_list (map plain_stmt w.items))
loop_list v w = loop_is v w ∙ λ i. Loop (list_is v.items i) (list_is w.items i)

pub labelled_list : (v : Vec ParsedStmt Global) (l : NameUse) → plain_stmt_kind (code.Labelled v l) ≡ Labelled (parsed_list (map plain_stmt v.items)) (plain_name l)
labelled_list v l = labelled_is v l ∙ ap (λ a. Labelled a (plain_name l)) (list_is v.items)

-- a statement that is made has a plain form that is its parts' too
pub made : {a b : ParsedStatement} → a ≡ b → (made : Result ParsedStmt AllocError) → IfOk made (λ s. plain_stmt s ≡ a) → IfOk made (λ s. plain_stmt s ≡ b)
made e r h = subst (λ x. IfOk r (λ s. plain_stmt s ≡ x)) e h
