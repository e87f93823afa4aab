-- The plain form of a vector of trees is that of its list.
use Rattle.std.proofs.Common.{◌≡◌, refl, ap, sym, ◌∙◌}
use Rattle.std.specs.Prelude.{List, [], ◌∷◌, map, Vec, Result, Ok, Err, IfOk, option_map}
use Rattle.std.specs.declared.alloc.Global.{Global}
use Rattle.c_syntax.specs.declared.place.Place.{Place}
use Rattle.c_syntax.specs.declared.expression.Use.{Use}
use Rattle.c_syntax.specs.declared.expression.Expr.{Expr}
use Rattle.c_syntax.specs.declared.expression.ExprKind.{ExprKind, Row_of-Expr, end_of-Expr, more_of-Expr, items-the_row-Expr, items_hidden-the_row-Expr-0}
use Rattle.c_syntax.specs.declared.expression.ExprKind as code
use Rattle.c_syntax.specs.declared.expression.ExprKind.TheBlock.{hidden-the_row-Expr-0}
use Rattle.c_syntax.specs.declared.statement.Init.{Init, Row_of-Init, end_of-Init, more_of-Init, items-the_row-Init, items_hidden-the_row-Init-0}
use Rattle.c_syntax.specs.declared.statement.Init as init
use Rattle.c_syntax.specs.declared.statement.Init.TheBlock.{hidden-the_row-Init-0}
use Rattle.c_syntax.specs.declared.statement.Case.{Case}
use Rattle.c_syntax.specs.declared.statement.Item.{Item}
use Rattle.c_syntax.specs.declared.statement.StmtKind.{Row_of-Item, end_of-Item, more_of-Item, items-the_row-Item, items_hidden-the_row-Item-0, items_shown-the_row-Item-0}
use Rattle.c_syntax.specs.declared.statement.StmtKind.{Row_of-Case, end_of-Case, more_of-Case, items-the_row-Case, items_hidden-the_row-Case-1}
use Rattle.c_syntax.specs.declared.statement.StmtKind as statement
use Rattle.c_syntax.specs.declared.statement.Item.TheBlock.{hidden-the_row-Item-0, hidden-the_row-Case-1}
use Rattle.c_syntax.specs.Expressions.{PlainType, plain_type, Expression, Node, Call, Expressions, NoExpression, Following, plain_expr, plain_exprs, plain_kind, plain_expr_row}
use Rattle.c_syntax.specs.Statements.{Many, Listed, plain_init, plain_init_row, plain_inits, Block, Switch, AnotherCase, Then, plain_item, plain_items, plain_item_row, plain_stmt_kind}
use Rattle.c_syntax.specs.Statements.{plain_case_row, plain_cases}

expr_row_is : {m : _} (row : Row_of-Expr m) → plain_expr_row row ≡ plain_exprs (items-the_row-Expr m row)
expr_row_is end_of-Expr = refl
expr_row_is (more_of-Expr at p e t rest) = ap (Following (Node at (plain_type t) (plain_kind e))) (expr_row_is rest)

pub call_kind_is : (f : Use) (v : Vec Expr Global) → plain_kind (code.Call f v) ≡ Call f (plain_exprs v.items)
call_kind_is f v = ap (Call f) (expr_row_is (hidden-the_row-Expr-0 v) ∙ ap plain_exprs (items_hidden-the_row-Expr-0 v))

pub call_is : (at : Place) (t : PlainType) (f : Use) (v : Vec Expr Global) → Node at t (plain_kind (code.Call f v)) ≡ Node at t (Call f (plain_exprs v.items))
call_is at t f v = ap (Node at t) (call_kind_is f v)

item_row_is : {m : _} (row : Row_of-Item m) → plain_item_row row ≡ plain_items (items-the_row-Item m row)
item_row_is end_of-Item = refl
item_row_is (more_of-Item i rest) = ap (Then (plain_item i)) (item_row_is rest)

pub block_is : (at : Place) (v : Vec Item Global) → plain_stmt_kind at (statement.Block v) ≡ Block at (plain_items v.items)
block_is at v = ap (Block at) (item_row_is (hidden-the_row-Item-0 v) ∙ ap plain_items (items_hidden-the_row-Item-0 v))

case_row_is : {m : _} (row : Row_of-Case m) → plain_case_row row ≡ plain_cases (items-the_row-Case m row)
case_row_is end_of-Case = refl
case_row_is (more_of-Case at v shape row rest) =
    let same = item_row_is row ∙ ap plain_items (sym (items_shown-the_row-Item-0 shape row)) in
    λ i. AnotherCase at (option_map plain_expr v) (same i) (case_row_is rest i)

pub switch_is : (at : Place) (e : Expr) (v : Vec Case Global) → plain_stmt_kind at (statement.Switch e v) ≡ Switch at (plain_expr e) (plain_cases v.items)
switch_is at e v = ap (Switch at (plain_expr e)) (case_row_is (hidden-the_row-Case-1 v) ∙ ap plain_cases (items_hidden-the_row-Case-1 v))

init_row_is : {m : _} (row : Row_of-Init m) → plain_init_row row ≡ plain_inits (items-the_row-Init m row)
init_row_is end_of-Init = refl
init_row_is (more_of-Init i rest) = ap (Listed (plain_init i)) (init_row_is rest)

pub many_is : (at : Place) (v : Vec Init Global) → plain_init (init.Many at v) ≡ Many at (plain_inits v.items)
many_is at v = ap (Many at) (init_row_is (hidden-the_row-Init-0 v) ∙ ap plain_inits (items_hidden-the_row-Init-0 v))

-- ---- vectors that are alike

abbrev in_row : List Expression → Expressions
in_row [] = NoExpression
in_row (e ∷ es) = Following e (in_row es)

exprs_in_row : (xs : List Expr) → plain_exprs xs ≡ in_row (map plain_expr xs)
exprs_in_row [] = refl
exprs_in_row (x ∷ xs) = ap (Following (plain_expr x)) (exprs_in_row xs)

pub exprs_alike : (xs ys : List Expr) → map plain_expr xs ≡ map plain_expr ys → plain_exprs xs ≡ plain_exprs ys
exprs_alike xs ys e = exprs_in_row xs ∙ ap in_row e ∙ sym (exprs_in_row ys)

-- the kind of a copied call
pub call_copied : {B E : Type 0} (r : Result B E) (kind : B → ExprKind) (f : Use) (args copies : Vec Expr Global) (k : ExprKind) → IfOk r (λ b. kind b ≡ code.Call f copies) → plain_exprs copies.items ≡ plain_exprs args.items → k ≡ code.Call f args
    → IfOk r (λ b. plain_kind (kind b) ≡ plain_kind k)
call_copied (Ok b) kind f args copies k e same is = ap plain_kind e ∙ call_kind_is f copies ∙ ap (Call f) same ∙ sym (call_kind_is f args) ∙ ap plain_kind (sym is)
call_copied (Err x) kind f args copies k e same is = tt
