-- The plain form of a block, and of a `switch`.
use Rattle.std.proofs.Common.{◌≡◌, List, [], ◌∷◌, map, refl, ap, ◌∙◌}
use Rattle.std.specs.Prelude.{Vec}
use Rattle.std.specs.declared.alloc.Global.{Global}
use Rattle.c_syntax.specs.declared.place.Place.{Place}
use Rattle.c_syntax.specs.declared.expression.Expr.{Expr}
use Rattle.c_syntax.specs.declared.statement.Case.{Case}
use Rattle.c_syntax.specs.declared.statement.Item.{Item}
use Rattle.c_syntax.specs.Expressions.{plain_expr}
use Rattle.c_syntax.specs.declared.statement.StmtKind as code
use Rattle.c_syntax.specs.Statements.{Block, Switch, Then, plain_item, plain_items, plain_cases, plain_stmt_kind}
use Rattle.c_syntax.proofs.Rows.{block_is, switch_is}
use Rattle.c_model.specs.ProgramGrammar.{block_items, cases_of}
use Rattle.c_parser.specs.Reading.{read_case}

items_are : (all : List Item) → plain_items all ≡ block_items (map plain_item all)
items_are [] = refl
items_are (i ∷ rest) = ap (Then (plain_item i)) (items_are rest)

pub block_is_read : (at : Place) (v : Vec Item Global) → plain_stmt_kind at (code.Block v) ≡ Block at (block_items (map plain_item v.items))
block_is_read at v = block_is at v ∙ ap (Block at) (items_are v.items)

cases_are : (all : List Case) → plain_cases all ≡ cases_of (map read_case all)
cases_are [] = refl
cases_are (c ∷ rest) = rw (items_are c.items.items, cases_are rest) refl

pub switch_is_read : (at : Place) (e : Expr) (v : Vec Case Global) → plain_stmt_kind at (code.Switch e v) ≡ Switch at (plain_expr e) (cases_of (map read_case v.items))
switch_is_read at e v = switch_is at e v ∙ ap (Switch at (plain_expr e)) (cases_are v.items)
