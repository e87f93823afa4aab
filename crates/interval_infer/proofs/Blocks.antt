-- Statements and functions whose annotations have their ranges, one after another.
use Rattle.std.proofs.Common.{◌≡◌, List, [], ◌∷◌, ◌++◌, sym, ap, ◌∙◌, subst, Result}
use Rattle.std.specs.Prelude.{Vec}
use Rattle.std.specs.declared.alloc.Global.{Global}
use Rattle.c_syntax.specs.declared.place.Place.{Place}
use Rattle.c_syntax.specs.declared.expression.Expr.{Expr}
use Rattle.c_syntax.specs.declared.statement.Case.{Case}
use Rattle.c_syntax.specs.declared.statement.Item.{Item}
use Rattle.c_syntax.specs.declared.statement.StmtKind.{StmtKind}
use Rattle.c_syntax.specs.declared.statement.StmtKind as code
use Rattle.c_syntax.specs.Expressions.{plain_expr}
use Rattle.c_syntax.specs.Statements.{Block, Switch, BlockItems, plain_stmt_kind, plain_cases, plain_item, plain_items}
use Rattle.c_syntax.proofs.Rows.{block_is, switch_is}
use Rattle.c_model.specs.Checked.{Checked, Good}
use Rattle.c_model.specs.AnnotationRanges.{ranged_statement, ranged_cases, ranged_item, ranged_items}
use Rattle.c_scopes.specs.declared.fault.TypeFault.{TypeFault}
use Rattle.c_scopes.specs.Answers.{Answers}
use Rattle.c_scopes.proofs.Lists.{made_of}
use Rattle.c_scopes.proofs.BlockItems.{behind_block, all_items, items_more}

-- a block in its place
pub block_in_place : (at : Place) (k : StmtKind) (v w : Vec Item Global) (result : Result (Unit {0}) TypeFault) → k ≡ code.Block v → Answers (λ (u : Unit {0}). plain_items w.items) (ranged_items (plain_items v.items)) result
    → Answers (λ (u : Unit {0}). plain_stmt_kind at (code.Block w)) (ranged_statement (plain_stmt_kind at k)) result
block_in_place at k v w result is h =
    subst (λ c. Answers (λ (u : Unit {0}). plain_stmt_kind at (code.Block w)) c result) (sym (ap ranged_statement (ap (plain_stmt_kind at) is ∙ block_is at v)))
    (subst (λ c. Answers (λ (u : Unit {0}). c) (ranged_statement (Block at (plain_items v.items))) result) (sym (block_is at w))
    (made_of (Block at) (λ (u : Unit {0}). plain_items w.items) (ranged_items (plain_items v.items)) result h))

-- a `switch` in its place
pub switch_in_place : (at : Place) (k : StmtKind) (e : Expr) (v w : Vec Case Global) (result : Result (Unit {0}) TypeFault) → k ≡ code.Switch e v → Answers (λ (u : Unit {0}). plain_cases w.items) (ranged_cases (plain_cases v.items)) result
    → Answers (λ (u : Unit {0}). plain_stmt_kind at (code.Switch e w)) (ranged_statement (plain_stmt_kind at k)) result
switch_in_place at k e v w result is h =
    subst (λ c. Answers (λ (u : Unit {0}). plain_stmt_kind at (code.Switch e w)) c result) (sym (ap ranged_statement (ap (plain_stmt_kind at) is ∙ switch_is at e v)))
    (subst (λ c. Answers (λ (u : Unit {0}). c) (ranged_statement (Switch at (plain_expr e) (plain_cases v.items))) result) (sym (switch_is at e w))
    (made_of (Switch at (plain_expr e)) (λ (u : Unit {0}). plain_cases w.items) (ranged_cases (plain_cases v.items)) result h))

-- one more item has its ranges
pub block_more : (done done' : List Item) (x : Item) → done' ≡ done ++ x ∷ [] → (whole : Checked BlockItems) (list : List Item) (i : Item) (rest : List Item)
    → whole ≡ behind_block (plain_items done) (ranged_items (plain_items list)) → list ≡ i ∷ rest → ranged_item (plain_item i) ≡ Good (plain_item x) → whole ≡ behind_block (plain_items done') (ranged_items (plain_items rest))
block_more done done' x more whole list i rest before is good =
    items_more whole (ranged_items (plain_items list)) done done' x (ranged_item (plain_item i)) (λ y. ranged_items (plain_items rest)) before (ap (λ l. ranged_items (plain_items l)) is) good more

pub block_done : (whole : Checked BlockItems) (done list : List Item) → whole ≡ behind_block (plain_items done) (ranged_items (plain_items list)) → list ≡ [] → whole ≡ Good (plain_items done)
block_done whole done list before none = before ∙ ap (λ l. behind_block (plain_items done) (ranged_items (plain_items l))) none ∙ all_items (plain_items done)
