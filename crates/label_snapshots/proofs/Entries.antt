-- Terms at labels that are added part by part.
use Rattle.std.proofs.Common.{◌≡◌, List, [], ◌++◌, Result, ap, sym, ◌∙◌, subst, append_assoc}
use Rattle.std.proofs.lemmas.List.{append-nil}
use Rattle.std.specs.Prelude.{OnOk, Vec}
use Rattle.std.specs.declared.alloc.Global.{Global}
use Rattle.c_syntax.specs.declared.place.Place.{Place}
use Rattle.c_syntax.specs.declared.expression.Expr.{Expr}
use Rattle.c_syntax.specs.declared.statement.Case.{Case}
use Rattle.c_syntax.specs.declared.statement.Item.{Item}
use Rattle.c_syntax.specs.declared.statement.StmtKind.{StmtKind}
use Rattle.c_syntax.specs.declared.statement.StmtKind as code
use Rattle.c_syntax.specs.Statements.{plain_cases, plain_items, plain_stmt_kind}
use Rattle.c_syntax.proofs.Rows.{block_is, switch_is}
use Rattle.annot_simulation.specs.Plan.{Entry, in_cases, in_items, in_statement}

-- one part more, and all parts
pub one_added : (now next part left rest total : List Entry) → left ≡ part ++ rest → next ≡ now ++ part → now ++ left ≡ total → next ++ rest ≡ total
one_added now next part left rest total split more before = ap (λ l. l ++ rest) more ∙ append_assoc now part rest ∙ ap (λ l. now ++ l) (sym split) ∙ before

pub all_added : (now left total : List Entry) → left ≡ [] → now ++ left ≡ total → now ≡ total
all_added now left total none before = sym (append-nil now) ∙ ap (λ l. now ++ l) (sym none) ∙ before

-- a block has those of its items
pub block_added : {A E : Type 0} (at : Place) (k : StmtKind) (v : Vec Item Global) (items : List Item) (before after : List Entry) (r : Result A E) → k ≡ code.Block v → items ≡ v.items
    → OnOk r (after ≡ before ++ in_items (plain_items items)) → OnOk r (after ≡ before ++ in_statement (plain_stmt_kind at k))
block_added at k v items before after r kind_is items_are h =
    subst (λ l. OnOk r (after ≡ before ++ l)) (ap (λ l. in_items (plain_items l)) items_are ∙ sym (ap in_statement (ap (plain_stmt_kind at) kind_is ∙ block_is at v))) h

-- a `switch` has those of its cases
pub switch_added : {A E : Type 0} (at : Place) (k : StmtKind) (e : Expr) (v : Vec Case Global) (cases : List Case) (before after : List Entry) (r : Result A E) → k ≡ code.Switch e v → cases ≡ v.items
    → OnOk r (after ≡ before ++ in_cases (plain_cases cases)) → OnOk r (after ≡ before ++ in_statement (plain_stmt_kind at k))
switch_added at k e v cases before after r kind_is cases_are h =
    subst (λ l. OnOk r (after ≡ before ++ l)) (ap (λ l. in_cases (plain_cases l)) cases_are ∙ sym (ap in_statement (ap (plain_stmt_kind at) kind_is ∙ switch_is at e v))) h
