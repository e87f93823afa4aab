-- Annotations that are counted part by part.
use Rattle.std.proofs.Common.{◌≡◌, ℕ, ◌+◌, List, Result, ap, sym, ◌∙◌, subst, arith}
use Rattle.std.specs.Prelude.{IfOk, Vec}
use Rattle.std.specs.declared.alloc.Global.{Global}
use Rattle.c_syntax.specs.declared.place.Place.{Place}
use Rattle.c_syntax.specs.declared.expression.Expr.{Expr}
use Rattle.c_syntax.specs.declared.statement.Case.{Case}
use Rattle.c_syntax.specs.declared.statement.Item.{Item}
use Rattle.c_syntax.specs.declared.statement.StmtKind.{StmtKind}
use Rattle.c_syntax.specs.declared.statement.StmtKind as code
use Rattle.c_syntax.specs.Statements.{plain_cases, plain_items, plain_stmt_kind}
use Rattle.c_syntax.proofs.Rows.{block_is, switch_is}
use Rattle.eacsl_engine.specs.Annotations.{in_cases, in_items, in_statement}

-- one part more, and all parts
pub one_counted : (found found' part left left' total : ℕ) → left ≡ part + left' → found' ≡ found + part → found + left ≡ total → found' + left' ≡ total
one_counted found found' part left left' total split more before = omega (arith, split, more, before)

pub all_counted : (found left total : ℕ) → left ≡ 0 → found + left ≡ total → found ≡ total
all_counted found left total none before = omega (arith, none, before)

-- a block has the annotations of its items
pub block_counted : {E : Type 0} (at : Place) (k : StmtKind) (v : Vec Item Global) (items : List Item) (count : ℕ) (r : Result ℕ E) → k ≡ code.Block v → items ≡ v.items
    → IfOk r (λ n. n ≡ count + in_items (plain_items items)) → IfOk r (λ n. n ≡ count + in_statement (plain_stmt_kind at k))
block_counted at k v items count r kind_is items_are h =
    subst (λ m. IfOk r (λ n. n ≡ count + m)) (ap (λ l. in_items (plain_items l)) items_are ∙ sym (ap in_statement (ap (plain_stmt_kind at) kind_is ∙ block_is at v))) h

-- a `switch` has those of its cases
pub switch_counted : {E : Type 0} (at : Place) (k : StmtKind) (e : Expr) (v : Vec Case Global) (cases : List Case) (count : ℕ) (r : Result ℕ E) → k ≡ code.Switch e v → cases ≡ v.items
    → IfOk r (λ n. n ≡ count + in_cases (plain_cases cases)) → IfOk r (λ n. n ≡ count + in_statement (plain_stmt_kind at k))
switch_counted at k e v cases count r kind_is cases_are h =
    subst (λ m. IfOk r (λ n. n ≡ count + m)) (ap (λ l. in_cases (plain_cases l)) cases_are ∙ sym (ap in_statement (ap (plain_stmt_kind at) kind_is ∙ switch_is at e v))) h
