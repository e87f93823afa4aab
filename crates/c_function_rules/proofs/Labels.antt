-- Labels: which names are taken depends on no order, and those of a block or of cases are those of its items.
use Rattle.std.proofs.Common.{◌≡◌, ℕ, refl, sym, ap, ◌∙◌, Bool, true, false, not, ◌||◌, nat_eq, List, [], ◌∷◌, ◌++◌}
use Rattle.std.specs.Prelude.{Vec}
use Rattle.std.specs.declared.alloc.Global.{Global}
use Rattle.c_syntax.specs.declared.expression.Expr.{Expr}
use Rattle.c_syntax.specs.declared.place.Place.{Place}
use Rattle.c_syntax.specs.declared.statement.Case.{Case}
use Rattle.c_syntax.specs.declared.statement.Item.{Item}
use Rattle.c_syntax.specs.declared.statement.StmtKind.{StmtKind}
use Rattle.c_syntax.specs.declared.statement.StmtKind as code
use Rattle.c_syntax.specs.Statements.{plain_stmt_kind, plain_items, plain_cases}
use Rattle.c_syntax.proofs.Rows.{block_is, switch_is}
use Rattle.c_model.specs.Checked.{Checked, where_so}
use Rattle.c_model.specs.ExpressionTyping.{no_name, is_among}
use Rattle.c_model.specs.StatementTyping.{labels_within, labels_in_items, labels_in_cases, distinct_labels}

-- ---- names that are taken

more_among : (x y : ℕ) (ns : List ℕ) → is_among x (ns ++ y ∷ []) ≡ is_among x (y ∷ ns)
more_among x y [] = refl
more_among x y (n ∷ ns) = ap (λ t. nat_eq x n || t) (more_among x y ns) ∙ swapped (nat_eq x n) (nat_eq x y) (is_among x ns)
  where
    swapped : (a b c : Bool) → (a || (b || c)) ≡ (b || (a || c))
    swapped true true c = refl
    swapped true false c = refl
    swapped false b c = refl

distinct_same : (ms ns : List ℕ) → ((x : ℕ) → is_among x ms ≡ is_among x ns) → (ls : List (Place × ℕ)) → distinct_labels ms ls ≡ distinct_labels ns ls
distinct_same ms ns h [] = refl
distinct_same ms ns h (l ∷ ls) =
    ap (λ t. where_so (not t) (no_name l.0) (distinct_labels (l.1 ∷ ms) ls)) (h l.1)
    ∙ ap (λ r. where_so (not (is_among l.1 ns)) (no_name l.0) r) (distinct_same (l.1 ∷ ms) (l.1 ∷ ns) (λ x. ap (λ t. nat_eq x l.1 || t) (h x)) ls)

-- one more name
pub one_more_name : (y : ℕ) (ns : List ℕ) (ls : List (Place × ℕ)) → distinct_labels (ns ++ y ∷ []) ls ≡ distinct_labels (y ∷ ns) ls
one_more_name y ns ls = distinct_same (ns ++ y ∷ []) (y ∷ ns) (λ x. more_among x y ns) ls

-- one more label, whose name none before it has
pub distinct_step : (names more : List ℕ) (rest after : List (Place × ℕ)) (l : Place × ℕ) (whole : Checked (Unit {0})) → rest ≡ l ∷ after → more ≡ names ++ l.1 ∷ [] → is_among l.1 names ≡ false → distinct_labels names rest ≡ whole
    → distinct_labels more after ≡ whole
distinct_step names more rest after l whole first grown none before =
    ap (λ ns. distinct_labels ns after) grown ∙ one_more_name l.1 names after ∙ sym (ap (λ t. where_so (not t) (no_name l.0) (distinct_labels (l.1 ∷ names) after)) none)
    ∙ sym (ap (distinct_labels names) first) ∙ before

-- ---- statements at a known variant

pub labels_of_block : (at : Place) (k : StmtKind) (v : Vec Item Global) → k ≡ code.Block v → labels_within (plain_stmt_kind at k) ≡ labels_in_items (plain_items v.items)
labels_of_block at k v is = ap labels_within (ap (plain_stmt_kind at) is ∙ block_is at v)

pub labels_of_switch : (at : Place) (k : StmtKind) (e : Expr) (v : Vec Case Global) → k ≡ code.Switch e v → labels_within (plain_stmt_kind at k) ≡ labels_in_cases (plain_cases v.items)
labels_of_switch at k e v is = ap labels_within (ap (plain_stmt_kind at) is ∙ switch_is at e v)
