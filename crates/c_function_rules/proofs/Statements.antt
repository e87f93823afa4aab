-- Statements at a known variant.
use Rattle.std.proofs.Common.{◌≡◌, ℕ, List, [], ◌∷◌, ◌++◌, false, sym, ap, ◌∙◌, subst, length, Option, Result}
use Rattle.std.specs.Prelude.{Vec}
use Rattle.std.specs.declared.alloc.Global.{Global}
use Rattle.c_syntax.specs.declared.place.Place.{Place}
use Rattle.c_syntax.specs.declared.expression.Expr.{Expr}
use Rattle.c_syntax.specs.declared.types.CInt.{CInt}
use Rattle.c_syntax.specs.declared.statement.Case.{Case}
use Rattle.c_syntax.specs.declared.statement.Item.{Item}
use Rattle.c_syntax.specs.declared.statement.Stmt.{Stmt}
use Rattle.c_syntax.specs.declared.statement.StmtKind.{StmtKind}
use Rattle.c_syntax.specs.declared.statement.StmtKind as code
use Rattle.c_syntax.specs.Expressions.{Expression, plain_expr}
use Rattle.c_syntax.specs.Statements.{Declaration, Block, Do, Switch, Cases, BlockItems, plain_stmt, plain_stmt_kind, plain_cases, plain_item, plain_items}
use Rattle.c_syntax.proofs.Rows.{block_is, switch_is}
use Rattle.c_model.specs.Checked.{Checked, Good, one_part}
use Rattle.c_model.specs.ExpressionTyping.{Sight, decayed_of, inner, typed}
use Rattle.c_model.specs.StatementTyping.{typed_items, Around, controlling, in_loop, in_switch, behind, behind_first, typed_cases, typed_condition, typed_statement, typed_item}
use Rattle.c_model.specs.UnitTyping.{with_parameters}
use Rattle.c_scopes.specs.declared.fault.TypeFault.{TypeFault}
use Rattle.c_scopes.specs.Answers.{Answers}
use Rattle.c_scopes.specs.Sights.{left}
use Rattle.c_function_rules.specs.Blocks.{behind_items}
use Rattle.c_function_rules.specs.Trees.{plain_for_first}
use Rattle.c_scopes.proofs.Lists.{made_of}
use Rattle.c_scopes.proofs.BlockItems.{behind_block, all_items, items_more}
use Rattle.c_function_rules.proofs.Blocks.{left_block, left_for, left_parameters}

module _ (s : Sight) (r : Around) (at : Place) (k : StmtKind)
  where
    -- a block in its place
    pub block_in_place : (v w : Vec Item Global) (result : Result (Unit {0}) TypeFault) → k ≡ code.Block v → Answers (λ (u : Unit {0}). plain_items w.items) (typed_items (inner s) r (plain_items v.items)) result
        → Answers (λ (u : Unit {0}). plain_stmt_kind at (code.Block w)) (typed_statement s r (plain_stmt_kind at k)) result
    block_in_place v w result is h =
        subst (λ c. Answers (λ (u : Unit {0}). plain_stmt_kind at (code.Block w)) c result) (sym (ap (typed_statement s r) (ap (plain_stmt_kind at) is ∙ block_is at v)))
        (subst (λ c. Answers (λ (u : Unit {0}). c) (typed_statement s r (Block at (plain_items v.items))) result) (sym (block_is at w))
        (made_of (Block at) (λ (u : Unit {0}). plain_items w.items) (typed_items (inner s) r (plain_items v.items)) result h))

    -- `do` in its place
    pub do_in_place : (b b' : Stmt) (e e' : Expr) (r' : Around) (t : Sight) (result : Result (Unit {0}) TypeFault) → k ≡ code.Do b e → r' ≡ in_loop r → typed_statement s r' (plain_stmt b) ≡ Good (plain_stmt b') → t ≡ s
        → Answers (λ (u : Unit {0}). plain_expr e') (typed_condition t (plain_expr e)) result → Answers (λ (u : Unit {0}). Do at (plain_stmt b') (plain_expr e')) (typed_statement s r (plain_stmt_kind at k)) result
    do_in_place b b' e e' r' t result is around good same h =
        let body : typed_statement s (in_loop r) (plain_stmt b) ≡ Good (plain_stmt b') = ap (λ q. typed_statement s q (plain_stmt b)) (sym around) ∙ good in
        subst (λ c. Answers (λ (u : Unit {0}). Do at (plain_stmt b') (plain_expr e')) c result)
        (sym (ap (λ x. typed_statement s r (plain_stmt_kind at x)) is ∙ ap (λ c. one_part c (λ d. one_part (typed_condition s (plain_expr e)) (λ e. Good (Do at d e)))) body))
        (made_of (Do at (plain_stmt b')) (λ (u : Unit {0}). plain_expr e') (typed_condition s (plain_expr e)) result (subst (λ u. Answers (λ (v : Unit {0}). plain_expr e') (typed_condition u (plain_expr e)) result) same h))

    -- a `switch` in its place
    pub switch_in_place : (e e' : Expr) (v w : Vec Case Global) (n : CInt) (r' : Around) (result : Result (Unit {0}) TypeFault) → k ≡ code.Switch e v
        → one_part (decayed_of (typed s (plain_expr e))) controlling ≡ Good (n, plain_expr e') → r' ≡ in_switch r
        → Answers (λ (u : Unit {0}). plain_cases w.items) (typed_cases s r' n [] false (plain_cases v.items)) result → Answers (λ (u : Unit {0}). plain_stmt_kind at (code.Switch e' w)) (typed_statement s r (plain_stmt_kind at k)) result
    switch_in_place e e' v w n r' result is good around h =
        let cases : CInt → Checked Cases = λ n. typed_cases s (in_switch r) n [] false (plain_cases v.items) in
        subst (λ c. Answers (λ (u : Unit {0}). plain_stmt_kind at (code.Switch e' w)) c result)
        (sym (ap (typed_statement s r) (ap (plain_stmt_kind at) is ∙ switch_is at e v) ∙ ap (λ (c : Checked (CInt × Expression)). one_part c (λ x. one_part (cases x.0) (λ cs. Good (Switch at x.1 cs)))) good))
        (subst (λ d. Answers (λ (u : Unit {0}). d) (one_part (cases n) (λ cs. Good (Switch at (plain_expr e') cs))) result) (sym (switch_is at e' w))
        (made_of (Switch at (plain_expr e')) (λ (u : Unit {0}). plain_cases w.items) (cases n) result
        (subst (λ q. Answers (λ (u : Unit {0}). plain_cases w.items) (typed_cases s q n [] false (plain_cases v.items)) result) around h)))

-- ---- blocks

module _ (s t t' : Sight) (r : Around) (done done' : List Item) (x : Item) (now : t' ≡ behind t (plain_item x)) (more : done' ≡ done ++ x ∷ [])
  where
    -- one more item is typed
    pub block_more : (all : BlockItems) (list : List Item) (i : Item) (rest : List Item) → typed_items s r all ≡ behind_block (plain_items done) (typed_items t r (plain_items list)) → list ≡ i ∷ rest
        → typed_item t r (plain_item i) ≡ Good (plain_item x) → typed_items s r all ≡ behind_block (plain_items done') (typed_items t' r (plain_items rest))
    block_more all list i rest before is good =
        items_more (typed_items s r all) (typed_items t r (plain_items list)) done done' x (typed_item t r (plain_item i)) (λ y. typed_items (behind t y) r (plain_items rest)) before (ap (λ l. typed_items t r (plain_items l)) is) good more
        ∙ ap (λ u. behind_block (plain_items done') (typed_items u r (plain_items rest))) (sym now)

pub block_done : (whole : Checked BlockItems) (t : Sight) (r : Around) (done list : List Item) → whole ≡ behind_block (plain_items done) (typed_items t r (plain_items list)) → list ≡ [] → whole ≡ Good (plain_items done)
block_done whole t r done list before none = before ∙ ap (λ l. behind_block (plain_items done) (typed_items t r (plain_items l))) none ∙ all_items (plain_items done)

module _ (s t u v : Sight) (count innermost : ℕ) (inside : t ≡ inner s) (counted : count ≡ length s.entities) (kept : innermost ≡ s.innermost) (ends : v ≡ left count innermost u)
  where
    left_is : (w : Sight) → u ≡ w → left (length s.entities) s.innermost w ≡ s → v ≡ s
    left_is w is back = ends ∙ ap (λ n. left n innermost u) counted ∙ ap (λ n. left (length s.entities) n u) kept ∙ ap (left (length s.entities) s.innermost) is ∙ back

    pub block_left : (is : BlockItems) → u ≡ behind_items t is → v ≡ s
    block_left is sight = left_is (behind_items (inner s) is) (sight ∙ ap (λ x. behind_items x is) inside) (left_block s is)

    pub for_left : (i : Option Item) (x : Sight) → u ≡ x → x ≡ behind_first t (plain_for_first i) → v ≡ s
    for_left i x same sight = left_is (behind_first (inner s) (plain_for_first i)) (same ∙ sight ∙ ap (λ x. behind_first x (plain_for_first i)) inside) (left_for s (plain_for_first i))

    pub parameters_left : (ds : List Declaration) → u ≡ with_parameters t ds → v ≡ s
    parameters_left ds sight = left_is (with_parameters (inner s) ds) (sight ∙ ap (λ x. with_parameters x ds) inside) (left_parameters s ds)
