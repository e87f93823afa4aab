-- Annotations of statements at a known variant.
use Rattle.std.proofs.Common.{◌≡◌, ℕ, List, [], ◌∷◌, ◌++◌, refl, sym, ap, ◌∙◌, subst, map, Result, Err, Option, Some, None, option_map}
use Rattle.std.specs.Prelude.{Vec}
use Rattle.std.specs.declared.alloc.Global.{Global}
use Rattle.c_syntax.specs.declared.expression.Expr.{Expr}
use Rattle.c_syntax.specs.declared.statement.Case.{Case}
use Rattle.c_syntax.specs.declared.statement.Item.{Item}
use Rattle.c_syntax.specs.declared.place.Place.{Place}
use Rattle.c_syntax.specs.declared.logic.Annot.{Annot}
use Rattle.c_syntax.specs.declared.statement.Stmt.{Stmt}
use Rattle.c_syntax.specs.declared.statement.StmtKind.{StmtKind}
use Rattle.c_syntax.specs.declared.statement.StmtKind as code
use Rattle.c_syntax.specs.Expressions.{Expression, plain_expr}
use Rattle.c_syntax.specs.Logic.{Annotation, plain_annot}
use Rattle.c_syntax.specs.Statements.{Statement, Block, If, While, For, Switch, ElsePart, ForFirst, BlockItems, Cases, NoCase, AnotherCase, plain_stmt, plain_stmt_kind, plain_else_part, plain_cases, plain_item, plain_items}
use Rattle.c_syntax.proofs.Rows.{block_is, switch_is}
use Rattle.c_model.specs.Checked.{Checked, Good, one_part}
use Rattle.c_model.specs.AnnotationSights.{AnnotationSight}
use Rattle.c_model.specs.ExpressionTyping.{Sight, inner}
use Rattle.c_model.specs.PredicateTyping.{typed_annotations}
use Rattle.c_model.specs.StatementTyping.{behind_first}
use Rattle.c_model.specs.AnnotationTyping.{inside_block, inside_for, with_label, behind_noted, behind_case, noted_statement, noted_cases, noted_else, noted_item, noted_items, noted_body, in_body}
use Rattle.c_scopes.specs.declared.fault.TypeFault.{TypeFault}
use Rattle.c_scopes.specs.Answers.{Answers}
use Rattle.c_scopes.proofs.Lists.{made_of}
use Rattle.c_scopes.proofs.BlockItems.{behind_block, all_items, items_more}
use Rattle.c_scopes.specs.declared.sight.Mark.{Mark}
use Rattle.c_scopes.proofs.Least.{one_refused}
use Rattle.c_scopes.proofs.CaseLists.{append_cases, behind_cases, cases_in_front, plain_case_snoc}
use Rattle.c_function_rules.specs.Trees.{plain_for_first}
use Rattle.c_typing.specs.NotedLabels.{here, seen_in_body, IsInBody}
use Rattle.c_typing.proofs.KnownLabels.{seen_at_beginning, seen_at_label, seen_for, seen_inside}

module _ (s : AnnotationSight) (at : Place) (k : StmtKind)
  where
    -- a block in its place
    pub block_in_place : (v w : Vec Item Global) (result : Result (Unit {0}) TypeFault) → k ≡ code.Block v → Answers (λ (u : Unit {0}). plain_items w.items) (noted_items (inside_block s) (plain_items v.items)) result
        → Answers (λ (u : Unit {0}). plain_stmt_kind at (code.Block w)) (noted_statement s (plain_stmt_kind at k)) result
    block_in_place v w result is h =
        subst (λ c. Answers (λ (u : Unit {0}). plain_stmt_kind at (code.Block w)) c result) (sym (ap (noted_statement s) (ap (plain_stmt_kind at) is ∙ block_is at v)))
        (subst (λ c. Answers (λ (u : Unit {0}). c) (noted_statement s (Block at (plain_items v.items))) result) (sym (block_is at w))
        (made_of (Block at) (λ (u : Unit {0}). plain_items w.items) (noted_items (inside_block s) (plain_items v.items)) result h))

    -- a `switch` in its place
    pub switch_in_place : (e : Expr) (v w : Vec Case Global) (result : Result (Unit {0}) TypeFault) → k ≡ code.Switch e v → Answers (λ (u : Unit {0}). plain_cases w.items) (noted_cases s (plain_cases v.items)) result
        → Answers (λ (u : Unit {0}). plain_stmt_kind at (code.Switch e w)) (noted_statement s (plain_stmt_kind at k)) result
    switch_in_place e v w result is h =
        subst (λ c. Answers (λ (u : Unit {0}). plain_stmt_kind at (code.Switch e w)) c result) (sym (ap (noted_statement s) (ap (plain_stmt_kind at) is ∙ switch_is at e v)))
        (subst (λ c. Answers (λ (u : Unit {0}). c) (noted_statement s (Switch at (plain_expr e) (plain_cases v.items))) result) (sym (switch_is at e w))
        (made_of (Switch at (plain_expr e)) (λ (u : Unit {0}). plain_cases w.items) (noted_cases s (plain_cases v.items)) result h))

-- ---- statements in their places

if_is : (at : Place) (e : Expr) (a : Stmt) (b : Option Stmt) → plain_stmt_kind at (code.If e a b) ≡ If at (plain_expr e) (plain_stmt a) (plain_else_part b)
if_is at e a None = refl
if_is at e a (Some b) = refl

for_is : (at : Place) (annots : Vec Annot Global) (first : Option Item) (e step : Option Expr) (a : Stmt)
    → plain_stmt_kind at (code.For annots first e step a) ≡ For at (map plain_annot annots.items) (plain_for_first first) (option_map plain_expr e) (option_map plain_expr step) (plain_stmt a)
for_is at annots None e step a = refl
for_is at annots (Some i) e step a = refl

module _ (s : AnnotationSight) (at : Place) (k : StmtKind)
  where
    in_place : (k' : StmtKind) (a a' : Statement) (result : Result (Unit {0}) TypeFault) → plain_stmt_kind at k ≡ a → plain_stmt_kind at k' ≡ a' → Answers (λ (u : Unit {0}). a') (noted_statement s a) result
        → Answers (λ (u : Unit {0}). plain_stmt_kind at k') (noted_statement s (plain_stmt_kind at k)) result
    in_place k' a a' result is is' h =
        subst (λ b. Answers (λ (u : Unit {0}). b) (noted_statement s (plain_stmt_kind at k)) result) (sym is') (subst (λ b. Answers (λ (u : Unit {0}). a') (noted_statement s b) result) (sym is) h)

    pub if_in_place : (e : Expr) (a a' : Stmt) (b b' : Option Stmt) (result : Result (Unit {0}) TypeFault) → k ≡ code.If e a b
        → Answers (λ (u : Unit {0}). If at (plain_expr e) (plain_stmt a') (plain_else_part b')) (noted_statement s (If at (plain_expr e) (plain_stmt a) (plain_else_part b))) result
        → Answers (λ (u : Unit {0}). plain_stmt_kind at (code.If e a' b')) (noted_statement s (plain_stmt_kind at k)) result
    if_in_place e a a' b b' result is h =
        in_place (code.If e a' b') (If at (plain_expr e) (plain_stmt a) (plain_else_part b)) (If at (plain_expr e) (plain_stmt a') (plain_else_part b')) result (ap (plain_stmt_kind at) is ∙ if_is at e a b) (if_is at e a' b') h

    pub while_in_place : (annots annots' : Vec Annot Global) (e : Expr) (a a' : Stmt) (result : Result (Unit {0}) TypeFault) → k ≡ code.While annots e a
        → Answers (λ (u : Unit {0}). While at (map plain_annot annots'.items) (plain_expr e) (plain_stmt a')) (noted_statement s (While at (map plain_annot annots.items) (plain_expr e) (plain_stmt a))) result
        → Answers (λ (u : Unit {0}). plain_stmt_kind at (code.While annots' e a')) (noted_statement s (plain_stmt_kind at k)) result
    while_in_place annots annots' e a a' result is h =
        in_place (code.While annots' e a') (While at (map plain_annot annots.items) (plain_expr e) (plain_stmt a)) (While at (map plain_annot annots'.items) (plain_expr e) (plain_stmt a')) result (ap (plain_stmt_kind at) is) refl h

    pub for_in_place : (annots annots' : Vec Annot Global) (first : Option Item) (e step : Option Expr) (a a' : Stmt) (result : Result (Unit {0}) TypeFault) → k ≡ code.For annots first e step a
        → Answers (λ (u : Unit {0}). For at (map plain_annot annots'.items) (plain_for_first first) (option_map plain_expr e) (option_map plain_expr step) (plain_stmt a'))
        (noted_statement s (For at (map plain_annot annots.items) (plain_for_first first) (option_map plain_expr e) (option_map plain_expr step) (plain_stmt a))) result
        → Answers (λ (u : Unit {0}). plain_stmt_kind at (code.For annots' first e step a')) (noted_statement s (plain_stmt_kind at k)) result
    for_in_place annots annots' first e step a a' result is h =
        in_place (code.For annots' first e step a') (For at (map plain_annot annots.items) (plain_for_first first) (option_map plain_expr e) (option_map plain_expr step) (plain_stmt a))
        (For at (map plain_annot annots'.items) (plain_for_first first) (option_map plain_expr e) (option_map plain_expr step) (plain_stmt a')) result
        (ap (plain_stmt_kind at) is ∙ for_is at annots first e step a) (for_is at annots' first e step a') h

pub switch_noted : (s : AnnotationSight) (at : Place) (e : Expr) (v w : Vec Case Global) (result : Result (Unit {0}) TypeFault) → Answers (λ (u : Unit {0}). plain_cases w.items) (noted_cases s (plain_cases v.items)) result
    → Answers (λ (u : Unit {0}). plain_stmt_kind at (code.Switch e w)) (noted_statement s (plain_stmt_kind at (code.Switch e v))) result
switch_noted s at e v w result h = switch_in_place s at (code.Switch e v) e v w result refl h

-- the items of a body
pub body_noted : (s : Sight) (m : Mark) (ls : List (ℕ × Mark)) (a b : BlockItems) (result : Result (Unit {0}) TypeFault) → m ≡ here s → ls ≡ [] → Answers (λ (u : Unit {0}). b) (noted_items (seen_in_body s m ls) a) result
    → Answers (λ (u : Unit {0}). b) (noted_items (in_body s) a) result
body_noted s m ls a b result is none h = subst (λ v. Answers (λ (u : Unit {0}). b) (noted_items v a) result) (seen_at_beginning s m ls is none) h

-- a block in a body
pub block_in_body : (s : Sight) (begin : Mark) (ls : List (ℕ × Mark)) (at : Place) (k : StmtKind) (v w : Vec Item Global) (result : Result (Unit {0}) TypeFault) → IsInBody s begin ls → k ≡ code.Block v
    → Answers (λ (u : Unit {0}). plain_items w.items) (noted_items (seen_in_body (inner s) begin ls) (plain_items v.items)) result
    → Answers (λ (u : Unit {0}). plain_stmt_kind at (code.Block w)) (noted_statement (seen_in_body s begin ls) (plain_stmt_kind at k)) result
block_in_body s begin ls at k v w result known is h =
    block_in_place (seen_in_body s begin ls) at k v w result is
    (subst (λ t. Answers (λ (u : Unit {0}). plain_items w.items) (noted_items t (plain_items v.items)) result) (sym (seen_inside s begin ls known)) h)

-- the statements of an `if`
pub if_noted : (s t : Sight) (begin : Mark) (ls ks : List (ℕ × Mark)) (at : Place) (e : Expression) (a a' : Statement) (b b' : ElsePart) (result : Result (Unit {0}) TypeFault) → t ≡ s → ks ≡ ls
    → noted_statement (seen_in_body s begin ls) a ≡ Good a' → Answers (λ (u : Unit {0}). b') (noted_else (seen_in_body t begin ks) b) result
    → Answers (λ (u : Unit {0}). If at e a' b') (noted_statement (seen_in_body s begin ls) (If at e a b)) result
if_noted s t begin ls ks at e a a' b b' result now kept good h =
    let v = seen_in_body s begin ls in
    subst (λ m. Answers (λ (u : Unit {0}). If at e a' b') (one_part m (λ a. one_part (noted_else v b) (λ b. Good (If at e a b)))) result) (sym good)
    (made_of (If at e a') (λ (u : Unit {0}). b') (noted_else v b) result (subst (λ w. Answers (λ (u : Unit {0}). b') (noted_else w b) result) (λ i. seen_in_body (now i) begin (kept i)) h))

-- the clauses and the statement of a `for`
pub for_noted : (s t u v : Sight) (begin : Mark) (ls : List (ℕ × Mark)) (first : ForFirst) → t ≡ inner s → u ≡ behind_first t first → v ≡ u → IsInBody s begin ls
    → (at : Place) (annots annots' : List Annotation) (e step : Option Expression) (a a' : Statement) (result : Result (Unit {0}) TypeFault)
    → typed_annotations (seen_in_body u begin ls) annots ≡ Good annots' → Answers (λ (u : Unit {0}). a') (noted_statement (seen_in_body v begin ls) a) result
    → Answers (λ (u : Unit {0}). For at annots' first e step a') (noted_statement (seen_in_body s begin ls) (For at annots first e step a)) result
for_noted s t u v begin ls first inside seen same known at annots annots' e step a a' result good h =
    let w = inside_for (seen_in_body s begin ls) first in
    let here = seen_for s t u begin ls first inside seen known in
    subst (λ m. Answers (λ (u : Unit {0}). For at annots' first e step a') (one_part m (λ annots. one_part (noted_statement w a) (λ a. Good (For at annots first e step a)))) result)
    (sym (subst (λ w. typed_annotations w annots ≡ Good annots') here good))
    (made_of (For at annots' first e step) (λ (u : Unit {0}). a') (noted_statement w a) result
    (subst (λ w. Answers (λ (u : Unit {0}). a') (noted_statement w a) result) (ap (λ v. seen_in_body v begin ls) same ∙ here) h))

-- annotations of a `for` that are refused
pub for_refused : (s t u : Sight) (begin : Mark) (ls : List (ℕ × Mark)) (first : ForFirst) → t ≡ inner s → u ≡ behind_first t first → IsInBody s begin ls
    → (at : Place) (annots annots' : List Annotation) (e step : Option Expression) (a a' : Statement) (f : TypeFault)
    → Answers (λ (u : Unit {0}). annots') (typed_annotations (seen_in_body u begin ls) annots) (Err f)
    → Answers (λ (u : Unit {0}). For at annots' first e step a') (noted_statement (seen_in_body s begin ls) (For at annots first e step a)) (Err f)
for_refused s t u begin ls first inside seen known at annots annots' e step a a' f h =
    let w = inside_for (seen_in_body s begin ls) first in
    one_refused (λ annots. one_part (noted_statement w a) (λ a. Good (For at annots first e step a))) (λ (u : Unit {0}). annots') (λ (u : Unit {0}). For at annots' first e step a') (typed_annotations w annots) f
    (subst (λ w. Answers (λ (u : Unit {0}). annots') (typed_annotations w annots) (Err f)) (seen_for s t u begin ls first inside seen known) h)

-- a statement behind a label that stands here
pub label_noted : (s : Sight) (begin : Mark) (ls ks : List (ℕ × Mark)) (l : ℕ) (m : Mark) (a b : Statement) (result : Result (Unit {0}) TypeFault) → m ≡ here s → ks ≡ ls ++ (l, m) ∷ []
    → Answers (λ (u : Unit {0}). b) (noted_statement (seen_in_body s begin ks) a) result → Answers (λ (u : Unit {0}). b) (noted_statement (with_label (seen_in_body s begin ls) l) a) result
label_noted s begin ls ks l m a b result is grown h = subst (λ w. Answers (λ (u : Unit {0}). b) (noted_statement w a) result) (seen_at_label s begin ls ks l m is grown) h

-- a body in its place
pub body_in_place : (s : AnnotationSight) (at : Place) (k : StmtKind) (v w : Vec Item Global) (result : Result (Unit {0}) TypeFault) → k ≡ code.Block v → Answers (λ (u : Unit {0}). plain_items w.items) (noted_items s (plain_items v.items)) result
    → Answers (λ (u : Unit {0}). Some (plain_stmt_kind at (code.Block w))) (noted_body s (Some (plain_stmt_kind at k))) result
body_in_place s at k v w result is h =
    subst (λ b. Answers (λ (u : Unit {0}). Some (plain_stmt_kind at (code.Block w))) (noted_body s (Some b)) result) (sym (ap (plain_stmt_kind at) is ∙ block_is at v))
    (subst (λ b. Answers (λ (u : Unit {0}). Some b) (noted_body s (Some (Block at (plain_items v.items)))) result) (sym (block_is at w))
    (made_of (λ is. Some (Block at is)) (λ (u : Unit {0}). plain_items w.items) (noted_items s (plain_items v.items)) result h))

module _ (s t t' : AnnotationSight) (done done' : List Item) (x : Item) (now : t' ≡ behind_noted t (plain_item x)) (more : done' ≡ done ++ x ∷ [])
  where
    -- one more item is noted
    pub block_more : (all : BlockItems) (list : List Item) (i : Item) (rest : List Item) → noted_items s all ≡ behind_block (plain_items done) (noted_items t (plain_items list)) → list ≡ i ∷ rest
        → noted_item t (plain_item i) ≡ Good (plain_item x) → noted_items s all ≡ behind_block (plain_items done') (noted_items t' (plain_items rest))
    block_more all list i rest before is good =
        items_more (noted_items s all) (noted_items t (plain_items list)) done done' x (noted_item t (plain_item i)) (λ y. noted_items (behind_noted t y) (plain_items rest)) before (ap (λ l. noted_items t (plain_items l)) is) good more
        ∙ ap (λ q. behind_block (plain_items done') (noted_items q (plain_items rest))) (sym now)

pub block_done : (whole : Checked BlockItems) (t : AnnotationSight) (done list : List Item) → whole ≡ behind_block (plain_items done) (noted_items t (plain_items list)) → list ≡ [] → whole ≡ Good (plain_items done)
block_done whole t done list before none = before ∙ ap (λ l. behind_block (plain_items done) (noted_items t (plain_items l))) none ∙ all_items (plain_items done)

-- one more case is noted, behind whose labels the others stand
pub case_more : (whole : Checked Cases) (t t' : AnnotationSight) (done more : List Case) (list : List Case) (x y : Case) (rest : List Case) → whole ≡ behind_cases (plain_cases done) (noted_cases t (plain_cases list)) → list ≡ x ∷ rest
    → noted_items t (plain_items x.items.items) ≡ Good (plain_items y.items.items) → y.place ≡ x.place → option_map plain_expr y.value ≡ option_map plain_expr x.value
    → t' ≡ behind_case t (plain_items y.items.items) → more ≡ done ++ y ∷ [] → whole ≡ behind_cases (plain_cases more) (noted_cases t' (plain_cases rest))
case_more whole t t' done more list x y rest before is good place value now seen =
    before
    ∙ ap (λ l. behind_cases (plain_cases done) (noted_cases t (plain_cases l))) is
    ∙ ap (λ m. behind_cases (plain_cases done) (one_part m (λ items. one_part (noted_cases (behind_case t items) (plain_cases rest)) (λ cs. Good (AnotherCase x.place (option_map plain_expr x.value) items cs))))) good
    ∙ cases_in_front (plain_cases done) x.place (option_map plain_expr x.value) (plain_items y.items.items) (noted_cases (behind_case t (plain_items y.items.items)) (plain_cases rest))
    ∙ (λ i. behind_cases (append_cases (plain_cases done) (AnotherCase (sym place i) (sym value i) (plain_items y.items.items) NoCase)) (noted_cases (sym now i) (plain_cases rest)))
    ∙ ap (λ cs. behind_cases cs (noted_cases t' (plain_cases rest))) (sym (ap plain_cases seen ∙ plain_case_snoc done y))

-- the next case is refused
pub case_refused : {S T : Type 0} (p : T → BlockItems) (q : S → Cases) (whole : Checked Cases) (t : AnnotationSight) (done list : List Case) (x : Case) (rest : List Case) (h : TypeFault)
    → whole ≡ behind_cases (plain_cases done) (noted_cases t (plain_cases list)) → list ≡ x ∷ rest → Answers p (noted_items t (plain_items x.items.items)) (Err h) → Answers q whole (Err h)
case_refused p q whole t done list x rest h before is bad =
    let later : BlockItems → Checked Cases = λ items. one_part (noted_cases (behind_case t items) (plain_cases rest)) (λ cs. Good (AnotherCase x.place (option_map plain_expr x.value) items cs)) in
    let m = noted_items t (plain_items x.items.items) in
    subst (λ w. Answers q w (Err h)) (sym (before ∙ ap (λ l. behind_cases (plain_cases done) (noted_cases t (plain_cases l))) is))
    (one_refused (λ cs. Good (append_cases (plain_cases done) cs)) q q (one_part m later) h (one_refused later p q m h bad))
