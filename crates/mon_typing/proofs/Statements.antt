-- Statements from their parts, and lists of them one after another.
use Rattle.std.proofs.Common.{◌≡◌, ℕ, suc, ◌+◌, ◌<◌, ◌≤◌, List, [], ◌∷◌, ◌++◌, length, drop, get_or, reverse, Option, Ok, Err, refl, sym, ap, subst, ◌∙◌, append_assoc, drop-cons, add-one, ◌-◌, take, take_all, length-drop, arith}
use Rattle.std.proofs.lemmas.List.{drop_all}
use Rattle.std.proofs.Math.Seq.{drop-append_seam}
use Rattle.std.specs.Prelude.{Vec}
use Rattle.std.specs.declared.alloc.Global.{Global}
use Rattle.mon_syntax.specs.declared.tree.MonType.{MonType}
use Rattle.mon_syntax.specs.declared.tree.MonExpr.{MonExpr}
use Rattle.mon_syntax.specs.declared.tree.MonStmt.{MonStmt}
use Rattle.mon_syntax.specs.declared.tree.MonStmtKind as mon
use Rattle.mon_syntax.specs.Trees as tree
use Rattle.mon_syntax.specs.Trees.{MonExpression, MonStatement, MonStatements}
use Rattle.mon_syntax.proofs.Rows as written
use Rattle.mon_syntax.specs.Parsed as plain
use Rattle.mon_syntax.specs.Parsed.{ParsedExpression}
use Rattle.mon_syntax.specs.Checking.{Scope, Checked, ◌>>=◌, ◌>>◌, condition, labels_in, labels_in_all, new_label, bytes_of, checked_statement, checked_statements}
use Rattle.mon_parser.specs.declared.parsed.NameUse.{NameUse}
use Rattle.mon_parser.specs.declared.parsed.ParsedExpr.{ParsedExpr}
use Rattle.mon_parser.specs.declared.parsed.ParsedStmt.{ParsedStmt}
use Rattle.mon_parser.specs.declared.parsed.ParsedStmtKind.{ParsedStmtKind}
use Rattle.mon_parser.specs.declared.parsed.ParsedStmtKind as read
use Rattle.mon_parser.specs.ParsedTrees.{plain_expr, plain_name, plain_stmt, plain_stmt_kind, plain_stmts}
use Rattle.mon_parser.proofs.Rows.{if_is, loop_is}
use Rattle.mon_typing.specs.declared.fault.CheckFault.{CheckFault}
use Rattle.mon_typing.specs.Answers.{Fails}
use Rattle.mon_typing.specs.Statements.{checked_bodies}
use Rattle.mon_typing.proofs.Parts.{fails_after, fails_along}
use Rattle.mon_typing.proofs.Labels.{opened}
use Rattle.mon_typing.proofs.Lists.{behind_none, behind_one, checked_behind}

abbrev Body : Type 0
Body = Vec ParsedStmt Global

abbrev Written : Type 0
Written = Vec MonStmt Global

-- the labels of a part, after those of the part before
pub labels_of_two : (c0 c1 c2 a b : List ℕ) → c1 ≡ c0 ++ a → c2 ≡ c1 ++ b → c2 ≡ c0 ++ (a ++ b)
labels_of_two c0 c1 c2 a b h k = k ∙ ap (λ (c : List ℕ). c ++ b) h ∙ append_assoc c0 a b

pub if_spelled : (s : ParsedStmt) (k : ParsedStmtKind) (e : ParsedExpr) (v w : Body) (v1 w1 : List ParsedStmt) → k ≡ s.kind.value → k ≡ read.If e v w → v1 ≡ v.items → w1 ≡ w.items
    → plain_stmt s ≡ plain.If (plain_expr e) (plain_stmts v1) (plain_stmts w1)
if_spelled s k e v w v1 w1 d is p q = ap plain_stmt_kind (sym d ∙ is) ∙ if_is e v w ∙ λ i. plain.If (plain_expr e) (plain_stmts (sym p i)) (plain_stmts (sym q i))

pub loop_spelled : (s : ParsedStmt) (k : ParsedStmtKind) (v w : Body) (v1 w1 : List ParsedStmt) → k ≡ s.kind.value → k ≡ read.Loop v w → v1 ≡ v.items → w1 ≡ w.items
    → plain_stmt s ≡ plain.Loop (plain_stmts v1) (plain_stmts w1)
loop_spelled s k v w v1 w1 d is p q = ap plain_stmt_kind (sym d ∙ is) ∙ loop_is v w ∙ λ i. plain.Loop (plain_stmts (sym p i)) (plain_stmts (sym q i))

at_next : (list : List ParsedStmt) (i : ℕ) (one : ParsedStmt) → i < length list → one ≡ get_or list i one → drop i list ≡ one ∷ drop (i + 1) list
at_next list i one lt is = rw add-one (drop-cons list i one lt ∙ ap (λ (x : ParsedStmt). x ∷ drop (suc i) list) (sym is))

module _ (sc : Scope) (t : Option MonType) (r : List ℕ) where
  abbrev all : List ℕ → List ParsedStmt → Checked MonStatements
  all around v = checked_statements sc t (reverse around) (plain_stmts v)

  abbrev both : List ParsedStmt → List ParsedStmt → Checked (MonStatements × MonStatements)
  both v w = checked_bodies sc t (reverse r) (plain_stmts v) (plain_stmts w)

  pub second_fails : (v w : List ParsedStmt) (around : List ℕ) (a : MonStatements) (f : CheckFault)
      → around ≡ r → all r v ≡ Ok a → Fails f (all around w) → Fails f (both v w)
  second_fails v w around a f o k l =
      fails_along f _ _ (λ i. k i >>= λ a. all r w >>= λ b. Ok (a, b))
      (fails_after f (all r w) (λ b. Ok (a, b)) (subst (λ (n : List ℕ). Fails f (all n w)) o l))

  pub both_checked : (v w : List ParsedStmt) (around : List ℕ) (a b : Written)
      → around ≡ r → all r v ≡ Ok (tree.plain_stmts a.items) → all around w ≡ Ok (tree.plain_stmts b.items) → both v w ≡ Ok (tree.plain_stmts a.items, tree.plain_stmts b.items)
  both_checked v w around a b o k l =
      let second : all r w ≡ Ok (tree.plain_stmts b.items) = ap (λ (n : List ℕ). all n w) (sym o) ∙ l in
      λ i. k i >>= λ a. second i >>= λ b. Ok (a, b)

  -- what goes on after two bodies
  behind_both : (c d : Checked MonStatements) (go : MonStatements → MonStatements → Checked MonStatement) → (c >>= λ x. d >>= λ y. go x y) ≡ (c >>= (λ x. d >>= λ y. Ok (x, y)) >>= λ (p : MonStatements × MonStatements). go p.0 p.1)
  behind_both (Ok x) (Ok y) go = refl
  behind_both (Ok x) (Err e) go = refl
  behind_both (Err e) d go = refl

  if_is_behind : (e : ParsedExpression) (v w : List ParsedStmt) (x : MonExpression) → condition sc e ≡ Ok x
      → checked_statement sc t (reverse r) (plain.If e (plain_stmts v) (plain_stmts w)) ≡ (both v w >>= λ (p : MonStatements × MonStatements). Ok (tree.If x p.0 p.1))
  if_is_behind e v w x h =
      ap (λ (m : Checked MonExpression). m >>= λ c. all r v >>= λ a. all r w >>= λ b. Ok (tree.If c a b)) h ∙ behind_both (all r v) (all r w) (λ a b. Ok (tree.If x a b))

  pub if_fails : (e : ParsedExpression) (v w : List ParsedStmt) (x : MonExpression) (f : CheckFault) → condition sc e ≡ Ok x → Fails f (both v w) → Fails f (checked_statement sc t (reverse r) (plain.If e (plain_stmts v) (plain_stmts w)))
  if_fails e v w x f h k = fails_along f _ _ (if_is_behind e v w x h) (fails_after f (both v w) (λ (p : MonStatements × MonStatements). Ok (tree.If x p.0 p.1)) k)

  pub if_checked : (e : ParsedExpression) (v w : List ParsedStmt) (x : MonExpr) (a b : Written) (m : MonStmt) → condition sc e ≡ Ok (tree.plain_expr x) → both v w ≡ Ok (tree.plain_stmts a.items, tree.plain_stmts b.items)
      → tree.plain_stmt m ≡ tree.plain_stmt_kind (mon.If x a b) → checked_statement sc t (reverse r) (plain.If e (plain_stmts v) (plain_stmts w)) ≡ Ok (tree.plain_stmt m)
  if_checked e v w x a b m h k n =
      if_is_behind e v w (tree.plain_expr x) h ∙ ap (λ (c : Checked (MonStatements × MonStatements)). c >>= λ (p : MonStatements × MonStatements). Ok (tree.If (tree.plain_expr x) p.0 p.1)) k ∙ ap Ok (sym (n ∙ written.if_is x a b))

  loop_is_behind : (v w : List ParsedStmt) → checked_statement sc t (reverse r) (plain.Loop (plain_stmts v) (plain_stmts w)) ≡ (both v w >>= λ (p : MonStatements × MonStatements). Ok (tree.Loop p.0 p.1))
  loop_is_behind v w = behind_both (all r v) (all r w) (λ a b. Ok (tree.Loop a b))

  pub loop_fails : (v w : List ParsedStmt) (f : CheckFault) → Fails f (both v w) → Fails f (checked_statement sc t (reverse r) (plain.Loop (plain_stmts v) (plain_stmts w)))
  loop_fails v w f k = fails_along f _ _ (loop_is_behind v w) (fails_after f (both v w) (λ (p : MonStatements × MonStatements). Ok (tree.Loop p.0 p.1)) k)

  pub loop_checked : (v w : List ParsedStmt) (a b : Written) (m : MonStmt) → both v w ≡ Ok (tree.plain_stmts a.items, tree.plain_stmts b.items)
      → tree.plain_stmt m ≡ tree.plain_stmt_kind (mon.Loop a b) → checked_statement sc t (reverse r) (plain.Loop (plain_stmts v) (plain_stmts w)) ≡ Ok (tree.plain_stmt m)
  loop_checked v w a b m k n =
      loop_is_behind v w ∙ ap (λ (c : Checked (MonStatements × MonStatements)). c >>= λ (p : MonStatements × MonStatements). Ok (tree.Loop p.0 p.1)) k ∙ ap Ok (sym (n ∙ written.loop_is a b))

  -- ---- a list of statements, one of which is checked after others

  one_more : (done : List MonStmt) (m : MonStmt) (c : Checked MonStatements) → checked_behind done (c >>= λ xs. Ok (tree.Then (tree.plain_stmt m) xs)) ≡ checked_behind (done ++ m ∷ []) c
  one_more done m (Ok xs) = ap Ok (sym (behind_one done m xs))
  one_more done m (Err e) = refl

  pub next_checked : (list : List ParsedStmt) (i : ℕ) (one : ParsedStmt) (around : List ℕ) (done more : List MonStmt) (m : MonStmt) (total : Checked MonStatements) → i < length list → one ≡ get_or list i one
      → around ≡ r → checked_statement sc t (reverse around) (plain_stmt one) ≡ Ok (tree.plain_stmt m) → more ≡ done ++ m ∷ [] → checked_behind done (all r (drop i list)) ≡ total → checked_behind more (all r (drop (i + 1) list)) ≡ total
  next_checked list i one around done more m total lt is o h more_is so_far =
      let k : checked_statement sc t (reverse r) (plain_stmt one) ≡ Ok (tree.plain_stmt m) = ap (λ (n : List ℕ). checked_statement sc t (reverse n) (plain_stmt one)) (sym o) ∙ h in
      let whole : all r (drop i list) ≡ (all r (drop (i + 1) list) >>= λ xs. Ok (tree.Then (tree.plain_stmt m) xs)) =
      ap (all r) (at_next list i one lt is) ∙ ap (λ (c : Checked MonStatement). c >>= λ x. all r (drop (i + 1) list) >>= λ xs. Ok (tree.Then x xs)) k in
      ap (λ (d : List MonStmt). checked_behind d (all r (drop (i + 1) list))) more_is ∙ sym (one_more done m (all r (drop (i + 1) list))) ∙ sym (ap (checked_behind done) whole) ∙ so_far

  pub all_checked : (list : List ParsedStmt) (i : ℕ) (done : List MonStmt) → length list ≤ i → checked_behind done (all r (drop i list)) ≡ all r list → all r list ≡ Ok (tree.plain_stmts done)
  all_checked list i done past so_far =
      sym so_far ∙ ap (λ (l : List ParsedStmt). checked_behind done (all r l)) (drop_all i list past) ∙ ap Ok (behind_none done)

pub next_labels : (list : List ParsedStmt) (i : ℕ) (one : ParsedStmt) (c c1 total : List ℕ) → i < length list → one ≡ get_or list i one
    → c1 ≡ c ++ labels_in (plain_stmt one) → c ++ labels_in_all (plain_stmts (drop i list)) ≡ total → c1 ++ labels_in_all (plain_stmts (drop (i + 1) list)) ≡ total
next_labels list i one c c1 total lt is h so_far =
    ap (λ (x : List ℕ). x ++ labels_in_all (plain_stmts (drop (i + 1) list))) h ∙ append_assoc c (labels_in (plain_stmt one)) (labels_in_all (plain_stmts (drop (i + 1) list)))
    ∙ sym (ap (λ (l : List ParsedStmt). c ++ labels_in_all (plain_stmts l)) (at_next list i one lt is)) ∙ so_far

pub rest_is : (s : List ℕ) (n : ℕ) → take (length s - n) (drop n s) ≡ drop n s
rest_is s n = take_all (length s - n) (drop n s) (omega (arith, length-drop n s))

pub inside_is : (closed closed1 a : List ℕ) (n : ℕ) → n ≡ length closed → closed1 ≡ closed ++ a → drop n closed1 ≡ a
inside_is closed closed1 a n e h = (λ i. drop (e i) (h i)) ∙ drop-append_seam closed a

pub labelled_is : (b : Written) (name bytes : List ℕ) → name ≡ bytes → tree.plain_stmt_kind (mon.Labelled b name) ≡ tree.Labelled (tree.plain_stmts b.items) bytes
labelled_is b name bytes e = written.labelled_is b name ∙ ap (tree.Labelled (tree.plain_stmts b.items)) e

-- inside a label, which is the innermost
pub inside_label : (sc : Scope) (t : Option MonType) (r around : List ℕ) (v : List ParsedStmt) (l : ℕ) → around ≡ r ++ l ∷ [] → checked_statements sc t (l ∷ reverse r) (plain_stmts v) ≡ checked_statements sc t (reverse around) (plain_stmts v)
inside_label sc t r around v l o = ap (λ (ls : List ℕ). checked_statements sc t ls (plain_stmts v)) (sym (ap reverse o ∙ opened l r))

pub labelled_checked : (sc : Scope) (t : Option MonType) (r : List ℕ) (v : List ParsedStmt) (l : NameUse) (inside : List ℕ) (b : Written) (u : Unit {0})
    → checked_statements sc t (l.number ∷ reverse r) (plain_stmts v) ≡ Ok (tree.plain_stmts b.items) → inside ≡ labels_in_all (plain_stmts v) → new_label sc inside (plain_name l) ≡ Ok u
    → checked_statement sc t (reverse r) (plain.Labelled (plain_stmts v) (plain_name l)) ≡ Ok (tree.Labelled (tree.plain_stmts b.items) (bytes_of sc l.number))
labelled_checked sc t r v l inside b u q p k =
    let new : new_label sc (labels_in_all (plain_stmts v)) (plain_name l) ≡ Ok u = ap (λ (x : List ℕ). new_label sc x (plain_name l)) (sym p) ∙ k in
    λ i. q i >>= λ x. new i >> Ok (tree.Labelled x (bytes_of sc l.number))
