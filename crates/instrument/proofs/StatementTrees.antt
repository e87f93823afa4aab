-- The translation of a statement at a known variant.
use Rattle.std.proofs.Common.{◌≡◌, ℕ, ◌+◌, List, [], map, Option, Some, None, option_map, ◌++◌, refl, ap, sym, ◌∙◌}
use Rattle.std.proofs.lemmas.List.{append-nil}
use Rattle.std.specs.Prelude.{Vec, Result, Ok, Err, IfOk}
use Rattle.std.specs.declared.alloc.Global.{Global}
use Rattle.c_syntax.specs.declared.place.Place.{Place}
use Rattle.c_syntax.specs.declared.logic.Annot.{Annot}
use Rattle.c_syntax.specs.declared.expression.Expr.{Expr}
use Rattle.c_syntax.specs.declared.statement.Item.{Item}
use Rattle.c_syntax.specs.declared.statement.Stmt.{Stmt}
use Rattle.c_syntax.specs.declared.statement.StmtKind as code
use Rattle.c_syntax.specs.Logic.{Annotation, LogicTerm, plain_annot}
use Rattle.c_syntax.specs.Expressions.{Expression, plain_expr}
use Rattle.c_syntax.specs.Statements.{plain_else_part}
use Rattle.c_syntax.specs.Statements.{Declaration, Statement, Block, If, While, Do, For, ElsePart, ForFirst, NoFirst, First, Declare, Specify, Run, Asserts, plain_items, plain_stmt, plain_stmt_kind}
use Rattle.c_syntax.proofs.Rows.{block_is}
use Rattle.c_model.specs.Meaning.{declared_in, declared_first}
use Rattle.c_model.specs.Predicates.{variant}
use Rattle.mon_syntax.specs.Registers.{Names, RegisterTable, next_register, with_kinds, with_table}
use Rattle.mon_syntax.specs.declared.tree.MonStmt.{MonStmt}
use Rattle.mon_syntax.specs.Trees.{MonExpression, MonStatement, MonStatements, NoStatement, Labelled, Loop, plain_stmts}
use Rattle.mon_syntax.specs.Trees as tree
use Rattle.track_scopes.specs.Blocks.{deaths, with_born}
use Rattle.c_effects.specs.Expressions.{before, one}
use Rattle.c_effects.specs.Effects.{any_temporaries}
use Rattle.c_effects.specs.Full.{act_takes, takes}
use Rattle.c_effects.specs.Named.{unit_of, with_registers}
use Rattle.c_evaluation.specs.Evaluated.{act_if_any_by, condition_result_by, prepare_by}
use Rattle.c_effects.proofs.Sequences.{before_assoc, before_none}
use Rattle.instrument.specs.Options.{after, behind_first, births_by, else_part_by, entering, first_part_by, items_of_first, plain_first_part, statement_by, test_by, with_blocks}
use Rattle.instrument.specs.LoopClauses.{behind_variant, variant_compared}
use Rattle.instrument.specs.LoopForms.{KeptValue, after_turn_by, before_body_by, behind_compared_by, behind_invariants_by, behind_variant_by, compared_by, front_by, kept_in, turn_by, turns_by, value_by}
use Rattle.instrument.specs.Translation.{act_if_any, after_invariants, after_statement, all_live, before_body, compared_of, kept_of, Spot, alive, in_loop, statement, with_variables}
use Rattle.c_simulation.specs.Keeping.{Kept}
use Rattle.c_simulation.specs.Labels.{end_label, next_label}
use Rattle.instrument.proofs.DeclarationCode.{born_front}

-- ---- the parts of statements

pub block_stmt : (s : Stmt) (v : Vec Item Global) (l : List Item) → s.kind.value ≡ code.Block v → l ≡ v.items → Block s.place (plain_items l) ≡ plain_stmt s
block_stmt s v l is same = ap (λ z. Block s.place (plain_items z)) same ∙ sym (ap (plain_stmt_kind s.place) is ∙ block_is s.place v)

if_kind : (at : Place) (e : Expr) (a : Stmt) (b : Option Stmt) → plain_stmt_kind at (code.If e a b) ≡ If at (plain_expr e) (plain_stmt a) (plain_else_part b)
if_kind at e a None = refl
if_kind at e a (Some b) = refl

pub if_stmt : (s : Stmt) (e : Expr) (a : Stmt) (b : Option Stmt) (x : Stmt) → s.kind.value ≡ code.If e a b → x ≡ a → If s.place (plain_expr e) (plain_stmt x) (plain_else_part b) ≡ plain_stmt s
if_stmt s e a b x is same = ap (λ y. If s.place (plain_expr e) (plain_stmt y) (plain_else_part b)) same ∙ sym (ap (plain_stmt_kind s.place) is ∙ if_kind s.place e a b)

for_kind : (at : Place) (annots : Vec Annot Global) (first : Option Item) (e step : Option Expr) (a : Stmt)
    → plain_stmt_kind at (code.For annots first e step a) ≡ For at (map plain_annot annots.items) (plain_first_part first) (option_map plain_expr e) (option_map plain_expr step) (plain_stmt a)
for_kind at annots None e step a = refl
for_kind at annots (Some i) e step a = refl

pub for_stmt : (s : Stmt) (annots : Vec Annot Global) (l : List Annot) (first : Option Item) (e step : Option Expr) (a : Stmt) (x : Stmt) → s.kind.value ≡ code.For annots first e step a → l ≡ annots.items → x ≡ a
    → For s.place (map plain_annot l) (plain_first_part first) (option_map plain_expr e) (option_map plain_expr step) (plain_stmt x) ≡ plain_stmt s
for_stmt s annots l first e step a x is these same =
    ap (λ y. For s.place (map plain_annot l) (plain_first_part first) (option_map plain_expr e) (option_map plain_expr step) (plain_stmt y)) same
    ∙ ap (λ z. For s.place (map plain_annot z) (plain_first_part first) (option_map plain_expr e) (option_map plain_expr step) (plain_stmt a)) these
    ∙ sym (ap (plain_stmt_kind s.place) is ∙ for_kind s.place annots first e step a)

-- ---- their code

-- variables that live as long as this is done
pub alive_code : (n n1 : Names) (live inside : List ℕ) (ds : List Declaration) (f : Names → List ℕ → MonStatements) (t t1 t2 t3 : MonStatements) → n1 ≡ entering ds n → t1 ≡ before t (births_by n ds)
    → inside ≡ with_born (next_register n.table) ds live → t2 ≡ before t1 (f n1 inside) → t3 ≡ before t2 (deaths (with_born (next_register n.table) ds []))
    → t3 ≡ before t (alive (unit_of n) (next_register n.table) ds (f (entering ds n) (with_born (next_register n.table) ds live)))
alive_code n n1 live inside ds f t t1 t2 t3 names born inside_is done dead =
    let a = f (entering ds n) (with_born (next_register n.table) ds live) in
    let end = deaths (with_born (next_register n.table) ds []) in
    dead
    ∙ (λ i. before (done i) end)
    ∙ before_assoc t1 (f n1 inside) end
    ∙ (λ i. before (born i) (before (f (names i) (inside_is i)) end))
    ∙ before_assoc t (births_by n ds) (before a end)

-- what stands first in a `for` declares its own variables
pub declared_of_first : (first : ForFirst) → declared_in (items_of_first first) ≡ declared_first first
declared_of_first NoFirst = refl
declared_of_first (First (Declare ds)) = append-nil ds
declared_of_first (First (Specify at t)) = refl
declared_of_first (First (Run a)) = refl
declared_of_first (First (Asserts annots)) = refl

-- an `if` whose second branch is another one's code
pub branches_code : (t t1 : MonStatements) (s : MonStatement) (c : MonExpression) (f g h : MonStatements) → s ≡ tree.If c f g → g ≡ h → t1 ≡ before t (one s) → t1 ≡ before t (one (tree.If c f h))
branches_code t t1 s c f g h is g_is last = last ∙ ap (λ x. before t (one x)) is ∙ ap (λ z. before t (one (tree.If c f z))) g_is

pub if_code : (ks : List Kept) (n n1 : Names) (spot : Spot) (t t1 t2 : MonStatements) (at : Place) (e : Expression) (a : Statement) (b : ElsePart) (c : MonExpression) (f : MonStatements)
    → c ≡ condition_result_by n e → f ≡ statement_by ks (with_registers (takes (unit_of n) e) n) spot a → t1 ≡ before t (prepare_by n e) → n1 ≡ after ks a (with_registers (takes (unit_of n) e) n)
    → t2 ≡ before t1 (one (tree.If c f (else_part_by ks n1 spot b))) → t2 ≡ before t (statement_by ks n spot (If at e a b))
if_code ks n n1 spot t t1 t2 at e a b c f c_is f_is first names last =
    last
    ∙ (λ i. before (first i) (one (tree.If (c_is i) (f_is i) (else_part_by ks (names i) spot b))))
    ∙ before_assoc t (prepare_by n e) (one (tree.If (condition_result_by n e) (statement_by ks (with_registers (takes (unit_of n) e) n) spot a) (else_part_by ks (after ks a (with_registers (takes (unit_of n) e) n)) spot b)))

-- the body of a loop, which stands inside it
pub round_code : {E : Type 0} (r : Result (Vec MonStmt Global) E) (f : Spot → MonStatements) (spot : Spot) (inner : ℕ) (outside : List ℕ) (body : MonStatements) → inner ≡ spot.levels + 1 → outside ≡ all_live spot
    → body ≡ f (record { levels = inner; innermost = inner; inside = []; between = []; outside = outside; result = spot.result }) → IfOk r (λ code. plain_stmts code.items ≡ one (Labelled body (next_label inner)))
    → IfOk r (λ code. plain_stmts code.items ≡ one (Labelled (f (in_loop spot)) (next_label (spot.levels + 1))))
round_code (Ok code) f spot inner outside body inner_is outside_is done last =
    last ∙ ap (λ b. one (Labelled b (next_label inner))) done
    ∙ (λ i. one (Labelled (f (record { levels = inner_is i; innermost = inner_is i; inside = []; between = []; outside = outside_is i; result = spot.result })) (next_label (inner_is i))))
round_code (Err e) f spot inner outside body inner_is outside_is done last = tt

-- a step that may be left out
acted_any : (n : Names) (step : Option Expression) → act_if_any_by n step ≡ act_if_any (unit_of n) n.table.bound n.table.kinds step
acted_any n None = refl
acted_any n (Some e) = refl

module _ (ks : List Kept) (n n1 n2 : Names) (spot : Spot) (t t2 : MonStatements) where
  pub do_code : (at : Place) (e : Expression) (a : Statement) (inner : ℕ) (front round behind : MonStatements) → inner ≡ spot.levels + 1 → n1 ≡ after ks a n → front ≡ NoStatement
      → round ≡ one (Labelled (statement_by ks n (in_loop spot) a) (next_label (spot.levels + 1))) → behind ≡ before round (test_by n1 inner e) → t2 ≡ before t (one (Labelled (one (Loop front behind)) (end_label inner)))
      → t2 ≡ before t (statement_by ks n spot (Do at a e))
  do_code at e a inner front round behind inner_is names front_is round_is behind_is last =
      let behind_at = behind_is ∙ (λ i. before (round_is i) (test_by (names i) (inner_is i) e)) in
      last ∙ (λ i. before t (one (Labelled (one (Loop (front_is i) (behind_at i))) (end_label (inner_is i)))))

-- ---- the annotations of loops

-- the value that was kept is that of the variant, and so the registers behind its comparison are its own
module _ (ks : List Kept) (n : Names) (b d : RegisterTable) where
  compared_is : (o : Option (Annotation × LogicTerm))
      → compared_by ks (with_table d n) (option_map (λ v. (v, (value_by ks (with_table b n) v).value)) o) ≡ variant_compared (unit_of n) b.bound d.bound ks b.kinds d.kinds o
  compared_is None = refl
  compared_is (Some v) = refl

  behind_is : (o : Option (Annotation × LogicTerm)) → behind_compared_by ks (option_map (λ v. (v, (value_by ks (with_table b n) v).value)) o) (with_table d n) ≡ with_table (record d { kinds = behind_variant (unit_of n) d.bound ks d.kinds o }) n
  behind_is None = refl
  behind_is (Some v) = refl

-- registers that take nothing
nothing_taken : (n : Names) → n ≡ with_registers [] n
nothing_taken n = ap (λ rs. with_table (record n.table { kinds = rs }) n) (sym (append-nil n.table.kinds))

-- the turns of a `while` and of a `for`: what stands before the step, the turn up to the end of its body, its own step, and the comparison
module _ (ks : List Kept) (n n1 n2 n3 : Names) (annots : List Annotation) (e step : Option Expression) (a : Statement) (kept : Option KeptValue)
    (names1 : n1 ≡ with_registers (any_temporaries (takes (unit_of n)) e) (behind_invariants_by ks annots n)) (kept_is : kept ≡ kept_in ks n1 annots) (names2 : n2 ≡ after ks a (behind_variant_by ks annots n1))
    (names3 : n3 ≡ with_registers (any_temporaries (act_takes (unit_of n2)) step) n2) where
  abbrev before_variant : RegisterTable
  before_variant = with_kinds (any_temporaries (takes (unit_of n)) e) (after_invariants (unit_of n) ks annots n.table)

  abbrev in_body : RegisterTable
  in_body = before_body (unit_of n) ks annots e n.table

  abbrev behind_body : RegisterTable
  behind_body = after_statement (unit_of n) ks a in_body

  abbrev behind_step : RegisterTable
  behind_step = with_kinds (any_temporaries (act_takes (unit_of n)) step) behind_body

  second : n2 ≡ with_table behind_body n
  second = names2 ∙ ap (λ m. after ks a (behind_variant_by ks annots m)) names1

  third : n3 ≡ with_table behind_step n
  third = names3 ∙ ap (λ (m : Names). with_registers (any_temporaries (act_takes (unit_of m)) step) m) second

  kept_at : kept ≡ kept_in ks (with_table before_variant n) annots
  kept_at = kept_is ∙ ap (λ m. kept_in ks m annots) names1

  -- the names behind them
  pub turns_names : (n4 : Names) → n4 ≡ behind_compared_by ks kept n3 → n4 ≡ after_turn_by ks annots step (after ks a (before_body_by ks annots e n))
  turns_names n4 names4 = names4 ∙ (λ i. behind_compared_by ks (kept_at i) (third i)) ∙ behind_is ks n before_variant behind_step (variant annots)

  pub turns_code : (spot : Spot) (t t2 : MonStatements) (inner : ℕ) (front turn acted behind : MonStatements) → inner ≡ spot.levels + 1 → front ≡ front_by ks n inner annots e → turn ≡ turn_by ks n1 spot annots a
      → acted ≡ before turn (act_if_any_by n2 step) → behind ≡ before acted (compared_by ks n3 kept) → t2 ≡ before t (one (Labelled (one (Loop front behind)) (end_label inner))) → t2 ≡ before t (turns_by ks n spot annots e step a)
  turns_code spot t t2 inner front turn acted behind inner_is front_is turn_is acted_is behind_code last =
      let p = unit_of n in
      let body = one (Labelled (statement p ks (in_loop spot) in_body a) (next_label (spot.levels + 1))) in
      let keep = kept_of p ks annots n.table e in
      let act = act_if_any p behind_body.bound behind_body.kinds step in
      let compare = compared_of p ks annots n.table e behind_body step in
      let front_at : front ≡ front_by ks n (spot.levels + 1) annots e = front_is ∙ ap (λ k. front_by ks n k annots e) inner_is in
      let turn_at : turn ≡ before keep body = turn_is ∙ ap (λ m. turn_by ks m spot annots a) names1 in
      let act_at : act_if_any_by n2 step ≡ act = ap (λ m. act_if_any_by m step) second ∙ acted_any (with_table behind_body n) step in
      let compare_at : compared_by ks n3 kept ≡ compare = (λ i. compared_by ks (third i) (kept_at i)) ∙ compared_is ks n before_variant behind_step (variant annots) in
      let acted_at : acted ≡ before (before keep body) act = acted_is ∙ (λ i. before (turn_at i) (act_at i)) in
      let behind_at : behind ≡ before keep (before body (before act compare)) =
      behind_code ∙ (λ i. before (acted_at i) (compare_at i)) ∙ before_assoc (before keep body) act compare ∙ before_assoc keep body (before act compare) in
      last ∙ (λ i. before t (one (Labelled (one (Loop (front_at i) (behind_at i))) (end_label (inner_is i)))))

-- those of a `while` have no step of their own
module _ (ks : List Kept) (n n1 n2 : Names) (annots : List Annotation) (e : Expression) (a : Statement) (kept : Option KeptValue)
    (names1 : n1 ≡ with_registers (takes (unit_of n) e) (behind_invariants_by ks annots n)) (kept_is : kept ≡ kept_in ks n1 annots) (names2 : n2 ≡ after ks a (behind_variant_by ks annots n1)) where
  pub while_names : (at : Place) (n3 : Names) → n3 ≡ behind_compared_by ks kept n2 → n3 ≡ after ks (While at annots e a) n
  while_names at n3 names3 =
      turns_names ks n n1 n2 (with_registers [] n2) annots (Some e) None a kept names1 kept_is names2 refl n3 (names3 ∙ ap (behind_compared_by ks kept) (nothing_taken n2))

  pub while_code : (at : Place) (spot : Spot) (t t2 : MonStatements) (inner : ℕ) (front turn behind : MonStatements) → inner ≡ spot.levels + 1 → front ≡ front_by ks n inner annots (Some e) → turn ≡ turn_by ks n1 spot annots a
      → behind ≡ before turn (compared_by ks n2 kept) → t2 ≡ before t (one (Labelled (one (Loop front behind)) (end_label inner))) → t2 ≡ before t (statement_by ks n spot (While at annots e a))
  while_code at spot t t2 inner front turn behind inner_is front_is turn_is behind_code last =
      turns_code ks n n1 n2 (with_registers [] n2) annots (Some e) None a kept names1 kept_is names2 refl spot t t2 inner front turn turn behind inner_is front_is turn_is (sym (before_none turn))
      (behind_code ∙ ap (λ m. before turn (compared_by ks m kept)) (nothing_taken n2)) last

-- the rest of a `for`
pub rest_code : (ks : List Kept) (n : Names) (spot : Spot) (t t1 t2 : MonStatements) (annots : List Annotation) (e step : Option Expression) (a : Statement) (own inside dying : List ℕ) → inside ≡ own ++ spot.inside → dying ≡ own
    → t1 ≡ before t (turns_by ks n (record spot { inside = inside }) annots e step a) → t2 ≡ before t1 (deaths dying) → t2 ≡ before t (before (turns_by ks n (with_blocks own spot) annots e step a) (deaths own))
rest_code ks n spot t t1 t2 annots e step a own inside dying inside_is dying_is done last =
    last
    ∙ (λ i. before (done i) (deaths (dying_is i)))
    ∙ before_assoc t (turns_by ks n (record spot { inside = inside }) annots e step a) (deaths own)
    ∙ ap (λ (l : List ℕ). before t (before (turns_by ks n (record spot { inside = l }) annots e step a) (deaths own))) inside_is

-- a `for`, from its parts
module _ (ks : List Kept) (n : Names) (spot : Spot) (t t1 t2 : MonStatements) (first : ForFirst) where
  abbrev within : List ℕ → Spot
  within l = record spot { inside = l }

  abbrev front : List Declaration → MonStatements
  front ds = before (births_by n ds) (first_part_by ks (entering ds n) (with_variables (next_register n.table) ds spot) first)

  -- what stands first in it
  pub entered_code : (n1 : Names) (ds : List Declaration) (own inside : List ℕ) → ds ≡ declared_first first → n1 ≡ entering ds n → t1 ≡ before t (births_by n ds) → own ≡ with_born (next_register n.table) ds []
      → inside ≡ own ++ spot.inside → t2 ≡ before t1 (first_part_by ks n1 (within inside) first) → t2 ≡ before t (front (declared_first first))
  entered_code n1 ds own inside ds_is names born own_is inside_is done =
      let live : inside ≡ with_born (next_register n.table) ds spot.inside = inside_is ∙ ap (λ l. l ++ spot.inside) own_is ∙ born_front (next_register n.table) ds spot.inside in
      done
      ∙ (λ i. before (born i) (first_part_by ks (names i) (within (live i)) first))
      ∙ before_assoc t (births_by n ds) (first_part_by ks (entering ds n) (within (with_born (next_register n.table) ds spot.inside)) first)
      ∙ ap (λ l. before t (front l)) ds_is

  pub for_code : (n1 : Names) (at : Place) (annots : List Annotation) (e step : Option Expression) (a : Statement) (own : List ℕ) → own ≡ with_born (next_register n.table) (declared_first first) [] → t1 ≡ before t (front (declared_first first))
      → n1 ≡ behind_first ks first (entering (declared_first first) n) → t2 ≡ before t1 (before (turns_by ks n1 (with_blocks own spot) annots e step a) (deaths own)) → t2 ≡ before t (statement_by ks n spot (For at annots first e step a))
  for_code n1 at annots e step a own own_is entered names last =
      let ds = declared_first first in
      let born = births_by n ds in
      let start = first_part_by ks (entering ds n) (with_variables (next_register n.table) ds spot) first in
      let again = turns_by ks (behind_first ks first (entering ds n)) (with_variables (next_register n.table) ds spot) annots e step a in
      let end = deaths (with_born (next_register n.table) ds []) in
      let live : own ++ spot.inside ≡ with_born (next_register n.table) ds spot.inside = ap (λ l. l ++ spot.inside) own_is ∙ born_front (next_register n.table) ds spot.inside in
      last
      ∙ (λ i. before (entered i) (before (turns_by ks (names i) (within (live i)) annots e step a) (deaths (own_is i))))
      ∙ before_assoc t (before born start) (before again end)
      ∙ ap (before t) (before_assoc born start (before again end) ∙ ap (before born) (sym (before_assoc start again end)))

-- ---- the names after a loop

pub do_names : (ks : List Kept) (n n1 n2 : Names) (at : Place) (e : Expression) (a : Statement) → n1 ≡ after ks a n → n2 ≡ with_registers (takes (unit_of n1) e) n1 → n2 ≡ after ks (Do at a e) n
do_names ks n n1 n2 at e a first last = last ∙ ap (λ (m : Names). with_registers (takes (unit_of m) e) m) first

pub for_names : (ks : List Kept) (n n1 n2 : Names) (at : Place) (annots : List Annotation) (first : ForFirst) (e step : Option Expression) (a : Statement) → n1 ≡ behind_first ks first (entering (declared_first first) n)
    → n2 ≡ after_turn_by ks annots step (after ks a (before_body_by ks annots e n1)) → n2 ≡ after ks (For at annots first e step a) n
for_names ks n n1 n2 at annots first e step a entered last = last ∙ ap (λ m. after_turn_by ks annots step (after ks a (before_body_by ks annots e m))) entered
