-- What is known of statements doesn't look at the ranges of their annotations: it is the same without them.
use Rattle.std.proofs.Common.{ℤ, zero, suc, if◌then◌else◌, option_map}
use Rattle.c_syntax.specs.declared.types.CInt.{CInt}
use Rattle.c_syntax.specs.Ctypes.{Int}
use Rattle.c_syntax.specs.Expressions.{type_of}
use Rattle.c_model.specs.StatementTyping.{in_switch}
use Rattle.c_model.specs.AnnotationSights.{AnnotationSight}
use Rattle.c_model.specs.AnnotationTyping.{inside_block, inside_for, with_label, behind_labels, labels_behind, behind_noted, behind_case}
use Rattle.c_model.specs.Conversions.{promoted}
use Rattle.c_model.specs.TypedTrees.{CasesTyped, IsCaseValue}
use Rattle.c_model.specs.TypedAnnotations.{CasesNoted}
use Rattle.c_model.specs.FullExpressions.{EachInCases}
use Rattle.c_model.specs.Formed.{AreLoopClauses, depth_of_cases, declared_in_cases}
use Rattle.c_model.specs.UnrangedPrograms.{unranged_cases}
use Rattle.c_model.specs.Meaning.{case_of, is_case_of, default_of, chosen_case, after_switch, cases_with, eval_with}
use Rattle.c_model.specs.Memory.{Integer, Points, NoValue, Value}
use Rattle.std.proofs.Common.{◌≡◌, ℕ, ◌+◌, max, ◌++◌, Some, None, refl, ap, ◌∙◌}
use Rattle.c_syntax.specs.Expressions.{Expression}
use Rattle.c_syntax.specs.Statements.{Statement, Empty, Eval, Block, If, While, Do, For, Break, Continue, Return, ElsePart, NoElse, Else, BlockItem, Declare, Specify}
use Rattle.c_syntax.specs.Statements.{Run, Asserts, BlockItems, NoItem, Then, Labelled, Switch, Cases, NoCase, AnotherCase}
use Rattle.c_model.specs.State.{◌>>=◌, ◌>>◌, done, births, within, mark}
use Rattle.c_model.specs.Predicates.{variant}
use Rattle.c_model.specs.Meaning.{Tables, Callee, choose, turn_with, turns, do_turns, declared_in, declared_first, condition_with, condition_of, effect_with}
use Rattle.c_model.specs.Meaning.{exec_with, else_with, first_with, item_with, items_with}
use Rattle.c_model.specs.ExpressionTyping.{Sight, inner}
use Rattle.c_model.specs.StatementTyping.{Around, in_loop, behind, behind_first}
use Rattle.c_model.specs.TypedTrees.{WellTyped, WhereAny, IsCondition, FirstTyped, StatementTyped, ElseTyped, ItemTyped, ItemsTyped}
use Rattle.c_model.specs.TypedAnnotations.{StatementNoted, ElseNoted, ItemNoted, ItemsNoted}
use Rattle.c_model.specs.Formed.{AreAsserts, depth, depth_of_else, depth_of_item, depth_of_items, declared_within, declared_in_else, declared_in_first, declared_in_item, declared_in_items}
use Rattle.c_model.specs.FullExpressions.{EachIn, EachInElse, EachInFirst, EachInItem, EachInItems}
use Rattle.c_model.specs.EffectPlaces.{DeclareNothing, StatementPlaced, CasesPlaced, ElsePlaced, ItemPlaced, ItemsPlaced}
use Rattle.c_model.specs.UnrangedPrograms.{unranged_statement, unranged_else, unranged_item, unranged_items}
use Rattle.c_model.proofs.UnrangedTerms.{Alike, itself, beside, annotations_typed, are_asserts, are_loops, same_checks, same_invariants, same_turn}

-- ---- typing

pub same_behind : (s : Sight) (i : BlockItem) → behind s (unranged_item i) ≡ behind s i
same_behind s (Declare ds) = refl
same_behind s (Specify at t) = refl
same_behind s (Run a) = refl
same_behind s (Asserts annots) = refl

mutual
  statement_typed : (s : Sight) (r : Around) (a : Statement) → StatementTyped s r (unranged_statement a) ≡ StatementTyped s r a
  statement_typed s r (Empty at) = refl
  statement_typed s r (Eval at e) = refl
  statement_typed s r (Block at items) = items_typed (inner s) r items
  statement_typed s r (If at e a b) = λ i. IsCondition s e × statement_typed s r a i × else_typed s r b i
  statement_typed s r (While at annots e a) = λ i. IsCondition s e × statement_typed s (in_loop r) a i
  statement_typed s r (Do at a e) = λ i. statement_typed s (in_loop r) a i × IsCondition s e
  statement_typed s r (For at annots first e step a) = λ i.
      FirstTyped (inner s) r first × WhereAny (IsCondition (behind_first (inner s) first)) e × WhereAny (WellTyped (behind_first (inner s) first)) step
      × statement_typed (behind_first (inner s) first) (in_loop r) a i
  statement_typed s r (Break at) = refl
  statement_typed s r (Continue at) = refl
  statement_typed s r (Return at e) = refl
  statement_typed s r (Labelled at l a) = statement_typed s r a
  statement_typed s r (Switch at e cases) = λ i. (k : CInt) × WellTyped s e × (type_of e ≡ Int (promoted k)) × cases_typed s (in_switch r) (promoted k) cases i

  cases_typed : (s : Sight) (r : Around) (k : CInt) (cases : Cases) → CasesTyped s r k (unranged_cases cases) ≡ CasesTyped s r k cases
  cases_typed s r k NoCase = refl
  cases_typed s r k (AnotherCase at v items rest) = λ i. WhereAny (IsCaseValue k) v × items_typed s r items i × cases_typed s r k rest i

  else_typed : (s : Sight) (r : Around) (b : ElsePart) → ElseTyped s r (unranged_else b) ≡ ElseTyped s r b
  else_typed s r NoElse = refl
  else_typed s r (Else a) = statement_typed s r a

  item_typed : (s : Sight) (r : Around) (x : BlockItem) → ItemTyped s r (unranged_item x) ≡ ItemTyped s r x
  item_typed s r (Declare ds) = refl
  item_typed s r (Specify at t) = refl
  item_typed s r (Run a) = statement_typed s r a
  item_typed s r (Asserts annots) = refl

  pub items_typed : (s : Sight) (r : Around) (xs : BlockItems) → ItemsTyped s r (unranged_items xs) ≡ ItemsTyped s r xs
  items_typed s r NoItem = refl
  items_typed s r (Then x rest) = λ i. item_typed s r x i × (ap (λ t. ItemsTyped t r (unranged_items rest)) (same_behind s x) ∙ items_typed (behind s x) r rest) i

-- ---- annotations

same_labels : (s : AnnotationSight) (a : Statement) → behind_labels s (unranged_statement a) ≡ behind_labels s a
same_labels s (Empty at) = refl
same_labels s (Eval at e) = refl
same_labels s (Block at items) = refl
same_labels s (If at e a b) = refl
same_labels s (While at annots e a) = refl
same_labels s (Do at a e) = refl
same_labels s (For at annots first e step a) = refl
same_labels s (Break at) = refl
same_labels s (Continue at) = refl
same_labels s (Return at e) = refl
same_labels s (Labelled at l a) = same_labels (with_label s l) a
same_labels s (Switch at e cases) = refl

same_labels_behind : (s : AnnotationSight) (x : BlockItem) → labels_behind s (unranged_item x) ≡ labels_behind s x
same_labels_behind s (Declare ds) = refl
same_labels_behind s (Specify at t) = refl
same_labels_behind s (Run a) = same_labels s a
same_labels_behind s (Asserts annots) = refl

same_noted : (s : AnnotationSight) (x : BlockItem) → behind_noted s (unranged_item x) ≡ behind_noted s x
same_noted s x = λ i. record (same_labels_behind s x i) { here = same_behind s.here x i }

same_case : (s : AnnotationSight) (items : BlockItems) → behind_case s (unranged_items items) ≡ behind_case s items
same_case s NoItem = refl
same_case s (Then x rest) = ap (λ t. behind_case t (unranged_items rest)) (same_labels_behind s x) ∙ same_case (labels_behind s x) rest

mutual
  statement_noted : (s : AnnotationSight) (a : Statement) → StatementNoted s (unranged_statement a) ≡ StatementNoted s a
  statement_noted s (Empty at) = refl
  statement_noted s (Eval at e) = refl
  statement_noted s (Block at items) = items_noted (inside_block s) items
  statement_noted s (If at e a b) = λ i. statement_noted s a i × else_noted s b i
  statement_noted s (While at annots e a) = λ i. annotations_typed s annots i × statement_noted s a i
  statement_noted s (Do at a e) = statement_noted s a
  statement_noted s (For at annots first e step a) = λ i. annotations_typed (inside_for s first) annots i × statement_noted (inside_for s first) a i
  statement_noted s (Break at) = refl
  statement_noted s (Continue at) = refl
  statement_noted s (Return at e) = refl
  statement_noted s (Labelled at l a) = statement_noted (with_label s l) a
  statement_noted s (Switch at e cases) = cases_noted s cases

  cases_noted : (s : AnnotationSight) (cases : Cases) → CasesNoted s (unranged_cases cases) ≡ CasesNoted s cases
  cases_noted s NoCase = refl
  cases_noted s (AnotherCase at v items rest) = λ i. items_noted s items i × (ap (λ t. CasesNoted t (unranged_cases rest)) (same_case s items) ∙ cases_noted (behind_case s items) rest) i

  else_noted : (s : AnnotationSight) (b : ElsePart) → ElseNoted s (unranged_else b) ≡ ElseNoted s b
  else_noted s NoElse = refl
  else_noted s (Else a) = statement_noted s a

  item_noted : (s : AnnotationSight) (x : BlockItem) → ItemNoted s (unranged_item x) ≡ ItemNoted s x
  item_noted s (Declare ds) = refl
  item_noted s (Specify at t) = refl
  item_noted s (Run a) = statement_noted s a
  item_noted s (Asserts annots) = annotations_typed s annots

  pub items_noted : (s : AnnotationSight) (xs : BlockItems) → ItemsNoted s (unranged_items xs) ≡ ItemsNoted s xs
  items_noted s NoItem = refl
  items_noted s (Then x rest) = λ i. item_noted s x i × (ap (λ t. ItemsNoted t (unranged_items rest)) (same_noted s x) ∙ items_noted (behind_noted s x) rest) i

-- ---- expressions, depth and declarations

module _ (P : Expression → Type 0) where
  mutual
    each_in : (a : Statement) → EachIn P (unranged_statement a) ≡ EachIn P a
    each_in (Empty at) = refl
    each_in (Eval at e) = refl
    each_in (Block at items) = each_in_items items
    each_in (If at e a b) = λ i. P e × each_in a i × each_in_else b i
    each_in (While at annots e a) = λ i. P e × each_in a i
    each_in (Do at a e) = λ i. each_in a i × P e
    each_in (For at annots first e step a) = λ i. EachInFirst P first × WhereAny P e × WhereAny P step × each_in a i
    each_in (Break at) = refl
    each_in (Continue at) = refl
    each_in (Return at e) = refl
    each_in (Labelled at l a) = each_in a
    each_in (Switch at e cases) = λ i. P e × each_in_cases cases i

    each_in_cases : (cases : Cases) → EachInCases P (unranged_cases cases) ≡ EachInCases P cases
    each_in_cases NoCase = refl
    each_in_cases (AnotherCase at v items rest) = λ i. each_in_items items i × each_in_cases rest i

    each_in_else : (b : ElsePart) → EachInElse P (unranged_else b) ≡ EachInElse P b
    each_in_else NoElse = refl
    each_in_else (Else a) = each_in a

    each_in_item : (x : BlockItem) → EachInItem P (unranged_item x) ≡ EachInItem P x
    each_in_item (Declare ds) = refl
    each_in_item (Specify at t) = refl
    each_in_item (Run a) = each_in a
    each_in_item (Asserts annots) = refl

    pub each_in_items : (xs : BlockItems) → EachInItems P (unranged_items xs) ≡ EachInItems P xs
    each_in_items NoItem = refl
    each_in_items (Then x rest) = λ i. each_in_item x i × each_in_items rest i

mutual
  pub same_depth : (a : Statement) → depth (unranged_statement a) ≡ depth a
  same_depth (Empty at) = refl
  same_depth (Eval at e) = refl
  same_depth (Block at items) = λ i. 1 + items_depth items i
  same_depth (If at e a b) = λ i. 1 + max (same_depth a i) (else_depth b i)
  same_depth (While at annots e a) = λ i. 1 + same_depth a i
  same_depth (Do at a e) = λ i. 1 + same_depth a i
  same_depth (For at annots first e step a) = λ i. 1 + same_depth a i
  same_depth (Break at) = refl
  same_depth (Continue at) = refl
  same_depth (Return at e) = refl
  same_depth (Labelled at l a) = λ i. 1 + same_depth a i
  same_depth (Switch at e cases) = λ i. 1 + cases_depth cases i

  cases_depth : (cases : Cases) → depth_of_cases (unranged_cases cases) ≡ depth_of_cases cases
  cases_depth NoCase = refl
  cases_depth (AnotherCase at v items rest) = λ i. max (items_depth items i) (cases_depth rest i)

  else_depth : (b : ElsePart) → depth_of_else (unranged_else b) ≡ depth_of_else b
  else_depth NoElse = refl
  else_depth (Else a) = same_depth a

  item_depth : (x : BlockItem) → depth_of_item (unranged_item x) ≡ depth_of_item x
  item_depth (Declare ds) = refl
  item_depth (Specify at t) = refl
  item_depth (Run a) = same_depth a
  item_depth (Asserts annots) = refl

  items_depth : (xs : BlockItems) → depth_of_items (unranged_items xs) ≡ depth_of_items xs
  items_depth NoItem = refl
  items_depth (Then x rest) = λ i. max (item_depth x i) (items_depth rest i)

mutual
  pub same_declared : (a : Statement) → declared_within (unranged_statement a) ≡ declared_within a
  same_declared (Empty at) = refl
  same_declared (Eval at e) = refl
  same_declared (Block at items) = items_declared items
  same_declared (If at e a b) = λ i. same_declared a i ++ else_declared b i
  same_declared (While at annots e a) = same_declared a
  same_declared (Do at a e) = same_declared a
  same_declared (For at annots first e step a) = λ i. declared_in_first first ++ same_declared a i
  same_declared (Break at) = refl
  same_declared (Continue at) = refl
  same_declared (Return at e) = refl
  same_declared (Labelled at l a) = same_declared a
  same_declared (Switch at e cases) = cases_declared cases

  cases_declared : (cases : Cases) → declared_in_cases (unranged_cases cases) ≡ declared_in_cases cases
  cases_declared NoCase = refl
  cases_declared (AnotherCase at v items rest) = λ i. items_declared items i ++ cases_declared rest i

  else_declared : (b : ElsePart) → declared_in_else (unranged_else b) ≡ declared_in_else b
  else_declared NoElse = refl
  else_declared (Else a) = same_declared a

  item_declared : (x : BlockItem) → declared_in_item (unranged_item x) ≡ declared_in_item x
  item_declared (Declare ds) = refl
  item_declared (Specify at t) = refl
  item_declared (Run a) = same_declared a
  item_declared (Asserts annots) = refl

  items_declared : (xs : BlockItems) → declared_in_items (unranged_items xs) ≡ declared_in_items xs
  items_declared NoItem = refl
  items_declared (Then x rest) = λ i. item_declared x i ++ items_declared rest i

-- ---- places of annotations and declarations

no_declaration : (xs : BlockItems) → Alike (DeclareNothing (unranged_items xs)) (DeclareNothing xs)
no_declaration NoItem = itself
no_declaration (Then (Declare ds) rest) = beside itself (no_declaration rest)
no_declaration (Then (Specify at t) rest) = beside itself (no_declaration rest)
no_declaration (Then (Run a) rest) = beside itself (no_declaration rest)
no_declaration (Then (Asserts annots) rest) = beside itself (no_declaration rest)

mutual
  statement_placed : (a : Statement) → Alike (StatementPlaced AreAsserts AreLoopClauses (unranged_statement a)) (StatementPlaced AreAsserts AreLoopClauses a)
  statement_placed (Empty at) = itself
  statement_placed (Eval at e) = itself
  statement_placed (Block at items) = items_placed items
  statement_placed (If at e a b) = beside (statement_placed a) (else_placed b)
  statement_placed (While at annots e a) = record {
    to = λ h. ((are_loops annots).to h.0, (statement_placed a).to h.1);
    from = λ h. ((are_loops annots).from h.0, (statement_placed a).from h.1);
  }
  statement_placed (Do at a e) = statement_placed a
  statement_placed (For at annots first e step a) = record {
    to = λ h. ((are_loops annots).to h.0, h.1, (statement_placed a).to h.2);
    from = λ h. ((are_loops annots).from h.0, h.1, (statement_placed a).from h.2);
  }
  statement_placed (Break at) = itself
  statement_placed (Continue at) = itself
  statement_placed (Return at e) = itself
  statement_placed (Labelled at l a) = statement_placed a
  statement_placed (Switch at e cases) = cases_placed cases

  cases_placed : (cs : Cases) → Alike (CasesPlaced AreAsserts AreLoopClauses (unranged_cases cs)) (CasesPlaced AreAsserts AreLoopClauses cs)
  cases_placed NoCase = itself
  cases_placed (AnotherCase at v items rest) = record {
    to = λ h. ((no_declaration items).to h.0, (items_placed items).to h.1, (cases_placed rest).to h.2);
    from = λ h. ((no_declaration items).from h.0, (items_placed items).from h.1, (cases_placed rest).from h.2);
  }

  else_placed : (b : ElsePart) → Alike (ElsePlaced AreAsserts AreLoopClauses (unranged_else b)) (ElsePlaced AreAsserts AreLoopClauses b)
  else_placed NoElse = itself
  else_placed (Else a) = statement_placed a

  item_placed : (x : BlockItem) → Alike (ItemPlaced AreAsserts AreLoopClauses (unranged_item x)) (ItemPlaced AreAsserts AreLoopClauses x)
  item_placed (Declare ds) = itself
  item_placed (Specify at t) = itself
  item_placed (Run a) = statement_placed a
  item_placed (Asserts annots) = are_asserts annots

  pub items_placed : (xs : BlockItems) → Alike (ItemsPlaced AreAsserts AreLoopClauses (unranged_items xs)) (ItemsPlaced AreAsserts AreLoopClauses xs)
  items_placed NoItem = itself
  items_placed (Then x rest) = beside (item_placed x) (items_placed rest)

-- ---- meaning

same_births : (xs : BlockItems) → declared_in (unranged_items xs) ≡ declared_in xs
same_births NoItem = refl
same_births (Then (Declare ds) rest) = λ i. ds ++ same_births rest i
same_births (Then (Specify at t) rest) = same_births rest
same_births (Then (Run a) rest) = same_births rest
same_births (Then (Asserts annots) rest) = same_births rest

-- the same case is chosen
same_case_of : (z : ℤ) (cases : Cases) → case_of z (unranged_cases cases) ≡ case_of z cases
same_case_of z NoCase = refl
same_case_of z (AnotherCase at v items rest) = ap (λ o. if is_case_of z v then Some 0 else option_map suc o) (same_case_of z rest)

same_default_of : (cases : Cases) → default_of (unranged_cases cases) ≡ default_of cases
same_default_of NoCase = refl
same_default_of (AnotherCase at None items rest) = refl
same_default_of (AnotherCase at (Some e) items rest) = ap suc (same_default_of rest)

same_choice : (v : Value) (cases : Cases) → chosen_case v (unranged_cases cases) ≡ chosen_case v cases
same_choice (Integer z) cases = λ i. elim (same_case_of z cases i) [ None ↦ same_default_of cases i | Some k ↦ k ]
same_choice (Points p) cases = same_default_of cases
same_choice NoValue cases = same_default_of cases

module _ (T : Tables) (call : Callee) (n : ℕ) where
  mutual
    pub same_exec : (a : Statement) → exec_with T (unranged_statement a) call n ≡ exec_with T a call n
    same_exec (Empty at) = refl
    same_exec (Eval at e) = refl
    same_exec (Block at items) = λ i. within (births T.structs (same_births items i) >> items_exec items i)
    same_exec (If at e a b) = λ i. condition_of T e call >>= λ v. choose v (same_exec a i) (else_exec b i)
    same_exec (While at annots e a) = λ i.
        turns n (same_invariants annots i >> condition_of T e call) (λ again. (same_turn annots (exec_with T (unranged_statement a) call n) done again ∙ ap (λ m. turn_with (variant annots) m done again) (same_exec a)) i)
    same_exec (Do at a e) = λ i. do_turns n (condition_of T e call) (same_exec a i)
    same_exec (For at annots first e behind a) = λ i.
        within (births T.structs (declared_first first) >> first_with T first call n >> turns n (same_invariants annots i >> condition_with T e call)
        (λ again. (same_turn annots (exec_with T (unranged_statement a) call n) (effect_with T behind call) again ∙ ap (λ m. turn_with (variant annots) m (effect_with T behind call) again) (same_exec a)) i))
    same_exec (Break at) = refl
    same_exec (Continue at) = refl
    same_exec (Return at None) = refl
    same_exec (Return at (Some e)) = refl
    same_exec (Labelled at l a) = ap (λ m. mark (Some l) >> m) (same_exec a)
    same_exec (Switch at e cases) = λ i. eval_with T e call >>= λ v s. after_switch (cases_exec cases (same_choice v cases i) i s)

    cases_exec : (cases : Cases) (k : ℕ) → cases_with T (unranged_cases cases) call n k ≡ cases_with T cases call n k
    cases_exec NoCase k = refl
    cases_exec (AnotherCase at v items rest) zero = λ i. items_exec items i >> cases_exec rest zero i
    cases_exec (AnotherCase at v items rest) (suc k) = cases_exec rest k

    else_exec : (b : ElsePart) → else_with T (unranged_else b) call n ≡ else_with T b call n
    else_exec NoElse = refl
    else_exec (Else a) = same_exec a

    item_exec : (x : BlockItem) → item_with T (unranged_item x) call n ≡ item_with T x call n
    item_exec (Declare ds) = refl
    item_exec (Specify at t) = refl
    item_exec (Run a) = same_exec a
    item_exec (Asserts annots) = same_checks annots

    items_exec : (xs : BlockItems) → items_with T (unranged_items xs) call n ≡ items_with T xs call n
    items_exec NoItem = refl
    items_exec (Then x rest) = λ i. item_exec x i >> items_exec rest i
