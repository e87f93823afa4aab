-- Annotations and statements are read exactly.
use Rattle.std.proofs.Common.{◌≡◌, ℕ, Bool, true, false, cond, List, [], ◌∷◌, ◌++◌, refl, inl, inr}
use Rattle.grammar.specs.Syntax.{gives, ◌then◌, choice}
use Rattle.grammar.specs.Exact.{IsGood}
use Rattle.grammar.proofs.Sets.{within, apart}
use Rattle.grammar.proofs.Parts.{widen, gives_exact}
use Rattle.grammar.proofs.Bounds.{then_good, same_good}
use Rattle.grammar.proofs.Productions.{seq, either, again_and_again, declared, given, seq_to, made, either_to, maybe_to}
use Rattle.c_syntax.specs.declared.place.Place.{Place}
use Rattle.c_syntax.specs.Expressions.{Expression}
use Rattle.c_syntax.specs.Statements.{Statement, BlockItem, If, NoElse, Else, While, For, Labelled, Run}
use Rattle.c_model.specs.declared.declarations.AnnotationState.{AnnotationState}
use Rattle.c_model.specs.declared.vocabulary.Keyword.TheVariants as keyword
use Rattle.c_model.specs.Vocabulary.{Vocabulary}
use Rattle.c_model.specs.Punctuators.{semicolon, colon, left_paren, right_paren, left_brace, right_brace}
use Rattle.c_model.specs.ExpressionGrammar.{name_kind, annot_open_kind, keyword_kind, mark_kind, kind, first_type, first_expression}
use Rattle.c_model.specs.declared.operands.Level.TheVariants.{Conditional}
use Rattle.c_syntax.specs.Logic.{Annotation}
use Rattle.c_model.specs.ClauseGrammar.{ReadAnnotation, Assertions, Contracted, Looped, annotations}
use Rattle.c_model.specs.ProgramGrammar.{first_loop, first_statement, first_branch, first_item, first_case, is_open, Numbered, Annotated, Looping, ReadCase}
use Rattle.c_model.specs.ProgramGrammar.{valued_case, default_case, case_label, case_item, case_items_once, case_items, next_case, cases, switch_statement}
use Rattle.c_model.specs.ProgramGrammar.{run_item, behind_annotation, annotated_item, condition, else_branch, else_part, selection, while_loop, do_loop, for_first, maybe_ended, returned, for_behind, for_loop, jump}
use Rattle.c_model.specs.ProgramGrammar.{return_statement, item, items_once, items, block, empty_statement, effect_statement, effect_behind, labelled_statement, named_statement, loop_of, unlooped_of, statement_of, branch_of, inside_of}
use Rattle.c_expr_parser.proofs.ExactTokens.{IsRead, fixed_good, name_good}
use Rattle.c_expr_parser.proofs.ExactTypes.{enlarged}
use Rattle.acsl_parser.proofs.ExactAnnotations.{annotations_good}
use Rattle.c_declaration_parser.proofs.ExactDeclarations.{ended_good, declaration_good}
use Rattle.c_expr_parser.proofs.ExactExpressions.{first_but_name, more_operand, placed_rest_kinds, closed_good, full_expression_good, full_placed_good, full_nameless_good, full_behind_name_good, full_level_good}

-- what stands behind a name with which `comma ";"` begins
abbrev behind_first_name : List ℕ
behind_first_name = more_operand ++ placed_rest_kinds ++ mark_kind semicolon ∷ []

module _ (ws : Vocabulary) where
  -- ---- parts of statements

  condition_good : IsRead ws (condition ws) false (mark_kind left_paren ∷ []) []
  unfolding condition
  condition_good = declared (seq (fixed_good ws (mark_kind left_paren)) (λ _. seq (full_expression_good ws) (λ e. closed_good ws e) refl) refl) refl

  for_first_good : (n : AnnotationState) → IsRead ws (for_first ws n) false (mark_kind semicolon ∷ first_type ++ first_expression) []
  unfolding for_first
  for_first_good n =
      declared (either first_type (seq (declaration_good ws) (λ x. given _) refl)
      (either first_expression (seq (full_placed_good ws) (λ e. ended_good ws _) refl) (ended_good ws _) refl) refl) refl

  maybe_ended_good : IsRead ws (maybe_ended ws) false (mark_kind semicolon ∷ first_expression) []
  unfolding maybe_ended
  maybe_ended_good = declared (either first_expression (seq (full_expression_good ws) (λ e. ended_good ws _) refl) (ended_good ws _) refl) refl

  returned_good : IsRead ws (returned ws) false (mark_kind semicolon ∷ first_expression) []
  unfolding returned
  returned_good = declared (either first_expression (seq (full_expression_good ws) (λ e. ended_good ws _) refl) (ended_good ws _) refl) refl

  for_behind_good : IsRead ws (for_behind ws) false (mark_kind right_paren ∷ first_expression) []
  unfolding for_behind
  for_behind_good = declared (either first_expression (seq (full_expression_good ws) (λ e. closed_good ws _) refl) (closed_good ws _) refl) refl

  jump_good : (n : AnnotationState) → IsRead ws (jump ws n) false (keyword_kind keyword.Break ∷ keyword_kind keyword.Continue ∷ []) []
  unfolding jump
  jump_good n =
      declared (either (keyword_kind keyword.Break ∷ []) (seq (fixed_good ws (keyword_kind keyword.Break)) (λ at. ended_good ws _) refl)
      (seq (fixed_good ws (keyword_kind keyword.Continue)) (λ at. ended_good ws _) refl) refl) refl

  return_good : (n : AnnotationState) → IsRead ws (return_statement ws n) false (keyword_kind keyword.Return ∷ []) []
  unfolding return_statement
  return_good n = declared (seq (fixed_good ws (keyword_kind keyword.Return)) (λ at. seq returned_good (λ e. given _) refl) refl) refl

  empty_good : (n : AnnotationState) → IsRead ws (empty_statement ws n) false (mark_kind semicolon ∷ []) []
  unfolding empty_statement
  empty_good n = declared (seq (fixed_good ws (mark_kind semicolon)) (λ at. given _) refl) refl

  effect_good : (n : AnnotationState) → IsRead ws (effect_statement ws n) false first_but_name []
  unfolding effect_statement
  effect_good n = declared (seq (full_nameless_good ws) (λ e. ended_good ws _) refl) refl

  effect_behind_good : (x : ℕ × Place) (n : AnnotationState) → IsRead ws (effect_behind ws x n) false behind_first_name []
  unfolding effect_behind
  effect_behind_good x n = declared (seq (full_behind_name_good ws x) (λ e. ended_good ws _) refl) refl

-- ---- an `if` without `else` at the end can go on with `else`

abbrev an_else : List ℕ
an_else = keyword_kind keyword.Else ∷ []

abbrev more_if : Bool → List ℕ
more_if b = cond b an_else []

abbrev pub more_statement : Statement × AnnotationState → List ℕ
more_statement x = more_if (is_open x.0)

abbrev first_else : Bool → List ℕ
first_else b = cond b [] an_else

within_else : (b : Bool) → within (more_if b) an_else ≡ true
within_else true = refl
within_else false = refl

within_same : (b : Bool) → within (more_if b) (more_if b) ≡ true
within_same true = refl
within_same false = refl

clash_else : (b : Bool) → apart (first_else b) (more_if b) ≡ true
clash_else true = refl
clash_else false = refl

abbrev if_alone : Place → Expression → Statement × AnnotationState → Statement × AnnotationState
if_alone at e x = (If at e x.0 NoElse, x.1)

-- a statement in a block is read exactly
abbrev pub ReadsStatements : Vocabulary → Numbered → Type 0
ReadsStatements ws T = (k : AnnotationState) → IsGood (kind ws) 0 (T k) (T k) false first_statement more_statement

-- a statement inside another is read exactly
abbrev pub ReadsBranches : Vocabulary → Numbered → Type 0
ReadsBranches ws S = (k : AnnotationState) → IsGood (kind ws) 0 (S k) (S k) false first_branch more_statement

-- what stands inside one behind an annotation is read exactly
abbrev pub ReadsAnnotated : Vocabulary → Annotated → Type 0
ReadsAnnotated ws A = (x : ReadAnnotation × ℕ) → ReadsBranches ws (A x)

module _ (ws : Vocabulary) where
  -- a statement of either sort as an item
  run_good : (T : Numbered) (first : List ℕ) (k : AnnotationState) → IsGood (kind ws) 0 (T k) (T k) false first more_statement → IsRead ws (run_item ws T k) false first an_else
  unfolding run_item
  run_good T first k t = made {more = λ _. an_else} (λ x. (Run x.0, x.1)) t (λ x. within_else (is_open x.0))

module _ (ws : Vocabulary) {B : Annotated} (b : ReadsAnnotated ws B) where
  behind_good : (k : AnnotationState) (x : ReadAnnotation × ℕ) → IsRead ws (behind_annotation ws B k x) true first_branch an_else
  unfolding behind_annotation
  behind_good k (Assertions asserts, n) = declared (given _) refl
  behind_good k (Contracted c, n) = declared (run_good ws (B (Contracted c, n)) first_branch k (b (Contracted c, n) k)) refl
  behind_good k (Looped l, n) = declared (run_good ws (B (Looped l, n)) first_branch k (b (Looped l, n) k)) refl

  annotated_good : (k : AnnotationState) → IsRead ws (annotated_item ws B k) false (annot_open_kind ∷ []) an_else
  unfolding annotated_item
  annotated_good k = declared (seq (annotations_good ws k.number) (behind_good k) refl) refl

module _ (ws : Vocabulary) {T : Numbered} {B : Annotated} (t : ReadsStatements ws T) (b : ReadsAnnotated ws B) where
  item_good : (k : AnnotationState) → IsRead ws (item ws T B k) false first_item an_else
  unfolding item
  item_good k =
      declared (either (annot_open_kind ∷ []) (annotated_good ws b k)
      (either first_type (seq (declaration_good ws) (λ i. given _) refl) (run_good ws T first_statement k (t k)) refl) refl) refl

  pub items_once_good : (x : List BlockItem × AnnotationState) → IsRead ws (items_once ws T B x) false first_item an_else
  unfolding items_once
  items_once_good x = declared (seq (item_good x.1) (λ i. given _) refl) refl

  pub items_good : (x : List BlockItem × AnnotationState) → IsRead ws (items ws T B x) true first_item (keyword_kind keyword.Else ∷ first_item)
  unfolding items
  items_good x = declared (again_and_again first_item items_once_good refl x) refl

  block_good : (k : AnnotationState) → IsRead ws (block ws T B k) false (mark_kind left_brace ∷ []) []
  unfolding block
  block_good k = declared (seq (fixed_good ws (mark_kind left_brace)) (λ at. seq (items_good ([], k)) (λ x. seq (fixed_good ws (mark_kind right_brace)) (λ _. given _) refl) refl) refl) refl

-- ---- the cases of a `switch`

module _ (ws : Vocabulary) where
  valued_case_good : IsRead ws (valued_case ws) false (keyword_kind keyword.Case ∷ []) []
  unfolding valued_case
  valued_case_good =
      declared (seq (fixed_good ws (keyword_kind keyword.Case)) (λ at. seq (full_level_good ws Conditional) (λ e. seq (fixed_good ws (mark_kind colon)) (λ _. given _) refl) refl) refl) refl

  default_case_good : IsRead ws (default_case ws) false (keyword_kind keyword.Default ∷ []) []
  unfolding default_case
  default_case_good = declared (seq (fixed_good ws (keyword_kind keyword.Default)) (λ at. seq (fixed_good ws (mark_kind colon)) (λ _. given _) refl) refl) refl

  case_label_good : IsRead ws (case_label ws) false first_case []
  unfolding case_label
  case_label_good = declared (either (keyword_kind keyword.Case ∷ []) valued_case_good default_case_good refl) refl

module _ (ws : Vocabulary) {T : Numbered} {B : Annotated} (t : ReadsStatements ws T) (b : ReadsAnnotated ws B) where
  case_item_good : (k : AnnotationState) → IsRead ws (case_item ws T B k) false first_branch an_else
  unfolding case_item
  case_item_good k = declared (either (annot_open_kind ∷ []) (annotated_good ws b k) (run_good ws T first_statement k (t k)) refl) refl

  pub case_items_once_good : (x : List BlockItem × AnnotationState) → IsRead ws (case_items_once ws T B x) false first_branch an_else
  unfolding case_items_once
  case_items_once_good x = declared (seq (case_item_good x.1) (λ i. given _) refl) refl

  case_items_good : (x : List BlockItem × AnnotationState) → IsRead ws (case_items ws T B x) true first_branch (keyword_kind keyword.Else ∷ first_branch)
  unfolding case_items
  case_items_good x = declared (again_and_again first_branch case_items_once_good refl x) refl

  pub next_case_good : (x : List ReadCase × AnnotationState) → IsRead ws (next_case ws T B x) false first_case (keyword_kind keyword.Else ∷ first_branch)
  unfolding next_case
  next_case_good x = declared (seq (case_label_good ws) (λ l. seq (case_items_good ([], x.1)) (λ y. given _) refl) refl) refl

  cases_good : (x : List ReadCase × AnnotationState) → IsRead ws (cases ws T B x) true first_case (keyword_kind keyword.Else ∷ first_case ++ first_branch)
  unfolding cases
  cases_good x = declared (again_and_again first_case next_case_good refl x) refl

  switch_good : (k : AnnotationState) → IsRead ws (switch_statement ws T B k) false (keyword_kind keyword.Switch ∷ []) []
  unfolding switch_statement
  switch_good k =
      declared (seq (fixed_good ws (keyword_kind keyword.Switch)) (λ at. seq (condition_good ws) (λ e. seq (fixed_good ws (mark_kind left_brace)) (λ _. seq (cases_good ([], k)) (λ x.
      seq (fixed_good ws (mark_kind right_brace)) (λ _. given _) refl) refl) refl) refl) refl) refl

module _ (ws : Vocabulary) {S : Numbered} (s : ReadsBranches ws S) where
  else_branch_good : (at : Place) (e : Expression) (x : Statement × AnnotationState) → IsGood (kind ws) 0 (else_branch ws S at e x) (else_branch ws S at e x) false an_else more_statement
  unfolding else_branch
  else_branch_good at e x = seq_to (fixed_good ws (keyword_kind keyword.Else)) (λ _. made (λ y. (If at e x.0 (Else y.0), y.1)) (s x.1) (λ y. within_same (is_open y.0))) refl

  else_part_good : (at : Place) (e : Expression) (x : Statement × AnnotationState) (b : Bool) → is_open x.0 ≡ b → IsGood (kind ws) 0 (else_part ws S at e x) (else_part ws S at e x) true (first_else b) more_statement
  unfolding else_part
  else_part_good at e x true is = rw is (same_good (kind ws) 0 (gives (if_alone at e x)) true [] more_statement (widen (kind ws) (gives (if_alone at e x)) true [] (λ _. []) true [] more_statement (gives_exact (kind ws) (if_alone at e x))
      (λ h. h) refl (λ y. refl)))
  else_part_good at e x false is = rw is (maybe_to an_else (if_alone at e x) (else_branch_good at e x) refl (λ y. within_same (is_open y.0)) refl)

  no_else : (at : Place) (e : Expression) (x y : Statement × AnnotationState) (b : Bool) → (cond b (gives (if_alone at e x)) (choice (kind ws) an_else (else_branch ws S at e x) (gives (if_alone at e x)))).reads [] y → if_alone at e x ≡ y
  no_else at e x y true r = r.1
  no_else at e x y false (inl r) = absurd (let f = (else_branch_good at e x).here.filled y r in cc)
  no_else at e x y false (inr r) = r.1

  no_part : (at : Place) (e : Expression) (x y : Statement × AnnotationState) → (else_part ws S at e x).reads [] y → if_alone at e x ≡ y
  unfolding else_part
  no_part at e x y r = no_else at e x y (is_open x.0) r

  branches_good : (at : Place) (e : Expression) (k : AnnotationState) → IsGood (kind ws) 0 (S k then λ x. else_part ws S at e x) (S k then λ x. else_part ws S at e x) false first_branch more_statement
  branches_good at e k =
      then_good (kind ws) 0 (S k) (S k) (λ x. else_part ws S at e x) (λ x. else_part ws S at e x) false first_branch more_statement true (λ x. first_else (is_open x.0)) (λ x y. more_statement y) false first_branch more_statement
      (λ x y. if_alone at e x ≡ y) (no_part at e) (no_part at e) (record {
        clash = λ x. clash_else (is_open x.0);
        late = λ x y. within_same (is_open y.0);
        over = λ x y h is. rw (← is) (within_else (is_open x.0));
        begin = refl;
        next = λ x h. absurd cc;
        empty = λ h k. absurd cc;
      }) (s k) (λ x. else_part_good at e x (is_open x.0) refl)

  selection_good : (k : AnnotationState) → IsGood (kind ws) 0 (selection ws S k) (selection ws S k) false (keyword_kind keyword.If ∷ []) more_statement
  unfolding selection
  selection_good k = seq_to (fixed_good ws (keyword_kind keyword.If)) (λ at. seq_to (condition_good ws) (λ e. branches_good at e k) refl) refl

  while_good : (annots : List Annotation) (k : AnnotationState) → IsGood (kind ws) 0 (while_loop ws S annots k) (while_loop ws S annots k) false (keyword_kind keyword.While ∷ []) more_statement
  unfolding while_loop
  while_good annots k = seq_to (fixed_good ws (keyword_kind keyword.While)) (λ at. seq_to (condition_good ws) (λ e. made (λ x. (While at annots e x.0, x.1)) (s k) (λ x. within_same (is_open x.0))) refl) refl

  do_good : (k : AnnotationState) → IsRead ws (do_loop ws S k) false (keyword_kind keyword.Do ∷ []) []
  unfolding do_loop
  do_good k =
      declared (seq (fixed_good ws (keyword_kind keyword.Do)) (λ at. seq (enlarged ws first_branch an_else (s k) refl (λ x. within_else (is_open x.0))) (λ x.
      seq (fixed_good ws (keyword_kind keyword.While)) (λ _. seq (condition_good ws) (λ e. ended_good ws _) refl) refl) refl) refl) refl

  for_good : (annots : List Annotation) (k : AnnotationState) → IsGood (kind ws) 0 (for_loop ws S annots k) (for_loop ws S annots k) false (keyword_kind keyword.For ∷ []) more_statement
  unfolding for_loop
  for_good annots k =
      seq_to (fixed_good ws (keyword_kind keyword.For)) (λ at. seq_to (fixed_good ws (mark_kind left_paren)) (λ _. seq_to (for_first_good ws k) (λ first.
      seq_to (maybe_ended_good ws) (λ e. seq_to (for_behind_good ws) (λ behind. made (λ x. (For at annots first.0 e behind x.0, x.1)) (s first.1) (λ x. within_same (is_open x.0))) refl) refl) refl) refl) refl

  labelled_good : (x : ℕ × Place) (k : AnnotationState) → IsGood (kind ws) 0 (labelled_statement ws S x k) (labelled_statement ws S x k) false (mark_kind colon ∷ []) more_statement
  unfolding labelled_statement
  labelled_good x k = seq_to (fixed_good ws (mark_kind colon)) (λ _. made (λ y. (Labelled x.1 x.0 y.0, y.1)) (s k) (λ y. within_same (is_open y.0))) refl

  named_good : (k : AnnotationState) → IsGood (kind ws) 0 (named_statement ws S k) (named_statement ws S k) false (name_kind ∷ []) more_statement
  unfolding named_statement
  named_good k =
      seq_to (name_good ws) (λ x. either_to (mark_kind colon ∷ []) {first = mark_kind colon ∷ behind_first_name} {more = more_statement} (labelled_good x k) (effect_behind_good ws x k)
      refl (λ y. within_same (is_open y.0)) (λ y. refl)) refl

abbrev jumps : List ℕ
jumps = keyword_kind keyword.Break ∷ keyword_kind keyword.Continue ∷ []

-- what begins a statement that is no loop to which annotations may belong
abbrev pub first_unlooped : List ℕ
first_unlooped =
    mark_kind left_brace ∷ mark_kind semicolon ∷ keyword_kind keyword.If ∷ keyword_kind keyword.Do ∷ keyword_kind keyword.Switch ∷ keyword_kind keyword.Return ∷ jumps ++ first_expression

module _ (ws : Vocabulary) {S : Numbered} (s : ReadsBranches ws S) where
  pub loop_of_good : (annots : List Annotation) (k : AnnotationState) → IsGood (kind ws) 0 (loop_of ws S annots k) (loop_of ws S annots k) false first_loop more_statement
  unfolding loop_of
  loop_of_good annots k =
      either_to (keyword_kind keyword.While ∷ []) (while_good ws s annots k) (for_good ws s annots k) refl (λ x. within_same (is_open x.0)) (λ x. within_same (is_open x.0))

module _ (ws : Vocabulary) {T S : Numbered} {B : Annotated} (t : ReadsStatements ws T) (b : ReadsAnnotated ws B) (s : ReadsBranches ws S) where
  pub unlooped_good : (k : AnnotationState) → IsGood (kind ws) 0 (unlooped_of ws T B S k) (unlooped_of ws T B S k) false first_unlooped more_statement
  unfolding unlooped_of
  unlooped_good k =
      either_to (mark_kind left_brace ∷ []) (block_good ws t b k)
      (either_to (mark_kind semicolon ∷ []) {first = mark_kind semicolon ∷ keyword_kind keyword.If ∷ keyword_kind keyword.Do ∷ keyword_kind keyword.Switch ∷ keyword_kind keyword.Return ∷ jumps ++ first_expression} (empty_good ws k)
      (either_to (keyword_kind keyword.If ∷ []) {first = keyword_kind keyword.If ∷ keyword_kind keyword.Do ∷ keyword_kind keyword.Switch ∷ keyword_kind keyword.Return ∷ jumps ++ first_expression} (selection_good ws s k)
      (either_to (keyword_kind keyword.Do ∷ []) {first = keyword_kind keyword.Do ∷ keyword_kind keyword.Switch ∷ keyword_kind keyword.Return ∷ jumps ++ first_expression} (do_good ws s k)
      (either_to (keyword_kind keyword.Switch ∷ []) {first = keyword_kind keyword.Switch ∷ keyword_kind keyword.Return ∷ jumps ++ first_expression} (switch_good ws t b k)
      (either_to (keyword_kind keyword.Return ∷ []) {first = keyword_kind keyword.Return ∷ jumps ++ first_expression} (return_good ws k)
      (either_to jumps {first = jumps ++ first_expression} {more = more_statement} (jump_good ws k)
      (either_to (name_kind ∷ []) {first = first_expression} {more = more_statement} (named_good ws s k) (effect_good ws k) refl (λ x. within_same (is_open x.0)) (λ x. refl))
      refl (λ x. refl) (λ x. within_same (is_open x.0)))
      refl (λ x. refl) (λ x. within_same (is_open x.0)))
      refl (λ x. refl) (λ x. within_same (is_open x.0)))
      refl (λ x. refl) (λ x. within_same (is_open x.0)))
      refl (λ x. within_same (is_open x.0)) (λ x. within_same (is_open x.0)))
      refl (λ x. refl) (λ x. within_same (is_open x.0)))
      refl (λ x. refl) (λ x. within_same (is_open x.0))

  pub statement_of_good : (k : AnnotationState) → IsGood (kind ws) 0 (statement_of ws T B S k) (statement_of ws T B S k) false first_statement more_statement
  unfolding statement_of
  statement_of_good k = either_to first_loop (loop_of_good ws s [] k) (unlooped_good k) refl (λ x. within_same (is_open x.0)) (λ x. within_same (is_open x.0))

module _ (ws : Vocabulary) {A : Annotated} (a : ReadsAnnotated ws A) where
  annotated_branch_good : (k : AnnotationState) → IsGood (kind ws) 0 (annotations ws k.number then λ x. A x k) (annotations ws k.number then λ x. A x k) false (annot_open_kind ∷ []) more_statement
  annotated_branch_good k = seq_to (annotations_good ws k.number) (λ x. a x k) refl

  pub branch_of_good : {T : Numbered} → ReadsStatements ws T → (k : AnnotationState) → IsGood (kind ws) 0 (branch_of ws T A k) (branch_of ws T A k) false first_branch more_statement
  unfolding branch_of
  branch_of_good t k = either_to (annot_open_kind ∷ []) (annotated_branch_good k) (t k) refl (λ x. within_same (is_open x.0)) (λ x. within_same (is_open x.0))

  -- a branch that is no loop
  unlooped_branch_good : {U : Numbered} → ((k : AnnotationState) → IsGood (kind ws) 0 (U k) (U k) false first_unlooped more_statement) → (k : AnnotationState)
      → IsGood (kind ws) 0 (branch_of ws U A k) (branch_of ws U A k) false (annot_open_kind ∷ first_unlooped) more_statement
  unfolding branch_of
  unlooped_branch_good u k = either_to (annot_open_kind ∷ []) (annotated_branch_good k) (u k) refl (λ x. within_same (is_open x.0)) (λ x. within_same (is_open x.0))

  module _ {W : Looping} {T U : Numbered} (w : (annots : List Annotation) (k : AnnotationState) → IsGood (kind ws) 0 (W annots k) (W annots k) false first_loop more_statement) (t : ReadsStatements ws T)
      (u : (k : AnnotationState) → IsGood (kind ws) 0 (U k) (U k) false first_unlooped more_statement) where
    pub inside_of_good : ReadsAnnotated ws (inside_of ws W T U A)
    unfolding inside_of
    inside_of_good (Assertions asserts, n) k = branch_of_good t _
    inside_of_good (Contracted c, n) k = branch_of_good t _
    inside_of_good (Looped l, n) k = either_to first_loop (w l.clauses _) (unlooped_branch_good u _) refl (λ x. within_same (is_open x.0)) (λ x. within_same (is_open x.0))
