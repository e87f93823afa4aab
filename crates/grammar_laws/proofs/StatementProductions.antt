-- The productions of statements are those of the head of their grammar.
use Rattle.std.proofs.Common.{ℕ, zero, suc, cond, not, List, [], ◌∷◌, Option, Some, None, refl, inl, inr}
use Rattle.grammar.specs.Syntax.{Syntax, none, gives, ◌then◌, choice, deep}
use Rattle.grammar.specs.Exact.{Same}
use Rattle.grammar.proofs.Forms.{to_left}
use Rattle.grammar_laws.specs.Plain.{◌or◌, only}
use Rattle.grammar_laws.proofs.FirstNames.{full_forth, full_back}
use Rattle.grammar_laws.proofs.Inclusions.{Within, both, forth, back, itself, ◌so◌, first, each, on, in_turn, turns, unless_forth, unless_back, maybe_forth}
use Rattle.grammar_laws.proofs.Inclusions.{either, second, nothing, apart_after, either_before, maybe_back, deeper}
use Rattle.c_syntax.specs.declared.place.Place.{Place}
use Rattle.c_syntax.specs.Expressions.{Expression}
use Rattle.c_syntax.specs.Logic.{Annotation}
use Rattle.c_syntax.specs.Statements as statement
use Rattle.c_syntax.specs.Statements.{Statement, NoElse, ForFirst, BlockItem}
use Rattle.c_syntax.specs.Tokens.{PlainToken}
use Rattle.c_model.specs.declared.declarations.AnnotationState.{AnnotationState}
use Rattle.c_model.specs.declared.vocabulary.Keyword.TheVariants as keyword
use Rattle.c_model.specs.Vocabulary.{Vocabulary}
use Rattle.c_model.specs.Punctuators.{semicolon, colon, left_paren, right_paren, left_brace}
use Rattle.c_model.specs.Terminals.{nesting_limit}
use Rattle.c_model.specs.ClauseGrammar.{ReadAnnotation, Assertions, Contracted, Looped, annotations}
use Rattle.c_model.specs.ExpressionGrammar.{name_kind, annot_open_kind, keyword_kind, mark_kind, kind, first_type, first_expression, mark, reserved}
use Rattle.c_model.specs.ExpressionGrammar.{closed, name, full_expression, full_nameless_expression, full_expression_behind}
use Rattle.c_model.specs.DeclarationGrammar.{ended}
use Rattle.c_model.specs.ProgramGrammar.{Numbered, Annotated, Looping, ReadCase, first_statement, first_loop, first_item, first_branch, first_case, is_open, after_placed, after_misplaced, after_loop}
use Rattle.c_model.specs.ProgramGrammar.{statement_of, branch_of, statement_in, branch_in, behind_in, inside_in}
use Rattle.c_model.specs.ProgramGrammar as parsed
use Rattle.grammar_laws.specs.StatementProductions as production

abbrev no : PlainToken → ℕ
no t = 0

abbrev Stated : Type 0
Stated = Statement × AnnotationState

module _ (ws : Vocabulary) where
  -- ---- items and blocks

  abbrev Itemized : Type 0
  Itemized = BlockItem × AnnotationState

  -- what stands behind an annotation, for asserts and for a contract
  abbrev AsAsserts : AnnotationState → ReadAnnotation × ℕ → Syntax PlainToken Itemized
  AsAsserts n x = only (production.are_asserts x.0) (gives (statement.Asserts (production.asserts_of x.0), after_placed n x.1))

  abbrev AsOther : Annotated → AnnotationState → ReadAnnotation × ℕ → Syntax PlainToken Itemized
  AsOther B n x = only (not (production.are_asserts x.0)) (B x n then λ y. gives (statement.Run y.0, y.1))

  -- nothing is read of no token
  abbrev Begins : Annotated → Type 0
  Begins B = (x : ReadAnnotation × ℕ) (m : AnnotationState) → (B x m).begun []

  module _ (B : Annotated) (n : AnnotationState) where
    behind_note : (x : ReadAnnotation × ℕ) → Within (parsed.behind_annotation ws B n x) (AsAsserts n x or AsOther B n x)
    unfolding parsed.behind_annotation parsed.run_item
    behind_note (Assertions a, k) = first no [] none (itself _)
    behind_note (Contracted c, k) = second no [] none (itself _)
    behind_note (Looped l, k) = second no [] none (itself _)

    asserts_back : (x : ReadAnnotation × ℕ) → Begins B → Within (AsAsserts n x) (parsed.behind_annotation ws B n x)
    unfolding parsed.behind_annotation parsed.run_item
    asserts_back (Assertions a, k) empty = itself _
    asserts_back (Contracted c, k) empty = nothing _ (inl (empty (Contracted c, k) n))
    asserts_back (Looped l, k) empty = nothing _ (inl (empty (Looped l, k) n))

    other_back : (x : ReadAnnotation × ℕ) → Within (AsOther B n x) (parsed.behind_annotation ws B n x)
    unfolding parsed.behind_annotation parsed.run_item
    other_back (Assertions a, k) = nothing _ refl
    other_back (Contracted c, k) = itself _
    other_back (Looped l, k) = itself _

    annotated_forth : Within (parsed.annotated_item ws B n) (production.asserts ws n or production.annotated ws B n)
    unfolding parsed.annotated_item
    annotated_forth = on (annotations ws n.number) behind_note so apart_after no [] (annotations ws n.number) (AsAsserts n) (AsOther B n)

    annotated_back : Begins B → Within (production.asserts ws n or production.annotated ws B n) (parsed.annotated_item ws B n)
    unfolding parsed.annotated_item
    annotated_back empty = either no [] (on (annotations ws n.number) (λ x. asserts_back x empty)) (on (annotations ws n.number) other_back)

  pub item_line : (T : Numbered) (B : Annotated) (n : AnnotationState) → Begins B → Same (parsed.item ws T B n) (production.item ws T B n)
  unfolding parsed.item parsed.run_item
  item_line T B n empty =
      both (either (kind ws) (annot_open_kind ∷ []) (annotated_forth B n so either no [] (first no [] _ (itself _)) (second no [] _ (first no [] _ (itself _))))
      (second no [] _ (second no [] _ (each (kind ws) first_type no [] (itself _) (itself _)))))
      (either no [] (first no [] _ (itself _) so annotated_back B n empty so first (kind ws) (annot_open_kind ∷ []) _ (itself _))
      (either no [] (second no [] _ (itself _) so annotated_back B n empty so first (kind ws) (annot_open_kind ∷ []) _ (itself _))
      (second (kind ws) (annot_open_kind ∷ []) _ (each no [] (kind ws) first_type (itself _) (itself _)))))

  pub items_line : (T : Numbered) (B : Annotated) (n : AnnotationState) → Same (parsed.items ws T B ([], n)) (production.items ws T B n)
  unfolding parsed.items parsed.items_once
  items_line T B n =
      both (turns (kind ws) (λ _. first_item) no (λ _. []) (λ y. itself _) ([], n)) (turns no (λ _. []) (kind ws) (λ _. first_item) (λ y. itself _) ([], n))

  block_line : (T : Numbered) (B : Annotated) (n : AnnotationState) → Same (parsed.block ws T B n) (production.block ws T B n)
  unfolding parsed.block
  block_line T B n =
      both (on (mark ws left_brace) (λ at. in_turn (forth (items_line T B n)) (λ x. itself _))) (on (mark ws left_brace) (λ at. in_turn (back (items_line T B n)) (λ x. itself _)))

  -- ---- statements

  else_forth : (S : Numbered) (at : Place) (e : Expression) (x : Stated)
      → Within (parsed.else_part ws S at e x) (gives (statement.If at e x.0 NoElse, x.1) or cond (is_open x.0) none (parsed.else_branch ws S at e x))
  unfolding parsed.else_part
  else_forth S at e x = unless_forth (kind ws) (keyword_kind keyword.Else ∷ []) no [] (is_open x.0) (gives (statement.If at e x.0 NoElse, x.1)) (parsed.else_branch ws S at e x)

  else_back : (S : Numbered) (at : Place) (e : Expression) (x : Stated)
      → Within (gives (statement.If at e x.0 NoElse, x.1) or cond (is_open x.0) none (parsed.else_branch ws S at e x)) (parsed.else_part ws S at e x)
  unfolding parsed.else_part
  else_back S at e x = unless_back (kind ws) (keyword_kind keyword.Else ∷ []) no [] (is_open x.0) (gives (statement.If at e x.0 NoElse, x.1)) (parsed.else_branch ws S at e x) refl

  selection_line : (S : Numbered) (n : AnnotationState) → Same (parsed.selection ws S n) (production.selection ws S n)
  unfolding parsed.selection parsed.condition parsed.else_branch closed
  selection_line S n =
      both (on (reserved ws keyword.If) (λ at. on (production.condition ws) (λ e. on (S n) (λ x. else_forth S at e x))))
      (on (reserved ws keyword.If) (λ at. on (production.condition ws) (λ e. on (S n) (λ x. else_back S at e x))))

  for_first_line : (n : AnnotationState) → Same (parsed.for_first ws n) (production.for_first ws n)
  unfolding parsed.for_first ended
  for_first_line n =
      both (each (kind ws) first_type no [] (itself _) (each (kind ws) first_expression no [] (itself _) (itself _)))
      (each no [] (kind ws) first_type (itself _) (each no [] (kind ws) first_expression (itself _) (itself _)))

  -- after the first part of `for`
  abbrev turned : Numbered → List Annotation → Place → ForFirst × AnnotationState → Option Expression → Option Expression → Syntax PlainToken Stated
  turned S annots at first e behind = S first.1 then λ x. gives (statement.For at annots first.0 e behind x.0, x.1)

  abbrev Behind : Syntax PlainToken (Option Expression)
  Behind = production.maybe ws (full_expression ws)

  behind_forth : (S : Numbered) (annots : List Annotation) (at : Place) (first : ForFirst × AnnotationState) (e : Option Expression) → (S first.1).begun []
      → Within (parsed.for_behind ws then turned S annots at first e) (Behind then λ behind. mark ws right_paren then λ _. turned S annots at first e behind)
  unfolding parsed.for_behind closed
  behind_forth S annots at first e empty = maybe_forth (kind ws) first_expression no [] (full_expression ws) (mark ws right_paren) Some None (turned S annots at first e) (λ b. inl empty)

  behind_back : (S : Numbered) (annots : List Annotation) (at : Place) (first : ForFirst × AnnotationState) (e : Option Expression)
      → Within (Behind then λ behind. mark ws right_paren then λ _. turned S annots at first e behind) (parsed.for_behind ws then turned S annots at first e)
  unfolding parsed.for_behind closed
  behind_back S annots at first e = maybe_back (kind ws) first_expression no [] (full_expression ws) (mark ws right_paren) Some None (turned S annots at first e) (inl refl)

  behind_empty : (parsed.for_behind ws).begun []
  unfolding parsed.for_behind closed
  behind_empty = inr (inl (inl refl))

  while_forth : (S : Numbered) (annots : List Annotation) (at : Place) (first : ForFirst × AnnotationState)
      → Within (parsed.maybe_ended ws then λ e. parsed.for_behind ws then turned S annots at first e)
      (production.maybe ws (full_expression ws) then λ e. mark ws semicolon then λ _. parsed.for_behind ws then turned S annots at first e)
  unfolding parsed.maybe_ended ended
  while_forth S annots at first =
      maybe_forth (kind ws) first_expression no [] (full_expression ws) (mark ws semicolon) Some None (λ e. parsed.for_behind ws then turned S annots at first e) (λ e. inl behind_empty)

  while_back : (S : Numbered) (annots : List Annotation) (at : Place) (first : ForFirst × AnnotationState)
      → Within (production.maybe ws (full_expression ws) then λ e. mark ws semicolon then λ _. parsed.for_behind ws then turned S annots at first e)
      (parsed.maybe_ended ws then λ e. parsed.for_behind ws then turned S annots at first e)
  unfolding parsed.maybe_ended ended
  while_back S annots at first =
      maybe_back (kind ws) first_expression no [] (full_expression ws) (mark ws semicolon) Some None (λ e. parsed.for_behind ws then turned S annots at first e) (inl refl)

  for_line : (S : Numbered) (annots : List Annotation) (n : AnnotationState) → ((m : AnnotationState) → (S m).begun []) → Same (parsed.for_loop ws S annots n) (production.for_loop ws S annots n)
  unfolding parsed.for_loop
  for_line S annots n empty =
      both
      (on (reserved ws keyword.For) (λ at. on (mark ws left_paren) (λ _. in_turn (forth (for_first_line n)) (λ first.
      while_forth S annots at first so on (production.maybe ws (full_expression ws)) (λ e. on (mark ws semicolon) (λ _. behind_forth S annots at first e (empty first.1)))))))
      (on (reserved ws keyword.For) (λ at. on (mark ws left_paren) (λ _. in_turn (back (for_first_line n)) (λ first.
      on (production.maybe ws (full_expression ws)) (λ e. on (mark ws semicolon) (λ _. behind_back S annots at first e)) so while_back S annots at first))))

  abbrev returning : AnnotationState → Place → Option Expression → Syntax PlainToken Stated
  returning n at e = gives (statement.Return at e, n)

  return_line : (n : AnnotationState) → Same (parsed.return_statement ws n) (production.return_statement ws n)
  unfolding parsed.return_statement parsed.returned ended
  return_line n =
      both (on (reserved ws keyword.Return) (λ at. maybe_forth (kind ws) first_expression no [] (full_expression ws) (mark ws semicolon) Some None (returning n at) (λ e. refl)))
      (on (reserved ws keyword.Return) (λ at. maybe_back (kind ws) first_expression no [] (full_expression ws) (mark ws semicolon) Some None (returning n at) (inl refl)))

  jump_line : (n : AnnotationState) → Same (parsed.jump ws n) (production.jump ws n)
  unfolding parsed.jump ended
  jump_line n = both (each (kind ws) (keyword_kind keyword.Break ∷ []) no [] (itself _) (itself _)) (each no [] (kind ws) (keyword_kind keyword.Break ∷ []) (itself _) (itself _))

  while_line : (S : Numbered) (annots : List Annotation) (n : AnnotationState) → Same (parsed.while_loop ws S annots n) (production.while_loop ws S annots n)
  unfolding parsed.while_loop parsed.condition closed
  while_line S annots n = both (itself _) (itself _)

  loop_line : (S : Numbered) (annots : List Annotation) (n : AnnotationState) → ((m : AnnotationState) → (S m).begun []) → Same (parsed.loop_of ws S annots n) (production.loop ws S annots n)
  unfolding parsed.loop_of
  loop_line S annots n empty =
      both (each (kind ws) (keyword_kind keyword.While ∷ []) no [] (forth (while_line S annots n)) (forth (for_line S annots n empty)))
      (each no [] (kind ws) (keyword_kind keyword.While ∷ []) (back (while_line S annots n)) (back (for_line S annots n empty)))

  do_line : (S : Numbered) (n : AnnotationState) → Same (parsed.do_loop ws S n) (production.do_loop ws S n)
  unfolding parsed.do_loop parsed.condition closed ended
  do_line S n = both (itself _) (itself _)

  empty_line : (n : AnnotationState) → Same (parsed.empty_statement ws n) (production.empty ws n)
  unfolding parsed.empty_statement
  empty_line n = both (itself _) (itself _)

  -- a label, or an expression that begins with a name; and one that doesn't
  abbrev AsEffect : AnnotationState → Expression × Place → Syntax PlainToken Stated
  AsEffect n e = mark ws semicolon then λ _. gives (statement.Eval e.1 e.0, n)

  abbrev NamedEffect : AnnotationState → Syntax PlainToken Stated
  NamedEffect n = name ws then λ x. full_expression_behind ws x then AsEffect n

  abbrev NamelessEffect : AnnotationState → Syntax PlainToken Stated
  NamelessEffect n = full_nameless_expression ws then AsEffect n

  effect_forth : (n : AnnotationState) → Within (production.effect_statement ws n) (choice (kind ws) (name_kind ∷ []) (NamedEffect n) (NamelessEffect n))
  effect_forth n =
      in_turn (full_forth ws) (λ e. itself (AsEffect n e)) so either_before (kind ws) (name_kind ∷ []) (AsEffect n)
      (back (to_left (name ws) (λ x. full_expression_behind ws x) (AsEffect n)) so first (kind ws) (name_kind ∷ []) _ (itself (NamedEffect n)))
      (second (kind ws) (name_kind ∷ []) _ (itself (NamelessEffect n)))

  named_in_effect : (n : AnnotationState) → Within (NamedEffect n) (production.effect_statement ws n)
  named_in_effect n = forth (to_left (name ws) (λ x. full_expression_behind ws x) (AsEffect n)) so in_turn (first (kind ws) (name_kind ∷ []) _ (itself _) so full_back ws) (λ e. itself (AsEffect n e))

  nameless_in_effect : (n : AnnotationState) → Within (NamelessEffect n) (production.effect_statement ws n)
  nameless_in_effect n = in_turn (second (kind ws) (name_kind ∷ []) _ (itself _) so full_back ws) (λ e. itself (AsEffect n e))

  abbrev Last : Numbered → AnnotationState → Syntax PlainToken Stated
  Last S n = choice (kind ws) (name_kind ∷ []) (parsed.named_statement ws S n) (parsed.effect_statement ws n)

  last_forth : (S : Numbered) (n : AnnotationState) → Within (Last S n) (production.effect_statement ws n or production.labelled ws S n)
  unfolding parsed.named_statement parsed.labelled_statement parsed.effect_behind parsed.effect_statement ended
  last_forth S n =
      either (kind ws) (name_kind ∷ [])
      (apart_after (kind ws) (mark_kind colon ∷ []) (name ws) (λ x. parsed.labelled_statement ws S x n) (λ x. parsed.effect_behind ws x n)
      so either (kind ws) (mark_kind colon ∷ []) (second no [] _ (itself (production.labelled ws S n))) (first no [] _ (named_in_effect n)))
      (first no [] _ (nameless_in_effect n))

  labelled_back : (S : Numbered) (n : AnnotationState) → Within (production.labelled ws S n) (Last S n)
  unfolding parsed.named_statement parsed.labelled_statement
  labelled_back S n = on (name ws) (λ x. first (kind ws) (mark_kind colon ∷ []) _ (itself _)) so first (kind ws) (name_kind ∷ []) _ (itself _)

  effect_back : (S : Numbered) (n : AnnotationState) → Within (production.effect_statement ws n) (Last S n)
  unfolding parsed.named_statement parsed.effect_behind parsed.effect_statement ended
  effect_back S n =
      effect_forth n
      so each (kind ws) (name_kind ∷ []) (kind ws) (name_kind ∷ []) (on (name ws) (λ x. second (kind ws) (mark_kind colon ∷ []) _ (itself _))) (itself _)

  -- ---- `switch`

  label_line : Same (parsed.case_label ws) (production.case_label ws)
  unfolding parsed.case_label parsed.valued_case parsed.default_case
  label_line = both (each (kind ws) (keyword_kind keyword.Case ∷ []) no [] (itself _) (itself _)) (each no [] (kind ws) (keyword_kind keyword.Case ∷ []) (itself _) (itself _))

  module _ (T : Numbered) (B : Annotated) (empty : Begins B) where
    case_item_line : (n : AnnotationState) → Same (parsed.case_item ws T B n) (production.case_item ws T B n)
    unfolding parsed.case_item parsed.run_item
    case_item_line n =
        both (either (kind ws) (annot_open_kind ∷ []) (annotated_forth B n so either no [] (first no [] _ (itself _)) (second no [] _ (first no [] _ (itself _)))) (second no [] _ (second no [] _ (itself _))))
        (either no [] (first no [] _ (itself _) so annotated_back B n empty so first (kind ws) (annot_open_kind ∷ []) _ (itself _))
        (either no [] (second no [] _ (itself _) so annotated_back B n empty so first (kind ws) (annot_open_kind ∷ []) _ (itself _))
        (second (kind ws) (annot_open_kind ∷ []) _ (itself _))))

    case_items_line : (n : AnnotationState) → Same (parsed.case_items ws T B ([], n)) (production.case_items ws T B n)
    unfolding parsed.case_items parsed.case_items_once
    case_items_line n =
        both (turns (kind ws) (λ _. first_branch) no (λ _. []) (λ y. in_turn (forth (case_item_line y.1)) (λ i. itself _)) ([], n))
        (turns no (λ _. []) (kind ws) (λ _. first_branch) (λ y. in_turn (back (case_item_line y.1)) (λ i. itself _)) ([], n))

    next_case_line : (x : List ReadCase × AnnotationState) → Same (parsed.next_case ws T B x) (production.next_case ws T B x)
    unfolding parsed.next_case
    next_case_line x =
        both (in_turn (forth label_line) (λ l. in_turn (forth (case_items_line x.1)) (λ y. itself _))) (in_turn (back label_line) (λ l. in_turn (back (case_items_line x.1)) (λ y. itself _)))

    cases_line : (n : AnnotationState) → Same (parsed.cases ws T B ([], n)) (production.cases ws T B n)
    unfolding parsed.cases
    cases_line n =
        both (turns (kind ws) (λ _. first_case) no (λ _. []) (λ y. forth (next_case_line y)) ([], n)) (turns no (λ _. []) (kind ws) (λ _. first_case) (λ y. back (next_case_line y)) ([], n))

    switch_line : (n : AnnotationState) → Same (parsed.switch_statement ws T B n) (production.switch_statement ws T B n)
    unfolding parsed.switch_statement parsed.condition closed
    switch_line n =
        both (on (reserved ws keyword.Switch) (λ at. on (production.condition ws) (λ e. on (mark ws left_brace) (λ _. in_turn (forth (cases_line n)) (λ x. itself _)))))
        (on (reserved ws keyword.Switch) (λ at. on (production.condition ws) (λ e. on (mark ws left_brace) (λ _. in_turn (back (cases_line n)) (λ x. itself _)))))

  unlooped_line : (T : Numbered) (B : Annotated) (S : Numbered) (n : AnnotationState) → Begins B → Same (parsed.unlooped_of ws T B S n) (production.unlooped ws T B S n)
  unfolding parsed.unlooped_of
  unlooped_line T B S n empty =
      both
      (either (kind ws) (mark_kind left_brace ∷ []) (first no [] _ (forth (block_line T B n)))
      (either (kind ws) (mark_kind semicolon ∷ []) (second no [] _ (first no [] _ (forth (empty_line n))))
      (either (kind ws) (keyword_kind keyword.If ∷ []) (second no [] _ (second no [] _ (second no [] _ (second no [] _ (first no [] _ (forth (selection_line S n)))))))
      (either (kind ws) (keyword_kind keyword.Do ∷ []) (second no [] _ (second no [] _ (second no [] _ (second no [] _ (second no [] _ (first no [] _ (forth (do_line S n))))))))
      (either (kind ws) (keyword_kind keyword.Switch ∷ []) (second no [] _ (second no [] _ (second no [] _ (second no [] _ (second no [] _ (second no [] _ (first no [] _ (forth (switch_line T B empty n)))))))))
      (either (kind ws) (keyword_kind keyword.Return ∷ []) (second no [] _ (second no [] _ (second no [] _ (second no [] _ (second no [] _ (second no [] _ (second no [] _ (second no [] _ (forth (return_line n))))))))))
      (either (kind ws) (keyword_kind keyword.Break ∷ keyword_kind keyword.Continue ∷ []) (second no [] _ (second no [] _ (second no [] _ (second no [] _ (second no [] _ (second no [] _ (second no [] _ (first no [] _ (forth (jump_line n))))))))))
      (last_forth S n so either no [] (second no [] _ (second no [] _ (first no [] _ (itself _)))) (second no [] _ (second no [] _ (second no [] _ (first no [] _ (itself _)))))))))))))
      (either no [] (first (kind ws) (mark_kind left_brace ∷ []) _ (back (block_line T B n)))
      (either no [] (second (kind ws) (mark_kind left_brace ∷ []) _ (first (kind ws) (mark_kind semicolon ∷ []) _ (back (empty_line n))))
      (either no [] (second (kind ws) (mark_kind left_brace ∷ []) _ (second (kind ws) (mark_kind semicolon ∷ []) _
      (second (kind ws) (keyword_kind keyword.If ∷ []) _ (second (kind ws) (keyword_kind keyword.Do ∷ []) _ (second (kind ws) (keyword_kind keyword.Switch ∷ []) _
      (second (kind ws) (keyword_kind keyword.Return ∷ []) _ (second (kind ws) (keyword_kind keyword.Break ∷ keyword_kind keyword.Continue ∷ []) _ (effect_back S n))))))))
      (either no [] (second (kind ws) (mark_kind left_brace ∷ []) _ (second (kind ws) (mark_kind semicolon ∷ []) _
      (second (kind ws) (keyword_kind keyword.If ∷ []) _ (second (kind ws) (keyword_kind keyword.Do ∷ []) _ (second (kind ws) (keyword_kind keyword.Switch ∷ []) _
      (second (kind ws) (keyword_kind keyword.Return ∷ []) _ (second (kind ws) (keyword_kind keyword.Break ∷ keyword_kind keyword.Continue ∷ []) _ (labelled_back S n))))))))
      (either no [] (second (kind ws) (mark_kind left_brace ∷ []) _ (second (kind ws) (mark_kind semicolon ∷ []) _ (first (kind ws) (keyword_kind keyword.If ∷ []) _ (back (selection_line S n)))))
      (either no [] (second (kind ws) (mark_kind left_brace ∷ []) _ (second (kind ws) (mark_kind semicolon ∷ []) _ (second (kind ws) (keyword_kind keyword.If ∷ []) _ (first (kind ws) (keyword_kind keyword.Do ∷ []) _ (back (do_line S n))))))
      (either no [] (second (kind ws) (mark_kind left_brace ∷ []) _ (second (kind ws) (mark_kind semicolon ∷ []) _
      (second (kind ws) (keyword_kind keyword.If ∷ []) _ (second (kind ws) (keyword_kind keyword.Do ∷ []) _ (first (kind ws) (keyword_kind keyword.Switch ∷ []) _ (back (switch_line T B empty n)))))))
      (either no [] (second (kind ws) (mark_kind left_brace ∷ []) _ (second (kind ws) (mark_kind semicolon ∷ []) _
      (second (kind ws) (keyword_kind keyword.If ∷ []) _ (second (kind ws) (keyword_kind keyword.Do ∷ []) _ (second (kind ws) (keyword_kind keyword.Switch ∷ []) _
      (second (kind ws) (keyword_kind keyword.Return ∷ []) _ (first (kind ws) (keyword_kind keyword.Break ∷ keyword_kind keyword.Continue ∷ []) _ (back (jump_line n)))))))))
      (second (kind ws) (mark_kind left_brace ∷ []) _ (second (kind ws) (mark_kind semicolon ∷ []) _ (second (kind ws) (keyword_kind keyword.If ∷ []) _
      (second (kind ws) (keyword_kind keyword.Do ∷ []) _ (second (kind ws) (keyword_kind keyword.Switch ∷ []) _ (first (kind ws) (keyword_kind keyword.Return ∷ []) _ (back (return_line n))))))))))))))))

  one_of : (T : Numbered) (B : Annotated) (S : Numbered) (n : AnnotationState) → Begins B → ((m : AnnotationState) → (S m).begun []) → Same (statement_of ws T B S n) (production.stmt ws T B S n)
  unfolding statement_of
  one_of T B S n empty begins =
      let l = loop_line S [] n begins in
      let u = unlooped_line T B S n empty in
      both (each (kind ws) first_loop no [] (forth l) (forth u)) (each no [] (kind ws) first_loop (back l) (back u))

  unlooped_empty : (T : Numbered) (B : Annotated) (S : Numbered) (n : AnnotationState) → (parsed.unlooped_of ws T B S n).begun []
  unfolding parsed.unlooped_of parsed.block
  unlooped_empty T B S n = inl (inl (inl refl))

  statement_of_empty : (T : Numbered) (B : Annotated) (S : Numbered) (n : AnnotationState) → (statement_of ws T B S n).begun []
  unfolding statement_of
  statement_of_empty T B S n = inr (unlooped_empty T B S n)

  too_deep_empty : (n : AnnotationState) → (parsed.too_deep ws n).begun []
  unfolding parsed.too_deep branch_of
  too_deep_empty n = inr (statement_of_empty (λ m. none) (λ x m. none) (λ m. none) n)

  branch_empty : (d : ℕ) (n : AnnotationState) → (branch_in ws d n).begun []
  unfolding branch_in branch_of
  branch_empty zero n = too_deep_empty n
  branch_empty (suc d) n = inr (statement_of_empty (statement_in ws d) (inside_in ws d) (branch_in ws d) n)

  inner_empty : (d : ℕ) → Begins (behind_in ws d)
  unfolding branch_in branch_of parsed.inside_of
  inner_empty zero x n = too_deep_empty (after_misplaced n x)
  inner_empty (suc d) (Assertions a, k) n = inr (statement_of_empty (statement_in ws d) (inside_in ws d) (branch_in ws d) (after_misplaced n (Assertions a, k)))
  inner_empty (suc d) (Contracted c, k) n = inr (statement_of_empty (statement_in ws d) (inside_in ws d) (branch_in ws d) (after_misplaced n (Contracted c, k)))
  inner_empty (suc d) (Looped l, k) n = inr (inr (unlooped_empty (statement_in ws d) (inside_in ws d) (branch_in ws d) (after_misplaced n (Looped l, k))))

  pub inside_empty : (d : ℕ) → Begins (inside_in ws d)
  unfolding branch_in
  inside_empty zero x n = too_deep_empty (after_misplaced n x)
  inside_empty (suc d) x n = inner_empty d x n

  pub behind_line : (d : ℕ) (x : ReadAnnotation × ℕ) (n : AnnotationState) → Same (inside_in ws (suc d) x n) (behind_in ws d x n)
  unfolding branch_in
  behind_line d x n = both (itself _) (itself _)

  in_depth : (d : ℕ) (n : AnnotationState) → Same (statement_in ws (suc d) n) (statement_of ws (statement_in ws d) (inside_in ws d) (branch_in ws d) n)
  unfolding statement_in
  in_depth d n = both (itself _) (itself _)

  pub statement_line : (d : ℕ) (n : AnnotationState) → Same (statement_in ws (suc d) n) (production.stmt ws (statement_in ws d) (inside_in ws d) (branch_in ws d) n)
  statement_line d n =
      let s = one_of (statement_in ws d) (inside_in ws d) (branch_in ws d) n (inside_empty d) (branch_empty d) in
      both (forth (in_depth d n) so forth s) (back s so back (in_depth d n))

  pub deepest_line : (n : AnnotationState) → Same (statement_in ws zero n) (deep nesting_limit no [] (production.stmt ws (λ m. none) (λ x m. none) (λ m. none) n))
  unfolding statement_in
  deepest_line n =
      let s = one_of (λ m. none) (λ x m. none) (λ m. none) n (λ x m. refl) (λ m. refl) in
      both (deeper nesting_limit (kind ws) first_statement no [] (forth s)) (deeper nesting_limit no [] (kind ws) first_statement (back s))

  branch_choice : (T : Numbered) (A : Annotated) (n : AnnotationState) → Same (branch_of ws T A n) (production.branch ws T A n)
  unfolding branch_of
  branch_choice T A n = both (each (kind ws) (annot_open_kind ∷ []) no [] (itself _) (itself _)) (each no [] (kind ws) (annot_open_kind ∷ []) (itself _) (itself _))

  branch_in_depth : (d : ℕ) (n : AnnotationState) → Same (branch_in ws (suc d) n) (branch_of ws (statement_in ws (suc d)) (behind_in ws d) n)
  unfolding branch_in statement_in
  branch_in_depth d n = both (itself _) (itself _)

  pub branch_line : (d : ℕ) (n : AnnotationState) → Same (branch_in ws (suc d) n) (production.branch ws (statement_in ws (suc d)) (behind_in ws d) n)
  branch_line d n =
      let s = branch_choice (statement_in ws (suc d)) (behind_in ws d) n in
      both (forth (branch_in_depth d n) so forth s) (back s so back (branch_in_depth d n))

  -- what stands behind an annotation
  inside_choice : (W W' : Looping) (T U U' : Numbered) (A : Annotated) → ((annots : List Annotation) (m : AnnotationState) → Same (W annots m) (W' annots m)) → ((m : AnnotationState) → Same (U m) (U' m))
      → (x : ReadAnnotation × ℕ) (n : AnnotationState) → Same (parsed.inside_of ws W T U A x n) (production.inside ws W' T U' A x n)
  unfolding parsed.inside_of branch_of
  inside_choice W W' T U U' A w u (Assertions a, k) n = both (each (kind ws) (annot_open_kind ∷ []) no [] (itself _) (itself _)) (each no [] (kind ws) (annot_open_kind ∷ []) (itself _) (itself _))
  inside_choice W W' T U U' A w u (Contracted c, k) n = both (each (kind ws) (annot_open_kind ∷ []) no [] (itself _) (itself _)) (each no [] (kind ws) (annot_open_kind ∷ []) (itself _) (itself _))
  inside_choice W W' T U U' A w u (Looped l, k) n =
      both
      (each (kind ws) first_loop no [] (forth (w l.clauses (after_loop n l k))) (each (kind ws) (annot_open_kind ∷ []) no [] (itself _) (forth (u (after_misplaced n (Looped l, k))))))
      (each no [] (kind ws) first_loop (back (w l.clauses (after_loop n l k))) (each no [] (kind ws) (annot_open_kind ∷ []) (itself _) (back (u (after_misplaced n (Looped l, k))))))

  inside_in_depth : (d : ℕ) (x : ReadAnnotation × ℕ) (n : AnnotationState)
      → Same (behind_in ws (suc d) x n) (parsed.inside_of ws (parsed.loop_of ws (branch_in ws d)) (statement_in ws (suc d)) (parsed.unlooped_of ws (statement_in ws d) (inside_in ws d) (branch_in ws d)) (behind_in ws d) x n)
  unfolding branch_in statement_in
  inside_in_depth d x n = both (itself _) (itself _)

  pub inside_line : (d : ℕ) (x : ReadAnnotation × ℕ) (n : AnnotationState)
      → Same (behind_in ws (suc d) x n)
      (production.inside ws (production.loop ws (branch_in ws d)) (statement_in ws (suc d)) (production.unlooped ws (statement_in ws d) (inside_in ws d) (branch_in ws d)) (behind_in ws d) x n)
  inside_line d x n =
      let s =
      inside_choice (parsed.loop_of ws (branch_in ws d)) (production.loop ws (branch_in ws d)) (statement_in ws (suc d)) (parsed.unlooped_of ws (statement_in ws d) (inside_in ws d) (branch_in ws d))
      (production.unlooped ws (statement_in ws d) (inside_in ws d) (branch_in ws d)) (behind_in ws d) (λ annots m. loop_line (branch_in ws d) annots m (branch_empty d))
      (λ m. unlooped_line (statement_in ws d) (inside_in ws d) (branch_in ws d) m (inside_empty d)) x n
      in
      both (forth (inside_in_depth d x n) so forth s) (back s so back (inside_in_depth d x n))
