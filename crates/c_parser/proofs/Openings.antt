-- Each token of a kind that can begin a statement begins one.
use Rattle.std.proofs.Common.{◌≡◌, ℕ, Bool, true, false, cond, eqb, List, [], ◌∷◌, refl, subst, inl, inr, arith}
use Rattle.grammar.specs.Syntax.{among, choice}
use Rattle.grammar.proofs.Sets.{within_among}
use Rattle.grammar.proofs.Limits.{opened}
use Rattle.c_syntax.specs.Tokens.{PlainToken}
use Rattle.c_model.specs.declared.declarations.AnnotationState.{AnnotationState}
use Rattle.c_model.specs.declared.vocabulary.Keyword.TheVariants as keyword
use Rattle.c_model.specs.Vocabulary.{Vocabulary}
use Rattle.c_model.specs.Punctuators.{semicolon, left_brace, increment, decrement, plus, minus, exclamation, tilde, times, ampersand, left_paren}
use Rattle.c_model.specs.ExpressionGrammar.{name_kind, number_kind, letter_kind, text_kind, annot_open_kind, keyword_kind, mark_kind, kind, first_expression, name}
use Rattle.c_model.specs.ClauseGrammar.{annotations}
use Rattle.c_model.specs.ProgramGrammar.{first_statement, first_branch, Numbered, Annotated, block, empty_statement, selection, while_loop, do_loop, for_loop, switch_statement, return_statement, jump, effect_statement, named_statement}
use Rattle.c_model.specs.ProgramGrammar.{loop_of, unlooped_of, statement_of, branch_of}
use Rattle.c_expr_parser.proofs.ExactExpressions.{first_but_name}
use Rattle.c_expr_parser.proofs.SolidExpressions.{nameless_begins}
use Rattle.c_expr_parser.proofs.TakenTokens.{name_solid}
use Rattle.c_declaration_parser.proofs.ExactDeclarations.{fixed_begins}

first_or : (P : Type 0) (K k : ℕ) (b : Bool) → (eqb K k ≡ true → P) → (b ≡ true → P) → cond (eqb K k) true b ≡ true → P
first_or P K k b here there h = tested (eqb K k) refl h
  where
    tested : (c : Bool) → eqb K k ≡ c → cond c true b ≡ true → P
    tested true is h = here is
    tested false is h = there h

-- what begins an expression, but for names and `++` and `--`
abbrev behind_bumps : List ℕ
behind_bumps =
    number_kind ∷ letter_kind ∷ text_kind ∷ mark_kind left_paren ∷ mark_kind plus ∷ mark_kind minus ∷ mark_kind exclamation ∷ mark_kind tilde ∷ mark_kind times ∷ mark_kind ampersand ∷ keyword_kind keyword.Sizeof ∷ []

but_name : (k : ℕ) → eqb k name_kind ≡ false → among k first_expression ≡ true → among k first_but_name ≡ true
but_name k e h =
    within_among (mark_kind increment ∷ mark_kind decrement ∷ behind_bumps) first_but_name k refl
    (subst (λ (b : Bool). cond (eqb k (mark_kind increment)) true (cond (eqb k (mark_kind decrement)) true (cond b true (among k behind_bumps))) ≡ true) e h)

module _ (ws : Vocabulary) where
  name_begins : (t : PlainToken) → eqb (kind ws t) name_kind ≡ true → (name ws).begun (t ∷ [])
  name_begins t h = opened (kind ws) (name ws) (name_kind ∷ []) (λ _. []) (name_solid ws {n = 0}).exact t (λ e. (name_solid ws {n = 2}).opens refl t [] (omega arith) (rw h refl) e)

  effect_opens : (S : Numbered) (n : AnnotationState) (t : PlainToken) → among (kind ws t) first_expression ≡ true → (choice (kind ws) (name_kind ∷ []) (named_statement ws S n) (effect_statement ws n)).begun (t ∷ [])
  unfolding named_statement effect_statement
  effect_opens S n t h = tested (eqb (kind ws t) name_kind) refl
    where
      tested : (b : Bool) → eqb (kind ws t) name_kind ≡ b → (choice (kind ws) (name_kind ∷ []) (named_statement ws S n) (effect_statement ws n)).begun (t ∷ [])
      tested true e = inl (inl (name_begins t e))
      tested false e = inr (inl (nameless_begins ws t (but_name (kind ws t) e h)))

  pub opens : (T : Numbered) (B : Annotated) (S : Numbered) (n : AnnotationState) (t : PlainToken) → among (kind ws t) first_statement ≡ true → (statement_of ws T B S n).begun (t ∷ [])
  unfolding statement_of loop_of unlooped_of block empty_statement selection while_loop do_loop for_loop switch_statement return_statement jump
  opens T B S n t =
      first_or _ (kind ws t) (mark_kind left_brace) _ (λ h. inr (inl (inl (fixed_begins ws (mark_kind left_brace) t h))))
      (first_or _ (kind ws t) (mark_kind semicolon) _ (λ h. inr (inr (inl (inl (fixed_begins ws (mark_kind semicolon) t h)))))
      (first_or _ (kind ws t) (keyword_kind keyword.If) _ (λ h. inr (inr (inr (inl (inl (fixed_begins ws (keyword_kind keyword.If) t h))))))
      (first_or _ (kind ws t) (keyword_kind keyword.While) _ (λ h. inl (inl (inl (fixed_begins ws (keyword_kind keyword.While) t h))))
      (first_or _ (kind ws t) (keyword_kind keyword.Do) _ (λ h. inr (inr (inr (inr (inl (inl (fixed_begins ws (keyword_kind keyword.Do) t h)))))))
      (first_or _ (kind ws t) (keyword_kind keyword.For) _ (λ h. inl (inr (inl (fixed_begins ws (keyword_kind keyword.For) t h))))
      (first_or _ (kind ws t) (keyword_kind keyword.Switch) _ (λ h. inr (inr (inr (inr (inr (inl (inl (fixed_begins ws (keyword_kind keyword.Switch) t h))))))))
      (first_or _ (kind ws t) (keyword_kind keyword.Break) _ (λ h. inr (inr (inr (inr (inr (inr (inr (inl (inl (inl (fixed_begins ws (keyword_kind keyword.Break) t h)))))))))))
      (first_or _ (kind ws t) (keyword_kind keyword.Continue) _ (λ h. inr (inr (inr (inr (inr (inr (inr (inl (inr (inl (fixed_begins ws (keyword_kind keyword.Continue) t h)))))))))))
      (first_or _ (kind ws t) (keyword_kind keyword.Return) _ (λ h. inr (inr (inr (inr (inr (inr (inl (inl (fixed_begins ws (keyword_kind keyword.Return) t h)))))))))
      (λ h. inr (inr (inr (inr (inr (inr (inr (inr (effect_opens S n t h))))))))))))))))))

  pub branch_opens : (T : Numbered) (B : Annotated) (S : Numbered) (A : Annotated) (n : AnnotationState) (t : PlainToken) → among (kind ws t) first_branch ≡ true → (branch_of ws (statement_of ws T B S) A n).begun (t ∷ [])
  unfolding branch_of annotations
  branch_opens T B S A n t = first_or _ (kind ws t) annot_open_kind _ (λ h. inl (inl (inl (fixed_begins ws annot_open_kind t h)))) (λ h. inr (opens T B S n t h))
