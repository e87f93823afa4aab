-- The productions of types are those of the head of their grammar.
use Rattle.std.proofs.Common.{ℕ, [], ◌∷◌, refl, inl}
use Rattle.grammar.specs.Syntax.{Syntax, gives, ◌then◌}
use Rattle.grammar.specs.Exact.{Same}
use Rattle.grammar_laws.specs.Plain.{repeated}
use Rattle.grammar_laws.proofs.Inclusions.{Within, both, forth, back, itself, either, first, second, on, in_turn, turns, handed, handed_back}
use Rattle.c_syntax.specs.Ctypes.{PlainLength, Written}
use Rattle.c_syntax.specs.Expressions.{Expression}
use Rattle.c_syntax.specs.Tokens.{PlainToken}
use Rattle.c_model.specs.declared.vocabulary.Keyword.TheVariants as keyword
use Rattle.c_model.specs.Vocabulary.{Vocabulary, no_words}
use Rattle.c_model.specs.Punctuators.{times, left_bracket, right_bracket}
use Rattle.c_model.specs.ExpressionGrammar.{kind, mark_kind, type_name_kind, keyword_kind, words_behind, no_stars, mark, reserved, consts, base, struct_tag}
use Rattle.c_model.specs.ExpressionGrammar.{enum_tag, untagged_base, typedef_name, integer_word, integer_words, type_words, more_consts, star, next_star}
use Rattle.c_model.specs.ExpressionGrammar.{star_words, written_length, bracket, next_bracket, brackets, type_name, expression}
use Rattle.grammar_laws.specs.ExpressionProductions as production

abbrev no : PlainToken → ℕ
no t = 0

module _ (ws : Vocabulary) where
  abbrev E : Syntax PlainToken Expression
  E = expression ws

  -- ---- types

  pub base_line : Same (base ws) (production.base ws)
  unfolding base struct_tag enum_tag untagged_base typedef_name integer_words
  base_line =
      both
      (either (kind ws) (keyword_kind keyword.Struct ∷ []) (second no [] _ (second no [] _ (second no [] _ (first no [] _ (itself _)))))
      (either (kind ws) (keyword_kind keyword.Enum ∷ []) (second no [] _ (second no [] _ (second no [] _ (second no [] _ (itself _)))))
      (either (kind ws) (keyword_kind keyword.Void ∷ []) (second no [] _ (first no [] _ (itself _)))
      (either (kind ws) (type_name_kind ∷ []) (second no [] _ (second no [] _ (first no [] _ (itself _)))) (first no [] _ (on (integer_word ws no_words) (λ x. in_turn
      (turns (kind ws) words_behind no (λ _. []) (λ y. itself _) x) (λ y. itself _))))))))
      (either no [] (second (kind ws) (keyword_kind keyword.Struct ∷ []) _ (second (kind ws) (keyword_kind keyword.Enum ∷ []) _ (second (kind ws) (keyword_kind keyword.Void ∷ []) _
      (second (kind ws) (type_name_kind ∷ []) _ (on (integer_word ws no_words) (λ x. in_turn (turns no (λ _. []) (kind ws) words_behind (λ y. itself _) x) (λ y. itself _)))))))
      (either no [] (second (kind ws) (keyword_kind keyword.Struct ∷ []) _ (second (kind ws) (keyword_kind keyword.Enum ∷ []) _ (first (kind ws) (keyword_kind keyword.Void ∷ []) _ (itself _))))
      (either no [] (second (kind ws) (keyword_kind keyword.Struct ∷ []) _ (second (kind ws) (keyword_kind keyword.Enum ∷ []) _ (second (kind ws) (keyword_kind keyword.Void ∷ []) _ (first (kind ws) (type_name_kind ∷ []) _ (itself _)))))
      (either no [] (first (kind ws) (keyword_kind keyword.Struct ∷ []) _ (itself _)) (second (kind ws) (keyword_kind keyword.Struct ∷ []) _ (first (kind ws) (keyword_kind keyword.Enum ∷ []) _ (itself _)))))))

  consts_forth : {A : Type 0} (x : A) → Within (consts ws x) (repeated (λ u. reserved ws keyword.Const then λ _. gives u) x)
  unfolding consts
  consts_forth x = turns (kind ws) (λ _. keyword_kind keyword.Const ∷ []) no (λ _. []) (λ u. itself _) x

  consts_back : {A : Type 0} (x : A) → Within (repeated (λ u. reserved ws keyword.Const then λ _. gives u) x) (consts ws x)
  unfolding consts
  consts_back x = turns no (λ _. []) (kind ws) (λ _. keyword_kind keyword.Const ∷ []) (λ u. itself _) x

  pub words_line : Same (type_words ws) (production.words ws)
  unfolding type_words
  words_line = both (in_turn (consts_forth tt) (λ _. on (base ws) consts_forth)) (in_turn (consts_back tt) (λ _. on (base ws) consts_back))

  pub stars_line : Same (star_words ws) (production.stars ws)
  unfolding star_words next_star star more_consts
  stars_line =
      both
      (turns (kind ws) (λ _. mark_kind times ∷ []) no (λ _. []) (λ s. in_turn (on (mark ws times) (λ _. turns (kind ws) (λ _. keyword_kind keyword.Const ∷ []) no (λ _. []) (λ b. itself _) s.constant)) (λ c. itself _)) no_stars)
      (turns no (λ _. []) (kind ws) (λ _. mark_kind times ∷ []) (λ s. in_turn (on (mark ws times) (λ _. turns no (λ _. []) (kind ws) (λ _. keyword_kind keyword.Const ∷ []) (λ b. itself _) s.constant)) (λ c. itself _)) no_stars)

  abbrev Closing : Expression → Syntax PlainToken PlainLength
  Closing e = mark ws right_bracket then λ _. gives (Written e)

  bracket_line : Same (bracket ws (written_length ws E)) (mark ws left_bracket then λ _. E then Closing)
  unfolding bracket written_length
  bracket_line =
      both (on (mark ws left_bracket) (λ _. handed_back E Written (λ n. mark ws right_bracket then λ _. gives n) (λ e. inl (inl refl)))) (on (mark ws left_bracket) (λ _. handed E Written (λ n. mark ws right_bracket then λ _. gives n)))

  pub type_line : Same (type_name ws E) (production.type ws)
  unfolding type_name brackets next_bracket
  type_line =
      both
      (in_turn (forth words_line) (λ t. in_turn (forth stars_line) (λ s. in_turn (turns (kind ws) (λ _. mark_kind left_bracket ∷ []) no (λ _. []) (λ ns. in_turn (forth bracket_line) (λ n. itself _)) []) (λ ns. itself _))))
      (in_turn (back words_line) (λ t. in_turn (back stars_line) (λ s. in_turn (turns no (λ _. []) (kind ws) (λ _. mark_kind left_bracket ∷ []) (λ ns. in_turn (back bracket_line) (λ n. itself _)) []) (λ ns. itself _))))
