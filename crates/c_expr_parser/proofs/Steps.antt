-- What a production gives, step by step.
use Rattle.std.proofs.Common.{◌≡◌, ℕ, ◌+◌, Bool, true, false, List, [], ◌∷◌, Ok, Err, refl, ◌∙◌}
use Rattle.grammar.specs.Syntax.{ParseFault, sees, gives, ◌then◌}
use Rattle.grammar.proofs.Productions.{seq, given, turn, turn_fails, turn_ends, turn_to}
use Rattle.grammar.proofs.Bounds.{many_is}
use Rattle.c_syntax.specs.declared.place.Place.{Place}
use Rattle.c_syntax.specs.Tokens.{PlainToken}
use Rattle.c_model.specs.declared.operands.Level.TheVariants.{Assignment}
use Rattle.c_model.specs.declared.operands.Stars.{Stars}
use Rattle.c_model.specs.declared.vocabulary.Keyword.TheVariants as keyword
use Rattle.c_model.specs.declared.vocabulary.IntegerWords.{IntegerWords}
use Rattle.c_model.specs.Vocabulary.{Vocabulary}
use Rattle.c_model.specs.Punctuators.{comma, times}
use Rattle.c_syntax.specs.Expressions.{Expression}
use Rattle.c_model.specs.ExpressionGrammar.{keyword_kind, mark_kind, next_argument, next_part, with_commas, expression_at, expression, kind, fixed, reserved, words_behind, integer_word, consts, more_consts, no_stars, star, next_star, star_words}
use Rattle.c_syntax.specs.declared.fault.ReadFault.{ReadFault}
use Rattle.c_expr_parser.specs.Reading.{more_words, more_stars, more_arguments, more_parts}
use Rattle.token_reader.specs.Reading.{Fails}
use Rattle.token_reader.proofs.Faults.{again}
use Rattle.c_expr_parser.proofs.ExactTokens.{IsRead, fixed_good}
use Rattle.c_expr_parser.proofs.ExactTypes.{words_fit, integer_word_good, next_star_good}
use Rattle.c_expr_parser.proofs.ExactExpressions.{more_expression, levels_good, next_argument_good, next_part_good}

module _ (ws : Vocabulary) where
  word_exact : (x : IntegerWords) → IsRead ws (integer_word ws x) false (words_behind x) []
  word_exact x = integer_word_good ws x

  pub words_turn : (x y : IntegerWords) (ts rest : List PlainToken) → sees (kind ws) (words_behind x) ts ≡ true → (integer_word ws x).parse ts ≡ Ok (y, rest) → (more_words ws x).parse ts ≡ (more_words ws y).parse rest
  unfolding more_words
  words_turn x y ts rest s e = turn_to words_behind (integer_word ws) (λ z. (word_exact z).here) words_fit x y ts rest s e

  pub words_fails : (x : IntegerWords) (ts : List PlainToken) (e : ReadFault) → sees (kind ws) (words_behind x) ts ≡ true → Fails e ((integer_word ws x).parse ts) → Fails e ((more_words ws x).parse ts)
  unfolding more_words
  words_fails x ts e s = again e (λ d h. many_is (kind ws) words_behind words_behind (λ _ _. []) words_behind words_fit (integer_word ws) (λ z. (word_exact z).here) x ts ∙ rw (s, h) refl)

  pub words_ends : (x : IntegerWords) (ts : List PlainToken) → sees (kind ws) (words_behind x) ts ≡ false → (more_words ws x).parse ts ≡ Ok (x, ts)
  unfolding more_words
  words_ends x ts s = many_is (kind ws) words_behind words_behind (λ _ _. []) words_behind words_fit (integer_word ws) (λ z. (word_exact z).here) x ts ∙ rw s refl

  abbrev const_kinds : List ℕ
  const_kinds = keyword_kind keyword.Const ∷ []

  pub consts_turn : {A : Type 0} (x : A) (ts rest : List PlainToken) (at : Place) → sees (kind ws) const_kinds ts ≡ true → (fixed ws (keyword_kind keyword.Const)).parse ts ≡ Ok (at, rest) → (consts ws x).parse ts ≡ (consts ws x).parse rest
  unfolding consts
  consts_turn {A} x ts rest at s e = turn const_kinds (λ y. reserved ws keyword.Const then λ _. gives y) (λ z. (step z).here) refl x x ts rest s (rw e refl)
    where
      step : (z : A) → IsRead ws (reserved ws keyword.Const then λ _. gives z) false const_kinds []
      step z = seq (fixed_good ws (keyword_kind keyword.Const)) (λ _. given z) refl

  pub consts_ends : {A : Type 0} (x : A) (ts : List PlainToken) → sees (kind ws) const_kinds ts ≡ false → (consts ws x).parse ts ≡ Ok (x, ts)
  unfolding consts
  consts_ends {A} x ts s = turn_ends const_kinds (λ y. reserved ws keyword.Const then λ _. gives y) (λ z. (step z).here) refl x ts s
    where
      step : (z : A) → IsRead ws (reserved ws keyword.Const then λ _. gives z) false const_kinds []
      step z = seq (fixed_good ws (keyword_kind keyword.Const)) (λ _. given z) refl

  const_read : (b : Bool) → IsRead ws (reserved ws keyword.Const then λ _. gives true) false const_kinds []
  const_read b = seq (fixed_good ws (keyword_kind keyword.Const)) (λ _. given true) refl

  pub more_consts_turn : (b : Bool) (ts rest : List PlainToken) (at : Place) → sees (kind ws) const_kinds ts ≡ true → (fixed ws (keyword_kind keyword.Const)).parse ts ≡ Ok (at, rest)
      → (more_consts ws b).parse ts ≡ (more_consts ws true).parse rest
  unfolding more_consts
  more_consts_turn b ts rest at s e = turn const_kinds (λ _. reserved ws keyword.Const then λ _. gives true) (λ z. (const_read z).here) refl b true ts rest s (rw e refl)

  pub more_consts_ends : (b : Bool) (ts : List PlainToken) → sees (kind ws) const_kinds ts ≡ false → (more_consts ws b).parse ts ≡ Ok (b, ts)
  unfolding more_consts
  more_consts_ends b ts s = turn_ends const_kinds (λ _. reserved ws keyword.Const then λ _. gives true) (λ z. (const_read z).here) refl b ts s

  abbrev star_kinds : List ℕ
  star_kinds = mark_kind times ∷ []

  star_exact : (x : Stars) → IsRead ws (next_star ws x) false star_kinds const_kinds
  star_exact x = next_star_good ws x

  next_star_ok : (x : Stars) (c : Bool) (ts rest : List PlainToken) → (star ws x.constant).parse ts ≡ Ok (c, rest) → (next_star ws x).parse ts ≡ Ok (record { count = x.count + 1; constant = c }, rest)
  unfolding next_star
  next_star_ok x c ts rest e = rw e refl

  pub stars_begin : (ts : List PlainToken) → (more_stars ws no_stars).parse ts ≡ (star_words ws).parse ts
  unfolding more_stars star_words
  stars_begin ts = refl

  pub stars_turn : (x : Stars) (c : Bool) (ts rest : List PlainToken) → sees (kind ws) star_kinds ts ≡ true → (star ws x.constant).parse ts ≡ Ok (c, rest)
      → (more_stars ws x).parse ts ≡ (more_stars ws (record { count = x.count + 1; constant = c })).parse rest
  unfolding more_stars
  stars_turn x c ts rest s e = turn star_kinds (next_star ws) (λ z. (star_exact z).here) refl x (record { count = x.count + 1; constant = c }) ts rest s (next_star_ok x c ts rest e)

  next_star_err : (x : Stars) (ts : List PlainToken) (d : ParseFault) → (star ws x.constant).parse ts ≡ Err d → (next_star ws x).parse ts ≡ Err d
  unfolding next_star
  next_star_err x ts d e = rw e refl

  pub stars_fails : (x : Stars) (ts : List PlainToken) (e : ReadFault) → sees (kind ws) star_kinds ts ≡ true → Fails e ((star ws x.constant).parse ts) → Fails e ((more_stars ws x).parse ts)
  unfolding more_stars
  stars_fails x ts e s = again e (λ d h. turn_fails star_kinds (next_star ws) (λ z. (star_exact z).here) refl x ts d s (next_star_err x ts d h))

  pub stars_ends : (x : Stars) (ts : List PlainToken) → sees (kind ws) star_kinds ts ≡ false → (more_stars ws x).parse ts ≡ Ok (x, ts)
  unfolding more_stars
  stars_ends x ts s = turn_ends star_kinds (next_star ws) (λ z. (star_exact z).here) refl x ts s

  -- ---- arguments, and parts of a comma

  abbrev comma_kinds : List ℕ
  comma_kinds = mark_kind comma ∷ []

  argument_once : (x : List Expression) → IsRead ws (next_argument ws (expression_at ws Assignment) x) false comma_kinds more_expression
  argument_once x = next_argument_good ws (levels_good ws Assignment) x

  pub arguments_turn : (x y : List Expression) (ts rest : List PlainToken) → sees (kind ws) comma_kinds ts ≡ true → (next_argument ws (expression_at ws Assignment) x).parse ts ≡ Ok (y, rest)
      → (more_arguments ws x).parse ts ≡ (more_arguments ws y).parse rest
  unfolding more_arguments
  arguments_turn x y ts rest s e = turn comma_kinds (next_argument ws (expression_at ws Assignment)) (λ z. (argument_once z).here) refl x y ts rest s e

  pub arguments_fails : (x : List Expression) (ts : List PlainToken) (e : ReadFault) → sees (kind ws) comma_kinds ts ≡ true → Fails e ((next_argument ws (expression_at ws Assignment) x).parse ts) → Fails e ((more_arguments ws x).parse ts)
  unfolding more_arguments
  arguments_fails x ts e s = again e (λ d. turn_fails comma_kinds (next_argument ws (expression_at ws Assignment)) (λ z. (argument_once z).here) refl x ts d s)

  pub arguments_ends : (x : List Expression) (ts : List PlainToken) → sees (kind ws) comma_kinds ts ≡ false → (more_arguments ws x).parse ts ≡ Ok (x, ts)
  unfolding more_arguments
  arguments_ends x ts s = turn_ends comma_kinds (next_argument ws (expression_at ws Assignment)) (λ z. (argument_once z).here) refl x ts s

  part_once : (x : Expression) → IsRead ws (next_part ws (expression_at ws Assignment) x) false comma_kinds more_expression
  part_once x = next_part_good ws (levels_good ws Assignment) x

  pub parts_turn : (x y : Expression) (ts rest : List PlainToken) → sees (kind ws) comma_kinds ts ≡ true → (next_part ws (expression_at ws Assignment) x).parse ts ≡ Ok (y, rest) → (more_parts ws x).parse ts ≡ (more_parts ws y).parse rest
  unfolding more_parts
  parts_turn x y ts rest s e = turn comma_kinds (next_part ws (expression_at ws Assignment)) (λ z. (part_once z).here) refl x y ts rest s e

  pub parts_fails : (x : Expression) (ts : List PlainToken) (e : ReadFault) → sees (kind ws) comma_kinds ts ≡ true → Fails e ((next_part ws (expression_at ws Assignment) x).parse ts) → Fails e ((more_parts ws x).parse ts)
  unfolding more_parts
  parts_fails x ts e s = again e (λ d. turn_fails comma_kinds (next_part ws (expression_at ws Assignment)) (λ z. (part_once z).here) refl x ts d s)

  pub parts_ends : (x : Expression) (ts : List PlainToken) → sees (kind ws) comma_kinds ts ≡ false → (more_parts ws x).parse ts ≡ Ok (x, ts)
  unfolding more_parts
  parts_ends x ts s = turn_ends comma_kinds (next_part ws (expression_at ws Assignment)) (λ z. (part_once z).here) refl x ts s

  pub comma_goes_on : (x : Expression) (ts rest : List PlainToken) → (expression_at ws Assignment).parse ts ≡ Ok (x, rest) → (expression ws).parse ts ≡ (more_parts ws x).parse rest
  unfolding expression with_commas more_parts
  comma_goes_on x ts rest e = rw e refl

  pub comma_fails : (ts : List PlainToken) (e : ReadFault) → Fails e ((expression_at ws Assignment).parse ts) → Fails e ((expression ws).parse ts)
  unfolding expression with_commas
  comma_fails ts e = again e (λ d h. rw h refl)

pub ruleset stars_rules = (stars_begin, stars_turn, stars_fails, stars_ends)

pub ruleset arguments_rules = (arguments_turn, arguments_fails, arguments_ends)

pub ruleset parts_rules = (parts_turn, parts_fails, parts_ends)

pub ruleset comma_rules = (comma_goes_on, comma_fails)
