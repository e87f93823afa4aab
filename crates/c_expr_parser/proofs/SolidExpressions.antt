-- Where a token can't follow, the tokens before it are no expression.
use Rattle.std.proofs.Common.{◌≡◌, ℕ, zero, suc, ◌<◌, Bool, true, false, cond, eqb, List, [], ◌∷◌, ◌++◌, length, Some, None, Result, Ok, Err, refl, sym, ap, ◌∙◌, arith, inl, inr}
use Rattle.grammar.specs.Syntax.{Syntax, ParseFault, At, one_at, among, sees, many, ◌then◌, ◌>>=◌}
use Rattle.grammar.specs.Exact.{Unread}
use Rattle.grammar.proofs.Sets.{within, apart, within_self, within_left, within_both, within_among, cond_or}
use Rattle.grammar.proofs.Parts.{widen}
use Rattle.grammar.proofs.Limits.{opened}
use Rattle.grammar.proofs.Theorem.{at_within}
use Rattle.grammar.proofs.Solid.{IsSolid, lower, gives_solid, seq_solid, behind, either_solid, listed, many_solid, many_solid_to, made_solid, knot_solid, knot_solid_to, at_most_solid, unread}
use Rattle.c_syntax.specs.declared.place.Place.{Place}
use Rattle.c_syntax.specs.Ctypes.{PlainLength}
use Rattle.c_syntax.specs.Expressions.{Expression}
use Rattle.c_syntax.specs.Tokens.{PlainToken}
use Rattle.c_model.specs.declared.vocabulary.Keyword.TheVariants as keyword
use Rattle.c_model.specs.declared.vocabulary.IntegerWords.{IntegerWords}
use Rattle.c_model.specs.declared.operands.Form.{Form}
use Rattle.c_model.specs.declared.operands.Form.TheVariants as form
use Rattle.c_model.specs.declared.operands.Level.{Level}
use Rattle.c_model.specs.declared.operands.Level.TheVariants.{Assignment, Conditional}
use Rattle.c_model.specs.declared.operands.Stars.{Stars}
use Rattle.c_model.specs.declared.operands.TypeUse.{TypeUse}
use Rattle.c_model.specs.declared.operands.TypeUse.TheVariants.{Casts, Sizes, Nothing}
use Rattle.c_model.specs.Vocabulary.{Vocabulary, no_words}
use Rattle.c_model.specs.Punctuators.{question, colon, comma, left_paren, right_paren, left_bracket, right_bracket, dot, arrow, times}
use Rattle.c_model.specs.ExpressionGrammar.{fixed, name_kind, number_kind, letter_kind, type_name_kind, keyword_kind, mark_kind, kind, kinds_of, unary_operators, operators_at, levels, first_integer_words, first_base, first_type}
use Rattle.c_model.specs.ExpressionGrammar.{first_expression, first_postfix, text_kind, typedef_name, struct_tag, enum_tag, untagged_base, more_consts, star, next_star, star_words, written_length, bracket, next_bracket, brackets, type_name, indexed}
use Rattle.c_model.specs.ExpressionGrammar.{dotted, arrowed}
use Rattle.c_model.specs.ExpressionGrammar.{postfix_once, postfixes, postfix_rest, literal_first, behind_variable, assignment_operators, prefix_bumps, postfix_bumps, bumped, bump_first}
use Rattle.c_model.specs.ExpressionGrammar.{words_behind, most_in_expression, Operand, integer_word, integer_words, base, consts, type_words, closed, literal, cast_rest, sized_type, paren_rest, behind_paren, prefixed}
use Rattle.c_model.specs.Terminals.{expression_limit}
use Rattle.c_model.specs.ExpressionGrammar.{sized, operand_but_name, operand_of, operand, joined_once, behind_operand, choice_rest, conditional_rest, next_argument, arguments, call_rest, assigned, behind_unary, behind_form, at_level, next_part}
use Rattle.c_model.specs.ExpressionGrammar.{with_commas}
use Rattle.c_model.specs.ExpressionGrammar.{expression_at, expression, ReadOperand, placed_rest, placed_expression, nameless_expression, full_expression, full_placed_expression, full_nameless_expression, full_expression_at}
use Rattle.c_expr_parser.proofs.Unlimited.{level_free, expression_free}
use Rattle.c_expr_parser.proofs.ExactTypes.{apart_none, words_fit, words_within, more_type, first_untagged}
use Rattle.c_expr_parser.proofs.ExactExpressions.{kinds_below, more_below, AreApart, levels_apart, level_within, below_within, postfix_apart, behind_kinds, behind_unary_kinds, more_operand, more_expression, more_commas, more_type_name}
use Rattle.c_expr_parser.proofs.ExactExpressions.{first_but_name, placed_rest_kinds, both_true, operand_good}
use Rattle.c_expr_parser.proofs.ExactExpressions.{level_exact, level_is, levels_good, expression_good, operand_is}
use Rattle.c_expr_parser.proofs.Steps.{consts_turn, consts_ends}
use Rattle.c_expr_parser.proofs.TakenTokens.{Solid, fixed_solid, name_solid, any_name_solid, number_solid, letter_solid, marks_solid, next_words_solid, typedef_name_solid}

-- the same kinds, given one by one
relisted : {A : Type 0} (ws : Vocabulary) {n : ℕ} {G : Syntax PlainToken A} {lead null : Bool} {f : List ℕ} {m : A → List ℕ} (first more : List ℕ) → IsSolid (kind ws) n G lead null f m → (lead ≡ true → within first f ≡ true) → within f first ≡ true
    → ((x : A) → within (m x) more ≡ true) → Solid ws n G lead null first more
relisted ws {n} {G} {lead} {null} {f} {m} first more g back forth over = record {
  exact = widen (kind ws) G null f m null first (λ _. more) g.exact (λ h. h) forth over;
  led = g.led;
  opens = λ ld t ts lt a. g.opens ld t ts lt (taken ld t a);
  cut = g.cut;
}
  where
    taken : lead ≡ true → (t : PlainToken) → among (kind ws t) first ≡ true → among (kind ws t) f ≡ true
    taken ld t a = within_among first f (kind ws t) (back ld) a

module _ (ws : Vocabulary) where
  -- ---- types

  integer_word_solid : {n : ℕ} (x : IntegerWords) → Solid ws n (integer_word ws x) true false (words_behind x) []
  unfolding integer_word
  integer_word_solid x = made_solid (λ y. y.0) (next_words_solid ws x) (λ y. refl)

  -- more words of an integer type
  more_words_solid : {n : ℕ} (x : IntegerWords) → Solid ws n (many (kind ws) words_behind (integer_word ws) x) false true first_integer_words first_integer_words
  more_words_solid {n} x = relisted ws first_integer_words first_integer_words (many_solid_to words_behind words_fit (λ y. within_self (words_behind y)) n integer_word_solid x) (λ h. absurd cc) (words_within x) words_within

  integer_words_solid : {n : ℕ} → Solid ws n (integer_words ws) true false first_integer_words first_integer_words
  unfolding integer_words
  integer_words_solid = listed (seq_solid (integer_word_solid no_words) (λ x. seq_solid (more_words_solid x) (λ y. gives_solid _) refl) refl) refl

  untagged_solid : {n : ℕ} → Solid ws n (untagged_base ws) true false first_untagged first_integer_words
  unfolding untagged_base typedef_name
  untagged_solid =
      listed (either_solid (keyword_kind keyword.Void ∷ []) (seq_solid (fixed_solid ws (keyword_kind keyword.Void)) (λ _. gives_solid _) refl)
      (either_solid (type_name_kind ∷ []) (seq_solid (typedef_name_solid ws) (λ t. gives_solid _) refl) integer_words_solid refl refl) refl refl) refl

  struct_tag_solid : {n : ℕ} → Solid ws n (struct_tag ws) true false (keyword_kind keyword.Struct ∷ []) []
  unfolding struct_tag
  struct_tag_solid = listed (seq_solid (fixed_solid ws (keyword_kind keyword.Struct)) (λ _. seq_solid (any_name_solid ws) (λ x. gives_solid _) refl) refl) refl

  enum_tag_solid : {n : ℕ} → Solid ws n (enum_tag ws) true false (keyword_kind keyword.Enum ∷ []) []
  unfolding enum_tag
  enum_tag_solid = listed (seq_solid (fixed_solid ws (keyword_kind keyword.Enum)) (λ _. seq_solid (any_name_solid ws) (λ x. gives_solid _) refl) refl) refl

  base_solid : {n : ℕ} → Solid ws n (base ws) true false first_base first_integer_words
  unfolding base
  base_solid =
      listed (either_solid (keyword_kind keyword.Struct ∷ []) struct_tag_solid
      (either_solid (keyword_kind keyword.Enum ∷ []) enum_tag_solid untagged_solid refl refl) refl refl) refl

  consts_solid : {A : Type 0} {n : ℕ} (x : A) → Solid ws n (consts ws x) false true (keyword_kind keyword.Const ∷ []) (keyword_kind keyword.Const ∷ [])
  unfolding consts
  consts_solid {A} {n} x = listed (many_solid (keyword_kind keyword.Const ∷ []) refl refl n (λ y. seq_solid (fixed_solid ws (keyword_kind keyword.Const)) (λ _. gives_solid y) refl) x) refl

  behind_consts : {n : ℕ} → Solid ws n (base ws then λ t. consts ws t) true false first_base more_type
  behind_consts = listed (seq_solid base_solid (λ t. consts_solid t) refl) refl

  types_solid : {n : ℕ} → Solid ws n (type_words ws) false false first_type more_type
  unfolding type_words
  types_solid = listed (seq_solid (consts_solid (tt {0})) (λ _. behind_consts) refl) refl

  -- a `const` is taken, and what a type begins with without one
  type_opens : (n : ℕ) (t : PlainToken) (ts : List PlainToken) → length (t ∷ ts) < n → among (kind ws t) first_type ≡ true → (type_words ws).parse (t ∷ ts) ≡ Err (At (suc (length ts))) → ⊥
  unfolding type_words
  type_opens n t ts lt a q = tested (eqb (kind ws t) (keyword_kind keyword.Const)) refl
    where
      const : eqb (kind ws t) (keyword_kind keyword.Const) ≡ true → ⊥
      const is =
          let p : cond (eqb (kind ws t) (keyword_kind keyword.Const)) (Some t.place) None ≡ Some t.place = rw is refl in
          let f : (fixed ws (keyword_kind keyword.Const)).parse (t ∷ ts) ≡ Ok (t.place, ts) = rw (p, one_at) refl in
          let s : sees (kind ws) (keyword_kind keyword.Const ∷ []) (t ∷ ts) ≡ true = rw is refl in
          let c = consts_turn ws (tt {0}) (t ∷ ts) ts t.place s f in
          let e : (type_words ws).parse ts ≡ Err (At (suc (length ts))) = sym (ap (λ (r : Result (Unit {0} × List PlainToken) ParseFault). r >>= λ x. (base ws then λ t. consts ws t).parse x.1) c) ∙ q in
          let h = at_within (type_words ws) false first_type (λ _. more_type) (types_solid {n = 0}).exact ts (suc (length ts)) e in
          omega (arith, h)

      other : eqb (kind ws t) (keyword_kind keyword.Const) ≡ false → ⊥
      other is =
          let s : sees (kind ws) (keyword_kind keyword.Const ∷ []) (t ∷ ts) ≡ false = rw is refl in
          let c = consts_ends ws (tt {0}) (t ∷ ts) s in
          let e : (base ws then λ t. consts ws t).parse (t ∷ ts) ≡ Err (At (suc (length ts))) = sym (ap (λ (r : Result (Unit {0} × List PlainToken) ParseFault). r >>= λ x. (base ws then λ t. consts ws t).parse x.1) c) ∙ q in
          elim (cond_or (eqb (kind ws t) (keyword_kind keyword.Const)) (among (kind ws t) first_base) a) [
            | inl y ↦ absurd (let z : true ≡ false = sym y ∙ is in cc)
            | inr y ↦ (behind_consts {n = n}).opens refl t ts lt y e
          ]

      tested : (b : Bool) → eqb (kind ws t) (keyword_kind keyword.Const) ≡ b → ⊥
      tested true is = const is
      tested false is = other is

  type_solid : {n : ℕ} → Solid ws n (type_words ws) true false first_type more_type
  type_solid {n} = record { exact = (types_solid {n = n}).exact; led = λ _. refl; opens = λ _. type_opens n; cut = (types_solid {n = n}).cut }

  -- ---- operands, where expressions and operands inside them are solid

  closed_solid : {A : Type 0} {n : ℕ} (x : A) → Solid ws n (closed ws x) true false (mark_kind right_paren ∷ []) []
  unfolding closed
  closed_solid x = listed (seq_solid (fixed_solid ws (mark_kind right_paren)) (λ _. gives_solid x) refl) refl

  more_consts_solid : {n : ℕ} (b : Bool) → Solid ws n (more_consts ws b) false true (keyword_kind keyword.Const ∷ []) (keyword_kind keyword.Const ∷ [])
  unfolding more_consts
  more_consts_solid {n} b = listed (many_solid (keyword_kind keyword.Const ∷ []) refl refl n (λ _. seq_solid (fixed_solid ws (keyword_kind keyword.Const)) (λ _. gives_solid true) refl) b) refl

  next_star_solid : {n : ℕ} (s : Stars) → Solid ws n (next_star ws s) true false (mark_kind times ∷ []) (keyword_kind keyword.Const ∷ [])
  unfolding next_star star
  next_star_solid s = listed (seq_solid (seq_solid (fixed_solid ws (mark_kind times)) (λ _. more_consts_solid s.constant) refl) (λ c. gives_solid _) refl) refl

  stars_solid : {n : ℕ} → Solid ws n (star_words ws) false true (mark_kind times ∷ []) (mark_kind times ∷ keyword_kind keyword.Const ∷ [])
  unfolding star_words
  stars_solid {n} = listed (many_solid (mark_kind times ∷ []) refl refl n next_star_solid _) refl

  literal_solid : {n : ℕ} → Solid ws n (literal ws) true false (number_kind ∷ letter_kind ∷ text_kind ∷ []) []
  unfolding literal
  literal_solid =
      listed (either_solid (number_kind ∷ []) (seq_solid (number_solid ws) (λ x. gives_solid _) refl)
      (either_solid (letter_kind ∷ []) (seq_solid (letter_solid ws) (λ z. gives_solid _) refl) (seq_solid (fixed_solid ws text_kind) (λ at. gives_solid _) refl) refl refl) refl refl) refl

  dotted_solid : {n : ℕ} (x : Expression) → Solid ws n (dotted ws x) true false (mark_kind dot ∷ []) []
  unfolding dotted
  dotted_solid x = listed (seq_solid (fixed_solid ws (mark_kind dot)) (λ at. seq_solid (any_name_solid ws) (λ m. gives_solid _) refl) refl) refl

  arrowed_solid : {n : ℕ} (x : Expression) → Solid ws n (arrowed ws x) true false (mark_kind arrow ∷ []) []
  unfolding arrowed
  arrowed_solid x = listed (seq_solid (fixed_solid ws (mark_kind arrow)) (λ at. seq_solid (any_name_solid ws) (λ m. gives_solid _) refl) refl) refl

  -- what can stand after "("
  abbrev first_in_paren : TypeUse → List ℕ
  first_in_paren Casts = first_type ++ first_expression
  first_in_paren Sizes = first_type ++ first_expression
  first_in_paren Nothing = first_expression

  -- ---- arguments and parts of a comma; A is an expression without commas

  bumped_solid : {n : ℕ} (x : Expression) → Solid ws n (bumped ws x) true false (kinds_of postfix_bumps) []
  unfolding bumped
  bumped_solid x = listed (seq_solid (marks_solid ws postfix_bumps) (λ o. gives_solid _) refl) refl

  module _ {n : ℕ} {A : Syntax PlainToken Expression} (a : Solid ws n A true false first_expression more_expression) where
    next_argument_solid : (es : List Expression) → Solid ws n (next_argument ws A es) true false (mark_kind comma ∷ []) more_expression
    unfolding next_argument
    next_argument_solid es = listed (seq_solid (fixed_solid ws (mark_kind comma)) (λ _. seq_solid a (λ e. gives_solid _) refl) refl) refl

    some_arguments_solid : Solid ws n (A then λ e. many (kind ws) (λ _. mark_kind comma ∷ []) (next_argument ws A) (e ∷ [])) true false first_expression more_commas
    some_arguments_solid = listed (seq_solid a (λ e. many_solid (mark_kind comma ∷ []) refl refl n next_argument_solid (e ∷ [])) refl) refl

    arguments_solid : Solid ws n (arguments ws A) false true first_expression (first_expression ++ more_commas)
    unfolding arguments
    arguments_solid = listed (either_solid first_expression some_arguments_solid (gives_solid []) refl refl) refl

    call_rest_solid : (f : ℕ) → Solid ws n (call_rest ws A f) true false (mark_kind left_paren ∷ []) []
    unfolding call_rest
    call_rest_solid f = listed (seq_solid (fixed_solid ws (mark_kind left_paren)) (λ at. seq_solid arguments_solid (λ es. closed_solid _) refl) refl) refl

    assigned_solid : (x : Expression) → Solid ws (suc n) (assigned ws A x) true false (kinds_of assignment_operators) more_expression
    unfolding assigned
    assigned_solid x = listed (behind (marks_solid ws assignment_operators) (λ o. seq_solid a (λ y. gives_solid _) refl) refl) refl

    next_part_solid : (x : Expression) → Solid ws n (next_part ws A x) true false (mark_kind comma ∷ []) more_expression
    unfolding next_part
    next_part_solid x = listed (seq_solid (fixed_solid ws (mark_kind comma)) (λ at. seq_solid a (λ y. gives_solid _) refl) refl) refl

    with_commas_solid : Solid ws n (with_commas ws A) true false first_expression more_commas
    unfolding with_commas
    with_commas_solid = listed (seq_solid a (λ x. many_solid (mark_kind comma ∷ []) refl refl n next_part_solid x) refl) refl

  module _ {n : ℕ} {E : Syntax PlainToken Expression} (e : Solid ws n E true false first_expression more_commas) where
    written_solid : Solid ws n (written_length ws E) true false first_expression more_commas
    unfolding written_length
    written_solid = listed (seq_solid e (λ x. gives_solid _) refl) refl

    bracket_solid : (ns : List PlainLength) → Solid ws n (next_bracket ws (written_length ws E) ns) true false (mark_kind left_bracket ∷ []) []
    unfolding next_bracket bracket
    bracket_solid ns =
        listed (seq_solid (seq_solid (fixed_solid ws (mark_kind left_bracket)) (λ _. seq_solid written_solid (λ l. seq_solid (fixed_solid ws (mark_kind right_bracket)) (λ _. gives_solid _) refl) refl) refl) (λ l. gives_solid _) refl) refl

    brackets_solid : Solid ws n (brackets ws (written_length ws E)) false true (mark_kind left_bracket ∷ []) (mark_kind left_bracket ∷ [])
    unfolding brackets
    brackets_solid = listed (many_solid (mark_kind left_bracket ∷ []) refl refl n bracket_solid []) refl

    type_name_solid : Solid ws n (type_name ws E) true false first_type more_type_name
    unfolding type_name
    type_name_solid = listed (seq_solid type_solid (λ t. seq_solid stars_solid (λ s. seq_solid brackets_solid (λ ns. gives_solid _) refl) refl) refl) refl

    indexed_solid : (x : Expression) → Solid ws n (indexed ws E x) true false (mark_kind left_bracket ∷ []) []
    unfolding indexed
    indexed_solid x = listed (seq_solid (fixed_solid ws (mark_kind left_bracket)) (λ at. seq_solid e (λ i. seq_solid (fixed_solid ws (mark_kind right_bracket)) (λ _. gives_solid _) refl) refl) refl) refl

    postfix_once_solid : (x : Expression) → Solid ws n (postfix_once ws E x) true false first_postfix []
    unfolding postfix_once
    postfix_once_solid x =
        listed (either_solid (mark_kind left_bracket ∷ []) (indexed_solid x) (either_solid (mark_kind dot ∷ []) (dotted_solid x) (either_solid (mark_kind arrow ∷ []) (arrowed_solid x) (bumped_solid x) refl refl) refl refl) refl refl) refl

    postfix_rest_solid : (at : Place) (x : Expression) → Solid ws n (postfix_rest ws E at x) false true first_postfix first_postfix
    unfolding postfix_rest postfixes
    postfix_rest_solid at x = listed (seq_solid (many_solid first_postfix refl refl n postfix_once_solid x) (λ y. gives_solid _) refl) refl

    literal_first_solid : Solid ws (suc n) (literal_first ws E) true false (number_kind ∷ letter_kind ∷ text_kind ∷ []) first_postfix
    unfolding literal_first
    literal_first_solid = listed (behind literal_solid (λ x. postfix_rest_solid _ x) refl) refl

    paren_solid : (at : Place) → Solid ws n (paren_rest ws E at) true false first_expression first_postfix
    unfolding paren_rest
    paren_solid at = listed (seq_solid e (λ x. seq_solid (fixed_solid ws (mark_kind right_paren)) (λ _. postfix_rest_solid at x) refl) refl) refl

    sized_type_solid : (at : Place) → Solid ws n (sized_type ws E at) true false first_type []
    unfolding sized_type
    sized_type_solid at = listed (seq_solid type_name_solid (λ t. closed_solid _) refl) refl

  module _ {n : ℕ} {E : Syntax PlainToken Expression} (e : Solid ws n E true false first_expression more_commas) {O : Operand ws} (o : (u : TypeUse) → Solid ws n (O u) true false first_expression more_operand) where
    cast_solid : (at : Place) → Solid ws n (cast_rest ws E O at) true false first_type more_operand
    unfolding cast_rest
    cast_solid at = listed (seq_solid (type_name_solid e) (λ t. seq_solid (fixed_solid ws (mark_kind right_paren)) (λ _. seq_solid (o Casts) (λ x. gives_solid _) refl) refl) refl) refl

    behind_paren_solid : (u : TypeUse) (at : Place) → Solid ws n (behind_paren ws E O u at) true false (first_in_paren u) more_operand
    unfolding behind_paren
    behind_paren_solid Casts at = listed (either_solid first_type (cast_solid at) (paren_solid e at) refl refl) refl
    behind_paren_solid Sizes at = listed (either_solid first_type (sized_type_solid e at) (paren_solid e at) refl refl) refl
    behind_paren_solid Nothing at = listed (paren_solid e at) refl

    prefixed_solid : Solid ws (suc n) (prefixed ws O) true false (kinds_of unary_operators) more_operand
    unfolding prefixed
    prefixed_solid = listed (behind (marks_solid ws unary_operators) (λ p. seq_solid (o Casts) (λ x. gives_solid _) refl) refl) refl

    sized_solid : Solid ws (suc n) (sized ws O) true false (keyword_kind keyword.Sizeof ∷ []) more_operand
    unfolding sized
    sized_solid = listed (behind (fixed_solid ws (keyword_kind keyword.Sizeof)) (λ at. seq_solid (o Sizes) (λ x. gives_solid _) refl) refl) refl

    bump_first_solid : Solid ws (suc n) (bump_first ws O) true false (kinds_of prefix_bumps) more_operand
    unfolding bump_first
    bump_first_solid = listed (behind (marks_solid ws prefix_bumps) (λ p. seq_solid (o Nothing) (λ x. gives_solid _) refl) refl) refl

    but_name_solid : (u : TypeUse) → Solid ws (suc n) (operand_but_name ws E O u) true false first_but_name more_operand
    unfolding operand_but_name
    but_name_solid u =
        listed (either_solid (mark_kind left_paren ∷ []) (behind (fixed_solid ws (mark_kind left_paren)) (λ at. behind_paren_solid u at) (apart_none (first_in_paren u)))
        (either_solid (kinds_of unary_operators) prefixed_solid (either_solid (kinds_of prefix_bumps) bump_first_solid (either_solid (keyword_kind keyword.Sizeof ∷ []) sized_solid
        (literal_first_solid e) refl refl) refl refl) refl refl) refl refl) refl

  module _ {n : ℕ} {E A : Syntax PlainToken Expression} (e : Solid ws n E true false first_expression more_commas) (a : Solid ws n A true false first_expression more_expression) where
    behind_variable_solid : (x : ℕ × Place) → Solid ws n (behind_variable ws E A x) false true more_operand more_operand
    unfolding behind_variable
    behind_variable_solid x =
        listed (either_solid (mark_kind left_paren ∷ []) (seq_solid (call_rest_solid a x.0) (λ y. postfix_rest_solid e x.1 y) refl) (postfix_rest_solid e x.1 _) refl refl) refl

    operand_of_solid : {O : Operand ws} → ((u : TypeUse) → Solid ws n (O u) true false first_expression more_operand) → (u : TypeUse) → Solid ws (suc n) (operand_of ws E A O u) true false first_expression more_operand
    unfolding operand_of
    operand_of_solid o u = listed (either_solid (name_kind ∷ []) (behind (name_solid ws) (λ x. behind_variable_solid x) refl) (but_name_solid e o u) refl refl) refl

  -- ---- expressions

  module _ (n : ℕ) (g : (l : Level) → Solid ws n (expression_at ws l) true false first_expression more_expression) where
    abbrev E : Syntax PlainToken Expression
    E = expression ws

    abbrev A : Syntax PlainToken Expression
    A = expression_at ws Assignment

    commas_solid : Solid ws n E true false first_expression more_commas
    unfolding expression
    commas_solid = with_commas_solid (g Assignment)

    operand_solid : (u : TypeUse) → Solid ws (suc n) (operand ws E A u) true false first_expression more_operand
    operand_solid u =
        knot_solid_to {S = TypeUse} (suc n) refl (λ v. (operand_good ws (expression_good ws) (levels_good ws Assignment) v).here) (λ v. operand_is ws v)
        (λ k lt o v. operand_of_solid (lower k (omega (arith, lt)) commas_solid) (lower k (omega (arith, lt)) (g Assignment)) o v) (suc n) (omega arith) u

    right_solid : (l : ℕ) → apart (kinds_below l) more_operand ≡ true → ((x : Expression) → Solid ws (suc n) (behind_operand ws E A l x) false true (kinds_below l) (more_below l))
        → Solid ws (suc n) (operand ws E A Casts then λ z. behind_operand ws E A l z.expression) true false first_expression (more_below l)
    right_solid l a b =
        relisted ws first_expression (more_below l) (seq_solid (operand_solid Casts) (λ z. b z.expression) a) (λ _. refl) refl
        (λ x. within_both (more_below l) more_operand (more_below l) (within_self (more_below l)) (within_left more_operand (kinds_below l)))

    joined_solid : (l : ℕ) → apart (kinds_below l) more_operand ≡ true → ((x : Expression) → Solid ws (suc n) (behind_operand ws E A l x) false true (kinds_below l) (more_below l)) → (x : Expression)
        → Solid ws (suc n) (joined_once ws l (operand ws E A Casts then λ z. behind_operand ws E A l z.expression) x) true false (kinds_of (operators_at l)) (more_below l)
    unfolding joined_once
    joined_solid l a b x =
        relisted ws (kinds_of (operators_at l)) (more_below l) (seq_solid (marks_solid ws (operators_at l)) (λ p. seq_solid (right_solid l a b) (λ y. gives_solid _) refl) refl)
        (λ _. within_left (kinds_of (operators_at l)) []) (within_both (kinds_of (operators_at l)) [] (kinds_of (operators_at l)) (within_self (kinds_of (operators_at l))) refl)
        (λ y. within_both (more_below l) [] (more_below l) (within_self (more_below l)) refl)

    level_solid : (l : ℕ) → apart (kinds_of (operators_at l)) (more_below l) ≡ true → apart (kinds_below l) more_operand ≡ true
        → ((x : Expression) → Solid ws (suc n) (behind_operand ws E A l x) false true (kinds_below l) (more_below l)) → (x : Expression)
        → Solid ws (suc n) (behind_operand ws E A (suc l) x) false true (kinds_below (suc l)) (more_below (suc l))
    unfolding behind_operand
    level_solid l a c b x =
        let ks = kinds_of (operators_at l) in
        let below = kinds_below l in
        let more = more_below (suc l) in
        relisted ws (below ++ ks) more (seq_solid (b x) (λ y. many_solid ks (both_true (apart ks (more_below l)) (within ks ks) a (within_self ks)) (within_self ks) (suc n) (joined_solid l c b) y) a) (λ _. within_self (below ++ ks))
        (within_self (below ++ ks))
        (λ y. within_both (ks ++ more_below l) (more_below l) more (within_both ks (more_below l) more (level_within l) (below_within l)) (below_within l))

    behind_solid : (l : ℕ) → AreApart l → (x : Expression) → Solid ws (suc n) (behind_operand ws E A l x) false true (kinds_below l) (more_below l)
    unfolding behind_operand
    behind_solid zero a x = relisted ws [] more_operand (gives_solid x) (λ h. absurd cc) refl (λ y. refl)
    behind_solid (suc l) a x = level_solid l a.1 (postfix_apart l a.0) (behind_solid l a.0) x

    choice_solid : (x : Expression) → Solid ws (suc n) (choice_rest ws E (expression_at ws Conditional) x) true false (mark_kind question ∷ []) more_expression
    unfolding choice_rest
    choice_solid x =
        listed (behind (fixed_solid ws (mark_kind question)) (λ at. seq_solid commas_solid (λ y. seq_solid (fixed_solid ws (mark_kind colon)) (λ _. seq_solid (g Conditional) (λ z. gives_solid _) refl) refl) refl) refl) refl

    rest_solid : (x : Expression) → Solid ws (suc n) (conditional_rest ws E A (expression_at ws Conditional) x) false true behind_kinds more_expression
    unfolding conditional_rest
    rest_solid x = listed (seq_solid (behind_solid levels levels_apart x) (λ y. either_solid (mark_kind question ∷ []) (choice_solid y) (gives_solid y) refl refl) refl) refl

    behind_unary_solid : (x : Expression) → Solid ws (suc n) (behind_unary ws E A (expression_at ws Conditional) x) false true behind_unary_kinds more_expression
    unfolding behind_unary
    behind_unary_solid x = listed (either_solid (kinds_of assignment_operators) (assigned_solid (g Assignment) x) (rest_solid x) refl refl) refl

    behind_form_solid : (f : Form) (x : Expression) → Solid ws (suc n) (behind_form ws E A (expression_at ws Conditional) f x) false true behind_unary_kinds more_expression
    unfolding behind_form
    behind_form_solid form.Postfix x = behind_unary_solid x
    behind_form_solid form.Unary x = behind_unary_solid x
    behind_form_solid form.Cast x = relisted ws behind_unary_kinds more_expression (rest_solid x) (λ h. absurd cc) refl (λ y. refl)
    behind_form_solid form.TypeName x = relisted ws behind_unary_kinds more_expression (rest_solid x) (λ h. absurd cc) refl (λ y. refl)

    at_level_solid : (l : Level) → Solid ws (suc n) (at_level ws E A (expression_at ws Conditional) l) true false first_expression more_expression
    unfolding at_level
    at_level_solid Assignment = listed (seq_solid (operand_solid Casts) (λ x. behind_form_solid x.form x.expression) refl) refl
    at_level_solid Conditional = listed (seq_solid (operand_solid Casts) (λ x. rest_solid x.expression) refl) refl

  pub level_solid_at : (n : ℕ) (l : Level) → Solid ws n (expression_at ws l) true false first_expression more_expression
  level_solid_at n l = knot_solid {S = Level} refl (λ m. level_exact ws m) (λ m. level_is ws m) (λ k g m. at_level_solid k g m) n l

  pub expression_solid : (n : ℕ) → Solid ws n (expression ws) true false first_expression more_commas
  expression_solid n = commas_solid n (level_solid_at n)

  full_solid : (n : ℕ) → Solid ws n (full_expression ws) true false first_expression more_commas
  unfolding full_expression
  full_solid n = at_most_solid expression_limit most_in_expression (expression_free ws) (expression_solid n)

  -- the tokens before a refused one are no expression
  pub full_unread : (ts : List PlainToken) (n : ℕ) → (full_expression ws).parse ts ≡ Err (At n) → Unread (full_expression ws) ts n
  full_unread ts n e = unread (full_expression ws) true false first_expression (λ _. more_commas) full_solid ts n e

  full_level_solid : (l : Level) (n : ℕ) → Solid ws n (full_expression_at ws l) true false first_expression more_expression
  unfolding full_expression_at
  full_level_solid l n = at_most_solid expression_limit most_in_expression (level_free ws l) (level_solid_at n l)

  pub full_level_unread : (l : Level) (ts : List PlainToken) (n : ℕ) → (full_expression_at ws l).parse ts ≡ Err (At n) → Unread (full_expression_at ws l) ts n
  full_level_unread l ts n e = unread (full_expression_at ws l) true false first_expression (λ _. more_expression) (full_level_solid l) ts n e

  -- ---- with the place of its first token

  placed_rest_solid : (n : ℕ) (x : ReadOperand) → Solid ws (suc n) (placed_rest ws x) false true placed_rest_kinds more_commas
  unfolding placed_rest
  placed_rest_solid n x =
      listed (seq_solid (behind_form_solid n (level_solid_at n) x.form x.expression)
      (λ y. seq_solid (many_solid (mark_kind comma ∷ []) refl refl (suc n) (λ z. next_part_solid (level_solid_at (suc n) Assignment) z) y) (λ e. gives_solid _) refl) refl) refl

  placed_solid : (n : ℕ) → Solid ws n (placed_expression ws) true false first_expression more_commas
  unfolding placed_expression
  placed_solid n = lower n (omega arith) (listed (seq_solid (operand_solid n (level_solid_at n) Casts) (placed_rest_solid n) refl) refl)

  -- a token of a kind that can begin one begins one
  pub placed_begins : (t : PlainToken) → among (kind ws t) first_expression ≡ true → (full_placed_expression ws).begun (t ∷ [])
  unfolding full_placed_expression
  placed_begins t h = opened (kind ws) (placed_expression ws) first_expression (λ _. more_commas) (placed_solid 0).exact t (λ e. (placed_solid 2).opens refl t [] (omega arith) h e)

  nameless_solid : (n : ℕ) → Solid ws n (nameless_expression ws) true false first_but_name more_commas
  unfolding nameless_expression
  nameless_solid n =
      listed (seq_solid (lower n (omega arith) (but_name_solid (expression_solid n) (λ u. lower n (omega arith) (operand_solid n (level_solid_at n) u)) Casts)) (λ x. lower n (omega arith) (placed_rest_solid n x)) refl) refl

  -- the same of one that begins with no name
  pub nameless_begins : (t : PlainToken) → among (kind ws t) first_but_name ≡ true → (full_nameless_expression ws).begun (t ∷ [])
  unfolding full_nameless_expression
  nameless_begins t h = opened (kind ws) (nameless_expression ws) first_but_name (λ _. more_commas) (nameless_solid 0).exact t (λ e. (nameless_solid 2).opens refl t [] (omega arith) h e)
