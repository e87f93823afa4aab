-- No token of an expression passes a limit: the limit of their tokens is set where they stand in no other.
use Rattle.std.proofs.Common.{ℕ, Bool, zero, suc, List, [], ◌∷◌}
use Rattle.grammar.specs.Syntax.{Syntax, many}
use Rattle.grammar.proofs.Labels.{Unlimited, late_gives, late_one, late_then, late_choice, late_many, late_knot}
use Rattle.c_syntax.specs.declared.place.Place.{Place}
use Rattle.c_syntax.specs.Ctypes.{PlainLength}
use Rattle.c_syntax.specs.Expressions.{Expression}
use Rattle.c_syntax.specs.Tokens.{PlainToken}
use Rattle.c_model.specs.declared.operands.Form.{Form}
use Rattle.c_model.specs.declared.operands.Level.{Level}
use Rattle.c_model.specs.declared.operands.Level.TheVariants.{Assignment, Conditional}
use Rattle.c_model.specs.declared.operands.Form.TheVariants as form
use Rattle.c_model.specs.declared.operands.Stars.{Stars}
use Rattle.c_model.specs.declared.operands.TypeUse.{TypeUse}
use Rattle.c_model.specs.declared.operands.TypeUse.TheVariants.{Casts, Sizes, Nothing}
use Rattle.c_model.specs.declared.vocabulary.Keyword.TheVariants as keyword
use Rattle.c_model.specs.declared.vocabulary.IntegerWords.{IntegerWords}
use Rattle.c_model.specs.Vocabulary.{Vocabulary}
use Rattle.c_model.specs.Punctuators.{question, comma, left_paren, times, left_bracket, dot, arrow}
use Rattle.c_model.specs.ExpressionGrammar.{name_kind, number_kind, type_name_kind, keyword_kind, mark_kind, kind, kinds_of, unary_operators, operators_at, levels, assignment_operators, prefix_bumps, first_type}
use Rattle.c_model.specs.ExpressionGrammar.{first_expression, first_postfix, letter_kind}
use Rattle.c_model.specs.ExpressionGrammar.{words_behind, Operand, integer_word, integer_words, typedef_name, struct_tag, enum_tag, untagged_base, base, consts, type_words, closed, literal, cast_rest, sized_type, paren_rest}
use Rattle.c_model.specs.ExpressionGrammar.{behind_paren, prefixed, sized, operand_but_name}
use Rattle.c_model.specs.ExpressionGrammar.{more_consts, star, next_star, star_words, written_length, length_or_none, bracket, next_bracket, brackets, type_name, indexed, dotted, arrowed, postfix_once, postfixes, postfix_rest, literal_first}
use Rattle.c_model.specs.ExpressionGrammar.{behind_variable}
use Rattle.c_model.specs.ExpressionGrammar.{bump_first, operand_of, operand, joined_once, behind_operand, choice_rest, conditional_rest, next_argument, arguments, call_rest, assigned, bumped, behind_unary, behind_form, at_level, next_part}
use Rattle.c_model.specs.ExpressionGrammar.{with_commas}
use Rattle.c_model.specs.ExpressionGrammar.{expression_of, expression_at, expression, ReadOperand, placed_rest, placed_expression, nameless_expression, expression_behind}

module _ (ws : Vocabulary) where
  -- ---- types

  integer_word_free : (x : IntegerWords) → Unlimited (integer_word ws x)
  unfolding integer_word
  integer_word_free x = late_then (late_one _) (λ y. late_gives _)

  integer_words_free : Unlimited (integer_words ws)
  unfolding integer_words
  integer_words_free = late_then (integer_word_free _) (λ x. late_then (late_many (kind ws) words_behind integer_word_free x) (λ y. late_gives _))

  pub untagged_free : Unlimited (untagged_base ws)
  unfolding untagged_base typedef_name
  untagged_free =
      late_choice (kind ws) (keyword_kind keyword.Void ∷ []) (late_then (late_one _) (λ _. late_gives _))
      (late_choice (kind ws) (type_name_kind ∷ []) (late_then (late_one _) (λ t. late_gives _)) integer_words_free)

  pub struct_tag_free : Unlimited (struct_tag ws)
  unfolding struct_tag
  struct_tag_free = late_then (late_one _) (λ _. late_then (late_one _) (λ x. late_gives _))

  pub enum_tag_free : Unlimited (enum_tag ws)
  unfolding enum_tag
  enum_tag_free = late_then (late_one _) (λ _. late_then (late_one _) (λ x. late_gives _))

  base_free : Unlimited (base ws)
  unfolding base
  base_free =
      late_choice (kind ws) (keyword_kind keyword.Struct ∷ []) struct_tag_free
      (late_choice (kind ws) (keyword_kind keyword.Enum ∷ []) enum_tag_free untagged_free)

  pub consts_free : {A : Type 0} (x : A) → Unlimited (consts ws x)
  unfolding consts
  consts_free x = late_many (kind ws) (λ _. keyword_kind keyword.Const ∷ []) (λ y. late_then (late_one _) (λ _. late_gives y)) x

  pub type_free : Unlimited (type_words ws)
  unfolding type_words
  type_free = late_then (consts_free _) (λ _. late_then base_free (λ t. consts_free t))

  -- ---- stars and brackets

  more_consts_free : (b : Bool) → Unlimited (more_consts ws b)
  unfolding more_consts
  more_consts_free b = late_many (kind ws) (λ _. keyword_kind keyword.Const ∷ []) (λ _. late_then (late_one _) (λ _. late_gives _)) b

  next_star_free : (s : Stars) → Unlimited (next_star ws s)
  unfolding next_star star
  next_star_free s = late_then (late_then (late_one _) (λ _. more_consts_free s.constant)) (λ c. late_gives _)

  pub stars_free : Unlimited (star_words ws)
  unfolding star_words
  stars_free = late_many (kind ws) (λ _. mark_kind times ∷ []) next_star_free _

  bracket_free : {L : Syntax PlainToken PlainLength} → Unlimited L → (ns : List PlainLength) → Unlimited (next_bracket ws L ns)
  unfolding next_bracket bracket
  bracket_free l ns = late_then (late_then (late_one _) (λ _. late_then l (λ n. late_then (late_one _) (λ _. late_gives _)))) (λ n. late_gives _)

  pub brackets_free : {L : Syntax PlainToken PlainLength} → Unlimited L → Unlimited (brackets ws L)
  unfolding brackets
  brackets_free l = late_many (kind ws) (λ _. mark_kind left_bracket ∷ []) (bracket_free l) _

  -- ---- operands

  pub closed_free : {A : Type 0} (x : A) → Unlimited (closed ws x)
  unfolding closed
  closed_free x = late_then (late_one _) (λ _. late_gives _)

  literal_free : Unlimited (literal ws)
  unfolding literal
  literal_free =
      late_choice (kind ws) (number_kind ∷ []) (late_then (late_one _) (λ n. late_gives _))
      (late_choice (kind ws) (letter_kind ∷ []) (late_then (late_one _) (λ z. late_gives _)) (late_then (late_one _) (λ at. late_gives _)))

  dotted_free : (x : Expression) → Unlimited (dotted ws x)
  unfolding dotted
  dotted_free x = late_then (late_one _) (λ at. late_then (late_one _) (λ m. late_gives _))

  arrowed_free : (x : Expression) → Unlimited (arrowed ws x)
  unfolding arrowed
  arrowed_free x = late_then (late_one _) (λ at. late_then (late_one _) (λ m. late_gives _))

  bumped_free : (x : Expression) → Unlimited (bumped ws x)
  unfolding bumped
  bumped_free x = late_then (late_one _) (λ op. late_gives _)

  -- ---- calls and commas; A is an expression without commas

  module _ {A : Syntax PlainToken Expression} (a : Unlimited A) where
    next_argument_free : (es : List Expression) → Unlimited (next_argument ws A es)
    unfolding next_argument
    next_argument_free es = late_then (late_one _) (λ _. late_then a (λ e. late_gives _))

    arguments_free : Unlimited (arguments ws A)
    unfolding arguments
    arguments_free = late_choice (kind ws) first_expression (late_then a (λ e. late_many (kind ws) (λ _. mark_kind comma ∷ []) next_argument_free _)) (late_gives _)

    call_rest_free : (f : ℕ) → Unlimited (call_rest ws A f)
    unfolding call_rest
    call_rest_free f = late_then (late_one _) (λ at. late_then arguments_free (λ es. closed_free _))

    assigned_free : (x : Expression) → Unlimited (assigned ws A x)
    unfolding assigned
    assigned_free x = late_then (late_one _) (λ op. late_then a (λ y. late_gives _))

    next_part_free : (x : Expression) → Unlimited (next_part ws A x)
    unfolding next_part
    next_part_free x = late_then (late_one _) (λ at. late_then a (λ y. late_gives _))

    parts_free : (x : Expression) → Unlimited (many (kind ws) (λ _. mark_kind comma ∷ []) (next_part ws A) x)
    parts_free x = late_many (kind ws) (λ _. mark_kind comma ∷ []) next_part_free x

    with_commas_free : Unlimited (with_commas ws A)
    unfolding with_commas
    with_commas_free = late_then a (λ x. parts_free x)

  module _ {E : Syntax PlainToken Expression} (e : Unlimited E) where
    written_free : Unlimited (written_length ws E)
    unfolding written_length
    written_free = late_then e (λ x. late_gives _)

    pub length_free : Unlimited (length_or_none ws E)
    unfolding length_or_none
    length_free = late_choice (kind ws) first_expression written_free (late_gives _)

    pub type_name_free : Unlimited (type_name ws E)
    unfolding type_name
    type_name_free = late_then type_free (λ t. late_then stars_free (λ s. late_then (brackets_free written_free) (λ ns. late_gives _)))

    indexed_free : (x : Expression) → Unlimited (indexed ws E x)
    unfolding indexed
    indexed_free x = late_then (late_one _) (λ at. late_then e (λ i. late_then (late_one _) (λ _. late_gives _)))

    postfix_once_free : (x : Expression) → Unlimited (postfix_once ws E x)
    unfolding postfix_once
    postfix_once_free x =
        late_choice (kind ws) (mark_kind left_bracket ∷ []) (indexed_free x) (late_choice (kind ws) (mark_kind dot ∷ []) (dotted_free x) (late_choice (kind ws) (mark_kind arrow ∷ []) (arrowed_free x) (bumped_free x)))

    postfix_rest_free : (at : Place) (x : Expression) → Unlimited (postfix_rest ws E at x)
    unfolding postfix_rest postfixes
    postfix_rest_free at x = late_then (late_many (kind ws) (λ _. first_postfix) postfix_once_free x) (λ y. late_gives _)

    literal_first_free : Unlimited (literal_first ws E)
    unfolding literal_first
    literal_first_free = late_then literal_free (λ x. postfix_rest_free _ x)

    sized_type_free : (at : Place) → Unlimited (sized_type ws E at)
    unfolding sized_type
    sized_type_free at = late_then type_name_free (λ t. closed_free _)

    paren_rest_free : (at : Place) → Unlimited (paren_rest ws E at)
    unfolding paren_rest
    paren_rest_free at = late_then e (λ x. late_then (late_one _) (λ _. postfix_rest_free at x))

    module _ {O : Operand ws} (o : (u : TypeUse) → Unlimited (O u)) where
      cast_rest_free : (at : Place) → Unlimited (cast_rest ws E O at)
      unfolding cast_rest
      cast_rest_free at = late_then type_name_free (λ t. late_then (late_one _) (λ _. late_then (o Casts) (λ x. late_gives _)))

      behind_paren_free : (u : TypeUse) (at : Place) → Unlimited (behind_paren ws E O u at)
      unfolding behind_paren
      behind_paren_free Casts at = late_choice (kind ws) first_type (cast_rest_free at) (paren_rest_free at)
      behind_paren_free Sizes at = late_choice (kind ws) first_type (sized_type_free at) (paren_rest_free at)
      behind_paren_free Nothing at = paren_rest_free at

      prefixed_free : Unlimited (prefixed ws O)
      unfolding prefixed
      prefixed_free = late_then (late_one _) (λ op. late_then (o Casts) (λ x. late_gives _))

      sized_free : Unlimited (sized ws O)
      unfolding sized
      sized_free = late_then (late_one _) (λ at. late_then (o Sizes) (λ x. late_gives _))

      bump_first_free : Unlimited (bump_first ws O)
      unfolding bump_first
      bump_first_free = late_then (late_one _) (λ op. late_then (o Nothing) (λ x. late_gives _))

      but_name_free : (u : TypeUse) → Unlimited (operand_but_name ws E O u)
      unfolding operand_but_name
      but_name_free u =
          late_choice (kind ws) (mark_kind left_paren ∷ []) (late_then (late_one _) (λ at. behind_paren_free u at))
          (late_choice (kind ws) (kinds_of unary_operators) prefixed_free
          (late_choice (kind ws) (kinds_of prefix_bumps) bump_first_free
          (late_choice (kind ws) (keyword_kind keyword.Sizeof ∷ []) sized_free literal_first_free)))

  module _ {E A : Syntax PlainToken Expression} (e : Unlimited E) (a : Unlimited A) where
    behind_variable_free : (x : ℕ × Place) → Unlimited (behind_variable ws E A x)
    unfolding behind_variable
    behind_variable_free x = late_choice (kind ws) (mark_kind left_paren ∷ []) (late_then (call_rest_free a x.0) (λ y. postfix_rest_free e x.1 y)) (postfix_rest_free e x.1 _)

    operand_of_free : {O : Operand ws} → ((u : TypeUse) → Unlimited (O u)) → (u : TypeUse) → Unlimited (operand_of ws E A O u)
    unfolding operand_of
    operand_of_free o u = late_choice (kind ws) (name_kind ∷ []) (late_then (late_one _) (λ x. behind_variable_free x)) (but_name_free e o u)

    operand_free : (u : TypeUse) → Unlimited (operand ws E A u)
    unfolding operand
    operand_free u = late_knot (λ O o v. operand_of_free o v) u

    -- ---- expressions

    joined_free : (l : ℕ) {R : Syntax PlainToken Expression} (x : Expression) → Unlimited R → Unlimited (joined_once ws l R x)
    unfolding joined_once
    joined_free l x r = late_then (late_one _) (λ op. late_then r (λ y. late_gives _))

    behind_free : (l : ℕ) (x : Expression) → Unlimited (behind_operand ws E A l x)
    unfolding behind_operand
    behind_free zero x = late_gives x
    behind_free (suc l) x =
        late_then (behind_free l x)
        (λ y. late_many (kind ws) (λ _. kinds_of (operators_at l)) (λ z. joined_free l z (late_then (operand_free Casts) (λ w. behind_free l w.expression))) y)

    module _ {C : Syntax PlainToken Expression} (c : Unlimited C) where
      choice_rest_free : (x : Expression) → Unlimited (choice_rest ws E C x)
      unfolding choice_rest
      choice_rest_free x = late_then (late_one _) (λ at. late_then e (λ y. late_then (late_one _) (λ _. late_then c (λ z. late_gives _))))

      rest_free : (x : Expression) → Unlimited (conditional_rest ws E A C x)
      unfolding conditional_rest
      rest_free x = late_then (behind_free levels x) (λ y. late_choice (kind ws) (mark_kind question ∷ []) (choice_rest_free y) (late_gives y))

      behind_unary_free : (x : Expression) → Unlimited (behind_unary ws E A C x)
      unfolding behind_unary
      behind_unary_free x = late_choice (kind ws) (kinds_of assignment_operators) (assigned_free a x) (rest_free x)

      behind_form_free : (f : Form) (x : Expression) → Unlimited (behind_form ws E A C f x)
      unfolding behind_form
      behind_form_free form.Postfix x = behind_unary_free x
      behind_form_free form.Unary x = behind_unary_free x
      behind_form_free form.Cast x = rest_free x
      behind_form_free form.TypeName x = rest_free x

      at_level_free : (l : Level) → Unlimited (at_level ws E A C l)
      unfolding at_level
      at_level_free Assignment = late_then (operand_free Casts) (λ x. behind_form_free x.form x.expression)
      at_level_free Conditional = late_then (operand_free Casts) (λ x. rest_free x.expression)

  pub level_free : (l : Level) → Unlimited (expression_at ws l)
  unfolding expression_at expression_of
  level_free l = late_knot (λ G g m. at_level_free (with_commas_free (g Assignment)) (g Assignment) (g Conditional) m) l

  pub expression_free : Unlimited (expression ws)
  unfolding expression
  expression_free = with_commas_free (level_free Assignment)

  placed_rest_free : (x : ReadOperand) → Unlimited (placed_rest ws x)
  unfolding placed_rest
  placed_rest_free x =
      late_then (behind_form_free expression_free (level_free Assignment) (level_free Conditional) x.form x.expression) (λ y. late_then (parts_free (level_free Assignment) y) (λ e. late_gives _))

  pub placed_free : Unlimited (placed_expression ws)
  unfolding placed_expression
  placed_free = late_then (operand_free expression_free (level_free Assignment) Casts) placed_rest_free

  pub nameless_free : Unlimited (nameless_expression ws)
  unfolding nameless_expression
  nameless_free = late_then (but_name_free expression_free (λ u. operand_free expression_free (level_free Assignment) u) Casts) placed_rest_free

  pub behind_name_free : (x : ℕ × Place) → Unlimited (expression_behind ws x)
  unfolding expression_behind
  behind_name_free x = late_then (behind_variable_free expression_free (level_free Assignment) x) placed_rest_free
