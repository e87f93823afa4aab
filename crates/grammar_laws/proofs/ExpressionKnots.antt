-- The knots of expressions: what stands in itself is its production.
use Rattle.std.proofs.Common.{ℕ, zero, suc, [], ◌∷◌, ◌++◌, refl, inl, inr}
use Rattle.grammar.specs.Syntax.{Syntax, gives, one, ◌then◌, choice}
use Rattle.grammar.specs.Exact.{Same}
use Rattle.grammar_laws.proofs.Chains.{Reaches, still, sequence, alternatives, repetition, inner_knot, knot_line}
use Rattle.c_syntax.specs.declared.place.Place.{Place}
use Rattle.c_syntax.specs.Ctypes.{Written}
use Rattle.c_syntax.specs.Expressions.{Expression, Unary, Choice, Assign, Bump, Call, Cast, SizeOfType, Index, Comma, place_of}
use Rattle.c_syntax.specs.Tokens.{PlainToken}
use Rattle.c_model.specs.declared.operands.Form.{Form}
use Rattle.c_model.specs.declared.operands.Form.TheVariants as form
use Rattle.c_model.specs.declared.operands.Level.{Level}
use Rattle.c_model.specs.declared.operands.Level.TheVariants.{Assignment, Conditional}
use Rattle.c_model.specs.declared.operands.TypeUse.{TypeUse}
use Rattle.c_model.specs.declared.operands.TypeUse.TheVariants as type_use
use Rattle.c_model.specs.declared.vocabulary.Keyword.TheVariants as keyword
use Rattle.c_model.specs.Vocabulary.{Vocabulary}
use Rattle.c_model.specs.Terminals.{placed, mark_entry}
use Rattle.c_model.specs.Punctuators.{question, colon, comma, arrow, left_paren, right_paren, dot, left_bracket, right_bracket}
use Rattle.c_model.specs.ExpressionGrammar.{ReadOperand, kind, kinds_of, mark_kind, name_kind, keyword_kind, first_type, first_expression, first_postfix, unary_operators, prefix_bumps, assignment_operators}
use Rattle.c_model.specs.ExpressionGrammar.{operators_at, levels, read_as, connective_kind, read_operand, read_name, use_of, expressions, size_of_operand, declared_type, mark, reserved, name}
use Rattle.c_model.specs.ExpressionGrammar.{literal, type_words, star_words, written_length, bracket, next_bracket, brackets, type_name, closed, indexed}
use Rattle.c_model.specs.ExpressionGrammar.{dotted, arrowed, postfix_once, postfixes, postfix_rest, literal_first, cast_rest, sized_type, paren_rest}
use Rattle.c_model.specs.ExpressionGrammar.{behind_paren, prefixed, sized, operand_but_name, operand_of, operand, joined_once, behind_operand, choice_rest}
use Rattle.c_model.specs.ExpressionGrammar.{bumped, bump_first, next_argument, arguments, call_rest, behind_variable, conditional_rest, assigned, behind_unary, behind_form, at_level, next_part}
use Rattle.c_model.specs.ExpressionGrammar.{with_commas, expression_of, expression_at, expression}

module _ (ws : Vocabulary) where
  abbrev Tree : Type 1
  Tree = Syntax PlainToken Expression

  abbrev Operands : Type 1
  Operands = TypeUse → Syntax PlainToken ReadOperand

  -- ---- what is nothing yet begins each production

  operand_of_empty : (E A : Tree) (O : Operands) (u : TypeUse) → (operand_of ws E A O u).begun []
  unfolding operand_of
  operand_of_empty E A O u = inl (inl (inl refl))

  at_level_empty : (E A C : Tree) (l : Level) → (at_level ws E A C l).begun []
  unfolding at_level operand
  at_level_empty E A C Assignment = inl (0, refl)
  at_level_empty E A C Conditional = inl (0, refl)

  expression_of_empty : (G : Level → Tree) (l : Level) → (expression_of ws G l).begun []
  unfolding expression_of
  expression_of_empty G l = at_level_empty (with_commas ws (G Assignment)) (G Assignment) (G Conditional) l

  pub rest_empty : (E : Tree) (at : Place) (x : Expression) → (postfix_rest ws E at x).begun []
  unfolding postfix_rest postfixes
  rest_empty E at x = inl (0, inr refl)

  -- ---- each production grows with its parts

  type_name_reaches : {E : ℕ → Tree} {E' : Tree} → Reaches E E' → Reaches (λ k. type_name ws (E k)) (type_name ws E')
  unfolding type_name brackets next_bracket bracket written_length
  type_name_reaches e =
      sequence (still (type_words ws)) (λ t. sequence (still (star_words ws)) (λ stars.
      sequence (repetition (kind ws) (λ _. mark_kind left_bracket ∷ []) (λ ns.
      sequence (sequence (still (mark ws left_bracket)) (λ _. sequence (sequence e (λ x. still (gives (Written x)))) (λ n. still (mark ws right_bracket then λ _. gives n)))) (λ n. still (gives (ns ++ n ∷ [])))) [])
      (λ ns. still (gives (declared_type t stars ns)))))

  postfix_rest_reaches : {E : ℕ → Tree} {E' : Tree} → Reaches E E' → (at : Place) (x : Expression) → Reaches (λ k. postfix_rest ws (E k) at x) (postfix_rest ws E' at x)
  unfolding postfix_rest postfixes postfix_once indexed
  postfix_rest_reaches e at x =
      sequence (repetition (kind ws) (λ _. first_postfix) (λ y.
      alternatives (kind ws) (mark_kind left_bracket ∷ [])
      (sequence (still (mark ws left_bracket)) (λ p. sequence e (λ i. still (mark ws right_bracket then λ _. gives (read_as p (Index y i))))))
      (still (choice (kind ws) (mark_kind dot ∷ []) (dotted ws y) (choice (kind ws) (mark_kind arrow ∷ []) (arrowed ws y) (bumped ws y))))) x)
      (λ y. still (gives (read_operand y form.Postfix at)))

  paren_rest_reaches : {E : ℕ → Tree} {E' : Tree} → Reaches E E' → (at : Place) → Reaches (λ k. paren_rest ws (E k) at) (paren_rest ws E' at)
  unfolding paren_rest
  paren_rest_reaches e at = sequence e (λ x. sequence (still (mark ws right_paren)) (λ _. postfix_rest_reaches e at x))

  behind_paren_reaches : {E : ℕ → Tree} {E' : Tree} {O : ℕ → Operands} {O' : Operands} → Reaches E E' → ((u : TypeUse) → Reaches (λ k. O k u) (O' u)) → (u : TypeUse) (at : Place)
      → Reaches (λ k. behind_paren ws (E k) (O k) u at) (behind_paren ws E' O' u at)
  unfolding behind_paren cast_rest sized_type
  behind_paren_reaches e o type_use.Casts at =
      alternatives (kind ws) first_type
      (sequence (type_name_reaches e) (λ t. sequence (still (mark ws right_paren)) (λ _. sequence (o type_use.Casts) (λ x. still (gives (read_operand (read_as at (Cast t x.expression)) form.Cast at))))))
      (paren_rest_reaches e at)
  behind_paren_reaches e o type_use.Sizes at =
      alternatives (kind ws) first_type (sequence (type_name_reaches e) (λ t. still (closed ws (read_operand (read_as at (SizeOfType t)) form.TypeName at)))) (paren_rest_reaches e at)
  behind_paren_reaches e o type_use.Nothing at = paren_rest_reaches e at

  arguments_reach : {A : ℕ → Tree} {A' : Tree} → Reaches A A' → Reaches (λ k. arguments ws (A k)) (arguments ws A')
  unfolding arguments next_argument
  arguments_reach a =
      alternatives (kind ws) first_expression
      (sequence a (λ e. repetition (kind ws) (λ _. mark_kind comma ∷ []) (λ es. sequence (still (mark ws comma)) (λ _. sequence a (λ f. still (gives (es ++ f ∷ []))))) (e ∷ [])))
      (still (gives []))

  call_rest_reaches : {A : ℕ → Tree} {A' : Tree} → Reaches A A' → (f : ℕ) → Reaches (λ k. call_rest ws (A k) f) (call_rest ws A' f)
  unfolding call_rest
  call_rest_reaches a f = sequence (still (mark ws left_paren)) (λ at. sequence (arguments_reach a) (λ es. still (closed ws (read_as at (Call (use_of f) (expressions es))))))

  behind_variable_reaches : {E A : ℕ → Tree} {E' A' : Tree} → Reaches E E' → Reaches A A' → (x : ℕ × Place) → Reaches (λ k. behind_variable ws (E k) (A k) x) (behind_variable ws E' A' x)
  unfolding behind_variable
  behind_variable_reaches e a x =
      alternatives (kind ws) (mark_kind left_paren ∷ []) (sequence (call_rest_reaches a x.0) (λ y. postfix_rest_reaches e x.1 y)) (postfix_rest_reaches e x.1 (read_name x))

  operand_of_reaches : {E A : ℕ → Tree} {E' A' : Tree} {O : ℕ → Operands} {O' : Operands} → Reaches E E' → Reaches A A' → ((u : TypeUse) → Reaches (λ k. O k u) (O' u)) → (u : TypeUse)
      → Reaches (λ k. operand_of ws (E k) (A k) (O k) u) (operand_of ws E' A' O' u)
  unfolding operand_of operand_but_name prefixed bump_first sized literal_first
  operand_of_reaches e a o u =
      alternatives (kind ws) (name_kind ∷ []) (sequence (still (name ws)) (λ x. behind_variable_reaches e a x))
      (alternatives (kind ws) (mark_kind left_paren ∷ []) (sequence (still (mark ws left_paren)) (λ at. behind_paren_reaches e o u at))
      (alternatives (kind ws) (kinds_of unary_operators)
      (sequence (still (one (placed (mark_entry unary_operators)))) (λ p. sequence (o type_use.Casts) (λ x. still (gives (read_operand (read_as p.1 (Unary p.0 x.expression)) form.Unary p.1)))))
      (alternatives (kind ws) (kinds_of prefix_bumps)
      (sequence (still (one (placed (mark_entry prefix_bumps)))) (λ p. sequence (o type_use.Nothing) (λ x. still (gives (read_operand (read_as p.1 (Bump p.0 x.expression)) form.Unary p.1)))))
      (alternatives (kind ws) (keyword_kind keyword.Sizeof ∷ [])
      (sequence (still (reserved ws keyword.Sizeof)) (λ at. sequence (o type_use.Sizes) (λ x. still (gives (read_operand (read_as at (size_of_operand x)) form.Unary at)))))
      (sequence (still (literal ws)) (λ x. postfix_rest_reaches e (place_of x) x))))))

  operand_reaches : {E A : ℕ → Tree} {E' A' : Tree} → Reaches E E' → Reaches A A' → (u : TypeUse) → Reaches (λ k. operand ws (E k) (A k) u) (operand ws E' A' u)
  unfolding operand
  operand_reaches {E} {A} {E'} {A'} e a u = inner_knot (λ k. operand_of ws (E k) (A k)) (operand_of ws E' A') (λ U U' o s. operand_of_reaches e a o s) u

  behind_operand_reaches : {E A : ℕ → Tree} {E' A' : Tree} → Reaches E E' → Reaches A A' → (l : ℕ) (x : Expression) → Reaches (λ k. behind_operand ws (E k) (A k) l x) (behind_operand ws E' A' l x)
  unfolding behind_operand joined_once
  behind_operand_reaches e a zero x = still (gives x)
  behind_operand_reaches e a (suc l) x =
      sequence (behind_operand_reaches e a l x) (λ y. repetition (kind ws) (λ _. kinds_of (operators_at l)) (λ left.
      sequence (still (one (placed (mark_entry (operators_at l))))) (λ o. sequence (sequence (operand_reaches e a type_use.Casts) (λ z. behind_operand_reaches e a l z.expression))
      (λ right. still (gives (read_as o.1 (connective_kind o.0 left right)))))) y)

  with_commas_reaches : {A : ℕ → Tree} {A' : Tree} → Reaches A A' → Reaches (λ k. with_commas ws (A k)) (with_commas ws A')
  unfolding with_commas next_part
  with_commas_reaches a =
      sequence a (λ x. repetition (kind ws) (λ _. mark_kind comma ∷ []) (λ left. sequence (still (mark ws comma)) (λ at. sequence a (λ right. still (gives (read_as at (Comma left right)))))) x)

  module _ {E A C : ℕ → Tree} {E' A' C' : Tree} (e : Reaches E E') (a : Reaches A A') (c : Reaches C C') where
    conditional_rest_reaches : (x : Expression) → Reaches (λ k. conditional_rest ws (E k) (A k) (C k) x) (conditional_rest ws E' A' C' x)
    unfolding conditional_rest choice_rest
    conditional_rest_reaches x =
        sequence (behind_operand_reaches e a levels x) (λ y.
        alternatives (kind ws) (mark_kind question ∷ [])
        (sequence (still (mark ws question)) (λ at. sequence e (λ z. sequence (still (mark ws colon)) (λ _. sequence c (λ w. still (gives (read_as at (Choice y z w))))))))
        (still (gives y)))

    behind_unary_reaches : (x : Expression) → Reaches (λ k. behind_unary ws (E k) (A k) (C k) x) (behind_unary ws E' A' C' x)
    unfolding behind_unary assigned
    behind_unary_reaches x =
        alternatives (kind ws) (kinds_of assignment_operators)
        (sequence (still (one (placed (mark_entry assignment_operators)))) (λ o. sequence a (λ right. still (gives (read_as o.1 (Assign o.0 x right))))))
        (conditional_rest_reaches x)

    behind_form_reaches : (f : Form) (x : Expression) → Reaches (λ k. behind_form ws (E k) (A k) (C k) f x) (behind_form ws E' A' C' f x)
    unfolding behind_form
    behind_form_reaches form.Postfix x = behind_unary_reaches x
    behind_form_reaches form.Unary x = behind_unary_reaches x
    behind_form_reaches form.Cast x = conditional_rest_reaches x
    behind_form_reaches form.TypeName x = conditional_rest_reaches x

    at_level_reaches : (l : Level) → Reaches (λ k. at_level ws (E k) (A k) (C k) l) (at_level ws E' A' C' l)
    unfolding at_level
    at_level_reaches Assignment = sequence (operand_reaches e a type_use.Casts) (λ x. behind_form_reaches x.form x.expression)
    at_level_reaches Conditional = sequence (operand_reaches e a type_use.Casts) (λ x. conditional_rest_reaches x.expression)

  expression_of_reaches : {G : ℕ → Level → Tree} {G' : Level → Tree} → ((l : Level) → Reaches (λ k. G k l) (G' l)) → (l : Level) → Reaches (λ k. expression_of ws (G k) l) (expression_of ws G' l)
  unfolding expression_of
  expression_of_reaches g l = at_level_reaches (with_commas_reaches (g Assignment)) (g Assignment) (g Conditional) l

  -- ---- the knots

  level_knot : (l : Level) → Same (expression_at ws l) (expression_of ws (expression_at ws) l)
  unfolding expression_at
  level_knot l = knot_line (expression_of ws) (λ G s. expression_of_empty G s) (λ U U' u s. expression_of_reaches u s) l

  pub expression_knot : (l : Level) → Same (expression_at ws l) (at_level ws (expression ws) (expression_at ws Assignment) (expression_at ws Conditional) l)
  unfolding expression_of expression
  expression_knot l = level_knot l

  pub operand_knot : (E A : Tree) (u : TypeUse) → Same (operand ws E A u) (operand_of ws E A (operand ws E A) u)
  unfolding operand
  operand_knot E A u = knot_line (operand_of ws E A) (operand_of_empty E A) (λ U U' o s. operand_of_reaches (still E) (still A) o s) u
