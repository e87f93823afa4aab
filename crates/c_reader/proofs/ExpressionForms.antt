-- Expressions that are read have no more forms than tokens, and letters that are values of `char`.
use Rattle.std.proofs.Common.{◌≡◌, ℕ, zero, suc, ◌+◌, ◌≤◌, List, [], ◌∷◌, ◌++◌, refl, subst, arith}
use Rattle.grammar.specs.Syntax.{Syntax}
use Rattle.grammar.proofs.Readings.{each_more, each_gives, each_then, each_choice, each_at_most, each_many, each_knot}
use Rattle.c_syntax.specs.declared.place.Place.{Place}
use Rattle.c_syntax.specs.Expressions.{Expression, Node, Number, Letter, Variable, Unary, Binary, Both, Either, Choice, Assign, Bump, Call, Cast, SizeOfType, SizeOfExpr, Text, Index, Dot, Arrow, Comma}
use Rattle.c_syntax.specs.Tokens.{PlainToken}
use Rattle.c_syntax.specs.Trees.{kind_of}
use Rattle.c_model.specs.declared.operands.Form.{Form}
use Rattle.c_model.specs.declared.operands.Form.TheVariants as form
use Rattle.c_model.specs.declared.operands.Level.{Level}
use Rattle.c_model.specs.declared.operands.Level.TheVariants.{Assignment, Conditional}
use Rattle.c_model.specs.declared.operands.TypeUse.{TypeUse}
use Rattle.c_model.specs.declared.operands.TypeUse.TheVariants as type_use
use Rattle.c_model.specs.declared.operands.Connective.{Connective}
use Rattle.c_model.specs.declared.operands.Connective.TheVariants.{Operator, And, Or}
use Rattle.c_model.specs.declared.vocabulary.Keyword.TheVariants as keyword
use Rattle.c_model.specs.Vocabulary.{Vocabulary}
use Rattle.c_model.specs.Punctuators.{question, colon, comma, left_paren, right_paren, left_bracket, right_bracket, dot, arrow}
use Rattle.c_model.specs.ExpressionGrammar.{name_kind, number_kind, keyword_kind, mark_kind, kind, unary_operators, operators_at, levels, assignment_operators, prefix_bumps, kinds_of, first_type, first_expression, read_as}
use Rattle.c_model.specs.ExpressionGrammar.{letter_kind, first_postfix, any_name, type_name, indexed, dotted, arrowed, bumped, postfix_once, postfixes, postfix_rest, literal_first, read_name}
use Rattle.c_model.specs.ExpressionGrammar.{connective_kind, expressions, ReadOperand, size_of_operand, fixed, name, Operand, closed, literal, cast_rest, sized_type, paren_rest, behind_paren, prefixed, sized, bump_first, operand_but_name}
use Rattle.c_model.specs.ExpressionGrammar.{next_argument, arguments, call_rest, behind_variable, operand_of, operand, joined_once, behind_operand, choice_rest, conditional_rest, assigned, behind_unary, behind_form, at_level}
use Rattle.c_model.specs.ExpressionGrammar.{next_part, with_commas, expression_of, expression_at, expression, placed_rest, placed_expression, nameless_expression, expression_behind, full_expression, full_placed_expression}
use Rattle.c_model.specs.ExpressionGrammar.{full_nameless_expression, full_expression_behind, full_expression_at}
use Rattle.c_model.specs.Formed.{nodes_of, nodes_of_all}
use Rattle.c_model.specs.ReadTree.{IsShort}
use Rattle.c_model.specs.LetterValues.{LettersFit, AllLettersFit}
use Rattle.c_reader.proofs.TokenForms.{Each, each_token, each_letter, each_any}

-- ---- expressions, by their forms

-- so many forms at most
pub record IsPart (k : ℕ) (e : Expression) : Type 0 where
  pub letters : LettersFit e
  pub small : nodes_of e ≤ k

part_more : (k l : ℕ) (e : Expression) → k ≤ l → IsPart k e → IsPart l e
part_more k l e le p = record { letters = p.letters; small = omega (arith, le, p.small) }

-- a form stands for itself at any place
part_at : (at : Place) (k : ℕ) (e : Expression) → IsPart k e → IsPart k (read_as at (kind_of e))
part_at at k (Node x t (Number n c)) p = record { letters = p.letters; small = p.small }
part_at at k (Node x t (Letter n)) p = record { letters = p.letters; small = p.small }
part_at at k (Node x t (Variable y)) p = record { letters = p.letters; small = p.small }
part_at at k (Node x t (Unary op a)) p = record { letters = p.letters; small = p.small }
part_at at k (Node x t (Binary op a b)) p = record { letters = p.letters; small = p.small }
part_at at k (Node x t (Both a b)) p = record { letters = p.letters; small = p.small }
part_at at k (Node x t (Either a b)) p = record { letters = p.letters; small = p.small }
part_at at k (Node x t (Choice a b c)) p = record { letters = p.letters; small = p.small }
part_at at k (Node x t (Assign op a b)) p = record { letters = p.letters; small = p.small }
part_at at k (Node x t (Bump op a)) p = record { letters = p.letters; small = p.small }
part_at at k (Node x t (Call f es)) p = record { letters = p.letters; small = p.small }
part_at at k (Node x t (Cast to a)) p = record { letters = p.letters; small = p.small }
part_at at k (Node x t (SizeOfType u)) p = record { letters = p.letters; small = p.small }
part_at at k (Node x t (SizeOfExpr a)) p = record { letters = p.letters; small = p.small }
part_at at k (Node x t (Text n)) p = record { letters = p.letters; small = p.small }
part_at at k (Node x t (Index a b)) p = record { letters = p.letters; small = p.small }
part_at at k (Node x t (Dot a m)) p = record { letters = p.letters; small = p.small }
part_at at k (Node x t (Arrow a m)) p = record { letters = p.letters; small = p.small }
part_at at k (Node x t (Comma a b)) p = record { letters = p.letters; small = p.small }

sized_part : (at : Place) (k : ℕ) (x : ReadOperand) → IsPart k x.expression → IsPart (suc k) (read_as at (size_of_operand x))
sized_part at k x p = by x.form refl
  where
    by : (f : Form) → x.form ≡ f → IsPart (suc k) (read_as at (elim f [ form.TypeName ↦ kind_of x.expression | form.Postfix ↦ SizeOfExpr x.expression | form.Unary ↦ SizeOfExpr x.expression | form.Cast ↦ SizeOfExpr x.expression ]))
    by form.TypeName e = part_more k (suc k) _ (omega arith) (part_at at k x.expression p)
    by form.Postfix e = record { letters = tt; small = omega (arith, p.small) }
    by form.Unary e = record { letters = tt; small = omega (arith, p.small) }
    by form.Cast e = record { letters = tt; small = omega (arith, p.small) }

joined_part : (at : Place) (c : Connective) (k l : ℕ) (a b : Expression) → IsPart k a → IsPart l b → IsPart (suc (k + l)) (read_as at (connective_kind c a b))
joined_part at (Operator op) k l a b p q = record { letters = (p.letters, q.letters); small = omega (arith, p.small, q.small) }
joined_part at And k l a b p q = record { letters = (p.letters, q.letters); small = omega (arith, p.small, q.small) }
joined_part at Or k l a b p q = record { letters = (p.letters, q.letters); small = omega (arith, p.small, q.small) }

-- arguments
record AreParts (k : ℕ) (es : List Expression) : Type 0 where
  letters : AllLettersFit (expressions es)
  small : nodes_of_all (expressions es) ≤ k

parts_behind : (k l : ℕ) (es : List Expression) (e : Expression) → AreParts k es → IsPart l e → AreParts (k + l) (es ++ (e ∷ []))
parts_behind k l [] e h p = record { letters = (p.letters, tt); small = omega (arith, p.small) }
parts_behind k l (f ∷ es) e h p =
    let rest = parts_behind (nodes_of_all (expressions es)) l es e (record { letters = h.letters.1; small = omega arith }) p in
    record { letters = (h.letters.0, rest.letters); small = omega (arith, h.small, rest.small) }

-- a full expression that is read
pub record IsFormed (e : Expression) : Type 0 where
  pub short : IsShort e
  pub letters : LettersFit e

-- ---- productions

module _ (size : ℕ) (ws : Vocabulary) where
  pub each_fixed : (k : ℕ) → Each size (fixed ws k) (λ l at. l ≡ 1)
  each_fixed k = each_token _

  pub each_name : Each size (name ws) (λ l x. l ≡ 1)
  each_name = each_token _

  pub closed_each : {A : Type 0} {P : ℕ → A → Type 0} (x : A) → P 1 x → Each size (closed ws x) P
  unfolding closed
  closed_each {P = P} x p = each_then (each_fixed (mark_kind right_paren)) (λ k at e. each_gives x (subst (λ j. P j x) (omega (arith, e)) p))

  -- an operand
  abbrev Operands : ℕ → ReadOperand → Type 0
  Operands k x = IsPart k x.expression

  literal_each : Each size (literal ws) IsPart
  unfolding literal
  literal_each =
      each_choice (kind ws) (number_kind ∷ [])
      (each_then (each_token _) (λ k n e. each_gives _ (record { letters = tt; small = omega (arith, e) })))
      (each_choice (kind ws) (letter_kind ∷ [])
      (each_then each_letter (λ k z e. each_gives _ (record { letters = e.1; small = omega (arith, e.0) })))
      (each_then (each_token _) (λ k at e. each_gives _ (record { letters = tt; small = omega (arith, e) }))))

  module _ {E : Syntax PlainToken Expression} (e : Each size E IsPart) where
    indexed_each : (k : ℕ) (x : Expression) → IsPart k x → Each size (indexed ws E x) (λ j y. IsPart (k + j) y)
    unfolding indexed
    indexed_each k x p = each_then (each_fixed (mark_kind left_bracket)) (λ i at h. each_then e (λ j y q. each_then (each_fixed (mark_kind right_bracket))
        (λ m _ _. each_gives _ (record { letters = (p.letters, q.letters); small = omega (arith, h, p.small, q.small) }))))

    dotted_each : (k : ℕ) (x : Expression) → IsPart k x → Each size (dotted ws x) (λ j y. IsPart (k + j) y)
    unfolding dotted
    dotted_each k x p = each_then (each_fixed (mark_kind dot)) (λ i at h. each_then (each_any (any_name ws)) (λ j m _. each_gives _ (record { letters = p.letters; small = omega (arith, h, p.small) })))

    arrowed_each : (k : ℕ) (x : Expression) → IsPart k x → Each size (arrowed ws x) (λ j y. IsPart (k + j) y)
    unfolding arrowed
    arrowed_each k x p = each_then (each_fixed (mark_kind arrow)) (λ i at h. each_then (each_any (any_name ws)) (λ j m _. each_gives _ (record { letters = p.letters; small = omega (arith, h, p.small) })))

    bumped_each : (k : ℕ) (x : Expression) → IsPart k x → Each size (bumped ws x) (λ j y. IsPart (k + j) y)
    unfolding bumped
    bumped_each k x p = each_then (each_token _) (λ i op h. each_gives _ (record { letters = p.letters; small = omega (arith, h, p.small) }))

    postfix_once_each : (k : ℕ) (x : Expression) → IsPart k x → Each size (postfix_once ws E x) (λ j y. IsPart (k + j) y)
    unfolding postfix_once
    postfix_once_each k x p =
        each_choice (kind ws) (mark_kind left_bracket ∷ []) (indexed_each k x p) (each_choice (kind ws) (mark_kind dot ∷ []) (dotted_each k x p)
        (each_choice (kind ws) (mark_kind arrow ∷ []) (arrowed_each k x p) (bumped_each k x p)))

    postfix_rest_each : (at : Place) (k : ℕ) (x : Expression) → IsPart k x → Each size (postfix_rest ws E at x) (λ j y. IsPart (k + j) y.expression)
    unfolding postfix_rest postfixes
    postfix_rest_each at k x p =
        each_then (each_many (kind ws) (λ _. first_postfix) {P = IsPart} (λ i y q. postfix_once_each i y q) k x p)
        (λ j y q. each_gives _ (part_more (k + j) (k + (j + 0)) y (omega arith) q))

    literal_first_each : Each size (literal_first ws E) Operands
    unfolding literal_first
    literal_first_each = each_then literal_each (λ k x p. postfix_rest_each _ k x p)

  -- ---- calls

  module _ {A : Syntax PlainToken Expression} (a : Each size A IsPart) where
    argument_each : (k : ℕ) (es : List Expression) → AreParts k es → Each size (next_argument ws A es) (λ l xs. AreParts (k + l) xs)
    unfolding next_argument
    argument_each k es h = each_then (each_fixed (mark_kind comma)) (λ i _ _. each_then a (λ j e p. each_gives _ (let r = parts_behind k j es e h p in record { letters = r.letters; small = omega (arith, r.small) })))

    arguments_each : Each size (arguments ws A) AreParts
    unfolding arguments
    arguments_each =
        each_choice (kind ws) first_expression
        (each_then a (λ k e p. each_many (kind ws) (λ _. mark_kind comma ∷ []) {P = AreParts} (λ i es h. argument_each i es h) k (e ∷ []) (record { letters = (p.letters, tt); small = omega (arith, p.small) })))
        (each_gives [] (record { letters = tt; small = omega arith }))

    call_each : (f : ℕ) → Each size (call_rest ws A f) IsPart
    unfolding call_rest
    call_each f = each_then (each_fixed (mark_kind left_paren)) (λ i at h. each_then arguments_each (λ j es q. closed_each {P = λ k y. IsPart (i + (j + k)) y} _ (record { letters = q.letters; small = omega (arith, h, q.small) })))

  -- ---- operands

  module _ {E A : Syntax PlainToken Expression} {O : Operand ws} (e : Each size E IsPart) (a : Each size A IsPart) (o : (u : TypeUse) → Each size (O u) Operands) where
    cast_each : (at : Place) → Each size (cast_rest ws E O at) (λ k x. IsPart (suc k) x.expression)
    unfolding cast_rest
    cast_each at = each_then (each_any (type_name ws E)) (λ j t _. each_then (each_fixed (mark_kind right_paren)) (λ k _ _. each_then (o type_use.Casts) (λ l x p. each_gives _ (record { letters = p.letters; small = omega (arith, p.small) }))))

    sized_type_each : (at : Place) → Each size (sized_type ws E at) (λ k x. IsPart (suc k) x.expression)
    unfolding sized_type
    sized_type_each at = each_then (each_any (type_name ws E)) (λ j t _. each_more (λ k x p. part_more 1 (suc (j + k)) x.expression (omega arith) p) (closed_each {P = λ k x. IsPart 1 x.expression} _ (record { letters = tt; small = omega arith })))

    paren_rest_each : (at : Place) → Each size (paren_rest ws E at) (λ k x. IsPart k x.expression)
    unfolding paren_rest
    paren_rest_each at = each_then e (λ j x p. each_then (each_fixed (mark_kind right_paren)) (λ k _ _. each_more (λ l y q. part_more (j + l) (j + (k + l)) y.expression (omega arith) q) (postfix_rest_each e at j x p)))

    behind_paren_each : (u : TypeUse) (at : Place) → Each size (behind_paren ws E O u at) (λ k x. IsPart (suc k) x.expression)
    unfolding behind_paren
    behind_paren_each type_use.Casts at = each_choice (kind ws) first_type (cast_each at) (each_more (λ k x p. part_more k (suc k) x.expression (omega arith) p) (paren_rest_each at))
    behind_paren_each type_use.Sizes at = each_choice (kind ws) first_type (sized_type_each at) (each_more (λ k x p. part_more k (suc k) x.expression (omega arith) p) (paren_rest_each at))
    behind_paren_each type_use.Nothing at = each_more (λ k x p. part_more k (suc k) x.expression (omega arith) p) (paren_rest_each at)

    prefixed_each : Each size (prefixed ws O) Operands
    unfolding prefixed
    prefixed_each = each_then (each_token _) (λ k op h. each_then (o type_use.Casts) (λ l x p. each_gives _ (record { letters = p.letters; small = omega (arith, h, p.small) })))

    bump_first_each : Each size (bump_first ws O) Operands
    unfolding bump_first
    bump_first_each = each_then (each_token _) (λ k op h. each_then (o type_use.Nothing) (λ l x p. each_gives _ (record { letters = p.letters; small = omega (arith, h, p.small) })))

    sized_each : Each size (sized ws O) Operands
    unfolding sized
    sized_each = each_then (each_fixed (keyword_kind keyword.Sizeof)) (λ k at h. each_then (o type_use.Sizes) (λ l x p. each_gives _ (part_more (suc l) (k + (l + 0)) _ (omega (arith, h)) (sized_part at l x p))))

    operand_but_name_each : (u : TypeUse) → Each size (operand_but_name ws E O u) Operands
    unfolding operand_but_name
    operand_but_name_each u =
        each_choice (kind ws) (mark_kind left_paren ∷ []) (each_then (each_fixed (mark_kind left_paren)) (λ k at h. each_more (λ l x p. part_more (suc l) (k + l) x.expression (omega (arith, h)) p) (behind_paren_each u at)))
        (each_choice (kind ws) (kinds_of unary_operators) prefixed_each
        (each_choice (kind ws) (kinds_of prefix_bumps) bump_first_each
        (each_choice (kind ws) (keyword_kind keyword.Sizeof ∷ []) sized_each (literal_first_each e))))

    variable_each : (k : ℕ) (x : ℕ × Place) → k ≡ 1 → Each size (behind_variable ws E A x) (λ j y. IsPart (k + j) y.expression)
    unfolding behind_variable
    variable_each k x h =
        each_choice (kind ws) (mark_kind left_paren ∷ [])
        (each_then (call_each a x.0) (λ i y q. each_more (λ j z w. part_more (i + j) (k + (i + j)) z.expression (omega arith) w) (postfix_rest_each e x.1 i y q)))
        (postfix_rest_each e x.1 k (read_name x) (record { letters = tt; small = omega (arith, h) }))

    operand_of_each : (u : TypeUse) → Each size (operand_of ws E A O u) Operands
    unfolding operand_of
    operand_of_each u = each_choice (kind ws) (name_kind ∷ []) (each_then each_name (λ k x h. variable_each k x h)) (operand_but_name_each u)

  -- ---- operators

  module _ {E A : Syntax PlainToken Expression} (e : Each size E IsPart) (a : Each size A IsPart) where
    operand_each : (u : TypeUse) → Each size (operand ws E A u) Operands
    unfolding operand
    operand_each u = each_knot {P = λ u. Operands} (λ O o u. operand_of_each {O = O} e a o u) u

    joined_each : (l k : ℕ) {R : Syntax PlainToken Expression} (left : Expression) → Each size R IsPart → IsPart k left → Each size (joined_once ws l R left) (λ j y. IsPart (k + j) y)
    unfolding joined_once
    joined_each l k left r p = each_then (each_token _) (λ i op h. each_then r (λ j right q. each_gives _ (part_more (suc (k + j)) (k + (i + (j + 0))) _ (omega (arith, h)) (joined_part op.1 op.0 k j left right p q))))

    behind_each : (l k : ℕ) (x : Expression) → IsPart k x → Each size (behind_operand ws E A l x) (λ j y. IsPart (k + j) y)
    unfolding behind_operand
    behind_each zero k x p = each_gives x (part_more k (k + 0) x (omega arith) p)
    behind_each (suc l) k x p =
        each_then (behind_each l k x p) (λ j y q.
        each_more (λ m z w. part_more ((k + j) + m) (k + (j + m)) z (omega arith) w)
        (each_many (kind ws) (λ _. kinds_of (operators_at l)) {P = IsPart} (λ i left r. joined_each l i left (each_then (operand_each type_use.Casts) (λ m z q. behind_each l m z.expression q)) r) (k + j) y q))

  module _ {E A C : Syntax PlainToken Expression} (e : Each size E IsPart) (a : Each size A IsPart) (c : Each size C IsPart) where
    choice_each : (k : ℕ) (x : Expression) → IsPart k x → Each size (choice_rest ws E C x) (λ j y. IsPart (k + j) y)
    unfolding choice_rest
    choice_each k x p = each_then (each_fixed (mark_kind question)) (λ i at h. each_then e (λ j y q.
        each_then (each_fixed (mark_kind colon)) (λ m _ _. each_then c (λ n z r. each_gives _ (record { letters = (p.letters, q.letters, r.letters); small = omega (arith, h, p.small, q.small, r.small) })))))

    conditional_each : (k : ℕ) (x : Expression) → IsPart k x → Each size (conditional_rest ws E A C x) (λ j y. IsPart (k + j) y)
    unfolding conditional_rest
    conditional_each k x p =
        each_then (behind_each e a levels k x p) (λ j y q.
        each_choice (kind ws) (mark_kind question ∷ [])
        (each_more (λ m z w. part_more ((k + j) + m) (k + (j + m)) z (omega arith) w) (choice_each (k + j) y q))
        (each_gives y (part_more (k + j) (k + (j + 0)) y (omega arith) q)))

    assigned_each : (k : ℕ) (x : Expression) → IsPart k x → Each size (assigned ws A x) (λ j y. IsPart (k + j) y)
    unfolding assigned
    assigned_each k x p = each_then (each_token _) (λ i op h. each_then a (λ j right q. each_gives _ (record { letters = (p.letters, q.letters); small = omega (arith, h, p.small, q.small) })))

    behind_unary_each : (k : ℕ) (x : Expression) → IsPart k x → Each size (behind_unary ws E A C x) (λ j y. IsPart (k + j) y)
    unfolding behind_unary
    behind_unary_each k x p = each_choice (kind ws) (kinds_of assignment_operators) (assigned_each k x p) (conditional_each k x p)

    behind_form_each : (f : Form) (k : ℕ) (x : Expression) → IsPart k x → Each size (behind_form ws E A C f x) (λ j y. IsPart (k + j) y)
    unfolding behind_form
    behind_form_each form.Postfix k x p = behind_unary_each k x p
    behind_form_each form.Unary k x p = behind_unary_each k x p
    behind_form_each form.Cast k x p = conditional_each k x p
    behind_form_each form.TypeName k x p = conditional_each k x p

    at_level_each : (l : Level) → Each size (at_level ws E A C l) IsPart
    unfolding at_level
    at_level_each Assignment = each_then (operand_each e a type_use.Casts) (λ k x p. behind_form_each x.form k x.expression p)
    at_level_each Conditional = each_then (operand_each e a type_use.Casts) (λ k x p. conditional_each k x.expression p)

  -- ---- commas

  module _ {A : Syntax PlainToken Expression} (a : Each size A IsPart) where
    next_part_each : (k : ℕ) (x : Expression) → IsPart k x → Each size (next_part ws A x) (λ j y. IsPart (k + j) y)
    unfolding next_part
    next_part_each k x p = each_then (each_fixed (mark_kind comma)) (λ i at h. each_then a (λ j y q. each_gives _ (record { letters = (p.letters, q.letters); small = omega (arith, h, p.small, q.small) })))

    with_commas_each : Each size (with_commas ws A) IsPart
    unfolding with_commas
    with_commas_each = each_then a (λ k x p. each_many (kind ws) (λ _. mark_kind comma ∷ []) {P = IsPart} (λ i y q. next_part_each i y q) k x p)

  -- ---- all of them

  level_each : (l : Level) → Each size (expression_at ws l) IsPart
  unfolding expression_at expression_of
  level_each l = each_knot {P = λ l. IsPart} (λ G g l. at_level_each (with_commas_each (g Assignment)) (g Assignment) (g Conditional) l) l

  expression_each : Each size (expression ws) IsPart
  unfolding expression
  expression_each = with_commas_each (level_each Assignment)

  placed_rest_each : (k : ℕ) (x : ReadOperand) → IsPart k x.expression → Each size (placed_rest ws x) (λ j y. IsPart (k + j) y.0)
  unfolding placed_rest
  placed_rest_each k x p =
      each_then (behind_form_each expression_each (level_each Assignment) (level_each Conditional) x.form k x.expression p) (λ i y q.
      each_then (each_many (kind ws) (λ _. mark_kind comma ∷ []) {P = IsPart} (λ m z r. next_part_each (level_each Assignment) m z r) (k + i) y q) (λ j z r.
      each_gives _ (record { letters = r.letters; small = omega (arith, r.small) })))

  abbrev all_operands : Operand ws
  all_operands = operand ws (expression ws) (expression_at ws Assignment)

  operands_each : (u : TypeUse) → Each size (all_operands u) Operands
  operands_each u = operand_each expression_each (level_each Assignment) u

  placed_each : Each size (placed_expression ws) (λ k x. IsPart k x.0)
  unfolding placed_expression
  placed_each = each_then (operands_each type_use.Casts) (λ k x p. placed_rest_each k x p)

  nameless_each : Each size (nameless_expression ws) (λ k x. IsPart k x.0)
  unfolding nameless_expression
  nameless_each = each_then (operand_but_name_each {O = all_operands} expression_each (level_each Assignment) operands_each type_use.Casts) (λ k x p. placed_rest_each k x p)

  -- with the name before it
  behind_name_each : (x : ℕ × Place) → Each size (expression_behind ws x) (λ k y. IsPart (1 + k) y.0)
  unfolding expression_behind
  behind_name_each x = each_then (variable_each {O = all_operands} expression_each (level_each Assignment) operands_each 1 x refl) (λ k y p.
      each_more (λ l z q. part_more ((1 + k) + l) (1 + (k + l)) z.0 (omega arith) q) (placed_rest_each (1 + k) y p))

  -- ---- expressions that stand in no other

  pub full_each : Each size (full_expression ws) (λ k e. IsFormed e)
  unfolding full_expression
  full_each = each_more (λ k e p. record { short = omega (arith, p.0.small, p.1); letters = p.0.letters }) (each_at_most expression_each)

  pub full_placed_each : Each size (full_placed_expression ws) (λ k x. IsFormed x.0)
  unfolding full_placed_expression
  full_placed_each = each_more (λ k x p. record { short = omega (arith, p.0.small, p.1); letters = p.0.letters }) (each_at_most placed_each)

  pub full_nameless_each : Each size (full_nameless_expression ws) (λ k x. IsFormed x.0)
  unfolding full_nameless_expression
  full_nameless_each = each_more (λ k x p. record { short = omega (arith, p.0.small, p.1); letters = p.0.letters }) (each_at_most nameless_each)

  pub full_behind_each : (x : ℕ × Place) → Each size (full_expression_behind ws x) (λ k y. IsFormed y.0)
  unfolding full_expression_behind
  full_behind_each x = each_more (λ k y p. record { short = omega (arith, p.0.small, p.1); letters = p.0.letters }) (each_at_most (behind_name_each x))

  pub full_level_each : (l : Level) → Each size (full_expression_at ws l) (λ k e. IsFormed e)
  unfolding full_expression_at
  full_level_each l = each_more (λ k e p. record { short = omega (arith, p.0.small, p.1); letters = p.0.letters }) (each_at_most (level_each l))
