-- The productions of expressions are those of the head of their grammar.
use Rattle.std.proofs.Common.{◌≡◌, ℕ, suc, List, [], ◌∷◌, refl, inl, inr}
use Rattle.grammar.specs.Syntax.{Syntax, gives, one, ◌then◌, many}
use Rattle.grammar.specs.Exact.{Same}
use Rattle.grammar.proofs.Forms.{to_left}
use Rattle.grammar_laws.specs.Plain.{◌or◌, repeated}
use Rattle.grammar_laws.proofs.Inclusions.{Within, both, forth, back, itself, ◌so◌, either, first, second, each, on, in_turn, in_turn_where, after_either}
use Rattle.grammar_laws.proofs.Inclusions.{either_before, handed, handed_back, turns, apart_before, apart_after, three, three_back, Gives, gives_in_turn}
use Rattle.grammar_laws.proofs.Inclusions.{gives_either, gives_value}
use Rattle.grammar_laws.proofs.ExpressionKnots.{expression_knot, operand_knot, rest_empty}
use Rattle.c_syntax.specs.declared.place.Place.{Place}
use Rattle.c_syntax.specs.Expressions.{Expression, Number, Letter, Text, Unary, Bump, Call, Cast, SizeOfType, SizeOfExpr, place_of}
use Rattle.c_syntax.specs.Tokens.{PlainToken}
use Rattle.c_model.specs.declared.operands.Form.TheVariants as form
use Rattle.c_model.specs.declared.operands.Level.TheVariants.{Assignment, Conditional}
use Rattle.c_model.specs.declared.operands.TypeUse.{TypeUse}
use Rattle.c_model.specs.declared.operands.TypeUse.TheVariants as type_use
use Rattle.c_model.specs.declared.vocabulary.Keyword.TheVariants as keyword
use Rattle.c_model.specs.Vocabulary.{Vocabulary}
use Rattle.c_model.specs.Terminals.{placed, mark_entry}
use Rattle.c_model.specs.Punctuators.{question, comma, left_paren, right_paren, dot, arrow, left_bracket}
use Rattle.c_model.specs.ExpressionGrammar.{ReadOperand, kind, kinds_of, mark_kind, name_kind, number_kind, letter_kind, text_kind, keyword_kind, first_type}
use Rattle.c_model.specs.ExpressionGrammar.{first_postfix, unary_operators, operators_at, levels, read_as, read_name, read_operand, size_of_operand}
use Rattle.c_model.specs.ExpressionGrammar.{number_of, letter_of, fixed, mark, reserved, name, type_name, closed, indexed, dotted, arrowed, postfix_once}
use Rattle.c_model.specs.ExpressionGrammar.{postfixes, postfix_rest, literal, literal_first, cast_rest, sized_type, paren_rest, behind_paren, prefixed, sized}
use Rattle.c_model.specs.ExpressionGrammar.{operand_but_name, operand_of, operand, joined_once, behind_operand, choice_rest, conditional_rest, at_level}
use Rattle.c_model.specs.ExpressionGrammar.{first_expression, prefix_bumps, use_of, expressions, bumped, bump_first, next_argument, arguments, call_rest, behind_variable, expression_at, expression}
use Rattle.grammar_laws.specs.ExpressionProductions as production
use Rattle.grammar_laws.specs.ExpressionProductions.{parsed_cast, parsed_unary, parsed_level}

abbrev no : PlainToken → ℕ
no t = 0

module _ (ws : Vocabulary) where
  abbrev E : Syntax PlainToken Expression
  E = expression ws

  abbrev A : Syntax PlainToken Expression
  A = expression_at ws Assignment

  abbrev C : Syntax PlainToken Expression
  C = expression_at ws Conditional

  abbrev O : TypeUse → Syntax PlainToken ReadOperand
  O = operand ws E A

  abbrev Read : TypeUse → Syntax PlainToken ReadOperand
  Read = operand_of ws E A O

  -- ---- conditions, and what is joined by operators

  abbrev chosen : Expression → Syntax PlainToken Expression
  chosen c = choice_rest ws E C c or gives c

  conditional_forth : Within (at_level ws E A C Conditional) (production.conditional ws)
  unfolding at_level conditional_rest choice_rest
  conditional_forth =
      on (O type_use.Casts) (λ x. on (behind_operand ws E A levels x.expression) (λ y. each (kind ws) (mark_kind question ∷ []) no [] (itself _) (itself _)))
      so forth (to_left (O type_use.Casts) (λ x. behind_operand ws E A levels x.expression) chosen)

  conditional_back : Within (production.conditional ws) (at_level ws E A C Conditional)
  unfolding at_level conditional_rest choice_rest
  conditional_back =
      back (to_left (O type_use.Casts) (λ x. behind_operand ws E A levels x.expression) chosen)
      so on (O type_use.Casts) (λ x. on (behind_operand ws E A levels x.expression) (λ y. each no [] (kind ws) (mark_kind question ∷ []) (itself _) (itself _)))

  pub conditional_line : Same C (production.conditional ws)
  conditional_line = both (forth (expression_knot ws Conditional) so conditional_forth) (conditional_back so back (expression_knot ws Conditional))

  pub least_level_line : Same (parsed_level ws 0) (parsed_cast ws then λ x. gives x.expression)
  unfolding behind_operand
  least_level_line = both (itself _) (itself _)

  abbrev more : ℕ → Expression → Syntax PlainToken Expression
  more l y = many (kind ws) (λ _. kinds_of (operators_at l)) (joined_once ws l (parsed_level ws l)) y

  level_turned : (l : ℕ) → Same (parsed_level ws l then more l) (production.level ws l)
  unfolding joined_once
  level_turned l =
      both (on (parsed_level ws l) (λ y. turns (kind ws) (λ _. kinds_of (operators_at l)) no (λ _. []) (λ z. itself _) y))
      (on (parsed_level ws l) (λ y. turns no (λ _. []) (kind ws) (λ _. kinds_of (operators_at l)) (λ z. itself _) y))

  level_grouped : (l : ℕ) → Same (parsed_level ws (suc l)) (parsed_level ws l then more l)
  unfolding behind_operand
  level_grouped l = to_left (O type_use.Casts) (λ x. behind_operand ws E A l x.expression) (more l)

  pub level_line : (l : ℕ) → Same (parsed_level ws (suc l)) (production.level ws l)
  level_line l = both (forth (level_grouped l) so forth (level_turned l)) (back (level_turned l) so back (level_grouped l))

  -- ---- casts

  nothing_read : Within (O type_use.Nothing) (Read type_use.Nothing)
  nothing_read = forth (operand_knot ws E A type_use.Nothing)

  read_nothing : {X : Syntax PlainToken ReadOperand} → Within X (Read type_use.Nothing) → Within X (O type_use.Nothing)
  read_nothing w = w so back (operand_knot ws E A type_use.Nothing)

  to_unary : {X : Syntax PlainToken ReadOperand} → Within X (Read type_use.Nothing) → Within X (production.cast ws)
  to_unary w = read_nothing w so first no [] _ (itself (O type_use.Nothing))

  cast_forth : Within (Read type_use.Casts) (production.cast ws)
  unfolding operand_of operand_but_name behind_paren cast_rest
  cast_forth =
      either (kind ws) (name_kind ∷ []) (to_unary (first (kind ws) (name_kind ∷ []) _ (itself _)))
      (either (kind ws) (mark_kind left_paren ∷ [])
      (after_either (kind ws) first_type (mark ws left_paren) _ _ (second no [] _ (itself _)) (to_unary (second (kind ws) (name_kind ∷ []) _ (first (kind ws) (mark_kind left_paren ∷ []) _ (itself _)))))
      (to_unary (second (kind ws) (name_kind ∷ []) _ (second (kind ws) (mark_kind left_paren ∷ []) _ (itself _)))))

  nothing_in : (u : TypeUse) → Within (Read type_use.Nothing) (Read u)
  unfolding operand_of operand_but_name behind_paren
  nothing_in type_use.Casts =
      each (kind ws) (name_kind ∷ []) (kind ws) (name_kind ∷ []) (itself _)
      (each (kind ws) (mark_kind left_paren ∷ []) (kind ws) (mark_kind left_paren ∷ []) (on (mark ws left_paren) (λ at. second (kind ws) first_type _ (itself _))) (itself _))
  nothing_in type_use.Sizes =
      each (kind ws) (name_kind ∷ []) (kind ws) (name_kind ∷ []) (itself _)
      (each (kind ws) (mark_kind left_paren ∷ []) (kind ws) (mark_kind left_paren ∷ []) (on (mark ws left_paren) (λ at. second (kind ws) first_type _ (itself _))) (itself _))
  nothing_in type_use.Nothing = itself _

  unary_in : (u : TypeUse) → Within (O type_use.Nothing) (O u)
  unary_in u = nothing_read so nothing_in u so back (operand_knot ws E A u)

  abbrev cast_alternative : Syntax PlainToken ReadOperand
  cast_alternative =
      mark ws left_paren then λ at. type_name ws E then λ t. mark ws right_paren then λ _. O type_use.Casts then λ x. gives
      (read_operand (read_as at (Cast t x.expression)) form.Cast at)

  cast_read : Within cast_alternative (Read type_use.Casts)
  unfolding operand_of operand_but_name behind_paren cast_rest
  cast_read = second (kind ws) (name_kind ∷ []) _ (first (kind ws) (mark_kind left_paren ∷ []) _ (on (mark ws left_paren) (λ at. first (kind ws) first_type _ (itself _))))

  cast_back : Within (production.cast ws) (O type_use.Casts)
  cast_back = either no [] (unary_in type_use.Casts) (cast_read so back (operand_knot ws E A type_use.Casts))

  pub cast_line : Same (parsed_cast ws) (production.cast ws)
  cast_line = both (forth (operand_knot ws E A type_use.Casts) so cast_forth) cast_back

  -- ---- postfix expressions

  -- what stands after a primary expression
  abbrev tail : Expression × Place → Syntax PlainToken ReadOperand
  tail p = repeated (production.behind_primary ws) p.0 then λ x. gives (read_operand x form.Postfix p.1)

  tail_empty : (p : Expression × Place) → (tail p).begun []
  tail_empty p = inl (0, inr refl)

  rest_forth : (at : Place) (x : Expression) → Within (postfix_rest ws E at x) (tail (x, at))
  unfolding postfix_rest postfixes postfix_once indexed dotted arrowed bumped
  rest_forth at x =
      in_turn (turns (kind ws) (λ _. first_postfix) no (λ _. []) (λ y.
      each (kind ws) (mark_kind left_bracket ∷ []) no [] (itself _) (each (kind ws) (mark_kind dot ∷ []) no [] (itself _)
      (each (kind ws) (mark_kind arrow ∷ []) no [] (itself _) (itself _)))) x) (λ y. itself _)

  rest_back : (at : Place) (x : Expression) → Within (tail (x, at)) (postfix_rest ws E at x)
  unfolding postfix_rest postfixes postfix_once indexed dotted arrowed bumped
  rest_back at x =
      in_turn (turns no (λ _. []) (kind ws) (λ _. first_postfix) (λ y.
      each no [] (kind ws) (mark_kind left_bracket ∷ []) (itself _) (each no [] (kind ws) (mark_kind dot ∷ []) (itself _)
      (each no [] (kind ws) (mark_kind arrow ∷ []) (itself _) (itself _)))) x) (λ y. itself _)

  from_primary : {X : Syntax PlainToken (Expression × Place)} → Within X (production.primary ws) → Within (X then tail) (production.postfix ws)
  from_primary w = in_turn (first no [] (production.call ws) w) (λ p. itself (tail p))

  -- what is read of one token, with its place
  module _ {A : Type 0} (G : Syntax PlainToken A) (v : A → Expression) (at : A → Place) where
    simple_forth : Within (G then λ x. gives (v x, at x)) (production.primary ws) → Within (G then λ x. postfix_rest ws E (at x) (v x)) (production.postfix ws)
    simple_forth w = on G (λ x. rest_forth (at x) (v x)) so handed G (λ x. (v x, at x)) tail so from_primary w

    simple_back : Within ((G then λ x. gives (v x, at x)) then tail) (G then λ x. postfix_rest ws E (at x) (v x))
    simple_back = handed_back G (λ x. (v x, at x)) tail (λ x. tail_empty (v x, at x)) so on G (λ x. rest_back (at x) (v x))

  -- ---- calls

  arguments_line : Same (arguments ws A) (production.arguments ws)
  unfolding arguments next_argument
  arguments_line =
      both (each (kind ws) first_expression no [] (on A (λ e. turns (kind ws) (λ _. mark_kind comma ∷ []) no (λ _. []) (λ es. itself _) (e ∷ []))) (itself _))
      (each no [] (kind ws) first_expression (on A (λ e. turns no (λ _. []) (kind ws) (λ _. mark_kind comma ∷ []) (λ es. itself _) (e ∷ []))) (itself _))

  abbrev called : ℕ × Place → Place → List Expression → Expression
  called f at es = read_as at (Call (use_of f.0) (expressions es))

  call_read : (f : ℕ × Place) → Same (call_rest ws A f.0) (mark ws left_paren then λ at. arguments ws A then λ es. mark ws right_paren then λ _. gives (called f at es))
  unfolding call_rest closed
  call_read f = both (itself _) (itself _)

  abbrev call_of : ℕ × Place → Syntax PlainToken (Expression × Place)
  call_of f = mark ws left_paren then λ at. production.arguments ws then λ es. mark ws right_paren then λ _. gives (called f at es, f.1)

  abbrev after_call : ℕ × Place → Expression → Syntax PlainToken ReadOperand
  after_call f e = postfix_rest ws E f.1 e

  call_rest_forth : (f : ℕ × Place) → Within (call_rest ws A f.0 then after_call f) (call_of f then tail)
  call_rest_forth f =
      in_turn (forth (call_read f)) (λ e. itself (after_call f e))
      so three_back (mark ws left_paren) (λ at. arguments ws A) (λ at es. mark ws right_paren) (called f) (after_call f) (λ at es. rest_empty ws E f.1 (called f at es))
      so on (mark ws left_paren) (λ at. in_turn (forth arguments_line) (λ es. on (mark ws right_paren) (λ _. rest_forth f.1 (called f at es))))
      so three (mark ws left_paren) (λ at. production.arguments ws) (λ at es. mark ws right_paren) (λ at es. (called f at es, f.1)) tail

  call_rest_back : (f : ℕ × Place) → Within (call_of f then tail) (call_rest ws A f.0 then after_call f)
  call_rest_back f =
      three_back (mark ws left_paren) (λ at. production.arguments ws) (λ at es. mark ws right_paren) (λ at es. (called f at es, f.1)) tail (λ at es. tail_empty (called f at es, f.1))
      so on (mark ws left_paren) (λ at. in_turn (back arguments_line) (λ es. on (mark ws right_paren) (λ _. rest_back f.1 (called f at es))))
      so three (mark ws left_paren) (λ at. arguments ws A) (λ at es. mark ws right_paren) (called f) (after_call f)
      so in_turn (back (call_read f)) (λ e. itself (after_call f e))

  named_forth : Within (name ws then behind_variable ws E A) (production.postfix ws)
  unfolding behind_variable
  named_forth =
      after_either (kind ws) (mark_kind left_paren ∷ []) (name ws) _ _
      (on (name ws) call_rest_forth so forth (to_left (name ws) call_of tail) so in_turn (second no [] (production.primary ws) (itself (production.call ws))) (λ p. itself (tail p)))
      (simple_forth (name ws) read_name (λ x. x.1) (first no [] _ (itself _)))

  call_back : Within (production.call ws then tail) (name ws then behind_variable ws E A)
  unfolding behind_variable
  call_back = back (to_left (name ws) call_of tail) so on (name ws) (λ f. first (kind ws) (mark_kind left_paren ∷ []) _ (call_rest_back f))

  variable_back : Within (name ws then λ x. postfix_rest ws E x.1 (read_name x)) (name ws then behind_variable ws E A)
  unfolding behind_variable
  variable_back = on (name ws) (λ f. second (kind ws) (mark_kind left_paren ∷ []) _ (itself _))

  -- "(" comma ")" and what stands after it
  abbrev parenthesised : Syntax PlainToken (Expression × Place)
  parenthesised = mark ws left_paren then λ at. E then λ e. mark ws right_paren then λ _. gives (e, at)

  abbrev in_paren : Syntax PlainToken ReadOperand
  in_paren = mark ws left_paren then λ at. E then λ e. mark ws right_paren then λ _. postfix_rest ws E at e

  paren_forth : Within in_paren (parenthesised then tail)
  paren_forth =
      on (mark ws left_paren) (λ at. on E (λ e. on (mark ws right_paren) (λ _. rest_forth at e)))
      so three (mark ws left_paren) (λ at. E) (λ at e. mark ws right_paren) (λ at e. (e, at)) tail

  paren_back : Within (parenthesised then tail) in_paren
  paren_back =
      three_back (mark ws left_paren) (λ at. E) (λ at e. mark ws right_paren) (λ at e. (e, at)) tail (λ at e. tail_empty (e, at))
      so on (mark ws left_paren) (λ at. on E (λ e. on (mark ws right_paren) (λ _. rest_back at e)))

  abbrev rest : Expression → Syntax PlainToken ReadOperand
  rest x = postfix_rest ws E (place_of x) x

  literal_forth : Within (literal_first ws E) (production.postfix ws)
  unfolding literal_first literal
  literal_forth =
      either_before (kind ws) (number_kind ∷ []) rest
      (handed_back (one (placed number_of)) (λ n. read_as n.1 (Number n.0.0 n.0.1)) rest (λ n. rest_empty ws E _ _)
      so simple_forth (one (placed number_of)) (λ n. read_as n.1 (Number n.0.0 n.0.1)) (λ n. n.1) (second no [] _ (first no [] _ (itself _))))
      (either_before (kind ws) (letter_kind ∷ []) rest
      (handed_back (one (placed letter_of)) (λ z. read_as z.1 (Letter z.0)) rest (λ z. rest_empty ws E _ _)
      so simple_forth (one (placed letter_of)) (λ z. read_as z.1 (Letter z.0)) (λ z. z.1) (second no [] _ (second no [] _ (first no [] _ (itself _)))))
      (handed_back (fixed ws text_kind) (λ at. read_as at (Text at.offset)) rest (λ at. rest_empty ws E _ _)
      so simple_forth (fixed ws text_kind) (λ at. read_as at (Text at.offset)) (λ at. at) (second no [] _ (second no [] _ (second no [] _ (first no [] _ (itself _)))))))

  literal_back : {A : Type 0} (G : Syntax PlainToken A) (v : A → Expression) → Within (G then λ x. gives (v x)) (literal ws) → Within (G then λ x. rest (v x)) (literal_first ws E)
  unfolding literal_first
  literal_back G v w = handed G v rest so in_turn w (λ x. itself (rest x))

  -- ---- unary expressions

  abbrev sized_alternative : Syntax PlainToken ReadOperand
  sized_alternative = mark ws left_paren then λ at. type_name ws E then λ t. mark ws right_paren then λ _. gives (read_operand (read_as at (SizeOfType t)) form.TypeName at)

  sizes_forth : Within (Read type_use.Sizes) (O type_use.Nothing or sized_alternative)
  unfolding operand_of operand_but_name behind_paren sized_type closed
  sizes_forth =
      either (kind ws) (name_kind ∷ []) (first no [] _ (read_nothing (first (kind ws) (name_kind ∷ []) _ (itself _))))
      (either (kind ws) (mark_kind left_paren ∷ [])
      (after_either (kind ws) first_type (mark ws left_paren) _ _ (second no [] _ (itself _))
      (first no [] _ (read_nothing (second (kind ws) (name_kind ∷ []) _ (first (kind ws) (mark_kind left_paren ∷ []) _ (itself _))))))
      (first no [] _ (read_nothing (second (kind ws) (name_kind ∷ []) _ (second (kind ws) (mark_kind left_paren ∷ []) _ (itself _))))))

  sized_read : Within sized_alternative (Read type_use.Sizes)
  unfolding operand_of operand_but_name behind_paren sized_type closed
  sized_read = second (kind ws) (name_kind ∷ []) _ (first (kind ws) (mark_kind left_paren ∷ []) _ (on (mark ws left_paren) (λ at. first (kind ws) first_type _ (itself _))))

  -- what a unary expression gives isn't the name of a type
  abbrev IsOperand : ReadOperand → Type 0
  IsOperand x = size_of_operand x ≡ SizeOfExpr x.expression

  rest_is_operand : (at : Place) (x : Expression) → Gives IsOperand (postfix_rest ws E at x)
  unfolding postfix_rest
  rest_is_operand at x = gives_in_turn IsOperand (postfixes ws E x) _ (λ y. gives_value IsOperand _ refl)

  read_is_operand : Gives IsOperand (Read type_use.Nothing)
  unfolding operand_of behind_variable operand_but_name behind_paren paren_rest prefixed bump_first sized literal_first
  read_is_operand =
      gives_either IsOperand (kind ws) (name_kind ∷ []) _ _
      (gives_in_turn IsOperand (name ws) _ (λ x. gives_either IsOperand (kind ws) (mark_kind left_paren ∷ []) _ _ (gives_in_turn IsOperand (call_rest ws A x.0) _ (λ e. rest_is_operand x.1 e)) (rest_is_operand x.1 _)))
      (gives_either IsOperand (kind ws) (mark_kind left_paren ∷ []) _ _
      (gives_in_turn IsOperand (mark ws left_paren) _ (λ at. gives_in_turn IsOperand E _ (λ e. gives_in_turn IsOperand (mark ws right_paren) _ (λ _. rest_is_operand at e))))
      (gives_either IsOperand (kind ws) (kinds_of unary_operators) _ _
      (gives_in_turn IsOperand (one (placed (mark_entry unary_operators))) _ (λ o. gives_in_turn IsOperand (O type_use.Casts) _ (λ x. gives_value IsOperand _ refl)))
      (gives_either IsOperand (kind ws) (kinds_of prefix_bumps) _ _
      (gives_in_turn IsOperand (one (placed (mark_entry prefix_bumps))) _ (λ o. gives_in_turn IsOperand (O type_use.Nothing) _ (λ x. gives_value IsOperand _ refl)))
      (gives_either IsOperand (kind ws) (keyword_kind keyword.Sizeof ∷ []) _ _
      (gives_in_turn IsOperand (reserved ws keyword.Sizeof) _ (λ at. gives_in_turn IsOperand (O type_use.Sizes) _ (λ x. gives_value IsOperand _ refl)))
      (gives_in_turn IsOperand (literal ws) _ (λ x. rest_is_operand (place_of x) x))))))

  unary_is_operand : Gives IsOperand (O type_use.Nothing)
  unary_is_operand = record { all = λ a x r. read_is_operand.all a x (nothing_read.reads a x r) }

  abbrev sized_value : Place → ReadOperand → Syntax PlainToken ReadOperand
  sized_value at x = gives (read_operand (read_as at (size_of_operand x)) form.Unary at)

  abbrev Sizeof : Syntax PlainToken Place
  Sizeof = reserved ws keyword.Sizeof

  abbrev unary_size : Syntax PlainToken ReadOperand
  unary_size = Sizeof then λ at. O type_use.Nothing then λ x. gives (read_operand (read_as at (SizeOfExpr x.expression)) form.Unary at)

  abbrev type_size : Syntax PlainToken ReadOperand
  type_size =
      Sizeof then λ at. mark ws left_paren then λ _. type_name ws E then λ t. mark ws right_paren then λ _. gives (read_operand (read_as at (SizeOfType t)) form.Unary at)

  sized_forth : Within (sized ws O) (unary_size or type_size)
  unfolding sized
  sized_forth =
      on Sizeof (λ at. in_turn (forth (operand_knot ws E A type_use.Sizes) so sizes_forth) (λ x. itself (sized_value at x)) so apart_before no [] (O type_use.Nothing) sized_alternative (sized_value at))
      so apart_after no [] Sizeof (λ at. O type_use.Nothing then sized_value at) (λ at. sized_alternative then sized_value at)
      so each no [] no []
      (on Sizeof (λ at. in_turn_where (itself (O type_use.Nothing)) (λ x a r. value_forth at x (unary_is_operand.all a x r))))
      (on Sizeof (λ at. three_back (mark ws left_paren) (λ p. type_name ws E) (λ p t. mark ws right_paren) (λ p t. read_operand (read_as p (SizeOfType t)) form.TypeName p) (sized_value at) (λ p t. refl)))
    where
      value_forth : (at : Place) (x : ReadOperand) → IsOperand x → Within (sized_value at x) (gives (read_operand (read_as at (SizeOfExpr x.expression)) form.Unary at))
      value_forth at x e = rw e (itself _)

  sized_back : Within (unary_size or type_size) (sized ws O)
  unfolding sized
  sized_back =
      either no [] (on Sizeof (λ at. in_turn_where (unary_in type_use.Sizes) (λ x a r. value_back at x (unary_is_operand.all a x r))))
      (on Sizeof (λ at.
      three (mark ws left_paren) (λ p. type_name ws E) (λ p t. mark ws right_paren) (λ p t. read_operand (read_as p (SizeOfType t)) form.TypeName p) (sized_value at)
      so in_turn (sized_read so back (operand_knot ws E A type_use.Sizes)) (λ x. itself (sized_value at x))))
    where
      value_back : (at : Place) (x : ReadOperand) → IsOperand x → Within (gives (read_operand (read_as at (SizeOfExpr x.expression)) form.Unary at)) (sized_value at x)
      value_back at x e = rw e (itself _)

  unary_forth : Within (Read type_use.Nothing) (production.unary ws)
  unfolding operand_of operand_but_name behind_paren paren_rest prefixed bump_first
  unary_forth =
      either (kind ws) (name_kind ∷ []) (first no [] _ named_forth)
      (either (kind ws) (mark_kind left_paren ∷ []) (first no [] _ (paren_forth so from_primary (second no [] _ (second no [] _ (second no [] _ (second no [] _ (itself parenthesised)))))))
      (either (kind ws) (kinds_of unary_operators) (second no [] _ (first no [] _ (itself _)))
      (either (kind ws) (kinds_of prefix_bumps) (second no [] _ (second no [] _ (first no [] _ (itself _))))
      (either (kind ws) (keyword_kind keyword.Sizeof ∷ []) (sized_forth so second no [] _ (second no [] _ (second no [] _ (itself _)))) (first no [] _ literal_forth)))))

  to_but_name : {X : Syntax PlainToken ReadOperand} → Within X (operand_but_name ws E O type_use.Nothing) → Within X (Read type_use.Nothing)
  unfolding operand_of
  to_but_name w = second (kind ws) (name_kind ∷ []) _ w

  named_in : {X : Syntax PlainToken ReadOperand} → Within X (name ws then behind_variable ws E A) → Within X (Read type_use.Nothing)
  unfolding operand_of
  named_in w = first (kind ws) (name_kind ∷ []) _ w

  name_back : Within ((name ws then λ x. gives (read_name x, x.1)) then tail) (Read type_use.Nothing)
  name_back = named_in (simple_back (name ws) read_name (λ x. x.1) so variable_back)

  paren_read : Within in_paren (operand_but_name ws E O type_use.Nothing)
  unfolding operand_but_name behind_paren paren_rest
  paren_read = first (kind ws) (mark_kind left_paren ∷ []) _ (itself _)

  behind_paren_in : {X : Syntax PlainToken ReadOperand} → Within X (literal_first ws E) → Within X (operand_but_name ws E O type_use.Nothing)
  unfolding operand_but_name
  behind_paren_in w = second (kind ws) (mark_kind left_paren ∷ []) _ (second (kind ws) (kinds_of unary_operators) _ (second (kind ws) (kinds_of prefix_bumps) _ (second (kind ws) (keyword_kind keyword.Sizeof ∷ []) _ w)))

  prefixed_read : Within (prefixed ws O) (operand_but_name ws E O type_use.Nothing)
  unfolding operand_but_name
  prefixed_read = second (kind ws) (mark_kind left_paren ∷ []) _ (first (kind ws) (kinds_of unary_operators) _ (itself (prefixed ws O)))

  bump_read : Within (bump_first ws O) (operand_but_name ws E O type_use.Nothing)
  unfolding operand_but_name
  bump_read = second (kind ws) (mark_kind left_paren ∷ []) _ (second (kind ws) (kinds_of unary_operators) _ (first (kind ws) (kinds_of prefix_bumps) _ (itself (bump_first ws O))))

  sized_in : Within (sized ws O) (operand_but_name ws E O type_use.Nothing)
  unfolding operand_but_name
  sized_in = second (kind ws) (mark_kind left_paren ∷ []) _ (second (kind ws) (kinds_of unary_operators) _ (second (kind ws) (kinds_of prefix_bumps) _ (first (kind ws) (keyword_kind keyword.Sizeof ∷ []) _ (itself (sized ws O)))))

  number_literal : Within (one (placed number_of) then λ n. gives (read_as n.1 (Number n.0.0 n.0.1))) (literal ws)
  unfolding literal
  number_literal = first (kind ws) (number_kind ∷ []) _ (itself _)

  letter_literal : Within (one (placed letter_of) then λ z. gives (read_as z.1 (Letter z.0))) (literal ws)
  unfolding literal
  letter_literal = second (kind ws) (number_kind ∷ []) _ (first (kind ws) (letter_kind ∷ []) _ (itself _))

  text_literal : Within (fixed ws text_kind then λ at. gives (read_as at (Text at.offset))) (literal ws)
  unfolding literal
  text_literal = second (kind ws) (number_kind ∷ []) _ (second (kind ws) (letter_kind ∷ []) _ (itself _))

  primary_back : Within (production.primary ws then tail) (Read type_use.Nothing)
  primary_back =
      either_before no [] tail name_back
      (either_before no [] tail
      (simple_back (one (placed number_of)) (λ n. read_as n.1 (Number n.0.0 n.0.1)) (λ n. n.1) so to_but_name (behind_paren_in (literal_back (one (placed number_of)) (λ n. read_as n.1 (Number n.0.0 n.0.1)) number_literal)))
      (either_before no [] tail
      (simple_back (one (placed letter_of)) (λ z. read_as z.1 (Letter z.0)) (λ z. z.1) so to_but_name (behind_paren_in (literal_back (one (placed letter_of)) (λ z. read_as z.1 (Letter z.0)) letter_literal)))
      (either_before no [] tail
      (simple_back (fixed ws text_kind) (λ at. read_as at (Text at.offset)) (λ at. at) so to_but_name (behind_paren_in (literal_back (fixed ws text_kind) (λ at. read_as at (Text at.offset)) text_literal)))
      (paren_back so to_but_name paren_read))))

  postfix_back : Within (production.postfix ws) (Read type_use.Nothing)
  postfix_back = either_before no [] tail primary_back (named_in call_back)

  prefixed_same : Within (one (placed (mark_entry unary_operators)) then λ o. O type_use.Casts then λ x. gives (read_operand (read_as o.1 (Unary o.0 x.expression)) form.Unary o.1)) (prefixed ws O)
  unfolding prefixed
  prefixed_same = itself _

  bump_same : Within (one (placed (mark_entry prefix_bumps)) then λ o. O type_use.Nothing then λ x. gives (read_operand (read_as o.1 (Bump o.0 x.expression)) form.Unary o.1)) (bump_first ws O)
  unfolding bump_first
  bump_same = itself _

  unary_back : Within (production.unary ws) (O type_use.Nothing)
  unary_back = read_nothing (either no [] postfix_back (either no [] (prefixed_same so to_but_name prefixed_read) (either no [] (bump_same so to_but_name bump_read) (sized_back so to_but_name sized_in))))

  pub unary_line : Same (parsed_unary ws) (production.unary ws)
  unary_line = both (nothing_read so unary_forth) unary_back
