-- The productions of assignments and commas are those of the head of their grammar.
use Rattle.std.proofs.Common.{◌≡◌, ℕ, [], ◌∷◌, refl, sym, subst, ◌⊎◌, inl, inr}
use Rattle.grammar.specs.Syntax.{Syntax, gives, one, ◌then◌, many}
use Rattle.grammar.specs.Exact.{Same}
use Rattle.grammar.proofs.Forms.{to_left}
use Rattle.grammar_laws.specs.Plain.{◌or◌, repeated}
use Rattle.grammar_laws.proofs.Inclusions.{Within, both, forth, back, itself, ◌so◌, either, first, second, each, on, in_turn, in_turn_where, after_either}
use Rattle.grammar_laws.proofs.Inclusions.{either_before, turns, Gives, gives_in_turn, gives_either, gives_value, handed, handed_back}
use Rattle.grammar_laws.proofs.ExpressionKnots.{expression_knot}
use Rattle.grammar_laws.proofs.ExpressionProductions.{cast_line, unary_line}
use Rattle.c_syntax.specs.declared.place.Place.{Place}
use Rattle.c_syntax.specs.Expressions.{Expression, Unary, Bump, Cast, SizeOfType, SizeOfExpr}
use Rattle.c_syntax.specs.Tokens.{PlainToken}
use Rattle.c_model.specs.declared.operands.Form.{Form}
use Rattle.c_model.specs.declared.operands.Form.TheVariants as form
use Rattle.c_model.specs.declared.operands.Level.TheVariants.{Assignment, Conditional}
use Rattle.c_model.specs.declared.operands.TypeUse.{TypeUse}
use Rattle.c_model.specs.declared.operands.TypeUse.TheVariants as type_use
use Rattle.c_model.specs.declared.vocabulary.Keyword.TheVariants as keyword
use Rattle.c_model.specs.Vocabulary.{Vocabulary}
use Rattle.c_model.specs.Terminals.{placed, mark_entry}
use Rattle.c_model.specs.Punctuators.{comma, left_paren, right_paren}
use Rattle.c_model.specs.ExpressionGrammar.{ReadOperand, kind, kinds_of, mark_kind, assignment_operators, prefix_bumps, unary_operators, read_as, read_operand}
use Rattle.c_model.specs.ExpressionGrammar.{mark, reserved, type_name, operand, conditional_rest, assigned, behind_unary, behind_form, at_level, next_part}
use Rattle.c_model.specs.ExpressionGrammar.{with_commas, expression_at, expression, placed_rest, placed_expression}
use Rattle.grammar_laws.specs.ExpressionProductions as production

abbrev no : PlainToken → ℕ
no t = 0

module _ (ws : Vocabulary) where
  abbrev E : Syntax PlainToken Expression
  E = expression ws

  abbrev A : Syntax PlainToken Expression
  A = expression_at ws Assignment

  abbrev C : Syntax PlainToken Expression
  C = expression_at ws Conditional

  abbrev O : TypeUse → Syntax PlainToken ReadOperand
  O = operand ws E A

  -- ---- what stands after an operand

  abbrev Rest : ReadOperand → Syntax PlainToken Expression
  Rest x = conditional_rest ws E A C x.expression

  abbrev Assigned : ReadOperand → Syntax PlainToken Expression
  Assigned x = assigned ws A x.expression

  abbrev At : Form → ReadOperand → Syntax PlainToken Expression
  At f x = behind_form ws E A C f x.expression

  abbrev After : ReadOperand → Syntax PlainToken Expression
  After x = At x.form x

  cast_at : (x : ReadOperand) → Within (At form.Cast x) (Rest x)
  unfolding behind_form
  cast_at x = itself _

  unary_at : (x : ReadOperand) → Within (At form.Unary x) (Assigned x or Rest x)
  unfolding behind_form behind_unary
  unary_at x = each (kind ws) (kinds_of assignment_operators) no [] (itself _) (itself _)

  postfix_at : (x : ReadOperand) → Within (At form.Postfix x) (Assigned x or Rest x)
  unfolding behind_form behind_unary
  postfix_at x = each (kind ws) (kinds_of assignment_operators) no [] (itself _) (itself _)

  assigned_unary : (x : ReadOperand) → Within (Assigned x) (At form.Unary x)
  unfolding behind_form behind_unary
  assigned_unary x = first (kind ws) (kinds_of assignment_operators) _ (itself _)

  assigned_postfix : (x : ReadOperand) → Within (Assigned x) (At form.Postfix x)
  unfolding behind_form behind_unary
  assigned_postfix x = first (kind ws) (kinds_of assignment_operators) _ (itself _)

  rest_at : (f : Form) (x : ReadOperand) → Within (Rest x) (At f x)
  unfolding behind_form behind_unary
  rest_at form.Postfix x = second (kind ws) (kinds_of assignment_operators) _ (itself _)
  rest_at form.Unary x = second (kind ws) (kinds_of assignment_operators) _ (itself _)
  rest_at form.Cast x = itself _
  rest_at form.TypeName x = itself _

  -- ---- what form an operand has

  abbrev Of : Form → ReadOperand → Type 0
  Of f x = x.form ≡ f

  abbrev prefixed_part : Syntax PlainToken ReadOperand
  prefixed_part = one (placed (mark_entry unary_operators)) then λ o. O type_use.Casts then λ x. gives (read_operand (read_as o.1 (Unary o.0 x.expression)) form.Unary o.1)

  abbrev bump_part : Syntax PlainToken ReadOperand
  bump_part = one (placed (mark_entry prefix_bumps)) then λ o. O type_use.Nothing then λ x. gives (read_operand (read_as o.1 (Bump o.0 x.expression)) form.Unary o.1)

  abbrev operand_size : Syntax PlainToken ReadOperand
  operand_size = reserved ws keyword.Sizeof then λ at. O type_use.Nothing then λ x. gives (read_operand (read_as at (SizeOfExpr x.expression)) form.Unary at)

  abbrev type_size : Syntax PlainToken ReadOperand
  type_size =
      reserved ws keyword.Sizeof then λ at. mark ws left_paren then λ _. type_name ws E then λ t. mark ws right_paren then λ _. gives (read_operand (read_as at (SizeOfType t)) form.Unary at)

  abbrev cast_part : Syntax PlainToken ReadOperand
  cast_part =
      mark ws left_paren then λ at. type_name ws E then λ t. mark ws right_paren then λ _. O type_use.Casts then λ x. gives (read_operand (read_as at (Cast t x.expression)) form.Cast at)

  postfix_form : Gives (Of form.Postfix) (production.postfix ws)
  postfix_form = gives_in_turn _ (production.primary ws or production.call ws) _ (λ p. gives_in_turn _ (repeated (production.behind_primary ws) p.0) _ (λ x. gives_value _ _ refl))

  prefixed_form : Gives (Of form.Unary) prefixed_part
  prefixed_form = gives_in_turn _ (one (placed (mark_entry unary_operators))) _ (λ o. gives_in_turn _ (O type_use.Casts) _ (λ x. gives_value _ _ refl))

  bump_form : Gives (Of form.Unary) bump_part
  bump_form = gives_in_turn _ (one (placed (mark_entry prefix_bumps))) _ (λ o. gives_in_turn _ (O type_use.Nothing) _ (λ x. gives_value _ _ refl))

  operand_size_form : Gives (Of form.Unary) operand_size
  operand_size_form = gives_in_turn _ (reserved ws keyword.Sizeof) _ (λ at. gives_in_turn _ (O type_use.Nothing) _ (λ x. gives_value _ _ refl))

  type_size_form : Gives (Of form.Unary) type_size
  type_size_form =
      gives_in_turn _ (reserved ws keyword.Sizeof) _ (λ at. gives_in_turn _ (mark ws left_paren) _ (λ _. gives_in_turn _ (type_name ws E) _ (λ t. gives_in_turn _ (mark ws right_paren) _ (λ _. gives_value _ _ refl))))

  cast_form : Gives (Of form.Cast) cast_part
  cast_form =
      gives_in_turn _ (mark ws left_paren) _ (λ at. gives_in_turn _ (type_name ws E) _ (λ t. gives_in_turn _ (mark ws right_paren) _ (λ _. gives_in_turn _ (O type_use.Casts) _ (λ x. gives_value _ _ refl))))

  abbrev OfUnary : ReadOperand → Type 0
  OfUnary x = Of form.Postfix x ⊎ Of form.Unary x

  either_form : Gives OfUnary (production.unary ws)
  either_form =
      gives_either OfUnary no [] (production.postfix ws) _ (record { all = λ a x r. inl (postfix_form.all a x r) })
      (gives_either OfUnary no [] prefixed_part _ (record { all = λ a x r. inr (prefixed_form.all a x r) })
      (gives_either OfUnary no [] bump_part _ (record { all = λ a x r. inr (bump_form.all a x r) })
      (gives_either OfUnary no [] operand_size type_size (record { all = λ a x r. inr (operand_size_form.all a x r) }) (record { all = λ a x r. inr (type_size_form.all a x r) }))))

  unary_form : Gives OfUnary (O type_use.Nothing)
  unary_form = record { all = λ a x r. either_form.all a x ((unary_line ws).reads a x r) }

  -- ---- assignments

  unary_cast : Within (O type_use.Nothing) (O type_use.Casts)
  unary_cast = first no [] cast_part (itself (O type_use.Nothing)) so back (cast_line ws)

  whole_conditional : Within (O type_use.Casts then Rest) C
  unfolding at_level
  whole_conditional = back (expression_knot ws Conditional)

  conditional_parts : Within C (O type_use.Casts then Rest)
  unfolding at_level
  conditional_parts = forth (expression_knot ws Conditional)

  pub whole_assignment : Within (O type_use.Casts then After) A
  unfolding at_level
  whole_assignment = back (expression_knot ws Assignment)

  pub assignment_parts : Within A (O type_use.Casts then After)
  unfolding at_level
  assignment_parts = forth (expression_knot ws Assignment)

  to_assigned : {X : Syntax PlainToken ReadOperand} → Within X (O type_use.Nothing) → Within (X then Assigned) (production.assign ws)
  unfolding assigned
  to_assigned w = in_turn w (λ x. itself _) so second no [] _ (itself _)

  to_conditional : {X : Syntax PlainToken ReadOperand} → Within X (O type_use.Casts) → Within (X then Rest) (production.assign ws)
  to_conditional w = in_turn w (λ x. itself (Rest x)) so whole_conditional so first no [] _ (itself C)

  cast_after : Within (cast_part then After) (production.assign ws)
  cast_after =
      in_turn_where (itself cast_part) (λ x a r. subst (λ f. Within (At f x) (Rest x)) (sym (cast_form.all a x r)) (cast_at x))
      so to_conditional (second no [] (O type_use.Nothing) (itself cast_part) so back (cast_line ws))

  unary_after : (X : Syntax PlainToken ReadOperand) → Gives (Of form.Unary) X → Within X (O type_use.Nothing) → Within (X then After) (production.assign ws)
  unary_after X p w =
      in_turn_where (itself X) (λ x a r. subst (λ f. Within (At f x) (Assigned x or Rest x)) (sym (p.all a x r)) (unary_at x))
      so after_either no [] X Assigned Rest (to_assigned w) (to_conditional (w so unary_cast))

  postfix_unary : Within (production.postfix ws) (O type_use.Nothing)
  postfix_unary = first no [] _ (itself (production.postfix ws)) so back (unary_line ws)

  postfix_after : Within (production.postfix ws then After) (production.assign ws)
  postfix_after =
      in_turn_where (itself (production.postfix ws)) (λ x a r. subst (λ f. Within (At f x) (Assigned x or Rest x)) (sym (postfix_form.all a x r)) (postfix_at x))
      so after_either no [] (production.postfix ws) Assigned Rest (to_assigned postfix_unary) (to_conditional (postfix_unary so unary_cast))

  operands_forth : Within (O type_use.Casts then After) (production.assign ws)
  operands_forth =
      in_turn (forth (cast_line ws)) (λ x. itself (After x))
      so either_before no [] After
      (in_turn (forth (unary_line ws)) (λ x. itself (After x))
      so either_before no [] After postfix_after
      (either_before no [] After
      (unary_after prefixed_part prefixed_form (second no [] (production.postfix ws) (first no [] (bump_part or operand_size or type_size) (itself prefixed_part)) so back (unary_line ws)))
      (either_before no [] After
      (unary_after bump_part bump_form (second no [] (production.postfix ws) (second no [] prefixed_part (first no [] (operand_size or type_size) (itself bump_part))) so back (unary_line ws)))
      (either_before no [] After
      (unary_after operand_size operand_size_form (second no [] (production.postfix ws) (second no [] prefixed_part (second no [] bump_part (first no [] type_size (itself operand_size)))) so back (unary_line ws)))
      (unary_after type_size type_size_form (second no [] (production.postfix ws) (second no [] prefixed_part (second no [] bump_part (second no [] operand_size (itself type_size)))) so back (unary_line ws)))))))
      cast_after

  assigned_after : (x : ReadOperand) → OfUnary x → Within (Assigned x) (After x)
  assigned_after x (inl e) = subst (λ f. Within (Assigned x) (At f x)) (sym e) (assigned_postfix x)
  assigned_after x (inr e) = subst (λ f. Within (Assigned x) (At f x)) (sym e) (assigned_unary x)

  abbrev assignment : Syntax PlainToken Expression
  assignment = O type_use.Nothing then Assigned

  assignment_is : Within (production.assign ws) (C or assignment)
  unfolding assigned
  assignment_is = itself _

  assignment_back : Within assignment (O type_use.Casts then After)
  assignment_back = in_turn_where unary_cast (λ x a r. assigned_after x (unary_form.all a x r))

  conditional_back : Within C (O type_use.Casts then After)
  conditional_back = conditional_parts so on (O type_use.Casts) (λ x. rest_at x.form x)

  pub assign_line : Same A (production.assign ws)
  assign_line = both (assignment_parts so operands_forth) (assignment_is so either no [] conditional_back assignment_back so whole_assignment)

  -- ---- commas

  abbrev More : Expression → Syntax PlainToken Expression
  More x = many (kind ws) (λ _. mark_kind comma ∷ []) (next_part ws A) x

  pub commas_line : Same E (production.commas ws)
  unfolding expression with_commas next_part
  commas_line =
      both (on A (λ x. turns (kind ws) (λ _. mark_kind comma ∷ []) no (λ _. []) (λ y. itself _) x)) (on A (λ x. turns no (λ _. []) (kind ws) (λ _. mark_kind comma ∷ []) (λ y. itself _) x))

  -- ---- with the place of the first token

  abbrev alone : Expression → Syntax PlainToken Expression
  alone e = gives e

  abbrev value : Expression × Place → Syntax PlainToken Expression
  value e = gives e.0

  abbrev Placed : ReadOperand → Expression → Syntax PlainToken (Expression × Place)
  Placed x y = More y then λ e. gives (e, x.first)

  abbrev Counted : ReadOperand → Syntax PlainToken (Expression × Place)
  Counted x = After x then Placed x

  placed_parts : Same (placed_expression ws) (O type_use.Casts then Counted)
  unfolding placed_expression placed_rest
  placed_parts = both (itself _) (itself _)

  commas_parts : Same E (A then More)
  unfolding expression with_commas
  commas_parts = both (itself _) (itself _)

  counted_forth : (x : ReadOperand) → Within (Counted x then value) (After x then λ y. More y then alone)
  counted_forth x = back (to_left (After x) (Placed x) value) so on (After x) (λ y. handed_back (More y) (λ e. (e, x.first)) value (λ e. refl))

  counted_back : (x : ReadOperand) → Within (After x then λ y. More y then alone) (Counted x then value)
  counted_back x = on (After x) (λ y. handed (More y) (λ e. (e, x.first)) value) so forth (to_left (After x) (Placed x) value)

  abbrev Ended : Expression → Syntax PlainToken Expression
  Ended y = More y then alone

  pub placed_line : Same (placed_expression ws then λ e. gives e.0) (E then λ e. gives e)
  placed_line =
      both
      (in_turn (forth placed_parts) (λ e. itself (value e)) so back (to_left (O type_use.Casts) Counted value) so on (O type_use.Casts) counted_forth
      so forth (to_left (O type_use.Casts) After Ended) so in_turn whole_assignment (λ y. itself (Ended y)) so forth (to_left A More alone) so in_turn (back commas_parts) (λ e. itself (alone e)))
      (in_turn (forth commas_parts) (λ e. itself (alone e)) so back (to_left A More alone) so in_turn assignment_parts (λ y. itself (Ended y))
      so back (to_left (O type_use.Casts) After Ended) so on (O type_use.Casts) counted_back so forth (to_left (O type_use.Casts) Counted value) so in_turn (back placed_parts) (λ e. itself (value e)))
