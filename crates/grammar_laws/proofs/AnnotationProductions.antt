-- The productions of prefix forms are those of the head of their grammar.
use Rattle.std.proofs.Common.{ℕ, List, [], ◌∷◌, Some, None, refl, inl, inr}
use Rattle.grammar.specs.Syntax.{Syntax, gives, one, ◌then◌, many}
use Rattle.grammar.specs.Exact.{Same}
use Rattle.grammar.proofs.Forms.{to_left}
use Rattle.grammar_laws.proofs.Inclusions.{Within, both, forth, back, itself, ◌so◌, either, first, second, each, on, in_turn, after_either, either_before}
use Rattle.grammar_laws.proofs.Inclusions.{handed, handed_back, three, three_back, turns}
use Rattle.grammar_laws.proofs.AnnotationKnots.{prefix_knot}
use Rattle.c_syntax.specs.Formulas.{CastType, Integers, OfC, Form, Number, Letter, Truth, Name, Null, Result, Told, Asks, Old, At, Index, Dot, Arrow, Cast, SizeOf, Quantified, Separated, FormZone}
use Rattle.c_syntax.specs.declared.place.Place.{Place}
use Rattle.c_syntax.specs.declared.logic.Quantifier.{Quantifier}
use Rattle.c_syntax.specs.Tokens.{PlainToken}
use Rattle.c_model.specs.declared.formulas.FormulaMode.TheVariants.{Alone}
use Rattle.c_model.specs.Vocabulary.{Vocabulary}
use Rattle.c_model.specs.Terminals.{placed}
use Rattle.c_model.specs.Punctuators.{left_paren, right_paren, left_bracket, right_bracket, dot, arrow, comma, semicolon}
use Rattle.c_model.specs.ExpressionGrammar.{fixed, use_of, number_of, letter_of, kinds_of, mark_kind, first_type, number_kind, letter_kind, name_kind, null_kind, fact_kind, question_kind, separated_kind, result_kind, old_kind, at_kind}
use Rattle.c_model.specs.ExpressionGrammar.{keyword_kind, quantifier_kind, type_name_kind, mark, reserved, any_name, type_name, expression, closed}
use Rattle.c_model.specs.declared.vocabulary.Keyword.TheVariants as keyword
use Rattle.c_model.specs.AnnotationGrammar as parsed
use Rattle.c_model.specs.AnnotationGrammar.{formula_kind, integer_kind, integer_word, prefix_operators, first_behind, Spanned, zones_of, formula_name_of, truth_of, fact_of, question_of, quantifier_of, quantifier_end}
use Rattle.grammar_laws.specs.Plain.{◌or◌, repeated}
use Rattle.grammar_laws.specs.AnnotationProductions as production

-- a kind that nothing asks for
abbrev no : PlainToken → ℕ
no t = 0

module _ (ws : Vocabulary) where
  abbrev F : Syntax PlainToken Form
  F = parsed.form ws

  abbrev Z : Syntax PlainToken FormZone
  Z = parsed.zone ws (parsed.forms ws)

  abbrev L : Syntax PlainToken (Spanned Form)
  L = parsed.forms ws Alone

  abbrev P : Syntax PlainToken (Spanned Form)
  P = parsed.prefix ws F Z L

  abbrev open_end : Form → Syntax PlainToken (Spanned Form)
  open_end x = gives (x, None)

  -- ---- postfix forms

  -- one postfix operator, and more of them
  abbrev step : Form → Syntax PlainToken Form
  step y =
      (mark ws left_bracket then λ at. F then λ i. mark ws right_bracket then λ _. gives (Index at y i))
      or (mark ws dot then λ at. any_name ws then λ m. gives (Dot at y m.0))
      or (mark ws arrow then λ at. any_name ws then λ m. gives (Arrow at y m.0))

  abbrev behind : Form → Syntax PlainToken Form
  behind x = repeated step x

  postfixes_line : (x : Form) → Same (parsed.postfixes ws F x) (behind x)
  unfolding parsed.postfixes parsed.postfix_once parsed.indexed parsed.dotted parsed.pointed
  postfixes_line x =
      both
      (turns (formula_kind ws) (λ _. first_behind) no (λ _. []) (λ y. each (formula_kind ws) (mark_kind left_bracket ∷ []) no [] (itself _) (each (formula_kind ws) (mark_kind dot ∷ []) no [] (itself _) (itself _))) x)
      (turns no (λ _. []) (formula_kind ws) (λ _. first_behind) (λ y. each no [] (formula_kind ws) (mark_kind left_bracket ∷ []) (itself _) (each no [] (formula_kind ws) (mark_kind dot ∷ []) (itself _) (itself _))) x)

  -- ---- zones that are separated

  abbrev next : List FormZone → Syntax PlainToken (List FormZone)
  next zs = parsed.next_zone ws Z zs

  abbrev some : FormZone → Syntax PlainToken (List FormZone)
  some y = next (y ∷ []) then λ ys. many (formula_kind ws) (λ _. mark_kind comma ∷ []) next ys

  abbrev closing_zones : Place → List FormZone → Syntax PlainToken Form
  closing_zones at zs = mark ws right_paren then λ _. gives (Separated at (zones_of zs))

  abbrev separated_zones : Place → Syntax PlainToken Form
  separated_zones at = Z then λ y. next (y ∷ []) then λ ys. repeated next ys then λ zs. closing_zones at zs

  zones_forth : (at : Place) → Within (parsed.some_zones ws Z then closing_zones at) (separated_zones at)
  unfolding parsed.some_zones
  zones_forth at =
      back (to_left Z some (closing_zones at))
      so on Z (λ y. back (to_left (next (y ∷ [])) (λ ys. many (formula_kind ws) (λ _. mark_kind comma ∷ []) next ys) (closing_zones at))
      so on (next (y ∷ [])) (λ ys. in_turn (turns (formula_kind ws) (λ _. mark_kind comma ∷ []) no (λ _. []) (λ zs. itself (next zs)) ys) (λ zs. itself (closing_zones at zs))))

  zones_back : (at : Place) → Within (separated_zones at) (parsed.some_zones ws Z then closing_zones at)
  unfolding parsed.some_zones
  zones_back at =
      on Z (λ y. on (next (y ∷ [])) (λ ys. in_turn (turns no (λ _. []) (formula_kind ws) (λ _. mark_kind comma ∷ []) (λ zs. itself (next zs)) ys) (λ zs. itself (closing_zones at zs)))
      so forth (to_left (next (y ∷ [])) (λ ys. many (formula_kind ws) (λ _. mark_kind comma ∷ []) next ys) (closing_zones at)))
      so forth (to_left Z some (closing_zones at))

  -- ---- primary forms

  worded_forth : Within (parsed.worded ws F Z) (production.primary ws)
  unfolding parsed.worded parsed.told_form parsed.asked_form parsed.separated_form parsed.old_form parsed.labelled_form parsed.next_zone parsed.atom parsed.named_form parsed.null_form parsed.result_form parsed.literal_form closed
  worded_forth =
      either (formula_kind ws) (fact_kind ∷ []) (second no [] _ (second no [] _ (second no [] _ (second no [] _ (second no [] _ (second no [] _ (second no [] _ (first no [] _ (itself _)))))))))
      (either (formula_kind ws) (question_kind ∷ []) (second no [] _ (second no [] _ (second no [] _ (second no [] _ (second no [] _ (second no [] _ (second no [] _ (second no [] _ (first no [] _ (itself _))))))))))
      (either (formula_kind ws) (separated_kind ∷ [])
      (second no [] _ (second no [] _ (second no [] _ (second no [] _ (second no [] _ (second no [] _ (second no [] _ (second no [] _ (second no [] _
      (first no [] _ (on (fixed ws separated_kind) (λ at. on (mark ws left_paren) (λ _. zones_forth at)))))))))))))
      (either (formula_kind ws) (old_kind ∷ []) (second no [] _ (second no [] _ (second no [] _ (second no [] _ (second no [] _ (second no [] _ (second no [] _ (second no [] _ (second no [] _ (second no [] _ (first no [] _ (itself _))))))))))))
      (either (formula_kind ws) (at_kind ∷ []) (second no [] _ (second no [] _ (second no [] _ (second no [] _ (second no [] _ (second no [] _ (second no [] _ (second no [] _ (second no [] _ (second no [] _ (second no [] _ (itself _))))))))))))
      (either (formula_kind ws) (name_kind ∷ []) (first no [] _ (itself _))
      (either (formula_kind ws) (null_kind ∷ []) (second no [] _ (second no [] _ (second no [] _ (second no [] _ (first no [] _ (itself _))))))
      (either (formula_kind ws) (result_kind ∷ []) (second no [] _ (second no [] _ (second no [] _ (second no [] _ (second no [] _ (first no [] _ (itself _)))))))
      (either (formula_kind ws) (number_kind ∷ []) (second no [] _ (first no [] _ (itself _)))
      (either (formula_kind ws) (letter_kind ∷ []) (second no [] _ (second no [] _ (first no [] _ (itself _)))) (second no [] _ (second no [] _ (second no [] _ (first no [] _ (itself _))))))))))))))

  -- ---- prefixes

  -- what stands after the type of a cast
  abbrev behind_cast : Place → CastType → Syntax PlainToken (Spanned Form)
  behind_cast at t = mark ws right_paren then λ _. P then λ x. gives (Cast at t x.0, x.1)

  to_cast_type : (at : Place) → Within (type_name ws (expression ws) then λ t. behind_cast at (OfC t)) (production.cast_type ws then λ t. behind_cast at t)
  to_cast_type at = handed (type_name ws (expression ws)) OfC (behind_cast at) so in_turn (first no [] _ (itself _)) (λ t. itself _)

  to_cast_integer : (at : Place) → Within (integer_word ws then λ _. behind_cast at Integers) (production.cast_type ws then λ t. behind_cast at t)
  to_cast_integer at = handed (integer_word ws) (λ _. Integers) (behind_cast at) so in_turn (second no [] _ (itself _)) (λ t. itself _)

  -- a form in parentheses, and what stands behind it
  abbrev InParentheses : Syntax PlainToken Form
  InParentheses = mark ws left_paren then λ _. F then λ x. parsed.closed_postfix ws F x

  parenthesised_forth : Within InParentheses (production.postfix ws)
  unfolding parsed.closed_postfix
  parenthesised_forth =
      on (mark ws left_paren) (λ _. on F (λ x. on (mark ws right_paren) (λ _. forth (postfixes_line x))))
      so three (mark ws left_paren) (λ _. F) (λ _ _. mark ws right_paren) (λ _ x. x) behind
      so in_turn (second no [] _ (second no [] _ (second no [] _ (second no [] _ (second no [] _ (second no [] _ (first no [] _ (itself _)))))))) (λ x. itself (behind x))

  parenthesised_back : Within ((mark ws left_paren then λ _. F then λ x. mark ws right_paren then λ _. gives x) then behind) InParentheses
  unfolding parsed.closed_postfix
  parenthesised_back =
      three_back (mark ws left_paren) (λ _. F) (λ _ _. mark ws right_paren) (λ _ x. x) behind (λ _ x. (0, inr refl))
      so on (mark ws left_paren) (λ _. on F (λ x. on (mark ws right_paren) (λ _. back (postfixes_line x))))

  in_parentheses : Within (mark ws left_paren then λ _. parsed.parenthesised ws F) (InParentheses then open_end)
  unfolding parsed.parenthesised
  in_parentheses = on (mark ws left_paren) (λ _. forth (to_left F (λ x. parsed.closed_postfix ws F x) open_end)) so forth (to_left (mark ws left_paren) (λ _. F then λ x. parsed.closed_postfix ws F x) open_end)

  out_of_parentheses : Within (InParentheses then open_end) (mark ws left_paren then λ _. parsed.parenthesised ws F)
  unfolding parsed.parenthesised
  out_of_parentheses = back (to_left (mark ws left_paren) (λ _. F then λ x. parsed.closed_postfix ws F x) open_end) so on (mark ws left_paren) (λ _. back (to_left F (λ x. parsed.closed_postfix ws F x) open_end))

  worded_postfix_forth : Within (parsed.worded_postfix ws F Z) (production.postfix ws)
  unfolding parsed.worded_postfix
  worded_postfix_forth = in_turn worded_forth (λ x. forth (postfixes_line x))

  -- `sizeof`
  abbrev sized_at : Place → Syntax PlainToken Form
  sized_at at = mark ws left_paren then λ _. type_name ws (expression ws) then λ t. mark ws right_paren then λ _. gives (SizeOf at t)

  abbrev Sized : Syntax PlainToken (Spanned Form)
  Sized = reserved ws keyword.Sizeof then λ at. mark ws left_paren then λ _. type_name ws (expression ws) then λ t. mark ws right_paren then λ _. gives (SizeOf at t, None)

  sized_forth : Within (parsed.sized_form ws then open_end) Sized
  unfolding parsed.sized_form closed
  sized_forth =
      back (to_left (reserved ws keyword.Sizeof) sized_at open_end)
      so on (reserved ws keyword.Sizeof) (λ at. back (to_left (mark ws left_paren) (λ _. type_name ws (expression ws) then λ t. mark ws right_paren then λ _. gives (SizeOf at t)) open_end)
      so on (mark ws left_paren) (λ _. back (to_left (type_name ws (expression ws)) (λ t. mark ws right_paren then λ _. gives (SizeOf at t)) open_end)
      so on (type_name ws (expression ws)) (λ t. handed_back (mark ws right_paren) (λ _. SizeOf at t) open_end (λ _. refl))))

  sized_back : Within Sized (parsed.sized_form ws then open_end)
  unfolding parsed.sized_form closed
  sized_back =
      on (reserved ws keyword.Sizeof) (λ at.
      on (mark ws left_paren) (λ _.
      on (type_name ws (expression ws)) (λ t. handed (mark ws right_paren) (λ _. SizeOf at t) open_end)
      so forth (to_left (type_name ws (expression ws)) (λ t. mark ws right_paren then λ _. gives (SizeOf at t)) open_end))
      so forth (to_left (mark ws left_paren) (λ _. type_name ws (expression ws) then λ t. mark ws right_paren then λ _. gives (SizeOf at t)) open_end))
      so forth (to_left (reserved ws keyword.Sizeof) sized_at open_end)

  -- quantifiers
  types_forth : Within (parsed.binder_type ws) (production.values ws)
  unfolding parsed.binder_type
  types_forth =
      either (formula_kind ws) (integer_kind ∷ []) (second no [] _ (second no [] _ (second no [] _ (itself _))))
      (either (formula_kind ws) (keyword_kind keyword.Enum ∷ []) (second no [] _ (first no [] _ (itself _)))
      (either (formula_kind ws) (type_name_kind ∷ []) (second no [] _ (second no [] _ (first no [] _ (itself _)))) (first no [] _ (itself _))))

  types_back : Within (production.values ws) (parsed.binder_type ws)
  unfolding parsed.binder_type
  types_back =
      either no [] (second (formula_kind ws) (integer_kind ∷ []) _ (second (formula_kind ws) (keyword_kind keyword.Enum ∷ []) _ (second (formula_kind ws) (type_name_kind ∷ []) _ (itself _))))
      (either no [] (second (formula_kind ws) (integer_kind ∷ []) _ (first (formula_kind ws) (keyword_kind keyword.Enum ∷ []) _ (itself _)))
      (either no [] (second (formula_kind ws) (integer_kind ∷ []) _ (second (formula_kind ws) (keyword_kind keyword.Enum ∷ []) _ (first (formula_kind ws) (type_name_kind ∷ []) _ (itself _))))
      (first (formula_kind ws) (integer_kind ∷ []) _ (itself _))))

  names_forth : Within (parsed.some_names ws) (production.names ws)
  unfolding parsed.some_names parsed.next_name parsed.placed_name
  names_forth = in_turn (itself _) (λ x. turns (formula_kind ws) (λ _. mark_kind comma ∷ []) no (λ _. []) (λ y. itself _) (x ∷ []))

  names_back : Within (production.names ws) (parsed.some_names ws)
  unfolding parsed.some_names parsed.next_name parsed.placed_name
  names_back = in_turn (itself _) (λ x. turns no (λ _. []) (formula_kind ws) (λ _. mark_kind comma ∷ []) (λ y. itself _) (x ∷ []))

  -- what binders say
  abbrev said : Quantifier × Place → CastType × List (Place × ℕ) → Syntax PlainToken (Spanned Form)
  said q b = L then λ x. gives (Quantified q.1 q.0 b.0 b.1 x.0, Some (quantifier_end x.1))

  said_empty : (q : Quantifier × Place) (b : CastType × List (Place × ℕ)) → (said q b).begun []
  unfolding parsed.forms
  said_empty q b = inl (0, refl)

  abbrev ended_names : CastType → List (Place × ℕ) → Syntax PlainToken (CastType × List (Place × ℕ))
  ended_names t xs = mark ws semicolon then λ _. gives (t, xs)

  abbrev named : CastType → Syntax PlainToken (CastType × List (Place × ℕ))
  named t = parsed.some_names ws then ended_names t

  quantified_forth : Within (parsed.quantified ws L) (production.quantified ws)
  unfolding parsed.quantified parsed.binders
  quantified_forth =
      on (one (placed (quantifier_of ws))) (λ q. back (to_left (parsed.binder_type ws) named (said q))
      so in_turn types_forth (λ t. back (to_left (parsed.some_names ws) (ended_names t) (said q))
      so in_turn names_forth (λ xs. handed_back (mark ws semicolon) (λ _. (t, xs)) (said q) (λ _. said_empty q (t, xs)))))

  quantified_back : Within (production.quantified ws) (parsed.quantified ws L)
  unfolding parsed.quantified parsed.binders
  quantified_back =
      on (one (placed (quantifier_of ws))) (λ q.
      in_turn types_back (λ t.
      in_turn names_back (λ xs. handed (mark ws semicolon) (λ _. (t, xs)) (said q)) so forth (to_left (parsed.some_names ws) (ended_names t) (said q)))
      so forth (to_left (parsed.binder_type ws) named (said q)))

  prefix_forth : Within (parsed.prefix_of ws F Z L P) (production.prefix ws)
  unfolding parsed.prefix_of parsed.behind_parenthesis parsed.cast_to_type parsed.cast_to_integer parsed.cast_behind parsed.bare_prefix parsed.prefixed
  prefix_forth =
      either (formula_kind ws) (mark_kind left_paren ∷ [])
      (after_either (formula_kind ws) first_type (mark ws left_paren) _ _ (second no [] _ (first no [] _ (on (mark ws left_paren) to_cast_type)))
      (after_either (formula_kind ws) (integer_kind ∷ []) (mark ws left_paren) _ _ (second no [] _ (first no [] _ (on (mark ws left_paren) to_cast_integer)))
      (in_parentheses so in_turn parenthesised_forth (λ x. itself (open_end x)) so second no [] _ (second no [] _ (second no [] _ (second no [] _ (itself (production.postfix ws then open_end))))))))
      (either (formula_kind ws) (kinds_of prefix_operators) (first no [] _ (itself _))
      (either (formula_kind ws) (keyword_kind keyword.Sizeof ∷ []) (second no [] _ (second no [] _ (first no [] _ sized_forth)))
      (either (formula_kind ws) (quantifier_kind ∷ []) (second no [] _ (second no [] _ (second no [] _ (first no [] _ quantified_forth))))
      (in_turn worded_postfix_forth (λ x. itself (open_end x)) so second no [] _ (second no [] _ (second no [] _ (second no [] _ (itself (production.postfix ws then open_end)))))))))

  -- a primary form that begins with no parenthesis, and what stands behind it
  simple : (X : Syntax PlainToken Form) → Within X (parsed.worded ws F Z) → Within (X then behind) (parsed.worded_postfix ws F Z)
  unfolding parsed.worded_postfix
  simple X w = in_turn w (λ x. back (postfixes_line x))

  worded_in : Within (parsed.worded_postfix ws F Z then open_end) (parsed.prefix_of ws F Z L P)
  unfolding parsed.prefix_of parsed.bare_prefix
  worded_in =
      second (formula_kind ws) (mark_kind left_paren ∷ []) _ (second (formula_kind ws) (kinds_of prefix_operators) _ (second (formula_kind ws) (keyword_kind keyword.Sizeof ∷ []) _
      (second (formula_kind ws) (quantifier_kind ∷ []) _ (itself _))))

  parenthesis_in : Within (mark ws left_paren then λ _. parsed.parenthesised ws F) (parsed.prefix_of ws F Z L P)
  unfolding parsed.prefix_of parsed.behind_parenthesis
  parenthesis_in =
      on (mark ws left_paren) (λ at. second (formula_kind ws) first_type _ (second (formula_kind ws) (integer_kind ∷ []) _ (itself (parsed.parenthesised ws F)))) so first (formula_kind ws) (mark_kind left_paren ∷ []) _ (itself _)

  in_atom : (X : Syntax PlainToken Form) → Within X (parsed.atom ws) → Within X (parsed.worded ws F Z)
  unfolding parsed.worded
  in_atom X w =
      second (formula_kind ws) (fact_kind ∷ []) _ (second (formula_kind ws) (question_kind ∷ []) _ (second (formula_kind ws) (separated_kind ∷ []) _ (second (formula_kind ws) (old_kind ∷ []) _ (second (formula_kind ws) (at_kind ∷ []) _ w))))

  -- a primary form that begins with a word of its own
  abbrev ByWord : Syntax PlainToken Form
  ByWord =
      (one (placed (fact_of ws)) then λ f. mark ws left_paren then λ _. F then λ x. mark ws right_paren then λ _. gives (Told f.1 f.0 x))
      or (one (placed (question_of ws)) then λ q. mark ws left_paren then λ _. Z then λ z. mark ws right_paren then λ _. gives (Asks q.1 q.0 z))
      or (fixed ws separated_kind then λ at. mark ws left_paren then λ _. separated_zones at)
      or (fixed ws old_kind then λ at. mark ws left_paren then λ _. F then λ x. mark ws right_paren then λ _. gives (Old at x))
      or (fixed ws at_kind then λ at. mark ws left_paren then λ _. F then λ x. mark ws comma then λ _. one (placed (formula_name_of ws)) then λ l.
      mark ws right_paren then λ _. gives (At at x l.1 l.0))

  by_word_back : Within (ByWord then behind) (parsed.worded_postfix ws F Z)
  unfolding parsed.worded parsed.told_form parsed.asked_form parsed.separated_form parsed.old_form parsed.labelled_form parsed.next_zone closed
  by_word_back =
      simple ByWord
      (either no [] (first (formula_kind ws) (fact_kind ∷ []) _ (itself _))
      (either no [] (second (formula_kind ws) (fact_kind ∷ []) _ (first (formula_kind ws) (question_kind ∷ []) _ (itself _)))
      (either no [] (second (formula_kind ws) (fact_kind ∷ []) _ (second (formula_kind ws) (question_kind ∷ []) _ (first (formula_kind ws) (separated_kind ∷ []) _
      (on (fixed ws separated_kind) (λ at. on (mark ws left_paren) (λ _. zones_back at))))))
      (either no [] (second (formula_kind ws) (fact_kind ∷ []) _ (second (formula_kind ws) (question_kind ∷ []) _ (second (formula_kind ws) (separated_kind ∷ []) _ (first (formula_kind ws) (old_kind ∷ []) _ (itself _)))))
      (second (formula_kind ws) (fact_kind ∷ []) _ (second (formula_kind ws) (question_kind ∷ []) _ (second (formula_kind ws) (separated_kind ∷ []) _ (second (formula_kind ws) (old_kind ∷ []) _
      (first (formula_kind ws) (at_kind ∷ []) _ (itself _))))))))))

  -- a name, a literal, `\null` or `\result`
  abbrev ByAtom : Syntax PlainToken Form
  ByAtom =
      (one (placed (formula_name_of ws)) then λ x. gives (Name x.1 (use_of x.0)))
      or (one (placed number_of) then λ n. gives (Number n.1 n.0.0))
      or (one (placed letter_of) then λ z. gives (Letter z.1 z.0))
      or (one (placed (truth_of ws)) then λ b. gives (Truth b.1 b.0))
      or (fixed ws null_kind then λ at. gives (Null at))
      or (fixed ws result_kind then λ at. gives (Result at))

  atoms_in : Within ByAtom (parsed.atom ws)
  unfolding parsed.atom parsed.named_form parsed.null_form parsed.result_form parsed.literal_form
  atoms_in =
      either no [] (first (formula_kind ws) (name_kind ∷ []) _ (itself _))
      (either no [] (second (formula_kind ws) (name_kind ∷ []) _ (second (formula_kind ws) (null_kind ∷ []) _ (second (formula_kind ws) (result_kind ∷ []) _ (first (formula_kind ws) (number_kind ∷ []) _ (itself _)))))
      (either no [] (second (formula_kind ws) (name_kind ∷ []) _ (second (formula_kind ws) (null_kind ∷ []) _ (second (formula_kind ws) (result_kind ∷ []) _ (second (formula_kind ws) (number_kind ∷ []) _
      (first (formula_kind ws) (letter_kind ∷ []) _ (itself _))))))
      (either no [] (second (formula_kind ws) (name_kind ∷ []) _ (second (formula_kind ws) (null_kind ∷ []) _ (second (formula_kind ws) (result_kind ∷ []) _ (second (formula_kind ws) (number_kind ∷ []) _
      (second (formula_kind ws) (letter_kind ∷ []) _ (itself _))))))
      (either no [] (second (formula_kind ws) (name_kind ∷ []) _ (first (formula_kind ws) (null_kind ∷ []) _ (itself _)))
      (second (formula_kind ws) (name_kind ∷ []) _ (second (formula_kind ws) (null_kind ∷ []) _ (first (formula_kind ws) (result_kind ∷ []) _ (itself _))))))))

  -- the alternatives in another order: atoms, forms in parentheses, and the others
  abbrev Closed : Syntax PlainToken Form
  Closed = mark ws left_paren then λ _. F then λ x. mark ws right_paren then λ _. gives x

  regrouped : Within (production.primary ws) (ByAtom or Closed or ByWord)
  unfolding parsed.next_zone
  regrouped =
      either no [] (first no [] _ (first no [] _ (itself _)))
      (either no [] (first no [] _ (second no [] _ (first no [] _ (itself _))))
      (either no [] (first no [] _ (second no [] _ (second no [] _ (first no [] _ (itself _)))))
      (either no [] (first no [] _ (second no [] _ (second no [] _ (second no [] _ (first no [] _ (itself _))))))
      (either no [] (first no [] _ (second no [] _ (second no [] _ (second no [] _ (second no [] _ (first no [] _ (itself _)))))))
      (either no [] (first no [] _ (second no [] _ (second no [] _ (second no [] _ (second no [] _ (second no [] _ (itself _)))))))
      (second no [] _ (itself (Closed or ByWord))))))))

  postfix_back : Within (production.postfix ws) (parsed.worded_postfix ws F Z or InParentheses)
  postfix_back =
      in_turn regrouped (λ x. itself (behind x))
      so either_before no [] behind (simple ByAtom (in_atom ByAtom atoms_in) so first no [] InParentheses (itself (parsed.worded_postfix ws F Z)))
      (either_before no [] behind (parenthesised_back so second no [] (parsed.worded_postfix ws F Z) (itself InParentheses)) (by_word_back so first no [] InParentheses (itself (parsed.worded_postfix ws F Z))))

  named_back : Within (production.postfix ws then open_end) (parsed.prefix_of ws F Z L P)
  named_back = in_turn postfix_back (λ x. itself (open_end x)) so either_before no [] open_end worded_in (out_of_parentheses so parenthesis_in)

  prefix_back : Within (production.prefix ws) (parsed.prefix_of ws F Z L P)
  unfolding parsed.prefix_of parsed.behind_parenthesis parsed.cast_to_type parsed.cast_to_integer parsed.cast_behind parsed.bare_prefix parsed.prefixed
  prefix_back =
      either no [] (second (formula_kind ws) (mark_kind left_paren ∷ []) _ (first (formula_kind ws) (kinds_of prefix_operators) _ (itself _)))
      (either no [] (first (formula_kind ws) (mark_kind left_paren ∷ []) _ (on (mark ws left_paren) (λ at.
      either_before no [] (behind_cast at)
      (handed_back (type_name ws (expression ws)) OfC (behind_cast at) (λ t. inl (inl refl)) so first (formula_kind ws) first_type _ (itself _))
      (handed_back (integer_word ws) (λ _. Integers) (behind_cast at) (λ t. inl (inl refl)) so second (formula_kind ws) first_type _ (first (formula_kind ws) (integer_kind ∷ []) _ (itself _))))))
      (either no [] (second (formula_kind ws) (mark_kind left_paren ∷ []) _ (second (formula_kind ws) (kinds_of prefix_operators) _ (first (formula_kind ws) (keyword_kind keyword.Sizeof ∷ []) _ sized_back)))
      (either no []
      (second (formula_kind ws) (mark_kind left_paren ∷ []) _ (second (formula_kind ws) (kinds_of prefix_operators) _ (second (formula_kind ws) (keyword_kind keyword.Sizeof ∷ []) _
      (first (formula_kind ws) (quantifier_kind ∷ []) _ quantified_back)))) named_back)))

  pub prefix_line : Same P (production.prefix ws)
  prefix_line = let k = prefix_knot ws F Z L in both (forth k so prefix_forth) (prefix_back so back k)
