-- No token of a form or a clause passes a limit: the limit of a clause's tokens is set where it stands in an annotation.
use Rattle.std.proofs.Common.{ℕ, List, [], ◌∷◌, Some, None}
use Rattle.grammar.specs.Syntax.{Syntax}
use Rattle.grammar.proofs.Labels.{Unlimited, late_none, late_gives, late_one, late_then, late_choice, late_many, late_knot}
use Rattle.c_syntax.specs.declared.place.Place.{Place}
use Rattle.c_syntax.specs.Formulas.{CastType, Form, FormLinks, NoLink, FormZone}
use Rattle.c_syntax.specs.Tokens.{PlainToken}
use Rattle.c_model.specs.declared.formulas.ChainDirection.{ChainDirection}
use Rattle.c_model.specs.declared.formulas.FormulaMode.{FormulaMode}
use Rattle.c_model.specs.declared.formulas.FormulaMode.TheVariants.{Alone, Zone}
use Rattle.c_model.specs.declared.formulas.FormulaOperator.{FormulaOperator}
use Rattle.c_model.specs.declared.vocabulary.Keyword.TheVariants as keyword
use Rattle.c_model.specs.Vocabulary.{Vocabulary}
use Rattle.c_model.specs.Punctuators.{plus, question, left_paren, left_bracket, comma, dot, dots, implies}
use Rattle.c_model.specs.ExpressionGrammar.{kind, name_kind, number_kind, letter_kind, null_kind, fact_kind, question_kind, separated_kind, result_kind, old_kind, at_kind, quantifier_kind, type_name_kind, keyword_kind, mark_kind, kinds_of}
use Rattle.c_model.specs.ExpressionGrammar.{first_type, type_name, expression, integer_words, integer_word, typedef_name, enum_tag, words_behind}
use Rattle.c_model.specs.AnnotationGrammar.{integer_kind, formula_kind, first_behind, prefix_operators, sum_operators, relations_behind, Spanned, unended_kinds, unended, unended_only, endless, as_it_is, whole, zone, named_form}
use Rattle.c_model.specs.AnnotationGrammar.{literal_form, sized_form}
use Rattle.c_model.specs.AnnotationGrammar.{null_form, told_form, asked_form, next_zone, some_zones, separated_form, result_form, old_form, labelled_form, atom, worded, indexed, dotted, pointed, postfix_once, postfixes, worded_postfix, cast_behind}
use Rattle.c_model.specs.AnnotationGrammar.{cast_to_type, cast_to_integer}
use Rattle.c_model.specs.AnnotationGrammar.{closed_postfix, parenthesised, behind_parenthesis, prefixed, bare_prefix, prefix_of, prefix, joined_once, joined_more, joined, product, added_rest, ranged, behind_first}
use Rattle.c_model.specs.AnnotationGrammar.{added_parenthesis, added, sum_once}
use Rattle.c_model.specs.AnnotationGrammar.{sum_more, zone_sum, linked, links_of, links, chain_behind, chain_of, implied, implication_behind, implication_of, chosen_behind, choice_behind, sum, bit_or, disjunction, implication, form_of, forms}
use Rattle.c_model.specs.declared.formulas.ClauseGroup.{ClauseGroup}
use Rattle.c_model.specs.declared.formulas.ClauseGroup.TheVariants as group
use Rattle.c_model.specs.AnnotationGrammar.{placed_name, next_name, some_names, binder_type, binders, quantified}
use Rattle.c_model.specs.ClauseGrammar.{assigns_kind, clause_kind, form_clause, behavior_names, cover_clause, assigns, looped, loop_assigns, loop_clause, passed_kind}
use Rattle.c_expr_parser.proofs.Unlimited.{closed_free, type_name_free, expression_free}

module _ (ws : Vocabulary) where
  named_free : Unlimited (named_form ws)
  unfolding named_form
  named_free = late_then (late_one _) (λ x. late_gives _)

  literal_free : Unlimited (literal_form ws)
  unfolding literal_form
  literal_free =
      late_choice (formula_kind ws) (number_kind ∷ []) (late_then (late_one _) (λ n. late_gives _))
      (late_choice (formula_kind ws) (letter_kind ∷ []) (late_then (late_one _) (λ z. late_gives _)) (late_then (late_one _) (λ b. late_gives _)))

  type_free : Unlimited (type_name ws (expression ws))
  type_free = type_name_free ws (expression_free ws)

  sized_free : Unlimited (sized_form ws)
  unfolding sized_form
  sized_free = late_then (late_one _) (λ at. late_then (late_one _) (λ _. late_then type_free (λ t. closed_free ws _)))

  null_free : Unlimited (null_form ws)
  unfolding null_form
  null_free = late_then (late_one _) (λ at. late_gives _)

  result_free : Unlimited (result_form ws)
  unfolding result_form
  result_free = late_then (late_one _) (λ at. late_gives _)

  atom_free : Unlimited (atom ws)
  unfolding atom
  atom_free =
      late_choice (formula_kind ws) (name_kind ∷ []) named_free
      (late_choice (formula_kind ws) (null_kind ∷ []) null_free (late_choice (formula_kind ws) (result_kind ∷ []) result_free literal_free))

  -- ---- names, and quantifiers

  name_free : Unlimited (placed_name ws)
  unfolding placed_name
  name_free = late_then (late_one _) (λ x. late_gives _)

  next_name_free : (names : List (Place × ℕ)) → Unlimited (next_name ws names)
  unfolding next_name
  next_name_free names = late_then (late_one _) (λ _. late_then name_free (λ x. late_gives _))

  some_names_free : Unlimited (some_names ws)
  unfolding some_names
  some_names_free = late_then name_free (λ x. late_many (formula_kind ws) (λ _. mark_kind comma ∷ []) next_name_free _)

  values_free : Unlimited (binder_type ws)
  unfolding binder_type integer_words integer_word typedef_name enum_tag
  values_free =
      late_choice (formula_kind ws) (integer_kind ∷ []) (late_then (late_one _) (λ _. late_gives _))
      (late_choice (formula_kind ws) (keyword_kind keyword.Enum ∷ []) (late_then (late_then (late_one _) (λ _. late_then (late_one _) (λ x. late_gives _))) (λ t. late_gives _))
      (late_choice (formula_kind ws) (type_name_kind ∷ []) (late_then (late_then (late_one _) (λ t. late_gives _)) (λ t. late_gives _))
      (late_then (late_then (late_then (late_one _) (λ y. late_gives _)) (λ x. late_then (late_many (kind ws) words_behind (λ y. late_then (late_one _) (λ z. late_gives _)) x) (λ y. late_gives _))) (λ t. late_gives _))))

  binders_free : Unlimited (binders ws)
  unfolding binders
  binders_free = late_then values_free (λ t. late_then some_names_free (λ names. late_then (late_one _) (λ _. late_gives _)))

  quantified_free : {L : Syntax PlainToken (Spanned Form)} → Unlimited L → Unlimited (quantified ws L)
  unfolding quantified
  quantified_free l = late_then (late_one _) (λ q. late_then binders_free (λ b. late_then l (λ x. late_gives _)))

  endless_free : {G : Syntax PlainToken Form} → Unlimited G → Unlimited (endless G)
  endless_free g = late_then g (λ x. late_gives _)

  module _ {E : Syntax PlainToken Form} (e : Unlimited E) where
    postfix_once_free : (x : Form) → Unlimited (postfix_once ws E x)
    unfolding postfix_once indexed dotted pointed
    postfix_once_free x =
        late_choice (formula_kind ws) (mark_kind left_bracket ∷ []) (late_then (late_one _) (λ at. late_then e (λ y. late_then (late_one _) (λ _. late_gives _))))
        (late_choice (formula_kind ws) (mark_kind dot ∷ []) (late_then (late_one _) (λ at. late_then (late_one _) (λ m. late_gives _))) (late_then (late_one _) (λ at. late_then (late_one _) (λ m. late_gives _))))

    postfixes_free : (x : Form) → Unlimited (postfixes ws E x)
    unfolding postfixes
    postfixes_free x = late_many (formula_kind ws) (λ _. first_behind) postfix_once_free x

    closed_postfix_free : (x : Form) → Unlimited (closed_postfix ws E x)
    unfolding closed_postfix
    closed_postfix_free x = late_then (late_one _) (λ _. postfixes_free x)

  module _ {E : Syntax PlainToken Form} {Z : Syntax PlainToken FormZone} (e : Unlimited E) (z : Unlimited Z) where
    next_zone_free : (zs : List FormZone) → Unlimited (next_zone ws Z zs)
    unfolding next_zone
    next_zone_free zs = late_then (late_one _) (λ _. late_then z (λ x. late_gives _))

    worded_free : Unlimited (worded ws E Z)
    unfolding worded told_form asked_form separated_form some_zones old_form labelled_form
    worded_free =
        late_choice (formula_kind ws) (fact_kind ∷ []) (late_then (late_one _) (λ f. late_then (late_one _) (λ _. late_then e (λ x. closed_free ws _))))
        (late_choice (formula_kind ws) (question_kind ∷ []) (late_then (late_one _) (λ q. late_then (late_one _) (λ _. late_then z (λ x. closed_free ws _))))
        (late_choice (formula_kind ws) (separated_kind ∷ [])
        (late_then (late_one _) (λ at. late_then (late_one _) (λ _. late_then (late_then z (λ x. late_then (next_zone_free _) (λ zs. late_many (formula_kind ws) (λ _. mark_kind comma ∷ []) next_zone_free zs))) (λ zs. closed_free ws _))))
        (late_choice (formula_kind ws) (old_kind ∷ []) (late_then (late_one _) (λ at. late_then (late_one _) (λ _. late_then e (λ x. closed_free ws _))))
        (late_choice (formula_kind ws) (at_kind ∷ [])
        (late_then (late_one _) (λ at. late_then (late_one _) (λ _. late_then e (λ x. late_then (late_one _) (λ _. late_then (late_one _) (λ l. closed_free ws _)))))) atom_free))))

    worded_postfix_free : Unlimited (worded_postfix ws E Z)
    unfolding worded_postfix
    worded_postfix_free = late_then worded_free (λ x. postfixes_free e x)

  module _ {E : Syntax PlainToken Form} {P : Syntax PlainToken (Spanned Form)} (e : Unlimited E) (p : Unlimited P) where
    cast_free : (at : Place) (t : CastType) → Unlimited (cast_behind ws P at t)
    unfolding cast_behind
    cast_free at t = late_then (late_one _) (λ _. late_then p (λ x. late_gives _))

    to_type_free : (at : Place) → Unlimited (cast_to_type ws P at)
    unfolding cast_to_type
    to_type_free at = late_then type_free (λ t. cast_free at _)

    to_integer_free : (at : Place) → Unlimited (cast_to_integer ws P at)
    unfolding cast_to_integer
    to_integer_free at = late_then (late_one _) (λ _. cast_free at _)

    behind_free : (at : Place) → Unlimited (behind_parenthesis ws E P at)
    unfolding behind_parenthesis parenthesised
    behind_free at =
        late_choice (formula_kind ws) first_type (to_type_free at) (late_choice (formula_kind ws) (integer_kind ∷ []) (to_integer_free at) (late_then e (λ x. endless_free (closed_postfix_free e x))))

    bare_free : {Z : Syntax PlainToken FormZone} {L : Syntax PlainToken (Spanned Form)} → Unlimited Z → Unlimited L → Unlimited (bare_prefix ws E Z L P)
    unfolding bare_prefix prefixed
    bare_free z l =
        late_choice (formula_kind ws) (kinds_of prefix_operators) (late_then (late_one _) (λ o. late_then p (λ x. late_gives _)))
        (late_choice (formula_kind ws) (keyword_kind keyword.Sizeof ∷ []) (endless_free sized_free)
        (late_choice (formula_kind ws) (quantifier_kind ∷ []) (quantified_free l) (endless_free (worded_postfix_free e z))))

    prefix_of_free : {Z : Syntax PlainToken FormZone} {L : Syntax PlainToken (Spanned Form)} → Unlimited Z → Unlimited L → Unlimited (prefix_of ws E Z L P)
    unfolding prefix_of
    prefix_of_free z l = late_choice (formula_kind ws) (mark_kind left_paren ∷ []) (late_then (late_one _) (λ at. behind_free at)) (bare_free z l)

  -- a turn behind a form, and none behind a range
  turn_free : {step : Form → Syntax PlainToken (Spanned Form)} → ((x : Form) → Unlimited (step x)) → (x : Spanned Form) → Unlimited (unended_only step x)
  turn_free g (x, None) = g x
  turn_free g (x, Some r) = late_none

  unended_free : {A B : Type 0} {G : A → Syntax PlainToken (Spanned B)} → ((x : A) → Unlimited (G x)) → (f : A → B) (x : Spanned A) → Unlimited (unended G f x)
  unended_free g f (x, None) = g x
  unended_free g f (x, Some r) = late_gives _

  once_free : (table : List (ℕ × FormulaOperator)) {R : Syntax PlainToken (Spanned Form)} → Unlimited R → (x : Form) → Unlimited (joined_once ws table R x)
  unfolding joined_once
  once_free table r x = late_then (late_one _) (λ o. late_then r (λ y. late_gives _))

  more_free : (table : List (ℕ × FormulaOperator)) {R : Syntax PlainToken (Spanned Form)} → Unlimited R → (x : Spanned Form) → Unlimited (joined_more ws table R x)
  unfolding joined_more
  more_free table r x = late_many (formula_kind ws) (unended_kinds (kinds_of table)) (turn_free (once_free table r)) x

  joined_free : (table : List (ℕ × FormulaOperator)) {R : Syntax PlainToken (Spanned Form)} → Unlimited R → Unlimited (joined ws table R)
  unfolding joined
  joined_free table r = late_then r (λ x. more_free table r x)

  links_of_free : {R : Syntax PlainToken (Spanned Form)} {L : ChainDirection → Syntax PlainToken (Spanned FormLinks)} → Unlimited R → ((d : ChainDirection) → Unlimited (L d)) → (d : ChainDirection) → Unlimited (links_of ws R L d)
  unfolding links_of linked
  links_of_free r l d =
      late_choice (formula_kind ws) (kinds_of (relations_behind d)) (late_then (late_one _) (λ o. late_then r (λ x. late_then (unended_free (λ _. l _) (λ _. NoLink) x) (λ ls. late_gives _)))) (late_gives _)

  links_free : {R : Syntax PlainToken (Spanned Form)} → Unlimited R → (d : ChainDirection) → Unlimited (links ws R d)
  unfolding links
  links_free r d = late_knot (λ L l s. links_of_free r l s) d

  chain_behind_free : {R : Syntax PlainToken (Spanned Form)} → Unlimited R → (x : Form) → Unlimited (chain_behind ws R x)
  unfolding chain_behind
  chain_behind_free r x = late_then (links_free r _) (λ ls. late_gives _)

  chain_of_free : {R : Syntax PlainToken (Spanned Form)} → Unlimited R → Unlimited (chain_of ws R)
  unfolding chain_of
  chain_of_free r = late_then r (λ x. unended_free (chain_behind_free r) as_it_is x)

  implication_behind_free : {I : Syntax PlainToken (Spanned Form)} → Unlimited I → (x : Form) → Unlimited (implication_behind ws I x)
  unfolding implication_behind implied
  implication_behind_free i x = late_choice (formula_kind ws) (mark_kind implies ∷ []) (late_then (late_one _) (λ at. late_then i (λ z. late_gives _))) (late_gives _)

  implication_of_free : {D I : Syntax PlainToken (Spanned Form)} → Unlimited D → Unlimited I → Unlimited (implication_of ws D I)
  unfolding implication_of
  implication_of_free d i = late_then d (λ x. unended_free (implication_behind_free i) as_it_is x)

  module _ {E : Syntax PlainToken Form} {Z : Syntax PlainToken FormZone} {L : Syntax PlainToken (Spanned Form)} (e : Unlimited E) (z : Unlimited Z) (l : Unlimited L) where
    prefix_free : Unlimited (prefix ws E Z L)
    unfolding prefix
    prefix_free = late_knot {S = Unit {0}} (λ P p u. prefix_of_free e (p u) z l) tt

    product_free : Unlimited (product ws E Z L)
    product_free = joined_free _ prefix_free

    rest_free : (left : Form) (at : Place) (x : Spanned Form) → Unlimited (added_rest ws E Z L left at x)
    unfolding added_rest
    rest_free left at x = late_then (more_free _ prefix_free _) (λ y. late_gives _)

    behind_first_free : (left : Form) (at : Place) (x : Form) → Unlimited (behind_first ws E Z L left at x)
    unfolding behind_first ranged
    behind_first_free left at x =
        late_choice (formula_kind ws) (mark_kind dots ∷ []) (late_then (late_one _) (λ _. late_then e (λ hi. closed_free ws _))) (late_then (closed_postfix_free e x) (λ y. rest_free left at (y, None)))

    added_free : (left : Form) (at : Place) → Unlimited (added ws E Z L left at)
    unfolding added added_parenthesis
    added_free left at =
        late_choice (formula_kind ws) (mark_kind left_paren ∷ []) (late_then (late_one _) (λ paren.
        late_choice (formula_kind ws) first_type (late_then (to_type_free e prefix_free paren) (λ x. rest_free left at x))
        (late_choice (formula_kind ws) (integer_kind ∷ []) (late_then (to_integer_free e prefix_free paren) (λ x. rest_free left at x)) (late_then e (λ x. behind_first_free left at x)))))
        (late_then (bare_free e prefix_free z l) (λ x. rest_free left at x))

    sum_once_free : (left : Form) → Unlimited (sum_once ws E Z L left)
    unfolding sum_once
    sum_once_free left = late_choice (formula_kind ws) (mark_kind plus ∷ []) (late_then (late_one _) (λ at. added_free left at)) (once_free _ product_free left)

    zone_sum_free : Unlimited (zone_sum ws E Z L)
    unfolding zone_sum sum_more
    zone_sum_free = late_then product_free (λ x. late_many (formula_kind ws) (unended_kinds (kinds_of sum_operators)) (turn_free sum_once_free) x)

    sum_free : (m : FormulaMode) → Unlimited (sum ws E Z L m)
    sum_free Alone = joined_free _ product_free
    sum_free Zone = zone_sum_free

    bit_or_free : (m : FormulaMode) → Unlimited (bit_or ws E Z L m)
    bit_or_free m = joined_free _ (joined_free _ (joined_free _ (chain_of_free (joined_free _ (sum_free m)))))

    disjunction_free : (m : FormulaMode) → Unlimited (disjunction ws E Z L m)
    disjunction_free m = joined_free _ (joined_free _ (joined_free _ (bit_or_free m)))

    implication_free : (m : FormulaMode) → Unlimited (implication ws E Z L m)
    unfolding implication
    implication_free m = late_knot {S = Unit {0}} (λ I i u. implication_of_free (disjunction_free m) (i u)) tt

  module _ {F : FormulaMode → Syntax PlainToken (Spanned Form)} (f : (m : FormulaMode) → Unlimited (F m)) where
    whole_free : Unlimited (whole ws F)
    unfolding whole
    whole_free = late_then (f Alone) (λ x. late_gives _)

    zone_free : Unlimited (zone ws F)
    unfolding zone
    zone_free = late_then (f Zone) (λ x. late_gives _)

    choice_free : (m : FormulaMode) (c : Form) → Unlimited (choice_behind ws (whole ws F) (F m) c)
    unfolding choice_behind chosen_behind
    choice_free m c =
        late_choice (formula_kind ws) (mark_kind question ∷ []) (late_then (late_one _) (λ at. late_then whole_free (λ y. late_then (late_one _) (λ _. late_then (f m) (λ z. late_gives _))))) (late_gives _)

    form_of_free : (m : FormulaMode) → Unlimited (form_of ws F m)
    unfolding form_of
    form_of_free m = late_then (joined_free _ (implication_free whole_free zone_free (f m) m)) (λ c. unended_free (choice_free m) as_it_is c)

  forms_free : (m : FormulaMode) → Unlimited (forms ws m)
  unfolding forms
  forms_free m = late_knot (λ F f s. form_of_free f s) m

  pub clause_free : (g : ClauseGroup) (n : ℕ) → Unlimited (form_clause ws g n)
  unfolding form_clause
  clause_free g n = late_then (late_one _) (λ k. late_then (whole_free forms_free) (λ f. late_then (late_one _) (λ _. late_gives _)))

  -- ---- what is passed over, and clauses of loops

  pub assigns_free : Unlimited (assigns ws)
  unfolding assigns
  assigns_free = late_then (late_one _) (λ at. late_then (late_many passed_kind (λ _. 1 ∷ []) (λ _. late_one _) (tt {0})) (λ _. late_then (late_one _) (λ _. late_gives _)))

  pub loop_clause_free : (n : ℕ) → Unlimited (loop_clause ws n)
  unfolding loop_clause looped loop_assigns
  loop_clause_free n =
      late_then (late_one _) (λ at. late_choice (clause_kind ws) (assigns_kind ∷ []) (late_then assigns_free (λ _. late_gives _)) (late_then (clause_free group.Loop n) (λ a. late_gives _)))

  -- ---- clauses that name behaviors

  names_free : Unlimited (behavior_names ws)
  unfolding behavior_names
  names_free = late_choice (formula_kind ws) (name_kind ∷ []) some_names_free (late_gives _)

  pub cover_free : (n : ℕ) → Unlimited (cover_clause ws n)
  unfolding cover_clause
  cover_free n = late_then (late_one _) (λ k. late_then (late_one _) (λ _. late_then names_free (λ names. late_then (late_one _) (λ _. late_gives _))))
