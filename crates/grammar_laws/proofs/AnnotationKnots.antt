-- The knots of annotations: what stands in itself is its production.
use Rattle.std.proofs.Common.{ℕ, List, [], ◌∷◌, ◌++◌, Some, None, refl, inl}
use Rattle.grammar.specs.Syntax.{Syntax, none, gives, one, knot_at}
use Rattle.grammar.specs.Exact.{Same}
use Rattle.grammar_laws.proofs.Chains.{Reaches, still, sequence, alternatives, repetition, inner_knot, reached, knot_line}
use Rattle.c_syntax.specs.declared.place.Place.{Place}
use Rattle.c_syntax.specs.Formulas.{CastType, Integers, OfC, Form, Unary, Binary, Cast, Index, Told, Asks, Separated, Old, At, Quantified, Connected, Choice, FormLinks, NoLink, Linked, FormZone}
use Rattle.c_syntax.specs.declared.expression.BinOp.TheVariants.{Add}
use Rattle.c_syntax.specs.declared.logic.Connective.TheVariants as connective
use Rattle.c_syntax.specs.Tokens.{PlainToken}
use Rattle.c_model.specs.declared.formulas.ChainDirection.{ChainDirection}
use Rattle.c_model.specs.declared.formulas.ChainDirection.TheVariants.{Start}
use Rattle.c_model.specs.declared.formulas.FormulaMode.{FormulaMode}
use Rattle.c_model.specs.declared.formulas.FormulaMode.TheVariants.{Alone, Zone}
use Rattle.c_model.specs.declared.formulas.FormulaOperator.{FormulaOperator}
use Rattle.c_model.specs.declared.vocabulary.Keyword.TheVariants as keyword
use Rattle.c_model.specs.Vocabulary.{Vocabulary}
use Rattle.c_model.specs.Terminals.{placed, mark_entry}
use Rattle.c_model.specs.Punctuators.{plus, left_paren, right_paren, left_bracket, right_bracket, comma, dot, dots, question, colon, implies}
use Rattle.c_model.specs.ExpressionGrammar.{kinds_of, first_type, fact_kind, question_kind, separated_kind, quantifier_kind, old_kind, at_kind, keyword_kind, mark_kind, fixed, mark, closed, type_name, expression}
use Rattle.c_model.specs.AnnotationGrammar.{formula_kind, integer_kind, first_behind, fact_of, question_of, formula_name_of, integer_word, Spanned, ByRange, zone_of, zones_of, unended_kinds, unended, unended_only, as_it_is}
use Rattle.c_model.specs.AnnotationGrammar.{whole, zone, told_form, asked_form, next_zone, some_zones, separated_form, old_form, labelled_form, atom, worded, indexed, dotted, pointed, postfix_once, postfixes, worded_postfix, cast_behind}
use Rattle.c_model.specs.AnnotationGrammar.{cast_to_type}
use Rattle.c_model.specs.AnnotationGrammar.{cast_to_integer, closed_postfix, parenthesised, behind_parenthesis, prefix_operators, prefixed, bare_prefix, prefix_of, prefix, sized_form, joined_once, joined_more, joined, joined_forms}
use Rattle.c_model.specs.AnnotationGrammar.{endless, quantifier_of, quantifier_end, binders, quantified, product, added_rest, ranged, behind_first, added_parenthesis, added, sum_once, sum_more, zone_sum, relations_behind, direction_behind}
use Rattle.c_model.specs.AnnotationGrammar.{linked, links_of, links, chain_behind, chain_of}
use Rattle.c_model.specs.AnnotationGrammar.{chained, implied, implication_behind, implication_of, chosen_behind, choice_behind, sum, shift, chain, bit_and, bit_xor, bit_or, conjunction, exclusion, disjunction, implication, equivalence}
use Rattle.c_model.specs.AnnotationGrammar.{form_of, forms}
use Rattle.c_model.specs.AnnotationGrammar.{product_operators, sum_operators, difference_operators, shift_operators, bit_and_operators, bit_xor_operators, bit_or_operators, conjunction_operators, exclusion_operators, disjunction_operators}
use Rattle.c_model.specs.AnnotationGrammar.{equivalence_operators}

module _ (ws : Vocabulary) where
  abbrev Forms : Type 1
  Forms = Syntax PlainToken Form

  abbrev Zones : Type 1
  Zones = Syntax PlainToken FormZone

  abbrev Ranged : Type 1
  Ranged = Syntax PlainToken (Spanned Form)

  abbrev RangedLinks : Type 1
  RangedLinks = Syntax PlainToken (Spanned FormLinks)

  -- ---- what is nothing yet begins each production

  joined_empty : (table : List (ℕ × FormulaOperator)) (R : Ranged) → R.begun [] → (joined ws table R).begun []
  unfolding joined
  joined_empty table R e = inl e

  prefix_of_empty : (E : Forms) (Z : Zones) (L P : Ranged) → (prefix_of ws E Z L P).begun []
  unfolding prefix_of
  prefix_of_empty E Z L P = inl (inl (inl refl))

  pub prefix_empty : (E : Forms) (Z : Zones) (L : Ranged) → (prefix ws E Z L).begun []
  unfolding prefix
  prefix_empty E Z L = (0, refl)

  product_empty : (E : Forms) (Z : Zones) (L : Ranged) → (product ws E Z L).begun []
  product_empty E Z L = joined_empty product_operators (prefix ws E Z L) (prefix_empty E Z L)

  sum_empty : (E : Forms) (Z : Zones) (L : Ranged) (m : FormulaMode) → (sum ws E Z L m).begun []
  unfolding zone_sum
  sum_empty E Z L Alone = joined_empty sum_operators (product ws E Z L) (product_empty E Z L)
  sum_empty E Z L Zone = inl (product_empty E Z L)

  pub shift_empty : (E : Forms) (Z : Zones) (L : Ranged) (m : FormulaMode) → (shift ws E Z L m).begun []
  shift_empty E Z L m = joined_empty shift_operators (sum ws E Z L m) (sum_empty E Z L m)

  chain_empty : (E : Forms) (Z : Zones) (L : Ranged) (m : FormulaMode) → (chain ws E Z L m).begun []
  unfolding chain_of
  chain_empty E Z L m = inl (shift_empty E Z L m)

  pub disjunction_empty : (E : Forms) (Z : Zones) (L : Ranged) (m : FormulaMode) → (disjunction ws E Z L m).begun []
  disjunction_empty E Z L m =
      joined_empty disjunction_operators (exclusion ws E Z L m) (joined_empty exclusion_operators (conjunction ws E Z L m) (joined_empty conjunction_operators (bit_or ws E Z L m)
      (joined_empty bit_or_operators (bit_xor ws E Z L m) (joined_empty bit_xor_operators (bit_and ws E Z L m) (joined_empty bit_and_operators (chain ws E Z L m) (chain_empty E Z L m))))))

  implication_of_empty : (D I : Ranged) → D.begun [] → (implication_of ws D I).begun []
  unfolding implication_of
  implication_of_empty D I e = inl e

  pub implication_empty : (E : Forms) (Z : Zones) (L : Ranged) (m : FormulaMode) → (implication ws E Z L m).begun []
  unfolding implication
  implication_empty E Z L m = (0, refl)

  pub equivalence_empty : (E : Forms) (Z : Zones) (L : Ranged) (m : FormulaMode) → (equivalence ws E Z L m).begun []
  equivalence_empty E Z L m = joined_empty equivalence_operators (implication ws E Z L m) (implication_empty E Z L m)

  form_of_empty : (F : FormulaMode → Ranged) (m : FormulaMode) → (form_of ws F m).begun []
  unfolding form_of
  form_of_empty F m = inl (equivalence_empty (whole ws F) (zone ws F) (F m) m)

  links_of_empty : (R : Ranged) (L : ChainDirection → RangedLinks) (d : ChainDirection) → (links_of ws R L d).begun []
  unfolding links_of linked
  links_of_empty R L d = inl (inl (inl refl))

  -- ---- each production grows with its parts

  -- what stands behind a form that no range ends
  unended_reaches : {A B : Type 0} (G : ℕ → A → Syntax PlainToken (Spanned B)) (G' : A → Syntax PlainToken (Spanned B)) (f : A → B) → ((a : A) → Reaches (λ k. G k a) (G' a)) → (x : Spanned A) → Reaches (λ k. unended (G k) f x) (unended G' f x)
  unended_reaches G G' f g (a, None) = g a
  unended_reaches G G' f g (a, Some r) = still (gives (f a, Some r))

  only_reaches : (G : ℕ → Form → Ranged) (G' : Form → Ranged) → ((a : Form) → Reaches (λ k. G k a) (G' a)) → (x : Spanned Form) → Reaches (λ k. unended_only (G k) x) (unended_only G' x)
  only_reaches G G' g (a, None) = g a
  only_reaches G G' g (a, Some r) = still none

  module _ {E : ℕ → Forms} {E' : Forms} (e : Reaches E E') where
    postfixes_reach : (x : Form) → Reaches (λ k. postfixes ws (E k) x) (postfixes ws E' x)
    unfolding postfixes postfix_once indexed
    postfixes_reach x =
        repetition (formula_kind ws) (λ _. first_behind) (λ y.
        alternatives (formula_kind ws) (mark_kind left_bracket ∷ [])
        (sequence (still (mark ws left_bracket)) (λ at. sequence e (λ i. sequence (still (mark ws right_bracket)) (λ _. still (gives (Index at y i))))))
        (alternatives (formula_kind ws) (mark_kind dot ∷ []) (still (dotted ws y)) (still (pointed ws y)))) x

    closed_postfix_reaches : (x : Form) → Reaches (λ k. closed_postfix ws (E k) x) (closed_postfix ws E' x)
    unfolding closed_postfix
    closed_postfix_reaches x = sequence (still (mark ws right_paren)) (λ _. postfixes_reach x)

  next_zone_reaches : {Z : ℕ → Zones} {Z' : Zones} → Reaches Z Z' → (zs : List FormZone) → Reaches (λ k. next_zone ws (Z k) zs) (next_zone ws Z' zs)
  unfolding next_zone
  next_zone_reaches z zs = sequence (still (mark ws comma)) (λ _. sequence z (λ x. still (gives (zs ++ x ∷ []))))

  module _ {E : ℕ → Forms} {E' : Forms} {Z : ℕ → Zones} {Z' : Zones} (e : Reaches E E') (z : Reaches Z Z') where
    worded_reaches : Reaches (λ k. worded ws (E k) (Z k)) (worded ws E' Z')
    unfolding worded told_form asked_form separated_form some_zones old_form labelled_form
    worded_reaches =
        alternatives (formula_kind ws) (fact_kind ∷ []) (sequence (still (one (placed (fact_of ws)))) (λ f. sequence (still (mark ws left_paren)) (λ _. sequence e (λ x. still (closed ws (Told f.1 f.0 x))))))
        (alternatives (formula_kind ws) (question_kind ∷ []) (sequence (still (one (placed (question_of ws)))) (λ q. sequence (still (mark ws left_paren)) (λ _. sequence z (λ x. still (closed ws (Asks q.1 q.0 x))))))
        (alternatives (formula_kind ws) (separated_kind ∷ [])
        (sequence (still (fixed ws separated_kind)) (λ at. sequence (still (mark ws left_paren)) (λ _.
        sequence (sequence z (λ x. sequence (next_zone_reaches z (x ∷ [])) (λ xs. repetition (formula_kind ws) (λ _. mark_kind comma ∷ []) (next_zone_reaches z) xs))) (λ xs. still (closed ws (Separated at (zones_of xs)))))))
        (alternatives (formula_kind ws) (old_kind ∷ []) (sequence (still (fixed ws old_kind)) (λ at. sequence (still (mark ws left_paren)) (λ _. sequence e (λ x. still (closed ws (Old at x))))))
        (alternatives (formula_kind ws) (at_kind ∷ [])
        (sequence (still (fixed ws at_kind)) (λ at. sequence (still (mark ws left_paren)) (λ _. sequence e (λ x. sequence (still (mark ws comma)) (λ _.
        sequence (still (one (placed (formula_name_of ws)))) (λ l. still (closed ws (At at x l.1 l.0))))))))
        (still (atom ws))))))

    worded_postfix_reaches : Reaches (λ k. worded_postfix ws (E k) (Z k)) (worded_postfix ws E' Z')
    unfolding worded_postfix
    worded_postfix_reaches = sequence worded_reaches (λ x. postfixes_reach e x)

    module _ {P : ℕ → Ranged} {P' : Ranged} (p : Reaches P P') where
      cast_behind_reaches : (at : Place) (t : CastType) → Reaches (λ k. cast_behind ws (P k) at t) (cast_behind ws P' at t)
      unfolding cast_behind
      cast_behind_reaches at t = sequence (still (mark ws right_paren)) (λ _. sequence p (λ x. still (gives (Cast at t x.0, x.1))))

      cast_to_type_reaches : (at : Place) → Reaches (λ k. cast_to_type ws (P k) at) (cast_to_type ws P' at)
      unfolding cast_to_type
      cast_to_type_reaches at = sequence (still (type_name ws (expression ws))) (λ t. cast_behind_reaches at (OfC t))

      cast_to_integer_reaches : (at : Place) → Reaches (λ k. cast_to_integer ws (P k) at) (cast_to_integer ws P' at)
      unfolding cast_to_integer
      cast_to_integer_reaches at = sequence (still (integer_word ws)) (λ _. cast_behind_reaches at Integers)

      module _ {L : ℕ → Ranged} {L' : Ranged} (l : Reaches L L') where
        quantified_reaches : Reaches (λ k. quantified ws (L k)) (quantified ws L')
        unfolding quantified
        quantified_reaches =
            sequence (still (one (placed (quantifier_of ws)))) (λ q. sequence (still (binders ws)) (λ b. sequence l (λ x. still (gives (Quantified q.1 q.0 b.0 b.1 x.0, Some (quantifier_end x.1))))))

        bare_prefix_reaches : Reaches (λ k. bare_prefix ws (E k) (Z k) (L k) (P k)) (bare_prefix ws E' Z' L' P')
        unfolding bare_prefix prefixed
        bare_prefix_reaches =
            alternatives (formula_kind ws) (kinds_of prefix_operators) (sequence (still (one (placed (mark_entry prefix_operators)))) (λ o. sequence p (λ x. still (gives (Unary o.1 o.0 x.0, x.1)))))
            (alternatives (formula_kind ws) (keyword_kind keyword.Sizeof ∷ []) (still (endless (sized_form ws)))
            (alternatives (formula_kind ws) (quantifier_kind ∷ []) quantified_reaches (sequence worded_postfix_reaches (λ x. still (gives (x, None))))))

        prefix_of_reaches : Reaches (λ k. prefix_of ws (E k) (Z k) (L k) (P k)) (prefix_of ws E' Z' L' P')
        unfolding prefix_of behind_parenthesis parenthesised
        prefix_of_reaches =
            alternatives (formula_kind ws) (mark_kind left_paren ∷ [])
            (sequence (still (mark ws left_paren)) (λ at.
            alternatives (formula_kind ws) first_type (cast_to_type_reaches at)
            (alternatives (formula_kind ws) (integer_kind ∷ []) (cast_to_integer_reaches at) (sequence e (λ x. sequence (closed_postfix_reaches e x) (λ y. still (gives (y, None)))))))) bare_prefix_reaches

  -- operators of a table
  once_reaches : (table : List (ℕ × FormulaOperator)) {R : ℕ → Ranged} {R' : Ranged} → Reaches R R' → (a : Form) → Reaches (λ k. joined_once ws table (R k) a) (joined_once ws table R' a)
  unfolding joined_once
  once_reaches table r a = sequence (still (one (placed (mark_entry table)))) (λ o. sequence r (λ right. still (gives (joined_forms o a right.0, right.1))))

  more_reaches : (table : List (ℕ × FormulaOperator)) {R : ℕ → Ranged} {R' : Ranged} → Reaches R R' → (x : Spanned Form) → Reaches (λ k. joined_more ws table (R k) x) (joined_more ws table R' x)
  unfolding joined_more
  more_reaches table {R} {R'} r x =
      repetition (formula_kind ws) (unended_kinds (kinds_of table)) (λ y. only_reaches (λ k. joined_once ws table (R k)) (joined_once ws table R') (once_reaches table r) y) x

  joined_reaches : (table : List (ℕ × FormulaOperator)) {R : ℕ → Ranged} {R' : Ranged} → Reaches R R' → Reaches (λ k. joined ws table (R k)) (joined ws table R')
  unfolding joined
  joined_reaches table r = sequence r (λ x. more_reaches table r x)

  -- chains
  links_of_reaches : {R : ℕ → Ranged} {R' : Ranged} {L : ℕ → ChainDirection → RangedLinks} {L' : ChainDirection → RangedLinks}
      → Reaches R R' → ((d : ChainDirection) → Reaches (λ k. L k d) (L' d)) → (d : ChainDirection) → Reaches (λ k. links_of ws (R k) (L k) d) (links_of ws R' L' d)
  unfolding links_of linked
  links_of_reaches {R} {R'} {L} {L'} r l d =
      alternatives (formula_kind ws) (kinds_of (relations_behind d))
      (sequence (still (one (placed (mark_entry (relations_behind d))))) (λ p. sequence r (λ x.
      sequence (unended_reaches (λ k. λ (a : Form). L k (direction_behind d p.0)) (λ a. L' (direction_behind d p.0)) (λ a. NoLink) (λ a. l (direction_behind d p.0)) x) (λ ls. still (gives (Linked p.1 p.0 x.0 ls.0, ls.1))))))
      (still (gives (NoLink, None)))

  links_reaches : {R : ℕ → Ranged} {R' : Ranged} → Reaches R R' → (d : ChainDirection) → Reaches (λ k. links ws (R k) d) (links ws R' d)
  unfolding links
  links_reaches {R} {R'} r d = inner_knot (λ k. links_of ws (R k)) (links_of ws R') (λ U U' u s. links_of_reaches r u s) d

  chain_of_reaches : {R : ℕ → Ranged} {R' : Ranged} → Reaches R R' → Reaches (λ k. chain_of ws (R k)) (chain_of ws R')
  unfolding chain_of chain_behind
  chain_of_reaches {R} {R'} r =
      sequence r (λ x. unended_reaches (λ k. chain_behind ws (R k)) (chain_behind ws R') as_it_is (λ a. sequence (links_reaches r Start) (λ ls. still (gives (chained a ls.0, ls.1)))) x)

  -- implications
  implication_of_reaches : {D : ℕ → Ranged} {D' : Ranged} {I : ℕ → Ranged} {I' : Ranged} → Reaches D D' → Reaches I I' → Reaches (λ k. implication_of ws (D k) (I k)) (implication_of ws D' I')
  unfolding implication_of implication_behind implied
  implication_of_reaches {D} {D'} {I} {I'} d i =
      sequence d (λ x. unended_reaches (λ k. implication_behind ws (I k)) (implication_behind ws I') as_it_is (λ a.
      alternatives (formula_kind ws) (mark_kind implies ∷ []) (sequence (still (mark ws implies)) (λ at. sequence i (λ y. still (gives (Connected at connective.Implies a y.0, y.1))))) (still (gives (a, None)))) x)

  -- levels
  module _ {E : ℕ → Forms} {E' : Forms} {Z : ℕ → Zones} {Z' : Zones} {L : ℕ → Ranged} {L' : Ranged} (e : Reaches E E') (z : Reaches Z Z') (l : Reaches L L') where
    prefix_reaches : Reaches (λ k. prefix ws (E k) (Z k) (L k)) (prefix ws E' Z' L')
    unfolding prefix
    prefix_reaches = inner_knot {S = Unit {0}} (λ k P u. prefix_of ws (E k) (Z k) (L k) (P u)) (λ P u. prefix_of ws E' Z' L' (P u)) (λ U U' u s. prefix_of_reaches e z (u s) l) tt

    product_reaches : Reaches (λ k. product ws (E k) (Z k) (L k)) (product ws E' Z' L')
    product_reaches = joined_reaches product_operators prefix_reaches

    rest_reaches : (left : Form) (at : Place) (x : Spanned Form) → Reaches (λ k. added_rest ws (E k) (Z k) (L k) left at x) (added_rest ws E' Z' L' left at x)
    unfolding added_rest
    rest_reaches left at x = sequence (more_reaches product_operators prefix_reaches x) (λ y. still (gives (Binary at Add left y.0, y.1)))

    behind_first_reaches : (left : Form) (at : Place) (x : Form) → Reaches (λ k. behind_first ws (E k) (Z k) (L k) left at x) (behind_first ws E' Z' L' left at x)
    unfolding behind_first ranged
    behind_first_reaches left at x =
        alternatives (formula_kind ws) (mark_kind dots ∷ []) (sequence (still (mark ws dots)) (λ _. sequence e (λ hi. still (closed ws (left, Some (ByRange at x hi))))))
        (sequence (closed_postfix_reaches e x) (λ y. rest_reaches left at (y, None)))

    added_reaches : (left : Form) (at : Place) → Reaches (λ k. added ws (E k) (Z k) (L k) left at) (added ws E' Z' L' left at)
    unfolding added added_parenthesis
    added_reaches left at =
        alternatives (formula_kind ws) (mark_kind left_paren ∷ [])
        (sequence (still (mark ws left_paren)) (λ p.
        alternatives (formula_kind ws) first_type (sequence (cast_to_type_reaches e z prefix_reaches p) (λ x. rest_reaches left at x))
        (alternatives (formula_kind ws) (integer_kind ∷ []) (sequence (cast_to_integer_reaches e z prefix_reaches p) (λ x. rest_reaches left at x)) (sequence e (λ x. behind_first_reaches left at x)))))
        (sequence (bare_prefix_reaches e z prefix_reaches l) (λ x. rest_reaches left at x))

    sum_once_reaches : (left : Form) → Reaches (λ k. sum_once ws (E k) (Z k) (L k) left) (sum_once ws E' Z' L' left)
    unfolding sum_once
    sum_once_reaches left =
        alternatives (formula_kind ws) (mark_kind plus ∷ []) (sequence (still (mark ws plus)) (λ at. added_reaches left at)) (once_reaches difference_operators product_reaches left)

    zone_sum_reaches : Reaches (λ k. zone_sum ws (E k) (Z k) (L k)) (zone_sum ws E' Z' L')
    unfolding zone_sum sum_more
    zone_sum_reaches =
        sequence product_reaches (λ x. repetition (formula_kind ws) (unended_kinds (kinds_of sum_operators)) (λ y. only_reaches (λ k. sum_once ws (E k) (Z k) (L k)) (sum_once ws E' Z' L') sum_once_reaches y) x)

    sum_reaches : (m : FormulaMode) → Reaches (λ k. sum ws (E k) (Z k) (L k) m) (sum ws E' Z' L' m)
    sum_reaches Alone = joined_reaches sum_operators product_reaches
    sum_reaches Zone = zone_sum_reaches

    disjunction_reaches : (m : FormulaMode) → Reaches (λ k. disjunction ws (E k) (Z k) (L k) m) (disjunction ws E' Z' L' m)
    disjunction_reaches m =
        joined_reaches disjunction_operators (joined_reaches exclusion_operators (joined_reaches conjunction_operators (joined_reaches bit_or_operators (joined_reaches bit_xor_operators
        (joined_reaches bit_and_operators (chain_of_reaches (joined_reaches shift_operators (sum_reaches m))))))))

    implication_reaches : (m : FormulaMode) → Reaches (λ k. implication ws (E k) (Z k) (L k) m) (implication ws E' Z' L' m)
    unfolding implication
    implication_reaches m =
        inner_knot {S = Unit {0}} (λ k I u. implication_of ws (disjunction ws (E k) (Z k) (L k) m) (I u)) (λ I u. implication_of ws (disjunction ws E' Z' L' m) (I u)) (λ U U' u s. implication_of_reaches (disjunction_reaches m) (u s)) tt

    pub equivalence_reaches : (m : FormulaMode) → Reaches (λ k. equivalence ws (E k) (Z k) (L k) m) (equivalence ws E' Z' L' m)
    equivalence_reaches m = joined_reaches equivalence_operators (implication_reaches m)

  module _ {F : ℕ → FormulaMode → Ranged} {F' : FormulaMode → Ranged} (f : (m : FormulaMode) → Reaches (λ k. F k m) (F' m)) where
    pub whole_reaches : Reaches (λ k. whole ws (F k)) (whole ws F')
    unfolding whole
    whole_reaches = sequence (f Alone) (λ x. still (gives x.0))

    pub zone_reaches : Reaches (λ k. zone ws (F k)) (zone ws F')
    unfolding zone
    zone_reaches = sequence (f Zone) (λ x. still (gives (zone_of x)))

    form_of_reaches : (m : FormulaMode) → Reaches (λ k. form_of ws (F k) m) (form_of ws F' m)
    unfolding form_of choice_behind chosen_behind
    form_of_reaches m =
        sequence (equivalence_reaches whole_reaches zone_reaches (f m) m) (λ x. unended_reaches (λ k. choice_behind ws (whole ws (F k)) (F k m)) (choice_behind ws (whole ws F') (F' m)) as_it_is (λ c.
        alternatives (formula_kind ws) (mark_kind question ∷ [])
        (sequence (still (mark ws question)) (λ at. sequence whole_reaches (λ y. sequence (still (mark ws colon)) (λ _. sequence (f m) (λ w. still (gives (Choice at c y w.0, w.1)))))))
        (still (gives (c, None)))) x)

  -- ---- the knots

  pub forms_knot : (m : FormulaMode) → Same (forms ws m) (form_of ws (forms ws) m)
  unfolding forms
  forms_knot m = knot_line (form_of ws) form_of_empty (λ U U' u s. form_of_reaches u s) m

  -- forms so deep
  abbrev pub forms_at : ℕ → FormulaMode → Ranged
  forms_at k m = knot_at (form_of ws) k m

  pub forms_reached : (m : FormulaMode) → Reaches (λ k. forms_at k m) (forms ws m)
  unfolding forms
  forms_reached m = reached (form_of ws) form_of_empty (λ U U' u s. form_of_reaches u s) m

  pub prefix_knot : (E : Forms) (Z : Zones) (L : Ranged) → Same (prefix ws E Z L) (prefix_of ws E Z L (prefix ws E Z L))
  unfolding prefix
  prefix_knot E Z L =
      knot_line {S = Unit {0}} (λ P u. prefix_of ws E Z L (P u)) (λ U s. prefix_of_empty E Z L (U s)) (λ U U' u s. prefix_of_reaches (still E) (still Z) (u s) (still L)) tt

  pub implication_knot : (E : Forms) (Z : Zones) (L : Ranged) (m : FormulaMode) → Same (implication ws E Z L m) (implication_of ws (disjunction ws E Z L m) (implication ws E Z L m))
  unfolding implication
  implication_knot E Z L m =
      knot_line {S = Unit {0}} (λ I u. implication_of ws (disjunction ws E Z L m) (I u)) (λ U s. implication_of_empty (disjunction ws E Z L m) (U s) (disjunction_empty E Z L m))
      (λ U U' u s. implication_of_reaches (still (disjunction ws E Z L m)) (u s)) tt

  pub links_knot : (R : Ranged) (d : ChainDirection) → Same (links ws R d) (links_of ws R (links ws R) d)
  unfolding links
  links_knot R d = knot_line (links_of ws R) (λ U s. links_of_empty R U s) (λ U U' u s. links_of_reaches (still R) u s) d
